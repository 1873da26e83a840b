-- How the search for a node goes on.
use Rattle.std.proofs.Common.{◌≡◌, ℕ, ◌+◌, ◌<◌, ◌≤◌, Bool, true, false, List, [], ◌∷◌, ◌++◌, map, length, get_or, drop, cond, Option, Some, None, refl}
use Rattle.std.proofs.Math.Seq.{drop-cons}
use Rattle.std.proofs.Math.Numerals.{add-one}
use Rattle.std.proofs.lemmas.List.{drop_all}
use Rattle.cal_rel.specs.Tree.{Tree}
use Rattle.memo_model.specs.Same.{same_tree}
use Rattle.memo_model.specs.Sets as plain
use Rattle.memo_model.specs.Steps.{found}
use Rattle.memo_model.proofs.TreeLemmas.{rel_eq-tree}

module _ {M : Type 0} (of : M → plain.Member) where
  pub found-next : (node : Tree) (members : List M) (i : ℕ) (x : M) → i < length members → x ≡ get_or members i x
      → found node (map of (drop i members)) ≡ cond (same_tree (of x).tree node) (Some (of x).set) (found node (map of (drop (i + 1) members)))
  found-next node members i x h e = rw (drop-cons members i x h, ← e, add-one)

  pub found-end : (node : Tree) (members : List M) (i : ℕ) → length members ≤ i → found node (map of (drop i members)) ≡ None
  found-end node members i h = rw (drop_all i members h)

pub ruleset found_steps = (found-next, found-end)

pub ruleset same_steps = (rel_eq-tree)

-- in one list after another

first_by : (b : Bool) (k s : ℕ) (o p : Option ℕ) → (o ≡ Some k → p ≡ Some k) → cond b (Some s) o ≡ Some k → cond b (Some s) p ≡ Some k
first_by true k s o p h e = e
first_by false k s o p h e = h e

pub found-first : (node : Tree) (xs ys : List plain.Member) (k : ℕ) → found node xs ≡ Some k → found node (xs ++ ys) ≡ Some k
found-first node [] ys k e = absurd (cc)
found-first node (x ∷ xs) ys k e = first_by (same_tree x.tree node) k x.set (found node xs) (found node (xs ++ ys)) (found-first node xs ys k) e

second_by : (b : Bool) (s : ℕ) (o p q : Option ℕ) → (o ≡ None → p ≡ q) → cond b (Some s) o ≡ None → cond b (Some s) p ≡ q
second_by true s o p q h e = absurd (cc)
second_by false s o p q h e = h e

pub found-second : (node : Tree) (xs ys : List plain.Member) → found node xs ≡ None → found node (xs ++ ys) ≡ found node ys
found-second node [] ys e = refl
found-second node (x ∷ xs) ys e = second_by (same_tree x.tree node) x.set (found node xs) (found node (xs ++ ys)) (found node ys) (found-second node xs ys) e

pub ruleset found_append = (found-first, found-second)
