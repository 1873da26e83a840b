-- How the nodes of sets grow by one.
use Rattle.std.proofs.Common.{◌≡◌, ℕ, zero, suc, Bool, true, false, cond, List, [], ◌∷◌, ◌++◌, map, length, get_or, take, ◌<◌, ◌+◌, refl, sym, ap, ◌∙◌}
use Rattle.std.proofs.lemmas.List.{take_more, map_push}
use Rattle.std.specs.Prelude.{◌==◌}
use Rattle.cal_rel.specs.Tree.{Tree}
use Rattle.memo_model.specs.Sets.{Member}
use Rattle.search_model.specs.Listed.{in_set}

pub get_or-empty : {A : Type 0} (xss : List (List A)) (k : ℕ) → get_or (xss ++ [] ∷ []) k [] ≡ get_or xss k []
get_or-empty [] zero = refl
get_or-empty [] (suc k) = refl
get_or-empty (xs ∷ xss) zero = refl
get_or-empty (xs ∷ xss) (suc k) = get_or-empty xss k

in_set-by : (b : Bool) (t : Tree) (xs ys : List Tree) → cond b (t ∷ (xs ++ ys)) (xs ++ ys) ≡ cond b (t ∷ xs) xs ++ ys
in_set-by true t xs ys = refl
in_set-by false t xs ys = refl

-- the nodes of a set with a member more
pub in_set-push : (members : List Member) (m : Member) (k : ℕ) → in_set (members ++ m ∷ []) k ≡ in_set members k ++ cond (m.set == k) (m.tree ∷ []) []
in_set-push [] m k = refl
in_set-push (x ∷ members) m k =
    ap (λ ys. cond (x.set == k) (x.tree ∷ ys) ys) (in_set-push members m k)
    ∙ in_set-by (x.set == k) x.tree (in_set members k) (cond (m.set == k) (m.tree ∷ []) [])

pub in_set-next : {M : Type 0} (of : M → Member) (members : List M) (i : ℕ) (x : M) (k : ℕ) → i < length members → x ≡ get_or members i x
    → in_set (map of (take (i + 1) members)) k ≡ in_set (map of (take i members)) k ++ cond ((of x).set == k) ((of x).tree ∷ []) []
in_set-next of members i x k h e =
    ap (λ xs. in_set (map of xs) k) (take_more members i x h ∙ ap (λ y. take i members ++ y ∷ []) (sym e))
    ∙ ap (λ xs. in_set xs k) (map_push of (take i members) x) ∙ in_set-push (map of (take i members)) (of x) k

pub ruleset grow_steps = (get_or-empty)
