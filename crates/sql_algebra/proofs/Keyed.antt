-- Where the conditions of an entry equate the columns of its key, the join's condition does.
use Rattle.std.proofs.Common.{◌≡◌, ℕ, ◌-◌, ◌==◌, nat_lt, nat_le, Bool, true, false, cond, ◌&&◌, ◌||◌, List, [], ◌∷◌, ◌++◌, map, length, Option, Some, None, unwrap_or, refl, sym, ap, subst}
use Rattle.std.specs.List.{flat_map, list_all, list_any}
use Rattle.std.proofs.lemmas.List.{append-nil, append_assoc, map-append}
use Rattle.cal_value.specs.declared.operator.Op.{Op}
use Rattle.cal_value.specs.declared.operator.Op.TheVariants.{Add, Subtract, Multiply, Divide, Equal, NotEqual, Less, LessEqual, Greater, GreaterEqual, And, Or}
use Rattle.cal_value.proofs.TypeLemmas.{and-both, or-right}
use Rattle.cal_expr.specs.declared.expr.Expr.{Expr}
use Rattle.cal_expr.specs.declared.expr.Expr.TheVariants.{Literal, Binary}
use Rattle.cal_schema.specs.declared.star_pair.StarPair.{StarPair}
use Rattle.cal_rel.specs.Typing as tree
use Rattle.sql_tree.specs.declared.tree.Tree.{Tree}
use Rattle.sql_tree.specs.declared.tree.Tree.TheFolds.{fold-Tree, fold-roll-Tree, ind-Tree, map-Tree}
use Rattle.sql_tree.specs.declared.tree.Tree.TheOpen.{Tree-F}
use Rattle.sql_tree.specs.declared.tree.Tree.TheViews.{roll-Tree}
use Rattle.sql_meaning.specs.Bounds.{Equated, key_of, equated_op, equated_step, equated, has_key}
use Rattle.sql_meaning.specs.Scope.{Header, column_at, place_of, types_in}
use Rattle.sql_to_rel.specs.Numbered.{numbered, numbered_step}
use Rattle.sql_to_rel.proofs.Rolls.{fold-Column, fold-Binary}
use Rattle.expr_parts.specs.Conjuncts.{and_all, conjunction}

abbrev pub Among : List ℕ → ℕ → Type 0
Among xs x = list_any (λ other. other == x) xs ≡ true

abbrev rights : List StarPair → List ℕ
rights pairs = map (λ (p : StarPair). p.right) pairs

in-left : (xs ys : List ℕ) (x : ℕ) → Among xs x → Among (xs ++ ys) x
in-left [] ys x h = absurd (cc)
in-left (y ∷ xs) ys x h = by (y == x) h (in-left xs ys x)
  where
    by : (b : Bool) → (b || list_any (λ other. other == x) xs) ≡ true → (Among xs x → Among (xs ++ ys) x) → (b || list_any (λ other. other == x) (xs ++ ys)) ≡ true
    by true k more = refl
    by false k more = more k

in-right : (xs ys : List ℕ) (x : ℕ) → Among ys x → Among (xs ++ ys) x
in-right [] ys x h = h
in-right (y ∷ xs) ys x h = or-right (y == x) (list_any (λ other. other == x) (xs ++ ys)) (in-right xs ys x h)

-- each of the first is one of the second
pub record AreAmong (xs ys : List ℕ) : Type 0 where
  pub each : (x : ℕ) → Among xs x → Among ys x

none-among : (ys : List ℕ) → AreAmong [] ys
none-among ys = record { each = λ x h. absurd (cc) }

all-among : (xs : List ℕ) → AreAmong xs xs
all-among xs = record { each = λ x h. h }

both-among : (xs ys us vs : List ℕ) → AreAmong xs us → AreAmong ys vs → AreAmong (xs ++ ys) (us ++ vs)
both-among [] ys us vs h k = record { each = λ x m. in-right us vs x (k.each x m) }
both-among (z ∷ xs) ys us vs h k =
    let rest = both-among xs ys us vs (record { each = λ x m. h.each x (or-right (z == x) (list_any (λ other. other == x) xs) m) }) k in
    record { each = λ x m. by rest x (z == x) refl m }
  where
    by : AreAmong (xs ++ ys) (us ++ vs) → (x : ℕ) (b : Bool) → (z == x) ≡ b → (b || list_any (λ other. other == x) (xs ++ ys)) ≡ true → Among (us ++ vs) x
    by rest x true e m = in-left us vs x (h.each x (ap (λ b. b || list_any (λ other. other == x) xs) e))
    by rest x false e m = rest.each x m

-- ---- one condition

-- it equates no fewer
record Equates (e : Equated) (f : tree.Equated) : Type 0 where
  column : (k : ℕ) → e.column ≡ Some k → f.column ≡ Some k
  keys : AreAmong e.keys (map (λ (p : StarPair). p.right) f.pairs)

pair-keys : (width : ℕ) (c d o p : Option ℕ) → ((k : ℕ) → c ≡ Some k → o ≡ Some k) → ((k : ℕ) → d ≡ Some k → p ≡ Some k) → AreAmong (key_of width c d) (map (λ (p : StarPair). p.right) (tree.pair_of width o p))
pair-keys width None d o p h k = none-among (rights (tree.pair_of width o p))
pair-keys width (Some c) None o p h k = none-among (rights (tree.pair_of width o p))
pair-keys width (Some c) (Some d) o p h k =
    subst (λ o. AreAmong (key_of width (Some c) (Some d)) (map (λ (p : StarPair). p.right) (tree.pair_of width o p))) (sym (h c refl))
    (subst (λ p. AreAmong (key_of width (Some c) (Some d)) (map (λ (p : StarPair). p.right) (tree.pair_of width (Some c) p))) (sym (k d refl))
    (by (nat_lt c width && nat_le width d) (nat_lt d width && nat_le width c)))
  where
    by : (a b : Bool) → AreAmong (cond a ((d - width) ∷ []) (cond b ((c - width) ∷ []) []))
        (map (λ (p : StarPair). p.right) (cond a (record { left = c; right = d - width } ∷ []) (cond b (record { left = d; right = c - width } ∷ []) [])))
    by true b = all-among ((d - width) ∷ [])
    by false true = all-among ((c - width) ∷ [])
    by false false = none-among []

op-keys : (width : ℕ) (op : Op) (a b : Equated) (c d : tree.Equated) → Equates a c → Equates b d → AreAmong (equated_op width op a b) (map (λ (p : StarPair). p.right) (tree.equated_op width op c d))
op-keys width And a b c d h k =
    subst (AreAmong (a.keys ++ b.keys)) (sym (map-append (λ (p : StarPair). p.right) c.pairs d.pairs)) (both-among a.keys b.keys (rights c.pairs) (rights d.pairs) h.keys k.keys)
op-keys width Equal a b c d h k = pair-keys width a.column b.column c.column d.column h.column k.column
op-keys width Add a b c d h k = none-among []
op-keys width Subtract a b c d h k = none-among []
op-keys width Multiply a b c d h k = none-among []
op-keys width Divide a b c d h k = none-among []
op-keys width NotEqual a b c d h k = none-among []
op-keys width Less a b c d h k = none-among []
op-keys width LessEqual a b c d h k = none-among []
op-keys width Greater a b c d h k = none-among []
op-keys width GreaterEqual a b c d h k = none-among []
op-keys width Or a b c d h k = none-among []

nothing-equated : (f : tree.Equated) → Equates (record { column = None; keys = [] }) f
nothing-equated f = record { column = λ k e. absurd (cc); keys = none-among (rights f.pairs) }

module _ (scope : List Header) (width : ℕ) where
  abbrev DoesEquate : Tree → Type 0
  DoesEquate t = Equates (fold-Tree Equated (equated_step scope width) t) (tree.equated width (numbered scope t))

  abbrev DoesEquateLevel : Tree-F Tree → Type 0
  DoesEquateLevel x = Equates (equated_step scope width (map-Tree Tree Equated (fold-Tree Equated (equated_step scope width)) x)) (tree.equated width (numbered_step scope (map-Tree Tree Expr (numbered scope) x)))

  level : (y : Tree-F ((t : Tree) × DoesEquate t)) → DoesEquateLevel (map-Tree ((t : Tree) × DoesEquate t) Tree (λ t. t.0) y)
  level (Tree-F.Column place name) =
      subst (Equates (record { column = place_of scope name; keys = [] })) (sym (fold-Column (tree.equated_step width) (column_at scope name)))
      (record { column = λ k e. ap (λ o. Some (unwrap_or o (length (types_in scope)))) e; keys = none-among [] })
  level (Tree-F.Literal place v) = nothing-equated (tree.equated width (Literal v))
  level (Tree-F.Negate place a) = nothing-equated _
  level (Tree-F.Binary place op a b) =
      subst (Equates (record { column = None; keys = equated_op width op (fold-Tree Equated (equated_step scope width) a.0) (fold-Tree Equated (equated_step scope width) b.0) }))
      (sym (fold-Binary (tree.equated_step width) op (numbered scope a.0) (numbered scope b.0)))
      (record {
        column = λ k e. absurd (cc);
        keys = op-keys width op (fold-Tree Equated (equated_step scope width) a.0) (fold-Tree Equated (equated_step scope width) b.0) (tree.equated width (numbered scope a.0)) (tree.equated width (numbered scope b.0)) a.1 b.1;
      })
  level (Tree-F.Not place a) = nothing-equated _
  level (Tree-F.IsNull place a) = nothing-equated _
  level (Tree-F.Aggregate place agg a) = nothing-equated _

  at_roll : (x : Tree-F Tree) → DoesEquateLevel x → DoesEquate (roll-Tree x)
  at_roll x l =
      subst (λ e. Equates e (tree.equated width (numbered scope (roll-Tree x)))) (sym (fold-roll-Tree Equated (equated_step scope width) x))
      (subst (λ e. Equates (equated_step scope width (map-Tree Tree Equated (fold-Tree Equated (equated_step scope width)) x)) (tree.equated width e)) (sym (fold-roll-Tree Expr (numbered_step scope) x)) l)

  equates : (t : Tree) → DoesEquate t
  equates = ind-Tree DoesEquate (λ x y is. subst (λ z. DoesEquate (roll-Tree z)) is (at_roll _ (level y)))

  -- ---- several

  pairs-and : (a b : Expr) → tree.pairs_of width (Binary And a b) ≡ tree.pairs_of width a ++ tree.pairs_of width b
  pairs-and a b = ap (λ (e : tree.Equated). e.pairs) (fold-Binary (tree.equated_step width) And a b)

  keys-behind : (keys : List ℕ) (a : Expr) (ts : List Tree) → AreAmong keys (map (λ (p : StarPair). p.right) (tree.pairs_of width a))
      → AreAmong (keys ++ flat_map (equated scope width) ts) (map (λ (p : StarPair). p.right) (tree.pairs_of width (and_all a (map (numbered scope) ts))))
  keys-behind keys a [] h = subst (λ xs. AreAmong xs (rights (tree.pairs_of width a))) (sym (append-nil keys)) h
  keys-behind keys a (t ∷ ts) h =
      subst (λ xs. AreAmong xs (map (λ (p : StarPair). p.right) (tree.pairs_of width (and_all a (map (numbered scope) (t ∷ ts)))))) (append_assoc keys (equated scope width t) (flat_map (equated scope width) ts))
      (keys-behind (keys ++ equated scope width t) (Binary And a (numbered scope t)) ts
      (subst (λ ps. AreAmong (keys ++ equated scope width t) (map (λ (p : StarPair). p.right) ps)) (sym (pairs-and a (numbered scope t)))
      (subst (AreAmong (keys ++ equated scope width t)) (sym (map-append (λ (p : StarPair). p.right) (tree.pairs_of width a) (tree.pairs_of width (numbered scope t))))
      (both-among keys (equated scope width t) (rights (tree.pairs_of width a)) (rights (tree.pairs_of width (numbered scope t))) h (equates t).keys))))

  pub conjunction-keys : (ts : List Tree) → AreAmong (flat_map (equated scope width) ts) (map (λ (p : StarPair). p.right) (tree.pairs_of width (conjunction (map (numbered scope) ts))))
  conjunction-keys [] = none-among _
  conjunction-keys (t ∷ ts) = keys-behind (equated scope width t) (numbered scope t) ts (equates t).keys

-- ---- a key

all-still : (xs ys key : List ℕ) → AreAmong xs ys → list_all (λ c. list_any (λ other. other == c) xs) key ≡ true → list_all (λ c. list_any (λ other. other == c) ys) key ≡ true
all-still xs ys [] h e = refl
all-still xs ys (c ∷ key) h e =
    let both = and-both (list_any (λ other. other == c) xs) (list_all (λ c. list_any (λ other. other == c) xs) key) e in
    both-true (list_any (λ other. other == c) ys) (list_all (λ c. list_any (λ other. other == c) ys) key) (h.each c both.0) (all-still xs ys key h both.1)
  where
    both-true : (p q : Bool) → p ≡ true → q ≡ true → (p && q) ≡ true
    both-true true true e f = refl
    both-true true false e f = absurd (cc)
    both-true false q e f = absurd (cc)

pub still-key : (xs ys key : List ℕ) → AreAmong xs ys → has_key xs key ≡ true → tree.has_key ys key ≡ true
still-key xs ys [] h e = absurd (cc)
still-key xs ys (c ∷ key) h e = all-still xs ys (c ∷ key) h e
