-- Groups of rows that are sorted on the columns of the groups ascend by their first columns.
use Rattle.std.proofs.Common.{◌≡◌, ◌+◌, ℕ, suc, Bool, not, List, [], ◌∷◌, ◌++◌, length, map, refl, sym, ◌∙◌, ap, arith}
use Rattle.std.specs.List.{AllByRecursion, range_with_len}
use Rattle.std.specs.Ordering.{is_lt, ordering_then}
use Rattle.cal_value.specs.declared.value.Value.{Value}
use Rattle.cal_value.specs.declared.value.Value.TheVariants.{Null, Bool as BoolValue, Int, Text}
use Rattle.cal_value.specs.Order.{key_cmp, row_cmp, column_of, columns_of, IsInOrder}
use Rattle.cal_aggregate.specs.Parts.{Part, members, parts}
use Rattle.cal_rel.specs.Operators.{Row, same_key, by_key, grouped}
use Rattle.cal_rel.specs.Tiles.{ascending}
use Rattle.plan_nodes.specs.Orders.{ascending_key, ascending_by}
use Rattle.plan_orders.proofs.Rising.{Rises, each-filter, Rises-filter, Rises-map}
use Rattle.plan_orders.proofs.UpTo.{IsUpTo, rises-from, order-from, in-one}

-- ---- the first members of parts

first-each : {A : Type 0} (P : A → Type 0) (alike : A → A → Bool) (xs : List A) → AllByRecursion P xs → AllByRecursion (λ (part : Part A). P part.first) (parts alike xs)
first-each P alike [] h = tt
first-each {A} P alike (x ∷ xs) h =
    (h.0, each-filter (λ (part : Part A). P part.first) (λ part. not (alike x part.first)) (parts alike xs) (first-each P alike xs h.1))

first-rises : {A : Type 0} (R : A → A → Type 0) (alike : A → A → Bool) (xs : List A) → Rises R xs → Rises (λ (p q : Part A). R p.first q.first) (parts alike xs)
first-rises R alike [] h = tt
first-rises {A} R alike (x ∷ xs) h = (
  each-filter (λ (part : Part A). R x part.first) (λ part. not (alike x part.first)) (parts alike xs) (first-each (R x) alike xs h.0),
  Rises-filter (λ (p q : Part A). R p.first q.first) (λ part. not (alike x part.first)) (parts alike xs) (first-rises R alike xs h.1),
)

-- ---- keys that stand first

ascending-is : (c d : ℕ) (a b : Value) → key_cmp (ascending_key c) a b ≡ key_cmp (ascending_key d) a b
ascending-is c d Null Null = refl
ascending-is c d Null (BoolValue y) = refl
ascending-is c d Null (Int y) = refl
ascending-is c d Null (Text y) = refl
ascending-is c d (BoolValue x) Null = refl
ascending-is c d (BoolValue x) (BoolValue y) = refl
ascending-is c d (BoolValue x) (Int y) = refl
ascending-is c d (BoolValue x) (Text y) = refl
ascending-is c d (Int x) Null = refl
ascending-is c d (Int x) (BoolValue y) = refl
ascending-is c d (Int x) (Int y) = refl
ascending-is c d (Int x) (Text y) = refl
ascending-is c d (Text x) Null = refl
ascending-is c d (Text x) (BoolValue y) = refl
ascending-is c d (Text x) (Int y) = refl
ascending-is c d (Text x) (Text y) = refl

-- rows that have the values in these columns from this place on compare by them as the rows do
keys-first : (groups : List ℕ) (i : ℕ) (a b x y u v : Row) → ((k : ℕ) → column_of x (i + k) ≡ column_of (columns_of a groups ++ u) k) → ((k : ℕ) → column_of y (i + k) ≡ column_of (columns_of b groups ++ v) k)
    → row_cmp (map ascending_key (range_with_len i (length groups))) x y ≡ row_cmp (ascending_by groups) a b
keys-first [] i a b x y u v p q = refl
keys-first (g ∷ groups) i a b x y u v p q =
    let at : i + 0 ≡ i = omega arith in
    let first : column_of x i ≡ column_of a g = ap (column_of x) (sym at) ∙ p 0 in
    let second : column_of y i ≡ column_of b g = ap (column_of y) (sym at) ∙ q 0 in
    let next : (k : ℕ) → (i + 1) + k ≡ i + suc k = λ k. omega arith in
    let more = keys-first groups (i + 1) a b x y u v (λ k. ap (column_of x) (next k) ∙ p (suc k)) (λ k. ap (column_of y) (next k) ∙ q (suc k)) in
    let here : key_cmp (ascending_key i) (column_of x i) (column_of y i) ≡ key_cmp (ascending_key g) (column_of a g) (column_of b g) =
    ascending-is i g (column_of x i) (column_of y i) ∙ ap (λ w. key_cmp (ascending_key g) w (column_of y i)) first ∙ ap (key_cmp (ascending_key g) (column_of a g)) second in
    λ j. ordering_then (here j) (more j)

key-up : (groups : List ℕ) (a b u v : Row) → IsUpTo (ascending_by groups) a b → IsUpTo (ascending (length groups)) (columns_of a groups ++ u) (columns_of b groups ++ v)
key-up groups a b u v h =
    let at : (k : ℕ) → 0 + k ≡ k = λ k. omega arith in
    let same = keys-first groups 0 b a (columns_of b groups ++ v) (columns_of a groups ++ u) v u (λ k. ap (column_of (columns_of b groups ++ v)) (at k)) (λ k. ap (column_of (columns_of a groups ++ u)) (at k)) in
    ap is_lt same ∙ h

-- ---- groups

by_key-order : (groups : List ℕ) (calls : List Row → Row) (rows : List Row) → IsInOrder (ascending_by groups) rows → IsInOrder (ascending (length groups)) (by_key groups calls rows)
by_key-order groups calls rows h =
    order-from (ascending (length groups)) (by_key groups calls rows)
    (Rises-map (λ (p q : Part Row). IsUpTo (ascending_by groups) p.first q.first) (IsUpTo (ascending (length groups))) (λ (part : Part Row). columns_of part.first groups ++ calls (members part))
    (λ p q. key-up groups p.first q.first (calls (members p)) (calls (members q)))
    (parts (same_key groups) rows)
    (first-rises (IsUpTo (ascending_by groups)) (same_key groups) rows (rises-from (ascending_by groups) rows h)))

pub group-order : (groups : List ℕ) (calls : List Row → Row) (rows : List Row) → IsInOrder (ascending_by groups) rows → IsInOrder (ascending (length groups)) (grouped groups calls rows)
group-order [] calls rows h = in-one [] (calls rows)
group-order (g ∷ groups) calls rows h = by_key-order (g ∷ groups) calls rows h
