-- A join's rows begin with left rows, and so keep their order.
use Rattle.std.proofs.Common.{◌≡◌, ◌<◌, ℕ, zero, suc, List, [], ◌∷◌, ◌++◌, length, map, replicate, refl, ◌∙◌, ap, arith}
use Rattle.std.specs.List.{AllByRecursion, flat_map}
use Rattle.std.specs.Ordering.{is_lt, ordering_then}
use Rattle.cal_value.specs.declared.order.KeyOrder.{KeyOrder}
use Rattle.cal_value.specs.declared.value.Value.TheVariants.{Null}
use Rattle.cal_value.specs.Order.{key_cmp, row_cmp, column_of, IsInOrder}
use Rattle.cal_expr.specs.declared.expr.Expr.{Expr}
use Rattle.cal_schema.specs.declared.join_kind.JoinKind.{JoinKind}
use Rattle.cal_schema.specs.declared.join_kind.JoinKind.TheVariants.{Inner, Left}
use Rattle.cal_rel.specs.Bag.{binary_bag}
use Rattle.cal_rel.specs.Operators.{Row, holds, joined, or_alone, partners}
use Rattle.cal_rel.specs.Tree.{join_on}
use Rattle.plan_orders.proofs.Rising.{each-filter, each-made, Rises-flat}
use Rattle.plan_orders.proofs.UpTo.{IsUpTo, itself, rises-from, order-from}

record BeginsWith (x row : Row) : Type 0 where
  rest : Row
  is : row ≡ x ++ rest

joined-begin : (kind : JoinKind) (on : Expr) (width : ℕ) (right : List Row) (x : Row) → AllByRecursion (BeginsWith x) (joined kind on width right x)
joined-begin kind on width right x = by kind (each-filter (BeginsWith x) (holds on) (map (λ y. x ++ y) right) (each-made (BeginsWith x) (λ y. x ++ y) (λ y. record { rest = y; is = refl }) right))
  where
    alone : (rows : List Row) → AllByRecursion (BeginsWith x) rows → AllByRecursion (BeginsWith x) (or_alone (x ++ replicate width Null) rows)
    alone [] h = (record { rest = replicate width Null; is = refl }, tt)
    alone (row ∷ rows) h = h

    by : (kind : JoinKind) → AllByRecursion (BeginsWith x) (partners on right x) → AllByRecursion (BeginsWith x) (joined kind on width right x)
    by Inner h = h
    by Left h = alone (partners on right x) h

column-front : (x rest : Row) (c : ℕ) → c < length x → column_of (x ++ rest) c ≡ column_of x c
column-front [] rest c l = absurd (omega arith)
column-front (v ∷ x) rest zero l = refl
column-front (v ∷ x) rest (suc c) l = column-front x rest c (omega arith)

front-cmp : (width : ℕ) (keys : List KeyOrder) (x y u v : Row) → AllByRecursion (λ key. key.column < width) keys → length x ≡ width → length y ≡ width
    → row_cmp keys (x ++ u) (y ++ v) ≡ row_cmp keys x y
front-cmp width [] x y u v h p q = refl
front-cmp width (key ∷ keys) x y u v h p q =
    let l : key.column < width = h.0 in
    let e = column-front x u key.column (omega arith) in
    let f = column-front y v key.column (omega arith) in
    let more = front-cmp width keys x y u v h.1 p q in
    λ i. ordering_then (key_cmp key (e i) (f i)) (more i)

pub join-order : (kind : JoinKind) (on : Expr) (n width : ℕ) (keys : List KeyOrder) (left right : List Row) → AllByRecursion (λ key. key.column < width) keys
    → AllByRecursion (λ row. length row ≡ width) left → IsInOrder keys left → IsInOrder keys (binary_bag (join_on kind on) n left right)
join-order kind on n width keys left right within wide up =
    order-from keys (flat_map (joined kind on n right) left)
    (Rises-flat (λ row. length row ≡ width) (IsUpTo keys) (IsUpTo keys) BeginsWith (joined kind on n right)
    (λ x _. joined-begin kind on n right x)
    (λ x y u v p q h s t.
    let same : row_cmp keys v u ≡ row_cmp keys y x = ap (λ r. row_cmp keys r u) t.is ∙ ap (row_cmp keys (y ++ t.rest)) s.is ∙ front-cmp width keys y x t.rest s.rest within q p in
    ap is_lt same ∙ h)
    (itself keys)
    left wide (rises-from keys left up))
