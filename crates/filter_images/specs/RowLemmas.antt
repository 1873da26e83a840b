-- Filters over the rows of joins and of groups.
use Rattle.std.proofs.Common.{◌≡◌, ℕ, Bool, true, ◌&&◌, List, [], ◌∷◌, ◌++◌, map, filter, replicate, All, sym, ◌∙◌, ap}
use Rattle.std.specs.List.{flat_map}
use Rattle.std.proofs.lemmas.List.Elements.{All-nil, All-cons, All-map, All-filter}
use Rattle.cal_value.specs.declared.value.Value.TheVariants.{Null}
use Rattle.cal_value.specs.Order.{columns_of}
use Rattle.cal_aggregate.specs.Parts.{Part, members, parts}
use Rattle.cal_expr.specs.declared.expr.Expr.{Expr}
use Rattle.cal_schema.specs.declared.join_kind.JoinKind.{JoinKind}
use Rattle.cal_schema.specs.declared.join_kind.JoinKind.TheVariants.{Inner, Left}
use Rattle.cal_rel.specs.Operators.{Row, holds, partners, or_alone, joined, same_key, by_key}
use Rattle.filter_images.specs.ListLemmas.{filter-both, filter-decided, filter-flat_map, flat_map-filtered, filter-of_map, filter-of_map_decided, All-each}
use Rattle.filter_images.specs.PartLemmas.{parts-filter}

-- ---- joins

-- of an inner join: a test of the left row, one of the right row and another condition, in place of a test over the join
pub inner-filtered : (P : Row → Type 0) (c p q : Row → Bool) (on other : Expr)
    → ((x y : Row) → P x → (holds on (x ++ y) && c (x ++ y)) ≡ (p x && (q y && holds other (x ++ y))))
    → (right left : List Row) → All P left → filter c (flat_map (partners on right) left) ≡ flat_map (partners other (filter q right)) (filter p left)
inner-filtered P c p q on other e right left all =
    filter-flat_map c (partners on right) left
    ∙ flat_map-filtered P p (λ x. filter c (partners on right x)) (partners other (filter q right))
    (λ x is. filter-both (holds on) c (map (λ y. x ++ y) right)
    ∙ filter-of_map_decided (λ row. holds on row && c row) (holds other) q (λ y. x ++ y) (p x) (λ y. e x y is) right)
    left all

partners-begin : (P : Row → Type 0) (x : Row) → ((y : Row) → P (x ++ y)) → (on : Expr) (right : List Row) → All P (partners on right x)
partners-begin P x h on right = All-filter (holds on) P (map (λ y. x ++ y) right) (All-map P (λ (y : Row). x ++ y) right (All-each (λ y. P (x ++ y)) h right))

-- each row that a join makes of a left row begins with it
pub joined-begin : (P : Row → Type 0) (x : Row) → ((y : Row) → P (x ++ y)) → (kind : JoinKind) (on : Expr) (width : ℕ) (right : List Row) → All P (joined kind on width right x)
joined-begin P x h Inner on width right = partners-begin P x h on right
joined-begin P x h Left on width right = alone (partners on right x) (partners-begin P x h on right)
  where
    alone : (rows : List Row) → All P rows → All P (or_alone (x ++ replicate width Null) rows)
    alone [] all = All-cons P (x ++ replicate width Null) [] (h (replicate width Null)) (All-nil P)
    alone (row ∷ rows) all = all

-- a test of the left row goes below the join, the other test stays above
pub left-filtered : (P : Row → Type 0) (c p r : Row → Bool) → ((x y : Row) → P x → c (x ++ y) ≡ (p x && r (x ++ y)))
    → (kind : JoinKind) (on : Expr) (width : ℕ) (right left : List Row) → All P left
    → filter c (flat_map (joined kind on width right) left) ≡ filter r (flat_map (joined kind on width right) (filter p left))
left-filtered P c p r e kind on width right left all =
    filter-flat_map c (joined kind on width right) left
    ∙ flat_map-filtered P p (λ x. filter c (joined kind on width right x)) (λ x. filter r (joined kind on width right x))
    (λ x is. filter-decided c r (p x) (joined kind on width right x) (joined-begin (λ row. c row ≡ (p x && r row)) x (λ y. e x y is) kind on width right))
    left all
    ∙ sym (filter-flat_map r (joined kind on width right) (filter p left))

-- ---- groups

-- a test of the key goes below the groups, the other test stays above
pub by_key-filtered : (c q r : Row → Bool) (columns : List ℕ) (calls : List Row → Row)
    → ((a b : Row) → same_key columns a b ≡ true → q a ≡ q b)
    → ((row more : Row) → c (columns_of row columns ++ more) ≡ (q row && r (columns_of row columns ++ more)))
    → (rows : List Row) → filter c (by_key columns calls rows) ≡ filter r (by_key columns calls (filter q rows))
by_key-filtered c q r columns calls agree e rows =
    filter-of_map c r (λ (part : Part Row). q part.first) made (λ part. e part.first (calls (members part))) (parts (same_key columns) rows)
    ∙ ap (λ ps. filter r (map made ps)) (sym (parts-filter (same_key columns) q agree rows))
  where
    made : Part Row → Row
    made part = columns_of part.first columns ++ calls (members part)
