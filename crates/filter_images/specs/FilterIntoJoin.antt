-- Conjuncts of a filter over a join go into its sides and, of an inner join, into its condition.
use Rattle.std.specs.Prelude.{ℕ, nat_lt, nat_le, Bool, not, ◌&&◌, List, [], ◌∷◌, ◌++◌, map, filter, Option, Some, None, if◌then◌else◌}
use Rattle.std.specs.List.{list_all}
use Rattle.cal_expr.specs.declared.expr.Expr.{Expr}
use Rattle.cal_schema.specs.declared.join_kind.JoinKind.{JoinKind}
use Rattle.cal_schema.specs.declared.join_kind.JoinKind.TheVariants.{Inner, Left}
use Rattle.expr_parts.specs.Columns.{columns_read, shifted_down}
use Rattle.expr_parts.specs.Conjuncts.{conjuncts_of, conjunction}
use Rattle.cal_rel.specs.Bag.{width}
use Rattle.cal_rel.specs.Info.{Info}
use Rattle.cal_rel.specs.Tree.{Tree, filter_by, join_on, unary, binary}
use Rattle.filter_images.specs.Filtered.{filtered, is_unmoved}

-- it reads columns of the left rows alone, which have so many, or none
abbrev pub is_left : ℕ → Expr → Bool
is_left width conjunct = list_all (λ at. nat_lt at width) (columns_read conjunct)

-- it reads columns of the right rows alone, and some
abbrev pub is_right : ℕ → Expr → Bool
is_right width conjunct = not (is_left width conjunct) && list_all (λ at. nat_le width at) (columns_read conjunct)

abbrev pub is_of_both : ℕ → Expr → Bool
is_of_both width conjunct = not (is_left width conjunct) && not (is_right width conjunct)

-- a condition with more conjuncts; without more it stays as it is
abbrev pub with_more : Expr → List Expr → Expr
with_more on [] = on
with_more on (conjunct ∷ conjuncts) = conjunction (conjuncts_of on ++ conjunct ∷ conjuncts)

abbrev pub into_inner : ℕ → List Expr → Expr → Tree → Tree → Tree
into_inner width conjuncts on s t =
    binary (join_on Inner (with_more on (filter (is_of_both width) conjuncts)))
    (filtered (filter (is_left width) conjuncts) s)
    (filtered (map (shifted_down width) (filter (is_right width) conjuncts)) t)

-- below a left join go those on the left side alone
abbrev pub into_left : ℕ → List Expr → Expr → Tree → Tree → Tree
into_left width conjuncts on s t =
    filtered (filter (λ c. not (is_left width c)) conjuncts) (binary (join_on Left on) (filtered (filter (is_left width) conjuncts) s) t)

abbrev pub stays_above : ℕ → Expr → Bool
stays_above width predicate =
    is_unmoved predicate (filter (is_left width) (conjuncts_of predicate)) (filter (λ c. not (is_left width c)) (conjuncts_of predicate))

abbrev pub into_join : ℕ → Expr → JoinKind → Expr → Tree → Tree → Option Tree
into_join width predicate Inner on s t = Some (into_inner width (conjuncts_of predicate) on s t)
into_join width predicate Left on s t = if stays_above width predicate then None else Some (into_left width (conjuncts_of predicate) on s t)

abbrev pub filter_below_join : Info → Tree → Option Tree
filter_below_join info (unary (filter_by predicate) (binary (join_on kind on) s t)) = into_join (width info s) predicate kind on s t
filter_below_join info t = None
