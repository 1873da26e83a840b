-- The right side of a lower join goes to the right side of the upper one, with the conjuncts on these two alone.
use Rattle.std.specs.Prelude.{ℕ, not, List, ◌++◌, map, filter, Option, Some, None, if◌then◌else◌}
use Rattle.cal_expr.specs.declared.expr.Expr.{Expr}
use Rattle.cal_schema.specs.declared.join_kind.JoinKind.TheVariants.{Inner}
use Rattle.expr_parts.specs.Columns.{shifted_down}
use Rattle.expr_parts.specs.Conjuncts.{conjuncts_of, conjunction}
use Rattle.cal_rel.specs.Bag.{width}
use Rattle.cal_rel.specs.Info.{Info}
use Rattle.cal_rel.specs.Tree.{Tree, join_on, binary}
use Rattle.filter_images.specs.Filtered.{is_none}
use Rattle.filter_images.specs.FilterIntoJoin.{is_right}

-- those on the columns behind the first ones, which are so many, over these columns
abbrev pub inside : ℕ → List Expr → List Expr
inside width conjuncts = map (shifted_down width) (filter (is_right width) conjuncts)

-- the others
abbrev pub outside : ℕ → List Expr → List Expr
outside width conjuncts = filter (λ c. not (is_right width c)) conjuncts

abbrev pub regrouped : ℕ → List Expr → Tree → Tree → Tree → Tree
regrouped width conjuncts a b c =
    binary (join_on Inner (conjunction (outside width conjuncts))) a
    (binary (join_on Inner (conjunction (inside width conjuncts))) b c)

abbrev pub associated : ℕ → List Expr → Tree → Tree → Tree → Option Tree
associated width conjuncts a b c =
    if is_none (inside width conjuncts) then None else Some (regrouped width conjuncts a b c)

abbrev pub associated_joins : Info → Tree → Option Tree
associated_joins info (binary (join_on Inner upper) (binary (join_on Inner lower) a b) c) =
    associated (width info a) (conjuncts_of lower ++ conjuncts_of upper) a b c
associated_joins info t = None
