-- Filters made of conjuncts.
use Rattle.std.specs.Prelude.{Bool, true, false, ◌&&◌, List, [], ◌∷◌}
use Rattle.cal_expr.specs.declared.expr.Expr.{Expr}
use Rattle.cal_expr.specs.Equal.{expr_eq}
use Rattle.expr_parts.specs.Conjuncts.{conjunction}
use Rattle.cal_rel.specs.Tree.{Tree, filter_by, unary}

-- the rows of which each conjunct is TRUE; without a conjunct no filter is made
abbrev pub filtered : List Expr → Tree → Tree
filtered [] t = t
filtered (conjunct ∷ conjuncts) t = unary (filter_by (conjunction (conjunct ∷ conjuncts))) t

-- a filter made of them is the one by this predicate
abbrev pub is_same_filter : Expr → List Expr → Bool
is_same_filter predicate [] = false
is_same_filter predicate (conjunct ∷ conjuncts) = expr_eq (conjunction (conjunct ∷ conjuncts)) predicate

abbrev pub is_none : List Expr → Bool
is_none [] = true
is_none (e ∷ es) = false

-- none of them moves, and what stays is the filter that was there
abbrev pub is_unmoved : Expr → List Expr → List Expr → Bool
is_unmoved predicate moved others = is_none moved && is_same_filter predicate others
