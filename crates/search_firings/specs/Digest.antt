-- A number by which a firing is looked up, the same of equal firings. Literals, the calls of aggregates and kinds of joins aren't looked at.
use Rattle.std.specs.Prelude.{ℕ, ◌+◌, ◌*◌, ◌%◌, ◌^◌, List, fold, length}
use Rattle.cal_expr.specs.Equal.{op_index}
use Rattle.cal_expr.specs.declared.expr.Expr.{Expr}
use Rattle.cal_expr.specs.declared.expr.Expr.TheOpen.{Expr-F}
use Rattle.cal_expr.specs.declared.expr.Expr.TheFolds.{fold-Expr}
use Rattle.cal_rel.specs.Tree.{Leaf, scan, tile_scan, star_scan, empty_of, Unary, filter_by, project_to, aggregate_by, Binary, join_on, Tree, leaf, unary, binary, hole, tree_of}
use Rattle.search_firings.specs.declared.firing.Firing.{Firing}

unfoldable pub mixed : ℕ → ℕ → ℕ
mixed a b = (a * 1099511628211 % 2 ^ 64 + b) % 2 ^ 64

abbrev pub expr_step : Expr-F ℕ → ℕ
expr_step (Expr-F.Column at) = mixed 1 at
expr_step (Expr-F.Literal v) = 2
expr_step (Expr-F.Negate a) = mixed 3 a
expr_step (Expr-F.Binary op a b) = mixed (mixed (op_index op) a) b
expr_step (Expr-F.Not a) = mixed 4 a
expr_step (Expr-F.IsNull a) = mixed 5 a

abbrev pub expr_digest : Expr → ℕ
expr_digest e = fold-Expr ℕ expr_step e

abbrev pub leaf_digest : Leaf → ℕ
leaf_digest (scan table) = mixed 6 table
leaf_digest (tile_scan at) = mixed 7 at
leaf_digest (star_scan lattice) = mixed 8 lattice
leaf_digest (empty_of types) = mixed 9 (length types)

abbrev pub unary_digest : Unary → ℕ
unary_digest (filter_by predicate) = mixed 10 (expr_digest predicate)
unary_digest (project_to items) = fold (λ d e. mixed d (expr_digest e)) 11 items
unary_digest (aggregate_by groups calls) = fold mixed (mixed 12 (length calls)) groups

abbrev pub binary_digest : Binary → ℕ
binary_digest (join_on kind on) = mixed 13 (expr_digest on)

abbrev pub tree_digest : Tree → ℕ
tree_digest (leaf l) = leaf_digest l
tree_digest (unary u t) = mixed (unary_digest u) (tree_digest t)
tree_digest (binary b s t) = mixed (mixed (binary_digest b) (tree_digest s)) (tree_digest t)
tree_digest (hole k) = mixed 14 k

abbrev pub digest : Firing → ℕ
digest f = mixed (mixed (mixed f.rule f.nth) f.set) (tree_digest (tree_of f.binding))
