-- A filter over a project goes below it, with the items in the place of columns.
use Rattle.std.specs.Prelude.{Option, Some, None}
use Rattle.expr_parts.specs.Columns.{over_items}
use Rattle.cal_rel.specs.Tree.{Tree, filter_by, project_to, unary}

abbrev pub filter_below_project : Tree → Option Tree
filter_below_project (unary (filter_by predicate) (unary (project_to items) t)) =
    Some (unary (project_to items) (unary (filter_by (over_items items predicate)) t))
filter_below_project t = None
