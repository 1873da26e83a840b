-- Two projects become one, with the items of the lower one in the place of columns.
use Rattle.std.specs.Prelude.{map, Option, Some, None}
use Rattle.expr_parts.specs.Columns.{over_items}
use Rattle.cal_rel.specs.Tree.{Tree, project_to, unary}

abbrev pub merged_projects : Tree → Option Tree
merged_projects (unary (project_to upper) (unary (project_to lower) t)) = Some (unary (project_to (map (over_items lower) upper)) t)
merged_projects t = None
