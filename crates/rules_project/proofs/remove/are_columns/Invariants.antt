use Rattle.std.proofs.Common.{◌≡◌, drop}
use Rattle.project_images.specs.ProjectRemove.{are_columns_from}
use Rattle.rules_project.proofs.remove.are_columns.Given as goal

abbrev pub invariant-loop-at : goal.invariant-loop-at
invariant-loop-at l = are_columns_from 0 l.items ≡ are_columns_from l.at (drop l.at l.items)
