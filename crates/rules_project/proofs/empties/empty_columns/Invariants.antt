use Rattle.std.proofs.Common.{◌≡◌, ◌++◌, drop, map}
use Rattle.project_images.specs.Empties.{empty_column}
use Rattle.rules_project.proofs.empties.empty_columns.Given as goal

abbrev pub invariant-loop-column : goal.invariant-loop-column
invariant-loop-column l = l.types ++ map empty_column (drop l.column-index l.columns) ≡ map empty_column l.columns
