use Rattle.std.proofs.Common.{◌≡◌, ◌++◌, map, take}
use Rattle.std.specs.List.{flat_map}
use Rattle.sql_tree.specs.declared.select.FromEntry.{FromEntry}
use Rattle.sql_meaning.specs.Mentions.{how_columns}
use Rattle.sql_meaning.specs.Scope.{column_at}
use Rattle.sql_names.proofs.references.add_joins.Given as goal

abbrev pub invariant-loop-entry : goal.invariant-loop-entry
invariant-loop-entry l = l.places ≡ l.initial.places ++ map (column_at l.scope) (flat_map (λ (entry : FromEntry). how_columns entry.how) (take l.entry-index l.from))
