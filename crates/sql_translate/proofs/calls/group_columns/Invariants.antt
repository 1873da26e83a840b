use Rattle.std.proofs.Common.{◌≡◌, ◌==◌, map, drop, []}
use Rattle.sql_meaning.specs.Scope.{column_at}
use Rattle.sql_translate.specs.Once.{with_each}
use Rattle.sql_translate.proofs.calls.group_columns.Given as goal

abbrev pub invariant-loop-name : goal.invariant-loop-name
invariant-loop-name l = with_each ◌==◌ l.groups (map (column_at l.scope) (drop l.name-index l.columns)) ≡ with_each ◌==◌ [] (map (column_at l.scope) l.columns)
