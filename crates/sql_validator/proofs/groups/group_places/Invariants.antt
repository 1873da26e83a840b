use Rattle.std.proofs.Common.{◌≡◌, map, take}
use Rattle.sql_meaning.specs.Scope.{column_at}
use Rattle.sql_validator.proofs.groups.group_places.Given as goal

abbrev pub invariant-loop-name : goal.invariant-loop-name
invariant-loop-name l = l.places ≡ map (column_at l.scope) (take l.name-index l.select.groups)
