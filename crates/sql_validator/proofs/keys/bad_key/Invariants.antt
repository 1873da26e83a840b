use Rattle.std.proofs.Common.{◌≡◌, drop, find}
use Rattle.sql_meaning.specs.Refused.{names_no_column}
use Rattle.sql_validator.proofs.keys.bad_key.Given as goal

abbrev pub invariant-loop-key : goal.invariant-loop-key
invariant-loop-key l = find (names_no_column l.scope l.select) l.select.order ≡ find (names_no_column l.scope l.select) (drop l.key-index l.select.order)
