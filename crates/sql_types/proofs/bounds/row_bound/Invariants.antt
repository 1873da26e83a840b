use Rattle.std.proofs.Common.{◌≡◌, take}
use Rattle.sql_meaning.specs.Bounds.{bound_of}
use Rattle.sql_types.proofs.bounds.row_bound.Given as goal

abbrev pub invariant-loop-before : goal.invariant-loop-before
invariant-loop-before l = l.rows ≡ bound_of (take l.before l.scope)
