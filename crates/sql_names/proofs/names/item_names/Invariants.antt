use Rattle.std.proofs.Common.{◌≡◌, take}
use Rattle.sql_meaning.specs.Names.{item_names}
use Rattle.sql_names.proofs.names.item_names.Given as goal

abbrev pub invariant-loop-place : goal.invariant-loop-place
invariant-loop-place l = l.names ≡ item_names 0 (take l.place l.items)
