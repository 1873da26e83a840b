use Rattle.std.proofs.Common.{◌≡◌, take}
use Rattle.std.specs.List.{count_by}
use Rattle.cal_schema.specs.Lookup.{is_same_name}
use Rattle.sql_names.proofs.keys.times.Given as goal

abbrev pub invariant-loop-other : goal.invariant-loop-other
invariant-loop-other l = l.count ≡ count_by (is_same_name l.name) (take l.other-index l.names)
