use Rattle.std.proofs.Common.{◌≤◌, length}
use Rattle.model_json.specs.Schemas.{schema, seen, nothing_seen}
use Rattle.model_fields.proofs.ItemLemmas.{Turns}
use Rattle.cal_value.specs.declared.limits.TheConstants.{TABLE_LIMIT}
use Rattle.model_json.proofs.schemas.schemas.Given as goal

abbrev pub invariant-loop-number : goal.invariant-loop-number
invariant-loop-number l = record { few : length l.all.items ≤ TABLE_LIMIT; read : Turns schema l.values nothing_seen (seen l.names.keys l.all.items) l.number }
