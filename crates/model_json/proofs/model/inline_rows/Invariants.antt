use Rattle.std.proofs.Common.{◌≡◌, map}
use Rattle.model_json.specs.ModelOf.{inline_rows}
use Rattle.model_json.proofs.model.inline_rows.Given as goal

abbrev pub invariant-loop-draft : goal.invariant-loop-draft
invariant-loop-draft l = l.inline ≡ map inline_rows l.yielded
