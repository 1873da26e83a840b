use Rattle.model_json.specs.ModelOf.{lattices}
use Rattle.model_fields.proofs.ItemLemmas.{Turns}
use Rattle.model_json.proofs.model.each_lattices.Given as goal

abbrev pub invariant-loop-number : goal.invariant-loop-number
invariant-loop-number l = Turns lattices l.schemas tt tt l.number
