use Rattle.model_fields.specs.KeyItems.{key_item}
use Rattle.model_fields.proofs.ItemLemmas.{Reads}
use Rattle.model_fields.proofs.key.each_key_column.Given as goal

abbrev pub invariant-loop-value : goal.invariant-loop-value
invariant-loop-value l = Reads (key_item l.columns) l.values l.key l.value-index
