use Rattle.model_fields.proofs.RowLemmas.{Keyed}
use Rattle.model_fields.proofs.key.keyed.Given as goal

abbrev pub invariant-loop-column : goal.invariant-loop-column
invariant-loop-column l = Keyed l.key l.columns l.all l.column-index
