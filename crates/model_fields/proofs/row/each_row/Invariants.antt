use Rattle.model_fields.specs.Rows.{row}
use Rattle.model_fields.proofs.ItemLemmas.{Reads}
use Rattle.model_fields.proofs.row.each_row.Given as goal

abbrev pub invariant-loop-value : goal.invariant-loop-value
invariant-loop-value l = Reads (row l.columns) l.values l.rows l.value-index
