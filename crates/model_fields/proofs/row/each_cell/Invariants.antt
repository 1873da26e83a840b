use Rattle.model_fields.specs.Rows.{next_cell}
use Rattle.model_fields.proofs.ItemLemmas.{Reads}
use Rattle.model_fields.proofs.row.each_cell.Given as goal

abbrev pub invariant-loop-value : goal.invariant-loop-value
invariant-loop-value l = Reads (next_cell l.columns) l.values l.row l.value-index
