use Rattle.std.proofs.Common.{◌≡◌, length}
use Rattle.model_fields.specs.Rows.{column}
use Rattle.model_fields.proofs.ItemLemmas.{Reads}
use Rattle.model_fields.proofs.column.each_column.Given as goal

abbrev pub invariant-loop-value : goal.invariant-loop-value
invariant-loop-value l = record { count : length l.columns ≡ l.value-index; read : Reads column l.values l.columns l.value-index }
