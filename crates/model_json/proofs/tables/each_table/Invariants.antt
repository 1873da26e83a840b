use Rattle.std.proofs.Common.{◌≡◌, length}
use Rattle.model_json.specs.Tables.{table}
use Rattle.model_fields.proofs.ItemLemmas.{Reads}
use Rattle.model_json.proofs.tables.each_table.Given as goal

abbrev pub invariant-loop-value : goal.invariant-loop-value
invariant-loop-value l = record { count : length l.tables ≡ l.value-index; read : Reads (table l.schema_at l.schema) l.values l.tables l.value-index }
