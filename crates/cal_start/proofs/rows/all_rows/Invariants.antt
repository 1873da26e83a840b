use Rattle.std.proofs.Common.{◌≡◌, [], drop}
use Rattle.std.specs.List.{AllZip}
use Rattle.std.specs.Vec.Iter.{into_iter_items}
use Rattle.cal_schema.specs.Fits.{IsFilledBy}
use Rattle.model_json.specs.ModelOf.{IsInlineOf}
use Rattle.cal_start.specs.Next.{rows_after}
use Rattle.cal_start.proofs.ZipLemmas.{Completes}
use Rattle.cal_start.proofs.rows.all_rows.Given as goal

abbrev pub invariant-loop-table : goal.invariant-loop-table
invariant-loop-table l = record {
  so_far : rows_after l.tables l.fn.inline [] l.fn.files ≡ rows_after (drop l.table-index l.tables) (into_iter_items l.inline) l.all l.left;
  inline : AllZip IsInlineOf (drop l.table-index l.tables) (into_iter_items l.inline);
  filled : Completes IsFilledBy l.tables (drop l.table-index l.tables) l.all;
}
