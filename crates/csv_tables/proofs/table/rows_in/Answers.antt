use Rattle.std.proofs.Common.{◌≡◌, ◌+◌, ◌++◌, ◌∷◌, [], List, length, map, Ok, Err, sym, ap, subst, ◌∙◌, arith}
use Rattle.std.proofs.lemmas.List.{map-append, length_push}
use Rattle.cal_value.specs.declared.value.Value.{Value}
use Rattle.cal_schema.specs.Fits.{key_of}
use Rattle.csv.specs.Records.{fields_of}
use Rattle.csv_tables.specs.declared.fault.CsvFault.{CsvFault}
use Rattle.csv_tables.specs.Header.{Answers, told}
use Rattle.csv_tables.specs.Left.{left_of}
use Rattle.csv_tables.specs.Table.{record_faults, row_of}
use Rattle.csv_tables.proofs.RowsLemmas.{Walked, found-next, one-more, same-taken, stopped, told-ok}
use Rattle.csv_tables.proofs.table.rows_in.Goals as goal

pub returns-in-Err : goal.returns-in-Err
returns-in-Err c =
    let table = c.args.table.now in
    let fields = fields_of c.next.new.into in
    let inv = c.loop.invariant in
    let next = found-next (left_of c.loop.reader) c.in_ok-found.found fields (left_of c.next.new.reader) c.if-not-found.false c.in_ok-found.ensures.next in
    let faults : record_faults table (c.len.result + 2) c.loop.keys.keys fields ≡ record_faults table (length c.loop.rows + 2) (map (key_of table) c.loop.rows) fields =
    same-taken table (c.len.result + 2) c.loop.keys.keys (map (key_of table) c.loop.rows) fields inv.3
    ∙ ap (λ n. record_faults table (n + 2) (map (key_of table) c.loop.rows) fields) c.len.ensures in
    stopped table (left_of c.args.reader.now) (left_of c.loop.reader) (left_of c.next.new.reader) c.loop.rows fields c.in-Err.fault inv.2 next (omega arith)
    (subst (λ (fs : List CsvFault). Answers (told fs (row_of table fields)) (Err c.in-Err.fault)) faults c.in-Err.ensures.row)

pub loop-preserved : goal.loop-preserved
loop-preserved c =
    let table = c.args.table.now in
    let fields = fields_of c.next.new.into in
    let inv = c.loop.invariant in
    let next = found-next (left_of c.loop.reader) c.in_ok-found.found fields (left_of c.next.new.reader) c.if-not-found.false c.in_ok-found.ensures.next in
    let faults : record_faults table (c.len.result + 2) c.loop.keys.keys fields ≡ record_faults table (length c.loop.rows + 2) (map (key_of table) c.loop.rows) fields =
    same-taken table (c.len.result + 2) c.loop.keys.keys (map (key_of table) c.loop.rows) fields inv.3
    ∙ ap (λ n. record_faults table (n + 2) (map (key_of table) c.loop.rows) fields) c.len.ensures in
    let ok : told (record_faults table (length c.loop.rows + 2) (map (key_of table) c.loop.rows) fields) (row_of table fields) ≡ Ok c.in-Ok.row =
    ap (λ (fs : List CsvFault). told fs (row_of table fields)) (sym faults) ∙ c.in-Ok.ensures.row in
    let row : row_of table fields ≡ c.in-Ok.row = (told-ok (record_faults table (length c.loop.rows + 2) (map (key_of table) c.loop.rows) fields) (row_of table fields) c.in-Ok.row ok).1 in
    let rows : c.push.new.self ≡ c.loop.rows ++ c.in-Ok.row ∷ [] = c.in_ok-push-in-Ok.ensures.ok in (
      c.in_ok-found.ensures.plain c.if-not-found.false,
      ap length rows ∙ length_push c.loop.rows c.in-Ok.row ∙ ap (λ n. n + 1) inv.1,
      subst (λ (rs : List (List Value)). Walked table (left_of c.args.reader.now) (left_of c.next.new.reader) rs) (sym rows)
          (one-more table (left_of c.args.reader.now) (left_of c.loop.reader) (left_of c.next.new.reader) c.loop.rows fields c.in-Ok.row inv.2 next (omega arith) ok),
      λ h. c.in-Ok.ensures.keys h
          ∙ ap (λ (ks : List (List Value)). ks ++ key_of table (row_of table fields) ∷ []) (inv.3 h)
          ∙ ap (λ (r : List Value). map (key_of table) c.loop.rows ++ key_of table r ∷ []) row
          ∙ sym (map-append (key_of table) c.loop.rows (c.in-Ok.row ∷ []))
          ∙ ap (map (key_of table)) (sym rows),
    )
