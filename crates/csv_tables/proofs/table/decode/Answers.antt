use Rattle.std.proofs.Common.{◌∙◌, sym}
use Rattle.csv.specs.Records.{fields_of}
use Rattle.csv_tables.specs.Header.{all_records}
use Rattle.csv_tables.specs.Left.{left_of}
use Rattle.csv_tables.proofs.FilledLemmas.{file-filled}
use Rattle.csv_tables.proofs.RowsLemmas.{found-next, with_header}
use Rattle.csv_tables.proofs.table.decode.Goals as goal

pub returns-then-found-clause-rows : goal.returns-then-found-clause-rows
returns-then-found-clause-rows c =
    let fields = fields_of c.next.new.into in
    let next = found-next (left_of c.open-reader.result) c.in_ok-found.found fields (left_of c.next.new.reader) c.if-found.true c.in_ok-found.ensures.next in
    with_header {X = Unit {0}} tt tt c.args.table.now (all_records c.args.bytes.now) fields (left_of c.next.new.reader) c.rows_in.result (sym c.open-reader.ensures.all ∙ next) c.in_ok-check_header.ensures c.rows_in.ensures

pub returns-then-found-clause-filled : goal.returns-then-found-clause-filled
returns-then-found-clause-filled c = file-filled c.args.bytes.now c.args.table.now c.rows_in.result (returns-then-found-clause-rows c)
