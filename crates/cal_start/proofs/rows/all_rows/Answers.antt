use Rattle.std.proofs.Common.{arith}
use Rattle.std.proofs.lemmas.List.{drop_all}
use Rattle.cal_schema.specs.Fits.{IsFilledBy}
use Rattle.cal_start.proofs.ZipLemmas.{completes_all, filled_from_zip}
use Rattle.cal_start.proofs.rows.all_rows.Goals as goal

pub returns-clause-filled : goal.returns-clause-filled
returns-clause-filled c =
    filled_from_zip _ _ (completes_all IsFilledBy _ _ _ (drop_all c.loop-table.table-index c.args.tables.now (omega (arith, c.loop-table-test.false))) c.loop-table.invariant.filled)
