use Rattle.row_exec.proofs.Passes.{pass-CsvScan, pass-MemScan}
use Rattle.row_exec.proofs.pass.scan_of.Goals as goal

pub returns-in-MemScan : goal.returns-in-MemScan
returns-in-MemScan c = pass-MemScan c.args.plan.now c.in-MemScan.table c.in-MemScan.is

pub returns-in-CsvScan : goal.returns-in-CsvScan
returns-in-CsvScan c = pass-CsvScan c.args.plan.now c.in-CsvScan.table c.in-CsvScan.is
