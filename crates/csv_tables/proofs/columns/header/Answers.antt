use Rattle.std.proofs.Common.{rules}
use Rattle.csv_tables.proofs.FilledLemmas.{file-header}
use Rattle.csv_tables.proofs.columns.header.Goals as goal

pub returns-then-found-clause-answer : goal.returns-then-found-clause-answer
returns-then-found-clause-answer c = search rules

pub returns-then-found-clause-header : goal.returns-then-found-clause-header
returns-then-found-clause-header c = file-header c.args.bytes.now c.columns_in.result (returns-then-found-clause-answer c)
