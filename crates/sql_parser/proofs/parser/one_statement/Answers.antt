use Rattle.sql_parser.proofs.Whole as whole
use Rattle.sql_parser.proofs.parser.one_statement.Goals as goal

pub returns : goal.returns
returns c = whole.one_statement
