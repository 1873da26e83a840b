use Rattle.sql_parser.proofs.Whole.{answer-spelled, answer-only, answer-fault}
use Rattle.sql_parser.proofs.parser.parse_within.Goals as goal

pub returns-clause-spelled : goal.returns-clause-spelled
returns-clause-spelled c = answer-spelled c.args.tokens.now c.read.result c.read.ensures

pub returns-clause-only : goal.returns-clause-only
returns-clause-only c = answer-only c.args.tokens.now c.read.result c.requires c.read.ensures

pub returns-clause-fault : goal.returns-clause-fault
returns-clause-fault c = answer-fault c.args.tokens.now c.read.result c.requires c.read.ensures
