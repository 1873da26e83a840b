use Rattle.sql_parser.proofs.AgainStatement.{spelled_again}
use Rattle.sql_parser.proofs.KeptStatement.{printed_text, printed_within}
use Rattle.sql_parser.proofs.laws.printed_text_spells_the_statement.Goals as goal

pub returns-clause-text : goal.returns-clause-text
returns-clause-text c = printed_text

pub returns-clause-tokens : goal.returns-clause-tokens
returns-clause-tokens c = λ ts x d. spelled_again d

pub returns-clause-within : goal.returns-clause-within
returns-clause-within c = printed_within
