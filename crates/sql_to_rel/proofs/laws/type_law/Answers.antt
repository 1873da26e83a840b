use Rattle.sql_to_rel.proofs.Types.{type_of-numbered}
use Rattle.sql_to_rel.proofs.laws.type_law.Goals as goal

pub returns : goal.returns
returns c = type_of-numbered
