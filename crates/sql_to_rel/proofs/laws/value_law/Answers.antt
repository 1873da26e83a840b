use Rattle.sql_to_rel.proofs.Values.{meaning_of-numbered}
use Rattle.sql_to_rel.proofs.laws.value_law.Goals as goal

pub returns : goal.returns
returns c = λ env tree plain full. meaning_of-numbered env full tree
