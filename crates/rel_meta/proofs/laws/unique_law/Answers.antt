use Rattle.rel_meta.proofs.UniqueKeys.{keys-unique, keys-steady}
use Rattle.rel_meta.proofs.laws.unique_law.Goals as goal

pub returns-clause-unique : goal.returns-clause-unique
returns-clause-unique c = keys-unique

pub returns-clause-steady : goal.returns-clause-steady
returns-clause-steady c = λ m from to tree t valid narrows e. keys-steady m from to valid narrows tree t e
