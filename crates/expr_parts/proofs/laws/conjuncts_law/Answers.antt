use Rattle.std.proofs.Common.{◌≡◌, true}
use Rattle.expr_parts.proofs.ConjunctLaws.{conjuncts-true, conjuncts-read}
use Rattle.expr_parts.proofs.laws.conjuncts_law.Goals as goal

pub returns : goal.returns
returns c = record { rows = conjuncts-true; columns = λ within. conjuncts-read (λ at. within at ≡ true) }
