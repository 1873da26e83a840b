use Rattle.std.proofs.Common.{◌≡◌, true}
use Rattle.expr_parts.proofs.ConjunctLaws.{conjunction-true, conjunction-reads}
use Rattle.expr_parts.proofs.laws.conjunction_law.Goals as goal

pub returns : goal.returns
returns c = record { rows = conjunction-true; columns = λ within. conjunction-reads (λ at. within at ≡ true) }
