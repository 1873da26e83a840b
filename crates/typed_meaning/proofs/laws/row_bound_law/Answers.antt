use Rattle.typed_meaning.proofs.Bounds.{loops-few, found-few}
use Rattle.typed_meaning.proofs.laws.row_bound_law.Goals as goal

pub returns : goal.returns
returns c = record {
  loops = λ schema db select fits. loops-few schema db fits select;
  found = λ schema db select fits. found-few schema db fits select;
}
