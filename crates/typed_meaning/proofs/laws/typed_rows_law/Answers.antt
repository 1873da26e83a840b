use Rattle.typed_meaning.proofs.Rows.{loops-typed, found-typed, row-types}
use Rattle.typed_meaning.proofs.laws.typed_rows_law.Goals as goal

pub returns : goal.returns
returns c = record {
  loops = λ schema db select fits. loops-typed schema db fits select;
  found = λ schema db select fits. found-typed schema db fits select;
  types = row-types;
}
