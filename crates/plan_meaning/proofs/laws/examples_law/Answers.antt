use Rattle.std.proofs.Common.{◌≡◌, Bool, [], ◌∷◌, map, filter, refl, ap, ◌∙◌}
use mathlib.Core.Path.{fun_ext}
use Rattle.cal_value.specs.declared.value.Value.TheVariants.{Bool as BoolValue}
use Rattle.cal_value.specs.Logic.{is_null, is_true}
use Rattle.cal_value.specs.Order.{column_of}
use Rattle.cal_expr.specs.declared.expr.Expr.TheVariants.{Column, IsNull}
use Rattle.cal_rel.specs.Examples.{four}
use Rattle.cal_rel.specs.Operators.{Row, holds, projected}
use Rattle.expr_parts.proofs.ExprSteps.{meaning-Column, meaning-IsNull}
use Rattle.plan_meaning.proofs.laws.examples_law.Goals as goal

null-test : (row : Row) → holds (IsNull (Column 0)) row ≡ is_null (column_of row 0)
null-test row = ap is_true (meaning-IsNull (Column 0) row ∙ ap (λ v. BoolValue (is_null v)) (meaning-Column 0 row))

second : (row : Row) → projected (Column 1 ∷ []) row ≡ column_of row 1 ∷ []
second row = ap (λ v. v ∷ []) (meaning-Column 1 row)

pub returns : goal.returns
returns c = λ info schema on. record {
  mem = refl;
  csv = refl;
  sorted = refl;
  filtered = ap (λ (p : Row → Bool). filter p four) (fun_ext null-test);
  projected = ap (λ (f : Row → Row). map f four) (fun_ext second);
  alone = refl;
  inner = refl;
  merged = refl;
  groups = refl;
  one_group = refl;
  tile = refl;
  no_tile = refl;
}
