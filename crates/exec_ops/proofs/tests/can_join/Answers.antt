use Rattle.std.proofs.Common.{List, IfSome, IsSome, subst}
use Rattle.cal_value.specs.declared.kind.SqlType.{SqlType}
use Rattle.cal_expr.specs.Typing.{type_of}
use Rattle.exec_ops.proofs.tests.can_join.Goals as goal

pub returns : goal.returns
returns c = λ typed. record {
  left_columns = c.in_ok-left_types.left_types;
  right_columns = c.in_ok-right_types.right_types;
  left_typed = c.have_types.ensures.0 c.if-not-have_types.false;
  right_typed = c.have_types-2.ensures.0 c.if-not-have_types-2.false;
  rest = subst (λ (ts : List SqlType). IfSome c.args.on.now.rest (λ e. IsSome (type_of e ts))) c.in_ok-both.ensures (c.is_typed.ensures.0 typed);
}
