use Rattle.std.proofs.Common.{◌≡◌, take, Some}
use Rattle.cal_expr.specs.Typing as expressions
use Rattle.cal_rel.specs.Typing.{types_by}
use Rattle.cal_rel.proofs.typing.item_types.Given as goal

abbrev pub invariant-loop-item : goal.invariant-loop-item
invariant-loop-item l = types_by (λ item. expressions.type_of item l.columns) (take l.item-index l.items) ≡ Some l.types
