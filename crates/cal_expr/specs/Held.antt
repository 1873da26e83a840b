-- What the code of an operator asks of its operands.
use Rattle.std.specs.Prelude.{⊤}
use Rattle.cal_value.specs.declared.operator.Op.{Op}
use Rattle.cal_value.specs.declared.operator.Op.TheVariants.{Add, Subtract, Multiply, Divide}
use Rattle.cal_value.specs.declared.value.Value.{Value}
use Rattle.cal_value.specs.Held.{IsHeld}
use Rattle.cal_expr.specs.Meaning.{applied}

-- what the machine computes is a number of 128 bits
abbrev pub CanApply : Op → Value → Value → Type 0
CanApply Add a b = IsHeld (applied Add a b)
CanApply Subtract a b = IsHeld (applied Subtract a b)
CanApply Multiply a b = IsHeld (applied Multiply a b)
CanApply Divide a b = IsHeld (applied Divide a b)
CanApply op a b = ⊤
