-- What the machine's numbers hold.
use Rattle.std.specs.Prelude.{FitsSigned, ⊤}
use Rattle.std.specs.Int.{w128}
use Rattle.cal_value.specs.declared.value.Value.{Value}
use Rattle.cal_value.specs.declared.value.Value.TheVariants.{Null, Bool as BoolValue, Int, Text}

-- a number of the value is one of 128 bits
abbrev pub IsHeld : Value → Type 0
IsHeld Null = ⊤
IsHeld (BoolValue b) = ⊤
IsHeld (Int n) = FitsSigned w128 n
IsHeld (Text t) = ⊤
