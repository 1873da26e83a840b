-- What the code asks of a value that it adds.
use Rattle.std.specs.Prelude.{⊤}
use Rattle.cal_value.specs.declared.operator.Agg.{Agg}
use Rattle.cal_value.specs.declared.operator.Agg.TheVariants.{Count, Sum, Sum0, Min, Max}
use Rattle.cal_value.specs.declared.value.Value.{Value}
use Rattle.cal_value.specs.Held.{IsHeld}
use Rattle.cal_aggregate.specs.Aggregate.{combined}

-- what the machine adds is a number of 128 bits
abbrev pub CanCombine : Agg → Value → Value → Type 0
CanCombine Count so_far v = IsHeld (combined Count so_far v)
CanCombine Sum so_far v = IsHeld (combined Sum so_far v)
CanCombine Sum0 so_far v = IsHeld (combined Sum0 so_far v)
CanCombine Min so_far v = ⊤
CanCombine Max so_far v = ⊤
