-- What the laws of narrower columns and narrower arguments say.
use Rattle.std.specs.Prelude.{Option, Some, None, ⊤}
use Rattle.cal_value.specs.declared.kind.SqlType.{SqlType}
use Rattle.cal_value.specs.Types.{IsAtMostAsWide}

-- where the second is a type, the first is one that is at most as wide
abbrev pub StillTyped : Option SqlType → Option SqlType → Type 0
StillTyped o None = ⊤
StillTyped None (Some t) = ⊥
StillTyped (Some s) (Some t) = IsAtMostAsWide s t
