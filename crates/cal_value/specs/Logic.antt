-- The logic of three truth values. None is the unknown one.
use Rattle.std.specs.Prelude.{Bool, true, false, Option, Some, None}
use Rattle.cal_value.specs.declared.value.Value.{Value}
use Rattle.cal_value.specs.declared.value.Value.TheVariants.{Null, Bool as BoolValue, Int, Text}

abbrev pub and3 : Option Bool → Option Bool → Option Bool
and3 (Some false) b = Some false
and3 (Some true) b = b
and3 None (Some false) = Some false
and3 None (Some true) = None
and3 None None = None

abbrev pub or3 : Option Bool → Option Bool → Option Bool
or3 (Some true) b = Some true
or3 (Some false) b = b
or3 None (Some true) = Some true
or3 None (Some false) = None
or3 None None = None

abbrev pub not3 : Option Bool → Option Bool
not3 (Some true) = Some false
not3 (Some false) = Some true
not3 None = None

-- the truth value that a value is, and unknown for NULL and for another kind
abbrev pub truth_of : Value → Option Bool
truth_of Null = None
truth_of (BoolValue b) = Some b
truth_of (Int n) = None
truth_of (Text t) = None

abbrev pub value_of : Option Bool → Value
value_of (Some b) = BoolValue b
value_of None = Null

abbrev pub is_null : Value → Bool
is_null Null = true
is_null (BoolValue b) = false
is_null (Int n) = false
is_null (Text t) = false

-- TRUE: NULL isn't, nor is a value of another kind
abbrev pub is_true : Value → Bool
is_true Null = false
is_true (BoolValue b) = b
is_true (Int n) = false
is_true (Text t) = false
