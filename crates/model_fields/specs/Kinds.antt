-- The kinds of JSON values, and texts.
use Rattle.std.specs.Prelude.{ℕ, suc, List, length, nat_lt, if◌then◌else◌, Option, Some, None, Result, Ok, ⊤}
use Rattle.std.specs.Str.{bytes_eq, chars}
use Rattle.serde_json.specs.Data.{Data, Items, no_items, item}
use Rattle.serde_json.specs.Find.{as_str, as_array, as_object}
use Rattle.cal_value.specs.declared.limits.TheConstants.{NAME_LIMIT, TEXT_LIMIT}
use Rattle.model_fields.specs.declared.fault.ModelCause.TheVariants.{WrongKind, BadValue, TextTooLong}
use Rattle.model_fields.specs.declared.fault.ModelFault.{ModelFault}
use Rattle.model_fields.specs.Reading.{◌>>=◌, bad}

-- a value of the kind that its rule takes
abbrev pub of_kind : {A : Type 0} → Option A → Result A ModelFault
of_kind None = bad WrongKind
of_kind (Some x) = Ok x

abbrev pub a_list : Data → Result Items ModelFault
a_list d = of_kind (as_array d)

abbrev pub shown : {A : Type 0} → Option A → Data → Result Data ModelFault
shown None d = bad WrongKind
shown (Some m) d = Ok d

-- the object itself
abbrev pub an_object : Data → Result Data ModelFault
an_object d = shown (as_object d) d

abbrev pub count : Items → ℕ
count no_items = 0
count (item d ds) = suc (count ds)

-- ---- texts: the bytes of at most so many characters

abbrev pub short : ℕ → List ℕ → Result (List ℕ) ModelFault
short limit s = if nat_lt limit (length (chars s)) then bad TextTooLong else Ok s

abbrev pub short_text : ℕ → Data → Result (List ℕ) ModelFault
short_text limit d = of_kind (as_str d) >>= short limit

abbrev pub text : Data → Result (List ℕ) ModelFault
text d = short_text TEXT_LIMIT d

-- the text of a name that is defined here
abbrev pub name : Data → Result (List ℕ) ModelFault
name d = short_text NAME_LIMIT d

-- one text alone
abbrev pub word : List ℕ → Data → Result ⊤ ModelFault
word w d = text d >>= λ s. if bytes_eq s w then Ok tt else bad BadValue
