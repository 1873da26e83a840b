-- The value of each kind of expression is of its type, where those of its parts are.
use Rattle.std.proofs.Common.{◌≡◌, Bool, true, false, cond, refl, pos, ◌-ℤ◌, Option, Some, None}
use Rattle.std.specs.Option.{option_and_then, option_map}
use Rattle.std.specs.Int.Signed.{≤ℤ_refl}
use Rattle.cal_value.specs.declared.interval.Interval.TheVariants.{Range}
use Rattle.cal_value.specs.declared.kind.Kind.TheVariants.{Boolean, Integer}
use Rattle.cal_value.specs.declared.kind.SqlType.{SqlType}
use Rattle.cal_value.specs.declared.operator.Op.{Op}
use Rattle.cal_value.specs.declared.value.Value.{Value}
use Rattle.cal_value.specs.declared.value.Value.TheVariants.{Null, Bool as BoolValue, Int, Text}
use Rattle.cal_value.specs.Interval.{negated as negated_interval}
use Rattle.cal_value.specs.Logic.{not3, truth_of, value_of, is_null}
use Rattle.cal_value.specs.Types.{IsOfType, boolean_type, integer_type, text_type, number_type, is_integer, is_boolean}
use Rattle.cal_value.proofs.IntervalLaws.{negation-holds}
use Rattle.cal_value.proofs.TypeLemmas.{split_if, same_kind-is, some_is, number_type-is, along}
use Rattle.cal_expr.specs.Meaning.{applied, negated}
use Rattle.cal_expr.specs.Typing.{literal_type, column_type, negation_type, not_type, op_type, of_both}
use Rattle.cal_expr.proofs.Typed.{Typed, applied-typed}

pub binary-typed : (op : Op) (a b : Value) (o p : Option SqlType) → Typed a o → Typed b p → Typed (applied op a b) (of_both (op_type op) o p)
binary-typed op a b None p h k u e = absurd (cc)
binary-typed op a b (Some s) None h k u e = absurd (cc)
binary-typed op a b (Some s) (Some t) h k u e = applied-typed op a b s t u (h s refl) (k t refl) e

pub unary-typed : (f : Value → Value) (g : SqlType → Option SqlType) → ((a : Value) (s u : SqlType) → IsOfType a s → g s ≡ Some u → IsOfType (f a) u)
    → (a : Value) (o : Option SqlType) → Typed a o → Typed (f a) (option_and_then g o)
unary-typed f g step a None h u e = absurd (cc)
unary-typed f g step a (Some s) h u e = step a s u (h s refl) e

pub negation-typed : (a : Value) (s u : SqlType) → IsOfType a s → negation_type s ≡ Some u → IsOfType (negated a) u
negation-typed a s u h e =
    let p = split_if (is_integer s) (number_type s.nullable (negated_interval s.interval)) u e in
    by a h (same_kind-is s.kind Integer p.0) (number_type-is s.nullable (negated_interval s.interval) u p.1).1
  where
    whole : SqlType
    whole = integer_type s.nullable (negated_interval s.interval)

    by : (a : Value) → IsOfType a s → s.kind ≡ Integer → whole ≡ u → IsOfType (negated a) u
    by Null h k n = along Null whole u n h
    by (BoolValue b) h k n = absurd (cc)
    by (Int x) h k n = along (Int (pos 0 -ℤ x)) whole u n (refl, negation-holds s.interval x h.1)
    by (Text b) h k n = absurd (cc)

pub not-typed : (a : Value) (s u : SqlType) → IsOfType a s → not_type s ≡ Some u → IsOfType (value_of (not3 (truth_of a))) u
not-typed a s u h e =
    let p = split_if (is_boolean s) (Some (boolean_type s.nullable)) u e in
    along (value_of (not3 (truth_of a))) (boolean_type s.nullable) u (some_is (boolean_type s.nullable) u p.1) (by a h (same_kind-is s.kind Boolean p.0))
  where
    by : (a : Value) → IsOfType a s → s.kind ≡ Boolean → IsOfType (value_of (not3 (truth_of a))) (boolean_type s.nullable)
    by Null h k = h
    by (BoolValue true) h k = refl
    by (BoolValue false) h k = refl
    by (Int x) h k = let g = h.0 in absurd (cc)
    by (Text x) h k = absurd (cc)

pub null-typed : (a : Value) (o : Option SqlType) → Typed (BoolValue (is_null a)) (option_map (λ _. boolean_type false) o)
null-typed a None u e = absurd (cc)
null-typed a (Some s) u e = along (BoolValue (is_null a)) (boolean_type false) u (some_is (boolean_type false) u e) refl

pub literal-typed : (v : Value) → Typed v (literal_type v)
literal-typed Null u e = absurd (cc)
literal-typed (BoolValue b) u e = along (BoolValue b) (boolean_type false) u (some_is (boolean_type false) u e) refl
literal-typed (Int n) u e = along (Int n) (integer_type false (Range n n)) u (number_type-is false (Range n n) u e).1 (refl, (≤ℤ_refl n, ≤ℤ_refl n))
literal-typed (Text t) u e = along (Text t) (text_type false) u (some_is (text_type false) u e) refl

-- a type of numbers is the type of its interval
as_integer : (v : Value) (t : SqlType) → t.kind ≡ Integer → IsOfType v t → IsOfType v (integer_type t.nullable t.interval)
as_integer Null t k h = h
as_integer (BoolValue b) t k h = absurd (cc)
as_integer (Int n) t k h = (refl, h.1)
as_integer (Text x) t k h = absurd (cc)

of_column_type : (v : Value) (t u : SqlType) → IsOfType v t → column_type t ≡ Some u → IsOfType v u
of_column_type v t u h e = by (is_integer t) refl e
  where
    by : (b : Bool) → is_integer t ≡ b → cond b (number_type t.nullable t.interval) (Some t) ≡ Some u → IsOfType v u
    by true k e = along v (integer_type t.nullable t.interval) u (number_type-is t.nullable t.interval u e).1 (as_integer v t (same_kind-is t.kind Integer k) h)
    by false k e = along v t u (some_is t u e) h

pub column-typed : (v : Value) (o : Option SqlType) → Typed v o → Typed v (option_and_then column_type o)
column-typed v None h u e = absurd (cc)
column-typed v (Some t) h u e = of_column_type v t u (h t refl) e
