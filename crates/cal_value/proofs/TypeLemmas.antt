-- What the answers of type functions say.
use Rattle.std.proofs.Common.{◌≡◌, ℤ, ◌≤ℤ◌, Bool, true, false, cond, ◌&&◌, ◌||◌, refl, sym, subst, arith, Option, Some, None, FitsSigned}
use Rattle.std.specs.Int.{w128}
use Rattle.std.proofs.lemmas.Int.{ints}
use Rattle.cal_value.specs.declared.interval.Interval.{Interval}
use Rattle.cal_value.specs.declared.interval.Interval.TheVariants.{Never, Range}
use Rattle.cal_value.specs.declared.kind.Kind.{Kind}
use Rattle.cal_value.specs.declared.kind.Kind.TheVariants.{Boolean, Integer, Text as TextKind}
use Rattle.cal_value.specs.declared.kind.SqlType.{SqlType}
use Rattle.cal_value.specs.declared.value.Value.{Value}
use Rattle.cal_value.specs.declared.value.Value.TheVariants.{Null, Bool as BoolValue, Int, Text}
use Rattle.cal_value.specs.Held.{IsHeld}
use Rattle.cal_value.specs.Interval.{Holds, is_in_range, is_number}
use Rattle.cal_value.specs.Types.{IsOfType, number_type, integer_type, same_kind}

pub split_if : {X : Type 0} (b : Bool) (o : Option X) (u : X) → cond b o None ≡ Some u → (b ≡ true) × (o ≡ Some u)
split_if true o u e = (refl, e)
split_if false o u e = absurd (cc)

pub and-both : (p q : Bool) → (p && q) ≡ true → (p ≡ true) × (q ≡ true)
and-both true q e = (refl, e)
and-both false q e = absurd (cc)

pub or-left : (p q : Bool) → p ≡ true → (p || q) ≡ true
or-left true q e = refl
or-left false q e = absurd (cc)

pub or-right : (p q : Bool) → q ≡ true → (p || q) ≡ true
or-right true q e = refl
or-right false q e = e

pub same_kind-is : (k l : Kind) → same_kind k l ≡ true → k ≡ l
same_kind-is Boolean Boolean e = refl
same_kind-is Boolean Integer e = absurd (cc)
same_kind-is Boolean TextKind e = absurd (cc)
same_kind-is Integer Boolean e = absurd (cc)
same_kind-is Integer Integer e = refl
same_kind-is Integer TextKind e = absurd (cc)
same_kind-is TextKind Boolean e = absurd (cc)
same_kind-is TextKind Integer e = absurd (cc)
same_kind-is TextKind TextKind e = refl

pub some_is : {X : Type 0} (x y : X) → Some x ≡ Some y → x ≡ y
some_is x y e = cc

-- a type of numbers: its interval is in range, and it is that type
pub number_type-is : (nullable : Bool) (i : Interval) (u : SqlType) → number_type nullable i ≡ Some u → (is_in_range i ≡ true) × (integer_type nullable i ≡ u)
number_type-is nullable i u e =
    let p = split_if (is_in_range i) (Some (integer_type nullable i)) u e in
    (p.0, some_is (integer_type nullable i) u p.1)

-- of a type by the equation
pub along : (v : Value) (t u : SqlType) → t ≡ u → IsOfType v t → IsOfType v u
along v t u e h = subst (IsOfType v) e h

-- ---- a number of an interval in range is one of 128 bits

inside : (lo hi n : ℤ) → is_number lo ≡ true → is_number hi ≡ true → lo ≤ℤ n → n ≤ℤ hi → FitsSigned w128 n
inside lo hi n p q h k = grind (arith, ints)

pub holds-held : (i : Interval) (n : ℤ) → is_in_range i ≡ true → Holds i n → FitsSigned w128 n
holds-held Never n f h = absurd h
holds-held (Range lo hi) n f h = let p = and-both (is_number lo) (is_number hi) f in inside lo hi n p.0 p.1 h.0 h.1

pub typed-held : (v : Value) (n : Bool) (i : Interval) (u : SqlType) → number_type n i ≡ Some u → IsOfType v u → IsHeld v
typed-held v n i u e h = by v (along v u (integer_type n i) (sym (number_type-is n i u e).1) h)
  where
    by : (v : Value) → IsOfType v (integer_type n i) → IsHeld v
    by Null h = tt
    by (BoolValue b) h = tt
    by (Int x) h = holds-held i x (number_type-is n i u e).0 h.1
    by (Text t) h = tt
