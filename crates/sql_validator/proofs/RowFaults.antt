-- Whether a value is of a type, as a test and as a statement.
use Rattle.std.proofs.Common.{◌≡◌, ◌∙◌, ap, sym, refl, arith, ℤ, Bool, true, false, ◌&&◌}
use Rattle.std.specs.Prelude.{◌↔◌, IsTrue}
use Rattle.std.proofs.lemmas.Int.{ints}
use Rattle.cal_value.specs.declared.interval.Interval.{Interval}
use Rattle.cal_value.specs.declared.interval.Interval.TheVariants.{Never, Range}
use Rattle.cal_value.specs.declared.kind.Kind.{Kind}
use Rattle.cal_value.specs.declared.kind.Kind.TheVariants.{Boolean, Integer, Text as TextKind}
use Rattle.cal_value.specs.declared.kind.SqlType.{SqlType}
use Rattle.cal_value.specs.declared.value.Value.{Value}
use Rattle.cal_value.specs.declared.value.Value.TheVariants.{Null, Bool as BoolValue, Int, Text}
use Rattle.cal_value.specs.Interval.{Holds, holds}
use Rattle.cal_value.specs.Types.{IsOfType, is_integer, same_kind}
use Rattle.cal_value.proofs.TypeLemmas.{and-both, same_kind-is}
use Rattle.sql_validator.specs.Refusal.{is_of_type}

same_kind-self : (k : Kind) → same_kind k k ≡ true
same_kind-self Boolean = refl
same_kind-self Integer = refl
same_kind-self TextKind = refl

kind-told : (k l : Kind) → k ≡ l → same_kind k l ≡ true
kind-told k l e = ap (λ x. same_kind x l) e ∙ same_kind-self l

holds-told : (i : Interval) (n : ℤ) → Holds i n → holds i n ≡ true
holds-told Never n h = absurd h
holds-told (Range lo hi) n h = grind (arith, ints, h.0, h.1)

holds-says : (i : Interval) (n : ℤ) → holds i n ≡ true → Holds i n
holds-says Never n e = absurd (cc)
holds-says (Range lo hi) n e = (grind (arith, ints, e), grind (arith, ints, e))

and-true : (p q : Bool) → p ≡ true → q ≡ true → (p && q) ≡ true
and-true p q e f = ap (λ b. b && q) e ∙ f

typed-told : (v : Value) (t : SqlType) → IsOfType v t → is_of_type t v ≡ true
typed-told Null t h = h
typed-told (BoolValue b) t h = kind-told t.kind Boolean h
typed-told (Int n) t h = and-true (is_integer t) (holds t.interval n) (kind-told t.kind Integer h.0) (holds-told t.interval n h.1)
typed-told (Text s) t h = kind-told t.kind TextKind h

typed-says : (v : Value) (t : SqlType) → is_of_type t v ≡ true → IsOfType v t
typed-says Null t e = e
typed-says (BoolValue b) t e = same_kind-is t.kind Boolean e
typed-says (Int n) t e = let p = and-both (is_integer t) (holds t.interval n) e in (same_kind-is t.kind Integer p.0, holds-says t.interval n p.1)
typed-says (Text s) t e = same_kind-is t.kind TextKind e

same-truth : (b c : Bool) → (b ≡ true → c ≡ true) → (c ≡ true → b ≡ true) → b ≡ c
same-truth true c f g = sym (f refl)
same-truth false true f g = g refl
same-truth false false f g = refl

pub type-told : (b : Bool) (t : SqlType) (v : Value) → IsTrue b ↔ IsOfType v t → b ≡ is_of_type t v
type-told b t v h = same-truth b (is_of_type t v) (λ e. typed-told v t (h.0 e)) (λ e. h.1 (typed-says v t e))

pub ruleset row_rules = (type-told)
