-- The laws of aggregates.
use Rattle.std.proofs.Common.{◌≡◌, ℕ, ◌≤◌, refl, subst, arith, Bool, true, false, cond, Option, Some, None, IfSome}
use Rattle.std.proofs.lemmas.Int.{ints}
use Rattle.cal_value.specs.declared.interval.Interval.{Interval}
use Rattle.cal_value.specs.declared.kind.Kind.TheVariants.{Integer}
use Rattle.cal_value.specs.declared.kind.SqlType.{SqlType}
use Rattle.cal_value.specs.declared.operator.Agg.{Agg}
use Rattle.cal_value.specs.declared.operator.Agg.TheVariants.{Count, Sum, Sum0, Min, Max}
use Rattle.cal_aggregate.specs.ResultType.{counts, sums, with_zero, agg_type}
use Rattle.cal_value.specs.Interval.{IsProper, IsWithin}
use Rattle.cal_value.specs.Narrower.{StillTyped}
use Rattle.cal_value.specs.Types.{IsAtMostAsWide, IsProperType, number_type, is_integer}
use Rattle.cal_aggregate.proofs.SumLemmas.{within-counts, within-sums, within-with_zero, proper-sums, proper-with_zero}
use Rattle.cal_value.proofs.TypeLaws.{number_type-narrower}
use Rattle.cal_value.proofs.TypeLemmas.{same_kind-is, split_if, some_is, number_type-is}

-- ---- a narrower type and a lesser bound

module _ (s t : SqlType) (m n : ℕ) (w : IsAtMostAsWide s t) (l : m ≤ n) where
  -- of numbers
  numbers-narrower : (nullable : Bool) (f : ℕ → Interval → Interval) → (s.kind ≡ Integer → IsWithin (f m s.interval) (f n t.interval))
      → StillTyped (cond (is_integer s) (number_type nullable (f m s.interval)) None) (cond (is_integer t) (number_type nullable (f n t.interval)) None)
  numbers-narrower nullable f h = by (is_integer s) (is_integer t) refl refl
    where
      by : (p q : Bool) → is_integer s ≡ p → is_integer t ≡ q → StillTyped (cond p (number_type nullable (f m s.interval)) None) (cond q (number_type nullable (f n t.interval)) None)
      by p false e g = tt
      by true true e g = number_type-narrower nullable nullable (f m s.interval) (f n t.interval) (λ x. x) (h (same_kind-is s.kind Integer e))
      by false true e g = absurd (let k = w.kind in cc)

  of_narrower : (agg : Agg) → StillTyped (agg_type agg (Some s) m) (agg_type agg (Some t) n)
  of_narrower Count = number_type-narrower false false (counts m) (counts n) (λ x. x) (within-counts m n l)
  of_narrower Sum = numbers-narrower true sums (λ k. within-sums m n s.interval t.interval l (w.interval k))
  of_narrower Sum0 = numbers-narrower false (λ k i. with_zero (sums k i)) (λ k. within-with_zero (sums m s.interval) (sums n t.interval) (within-sums m n s.interval t.interval l (w.interval k)))
  of_narrower Min = record { kind = w.kind; nullable = λ x. refl; interval = w.interval }
  of_narrower Max = record { kind = w.kind; nullable = λ x. refl; interval = w.interval }

-- of no argument in the second place, COUNT alone has a type, which asks for none
of_none : (s : Option SqlType) (m n : ℕ) → m ≤ n → (agg : Agg) → StillTyped (agg_type agg s m) (agg_type agg None n)
of_none s m n l Count = number_type-narrower false false (counts m) (counts n) (λ x. x) (within-counts m n l)
of_none s m n l Sum = tt
of_none s m n l Sum0 = tt
of_none s m n l Min = tt
of_none s m n l Max = tt

pub agg_type-narrower : (s t : Option SqlType) (m n : ℕ) → StillTyped s t → m ≤ n → (agg : Agg) → StillTyped (agg_type agg s m) (agg_type agg t n)
agg_type-narrower s None m n w l agg = of_none s m n l agg
agg_type-narrower None (Some t) m n w l agg = absurd w
agg_type-narrower (Some s) (Some t) m n w l agg = of_narrower s t m n w l agg

-- ---- ends in order

proper-number : (nullable : Bool) (i : Interval) (u : SqlType) → IsProper i → number_type nullable i ≡ Some u → IsProperType u
proper-number nullable i u p e k = subst (λ t. IsProper t.interval) (number_type-is nullable i u e).1 p

-- of an argument whose ends are in order
of_proper : (agg : Agg) (t u : SqlType) (n : ℕ) → IsProperType t → agg_type agg (Some t) n ≡ Some u → IsProperType u
of_proper Count t u n p e = proper-number false (counts n) u (omega (arith, ints)) e
of_proper Sum t u n p e =
    let q = split_if (is_integer t) (number_type true (sums n t.interval)) u e in
    proper-number true (sums n t.interval) u (proper-sums n t.interval (p (same_kind-is t.kind Integer q.0))) q.1
of_proper Sum0 t u n p e =
    let q = split_if (is_integer t) (number_type false (with_zero (sums n t.interval))) u e in
    proper-number false (with_zero (sums n t.interval)) u (proper-with_zero (sums n t.interval)) q.1
of_proper Min t u n p e = subst IsProperType (some_is (record t { nullable = true }) u e) p
of_proper Max t u n p e = subst IsProperType (some_is (record t { nullable = true }) u e) p

of_no_argument : (agg : Agg) (u : SqlType) (n : ℕ) → agg_type agg None n ≡ Some u → IsProperType u
of_no_argument Count u n e = proper-number false (counts n) u (omega (arith, ints)) e
of_no_argument Sum u n e = absurd (cc)
of_no_argument Sum0 u n e = absurd (cc)
of_no_argument Min u n e = absurd (cc)
of_no_argument Max u n e = absurd (cc)

pub agg_type-proper : (agg : Agg) (t : Option SqlType) (u : SqlType) (n : ℕ) → IfSome t IsProperType → agg_type agg t n ≡ Some u → IsProperType u
agg_type-proper agg None u n p e = of_no_argument agg u n e
agg_type-proper agg (Some t) u n p e = of_proper agg t u n p e
