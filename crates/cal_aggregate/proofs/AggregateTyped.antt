-- The value of an aggregate is of its type.
use Rattle.std.proofs.Common.{◌≡◌, ℕ, suc, ◌+◌, ◌<◌, ◌≤◌, refl, ap, ◌∙◌, sym, subst, arith, ℤ, pos, ◌+ℤ◌, Bool, true, false, cond, List, [], ◌∷◌, length, take, length-take, get_or, Option, Some, None, IsSome, All}
use Rattle.std.specs.List.{fold}
use Rattle.std.specs.Ordering.{is_lt}
use Rattle.std.proofs.lemmas.Int.{ints}
use Rattle.std.proofs.lemmas.List.Elements.{All-head, All-tail, All-take}
use Rattle.std.proofs.lemmas.List.{take_all}
use Rattle.std.proofs.lemmas.List.Sums.{fold_more}
use Rattle.cal_value.specs.declared.interval.Interval.{Interval}
use Rattle.cal_value.specs.declared.kind.Kind.TheVariants.{Integer}
use Rattle.cal_value.specs.declared.kind.SqlType.{SqlType}
use Rattle.cal_value.specs.declared.operator.Agg.{Agg}
use Rattle.cal_value.specs.declared.operator.Agg.TheVariants.{Count, Sum, Sum0, Min, Max}
use Rattle.cal_value.specs.declared.value.Value.{Value}
use Rattle.cal_value.specs.declared.value.Value.TheVariants.{Null, Bool as BoolValue, Int, Text}
use Rattle.cal_aggregate.specs.Aggregate.{start, plus, lesser, greater, combined, aggregated}
use Rattle.cal_aggregate.specs.Combine.{CanCombine}
use Rattle.cal_aggregate.specs.ResultType.{counts, sums, with_zero, IsBounded, agg_type, AreArguments, IsAggregable, IsWellAggregated}
use Rattle.cal_value.specs.Held.{IsHeld}
use Rattle.cal_value.specs.Interval.{Holds, is_in_range}
use Rattle.cal_value.specs.Order.{value_cmp}
use Rattle.cal_value.specs.Types.{IsOfType, number_type, integer_type, is_integer}
use Rattle.cal_aggregate.proofs.SumLemmas.{IsSum, IsSum-none, IsSum-more, counts-holds, sums-holds, sums0-holds}
use Rattle.cal_value.proofs.TypeLemmas.{split_if, same_kind-is, some_is, number_type-is, along, typed-held}

-- ---- a fold keeps what each step keeps, with one more

fold-keeps : {A B : Type 0} (f : B → A → B) (Q : A → Type 0) (P : ℕ → B → Type 0) → ((k : ℕ) (b : B) (x : A) → Q x → P k b → P (suc k) (f b x))
    → (xs : List A) (k : ℕ) (b : B) → All Q xs → P k b → P (k + length xs) (fold f b xs)
fold-keeps f Q P step [] k b all p = let e : k ≡ k + 0 = omega arith in subst (λ n. P n b) e p
fold-keeps f Q P step (x ∷ xs) k b all p =
    let e : suc k + length xs ≡ k + suc (length xs) = omega arith in
    subst (λ n. P n (fold f (f b x) xs)) e (fold-keeps f Q P step xs (suc k) (f b x) (All-tail Q x xs all) (step k b x (All-head Q x xs all) p))

-- from no value to all of them
keeps : {A B : Type 0} (f : B → A → B) (Q : A → Type 0) (P : ℕ → B → Type 0) → ((k : ℕ) (b : B) (x : A) → Q x → P k b → P (suc k) (f b x))
    → (xs : List A) (b : B) → All Q xs → P 0 b → P (length xs) (fold f b xs)
keeps f Q P step xs b all p =
    let e : 0 + length xs ≡ length xs = omega arith in
    subst (λ n. P n (fold f b xs)) e (fold-keeps f Q P step xs 0 b all p)

-- ---- counts

abbrev IsCounted : ℕ → Value → Type 0
IsCounted k Null = ⊥
IsCounted k (BoolValue b) = ⊥
IsCounted k (Int s) = (j : ℕ) × (j ≤ k) × (s ≡ pos j)
IsCounted k (Text t) = ⊥

count_more : (k : ℕ) (a : Value) → IsCounted k a → IsCounted (suc k) (plus a (Int (pos 1)))
count_more k Null h = absurd h
count_more k (BoolValue b) h = absurd h
count_more k (Int s) h = (suc h.0, omega (arith, h.1), omega (arith, ints, h.2))
count_more k (Text t) h = absurd h

count_same : (k : ℕ) (a : Value) → IsCounted k a → IsCounted (suc k) a
count_same k Null h = absurd h
count_same k (BoolValue b) h = absurd h
count_same k (Int s) h = (h.0, omega (arith, h.1), h.2)
count_same k (Text t) h = absurd h

count_step : (k : ℕ) (a v : Value) → IsCounted k a → IsCounted (suc k) (combined Count a v)
count_step k a Null h = count_same k a h
count_step k a (BoolValue b) h = count_more k a h
count_step k a (Int n) h = count_more k a h
count_step k a (Text t) h = count_more k a h

-- ---- sums

-- NULL, or the sum of at least one number
abbrev IsSummed : Interval → ℕ → Value → Type 0
IsSummed i k Null = Unit {0}
IsSummed i k (BoolValue b) = ⊥
IsSummed i k (Int s) = (j : ℕ) × (1 ≤ j) × (j ≤ k) × IsSum i j s
IsSummed i k (Text t) = ⊥

-- the sum of some numbers, or of none
abbrev IsSummed0 : Interval → ℕ → Value → Type 0
IsSummed0 i k Null = ⊥
IsSummed0 i k (BoolValue b) = ⊥
IsSummed0 i k (Int s) = (j : ℕ) × (j ≤ k) × IsSum i j s
IsSummed0 i k (Text t) = ⊥

sum_more : (i : Interval) (k : ℕ) (a : Value) (n : ℤ) → Holds i n → IsSummed i k a → IsSummed i (suc k) (plus a (Int n))
sum_more i k Null n w h =
    let one : IsSum i 1 (pos 0 +ℤ n) = IsSum-more i 0 (pos 0) n (IsSum-none i) w in
    (1, omega arith, omega arith, subst (IsSum i 1) (omega (arith, ints)) one)
sum_more i k (BoolValue b) n w h = absurd h
sum_more i k (Int s) n w h = (suc h.0, omega arith, omega (arith, h.2), IsSum-more i h.0 s n h.3 w)
sum_more i k (Text t) n w h = absurd h

sum_same : (i : Interval) (k : ℕ) (a : Value) → IsSummed i k a → IsSummed i (suc k) a
sum_same i k Null h = tt
sum_same i k (BoolValue b) h = absurd h
sum_same i k (Int s) h = (h.0, h.1, omega (arith, h.2), h.3)
sum_same i k (Text t) h = absurd h

sum_step : (t : SqlType) → t.kind ≡ Integer → (k : ℕ) (a v : Value) → IsOfType v t → IsSummed t.interval k a → IsSummed t.interval (suc k) (combined Sum a v)
sum_step t int k a Null w h = sum_same t.interval k a h
sum_step t int k a (BoolValue b) w h = absurd (cc)
sum_step t int k a (Int n) w h = sum_more t.interval k a n w.1 h
sum_step t int k a (Text s) w h = absurd (cc)

sum0_more : (i : Interval) (k : ℕ) (a : Value) (n : ℤ) → Holds i n → IsSummed0 i k a → IsSummed0 i (suc k) (plus a (Int n))
sum0_more i k Null n w h = absurd h
sum0_more i k (BoolValue b) n w h = absurd h
sum0_more i k (Int s) n w h = (suc h.0, omega (arith, h.1), IsSum-more i h.0 s n h.2 w)
sum0_more i k (Text t) n w h = absurd h

sum0_same : (i : Interval) (k : ℕ) (a : Value) → IsSummed0 i k a → IsSummed0 i (suc k) a
sum0_same i k Null h = absurd h
sum0_same i k (BoolValue b) h = absurd h
sum0_same i k (Int s) h = (h.0, omega (arith, h.1), h.2)
sum0_same i k (Text t) h = absurd h

sum0_step : (t : SqlType) → t.kind ≡ Integer → (k : ℕ) (a v : Value) → IsOfType v t → IsSummed0 t.interval k a → IsSummed0 t.interval (suc k) (combined Sum0 a v)
sum0_step t int k a Null w h = sum0_same t.interval k a h
sum0_step t int k a (BoolValue b) w h = absurd (cc)
sum0_step t int k a (Int n) w h = sum0_more t.interval k a n w.1 h
sum0_step t int k a (Text s) w h = absurd (cc)

-- ---- the least and the greatest

abbrev nullable_type : SqlType → SqlType
nullable_type t = record t { nullable = true }

of_nullable : (t : SqlType) (v : Value) → IsOfType v t → IsOfType v (nullable_type t)
of_nullable t Null h = refl
of_nullable t (BoolValue b) h = h
of_nullable t (Int n) h = h
of_nullable t (Text s) h = h

of_either : (t : SqlType) (c : Bool) (a v : Value) → IsOfType a t → IsOfType v t → IsOfType (cond c v a) t
of_either t true a v h w = w
of_either t false a v h w = h

lesser-typed : (t : SqlType) (a v : Value) → IsOfType a t → IsOfType v t → IsOfType (lesser a v) t
lesser-typed t Null v h w = w
lesser-typed t (BoolValue b) v h w = of_either t (is_lt (value_cmp v (BoolValue b))) (BoolValue b) v h w
lesser-typed t (Int n) v h w = of_either t (is_lt (value_cmp v (Int n))) (Int n) v h w
lesser-typed t (Text s) v h w = of_either t (is_lt (value_cmp v (Text s))) (Text s) v h w

greater-typed : (t : SqlType) (a v : Value) → IsOfType a t → IsOfType v t → IsOfType (greater a v) t
greater-typed t Null v h w = w
greater-typed t (BoolValue b) v h w = of_either t (is_lt (value_cmp (BoolValue b) v)) (BoolValue b) v h w
greater-typed t (Int n) v h w = of_either t (is_lt (value_cmp (Int n) v)) (Int n) v h w
greater-typed t (Text s) v h w = of_either t (is_lt (value_cmp (Text s) v)) (Text s) v h w

min_step : (t : SqlType) (k : ℕ) (a v : Value) → IsOfType v t → IsOfType a (nullable_type t) → IsOfType (combined Min a v) (nullable_type t)
min_step t k a Null w h = h
min_step t k a (BoolValue b) w h = lesser-typed (nullable_type t) a (BoolValue b) h w
min_step t k a (Int n) w h = lesser-typed (nullable_type t) a (Int n) h w
min_step t k a (Text s) w h = lesser-typed (nullable_type t) a (Text s) h w

max_step : (t : SqlType) (k : ℕ) (a v : Value) → IsOfType v t → IsOfType a (nullable_type t) → IsOfType (combined Max a v) (nullable_type t)
max_step t k a Null w h = h
max_step t k a (BoolValue b) w h = greater-typed (nullable_type t) a (BoolValue b) h w
max_step t k a (Int n) w h = greater-typed (nullable_type t) a (Int n) h w
max_step t k a (Text s) w h = greater-typed (nullable_type t) a (Text s) h w

-- ---- the whole list

-- of any values
abbrev IsAny : Value → Type 0
IsAny v = Unit {0}

all_any : (vs : List Value) → All IsAny vs
all_any vs k d lt = tt

count-typed : (n : ℕ) (vs : List Value) → IsBounded (length vs) n → (u : SqlType) → number_type false (counts n) ≡ Some u → IsOfType (aggregated Count vs) u
count-typed n vs few u e = by (aggregated Count vs) (keeps (combined Count) IsAny IsCounted (λ k a v w h. count_step k a v h) vs (Int (pos 0)) (all_any vs) (0, omega arith, refl)) (number_type-is false (counts n) u e)
  where
    by : (v : Value) → IsCounted (length vs) v → (is_in_range (counts n) ≡ true) × (integer_type false (counts n) ≡ u) → IsOfType v u
    by Null h p = absurd h
    by (BoolValue b) h p = absurd h
    by (Int s) h p = along (Int s) (integer_type false (counts n)) u p.1 (refl, counts-holds n (length vs) h.0 s few h.1 h.2 p.0)
    by (Text b) h p = absurd h

-- of values of a type
module _ (t : SqlType) (n : ℕ) (vs : List Value) (all : All (λ v. IsOfType v t) vs) (few : IsBounded (length vs) n) where
  sum-typed : (u : SqlType) → agg_type Sum (Some t) n ≡ Some u → IsOfType (aggregated Sum vs) u
  sum-typed u e =
      let p = split_if (is_integer t) (number_type true (sums n t.interval)) u e in
      by (aggregated Sum vs) (keeps (combined Sum) (λ v. IsOfType v t) (IsSummed t.interval) (λ k a v w h. sum_step t (same_kind-is t.kind Integer p.0) k a v w h) vs Null all tt) (number_type-is true (sums n t.interval) u p.1)
    where
      by : (v : Value) → IsSummed t.interval (length vs) v → (is_in_range (sums n t.interval) ≡ true) × (integer_type true (sums n t.interval) ≡ u) → IsOfType v u
      by Null h p = along Null (integer_type true (sums n t.interval)) u p.1 refl
      by (BoolValue b) h p = absurd h
      by (Int s) h p = along (Int s) (integer_type true (sums n t.interval)) u p.1 (refl, sums-holds n (length vs) h.0 t.interval s few h.1 h.2 h.3 p.0)
      by (Text b) h p = absurd h

  sum0-typed : (u : SqlType) → agg_type Sum0 (Some t) n ≡ Some u → IsOfType (aggregated Sum0 vs) u
  sum0-typed u e =
      let p = split_if (is_integer t) (number_type false (with_zero (sums n t.interval))) u e in
      by (aggregated Sum0 vs) (keeps (combined Sum0) (λ v. IsOfType v t) (IsSummed0 t.interval) (λ k a v w h. sum0_step t (same_kind-is t.kind Integer p.0) k a v w h) vs (Int (pos 0)) all (0, omega arith, IsSum-none t.interval)) (number_type-is false (with_zero (sums n t.interval)) u p.1)
    where
      by : (v : Value) → IsSummed0 t.interval (length vs) v → (is_in_range (with_zero (sums n t.interval)) ≡ true) × (integer_type false (with_zero (sums n t.interval)) ≡ u) → IsOfType v u
      by Null h p = absurd h
      by (BoolValue b) h p = absurd h
      by (Int s) h p = along (Int s) (integer_type false (with_zero (sums n t.interval))) u p.1 (refl, sums0-holds n (length vs) h.0 t.interval s few h.1 h.2 p.0)
      by (Text b) h p = absurd h

  min-typed : (u : SqlType) → agg_type Min (Some t) n ≡ Some u → IsOfType (aggregated Min vs) u
  min-typed u e = along (aggregated Min vs) (nullable_type t) u (some_is (nullable_type t) u e)
      (keeps (combined Min) (λ v. IsOfType v t) (λ k a. IsOfType a (nullable_type t)) (λ k a v w h. min_step t k a v w h) vs Null all refl)

  max-typed : (u : SqlType) → agg_type Max (Some t) n ≡ Some u → IsOfType (aggregated Max vs) u
  max-typed u e = along (aggregated Max vs) (nullable_type t) u (some_is (nullable_type t) u e)
      (keeps (combined Max) (λ v. IsOfType v t) (λ k a. IsOfType a (nullable_type t)) (λ k a v w h. max_step t k a v w h) vs Null all refl)

  of_type : (agg : Agg) (u : SqlType) → agg_type agg (Some t) n ≡ Some u → IsOfType (aggregated agg vs) u
  of_type Count = count-typed n vs few
  of_type Sum = sum-typed
  of_type Sum0 = sum0-typed
  of_type Min = min-typed
  of_type Max = max-typed

without_argument : (n : ℕ) (vs : List Value) → IsBounded (length vs) n → (agg : Agg) (u : SqlType) → agg_type agg None n ≡ Some u → IsOfType (aggregated agg vs) u
without_argument n vs few Count u e = count-typed n vs few u e
without_argument n vs few Sum u e = absurd (cc)
without_argument n vs few Sum0 u e = absurd (cc)
without_argument n vs few Min u e = absurd (cc)
without_argument n vs few Max u e = absurd (cc)

pub aggregated-typed : (argument : Option SqlType) (n : ℕ) (vs : List Value) → AreArguments vs argument → IsBounded (length vs) n → (agg : Agg) (u : SqlType) → agg_type agg argument n ≡ Some u → IsOfType (aggregated agg vs) u
aggregated-typed None n vs all few = without_argument n vs few
aggregated-typed (Some t) n vs all few = of_type t n vs all few

-- ---- what the code asks at each value

take-arguments : (argument : Option SqlType) (vs : List Value) (k : ℕ) → AreArguments vs argument → AreArguments (take k vs) argument
take-arguments None vs k all = tt
take-arguments (Some t) vs k all = All-take (λ v. IsOfType v t) k vs all

-- more of the list has a bound where all of it has
pub take-aggregable : (agg : Agg) (vs : List Value) (k : ℕ) → IsAggregable agg vs → IsAggregable agg (take k vs)
take-aggregable agg vs k w = record {
  argument = w.argument;
  bound = w.bound;
  of_type = take-arguments w.argument vs k w.of_type;
  bounded = λ l. let few = w.bounded l in omega (arith, length-take k vs);
  typed = w.typed;
}

some_of : {X : Type 0} (o : Option X) → IsSome o → (x : X) × (o ≡ Some x)
some_of None s = absurd (cc)
some_of (Some x) s = (x, refl)

-- an aggregate that adds has a type of numbers
IsNumeric : Agg → Type 0
IsNumeric agg = (argument : Option SqlType) (n : ℕ) (u : SqlType) → agg_type agg argument n ≡ Some u → (nullable : Bool) × (i : Interval) × (number_type nullable i ≡ Some u)

count-numeric : IsNumeric Count
unfolding IsNumeric
count-numeric argument n u e = (false, counts n, e)

sum-numeric : IsNumeric Sum
unfolding IsNumeric
sum-numeric None n u e = absurd (cc)
sum-numeric (Some t) n u e = (true, sums n t.interval, (split_if (is_integer t) (number_type true (sums n t.interval)) u e).1)

sum0-numeric : IsNumeric Sum0
unfolding IsNumeric
sum0-numeric None n u e = absurd (cc)
sum0-numeric (Some t) n u e = (false, with_zero (sums n t.interval), (split_if (is_integer t) (number_type false (with_zero (sums n t.interval))) u e).1)

-- the sum so far is a number of 128 bits
held : (agg : Agg) (vs : List Value) (v : Value) → IsNumeric agg → IsAggregable agg vs → aggregated agg vs ≡ v → IsHeld v
unfolding IsNumeric
held agg vs v numeric w e =
    let u = some_of (agg_type agg w.argument w.bound) w.typed in
    let p = numeric w.argument w.bound u.0 u.1 in
    subst IsHeld e (typed-held (aggregated agg vs) p.0 p.1 u.0 p.2 (aggregated-typed w.argument w.bound vs w.of_type w.bounded agg u.0 u.1))

aggregated-held : (agg : Agg) (vs : List Value) (so_far v : Value) → IsAggregable agg vs → aggregated agg vs ≡ combined agg so_far v → CanCombine agg so_far v
aggregated-held Count vs a v w e = held Count vs (combined Count a v) count-numeric w e
aggregated-held Sum vs a v w e = held Sum vs (combined Sum a v) sum-numeric w e
aggregated-held Sum0 vs a v w e = held Sum0 vs (combined Sum0 a v) sum0-numeric w e
aggregated-held Min vs a v w e = tt
aggregated-held Max vs a v w e = tt

-- at one value of a loop over `us`, which are `vs`
pub can_combine : (agg : Agg) (us vs : List Value) (k : ℕ) (so_far v : Value) → us ≡ vs → IsAggregable agg vs → k < length us → so_far ≡ aggregated agg (take k vs) → v ≡ get_or us k v → CanCombine agg so_far v
can_combine agg us vs k a v same w l e f =
    let f' : v ≡ get_or vs k v = f ∙ ap (λ z. get_or z k v) same in
    aggregated-held agg (take (k + 1) vs) a v (take-aggregable agg vs (k + 1) w)
    (fold_more (combined agg) (start agg) vs k v (omega (arith, ap length same)) ∙ ap (λ z. combined agg z (get_or vs k v)) (sym e) ∙ ap (combined agg a) (sym f'))

-- at the end of that loop
pub well_aggregated : (agg : Agg) (vs : List Value) (k : ℕ) (v : Value) → v ≡ aggregated agg (take k vs) → length vs ≤ k → IsWellAggregated agg vs v
well_aggregated agg vs k v e l argument u n all few is = subst (λ z. IsOfType z u) (sym (e ∙ ap (aggregated agg) (take_all k vs l))) (aggregated-typed argument n vs all few agg u is)
