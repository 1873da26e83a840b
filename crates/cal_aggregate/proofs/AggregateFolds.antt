-- Aggregates of parts and of lists in another order.
use Rattle.std.proofs.Common.{◌≡◌, ℕ, ◌+◌, refl, sym, ap, ◌∙◌, arith, ℤ, pos, ◌+ℤ◌, Bool, true, false, cond, not, List, [], ◌∷◌, ◌++◌, map, ◌⊎◌, inl, inr}
use Rattle.std.specs.Cmp.{IsStrictWeakOrder}
use Rattle.std.specs.List.{fold, count_by, flat_map}
use Rattle.std.specs.List.Sorted.{IsPermutation}
use Rattle.std.specs.Ordering.{is_lt, ordering_reverse}
use Rattle.std.specs.declared.cmp.Ordering.{Ordering}
use Rattle.std.specs.declared.cmp.Ordering.TheVariants.{Less, Equal, Greater}
use Rattle.std.proofs.lemmas.Int.{ints}
use Rattle.std.proofs.lemmas.List.Sorted.{ranks_by, IsStrictWeakOrder-flip}
use Rattle.std.proofs.lemmas.List.Sums.{fold-append}
use Rattle.cal_value.specs.declared.operator.Agg.{Agg}
use Rattle.cal_value.specs.declared.operator.Agg.TheVariants.{Count, Sum, Sum0, Min, Max}
use Rattle.cal_value.specs.declared.value.Value.{Value}
use Rattle.cal_value.specs.declared.value.Value.TheVariants.{Null, Bool as BoolValue, Int, Text}
use Rattle.cal_aggregate.specs.Aggregate.{start, plus, combined, aggregated, rolled, numbers, sum_of}
use Rattle.cal_value.specs.Equal.{value_eq}
use Rattle.cal_value.specs.EqualLaws.{value_eq-Decides}
use Rattle.cal_value.specs.Logic.{is_null}
use Rattle.cal_value.specs.Order.{value_cmp}
use Rattle.cal_value.proofs.BagLemmas.{fold-from_counts, count_by-IsPermutation, count_by-cons}
use Rattle.cal_value.proofs.OrderLemmas.{value_cmp_total, value_cmp-IsAntisymmetric}

-- ---- the first of two that isn't greater

module _ (lt : Value → Value → Bool) (o : IsStrictWeakOrder lt) (ties : (a b : Value) → lt a b ≡ false → lt b a ≡ false → a ≡ b) where
  abbrev pick : Value → Value → Value
  pick a b = cond (lt b a) b a

  taken : (a b : Value) → lt b a ≡ true → pick a b ≡ b
  taken a b e = ap (λ t. cond t b a) e

  left : (a b : Value) → lt b a ≡ false → pick a b ≡ a
  left a b e = ap (λ t. cond t b a) e

  true_or_false : (t : Bool) → (t ≡ true) ⊎ (t ≡ false)
  true_or_false true = inl refl
  true_or_false false = inr refl

  no_both : (t : Bool) → t ≡ true → t ≡ false → ⊥
  no_both t e f = cc

  -- none stands before itself
  pub alone : (a : Value) → lt a a ≡ false
  alone a = by (true_or_false (lt a a))
    where
      by : (lt a a ≡ true) ⊎ (lt a a ≡ false) → lt a a ≡ false
      by (inl t) = o.one_way a a t
      by (inr t) = t

  pick-assoc : (a v s : Value) → pick (pick a v) s ≡ pick a (pick v s)
  pick-assoc a v s = by (true_or_false (lt v a)) (true_or_false (lt s v)) (true_or_false (lt s a))
    where
      by : (lt v a ≡ true) ⊎ (lt v a ≡ false) → (lt s v ≡ true) ⊎ (lt s v ≡ false) → (lt s a ≡ true) ⊎ (lt s a ≡ false) → pick (pick a v) s ≡ pick a (pick v s)
      by (inl p) (inl q) (inl r) = ap (λ z. pick z s) (taken a v p) ∙ taken v s q ∙ sym (ap (pick a) (taken v s q) ∙ taken a s r)
      by (inl p) (inl q) (inr r) = absurd (no_both (lt v a) p (o.chain v s a (o.one_way s v q) r))
      by (inl p) (inr q) r = ap (λ z. pick z s) (taken a v p) ∙ left v s q ∙ sym (ap (pick a) (left v s q) ∙ taken a v p)
      by (inr p) (inl q) r = ap (λ z. pick z s) (left a v p) ∙ ap (pick a) (sym (taken v s q))
      by (inr p) (inr q) r = ap (λ z. pick z s) (left a v p) ∙ left a s (o.chain s v a q p) ∙ sym (ap (pick a) (left v s q) ∙ left a v p)

  pick-comm : (v w : Value) → pick v w ≡ pick w v
  pick-comm v w = by (true_or_false (lt w v)) (true_or_false (lt v w))
    where
      by : (lt w v ≡ true) ⊎ (lt w v ≡ false) → (lt v w ≡ true) ⊎ (lt v w ≡ false) → pick v w ≡ pick w v
      by (inl p) (inl q) = absurd (no_both (lt v w) q (o.one_way w v p))
      by (inl p) (inr q) = taken v w p ∙ sym (left w v q)
      by (inr p) (inl q) = left v w p ∙ sym (taken w v q)
      by (inr p) (inr q) = left v w p ∙ ties v w q p ∙ sym (left w v q)

  -- NULL is skipped
  abbrev pub best : Value → Value → Value
  best a Null = a
  best Null b = b
  best a b = pick a b

  pick-known : (a b : Value) → is_null a ≡ false → is_null b ≡ false → is_null (pick a b) ≡ false
  pick-known a b p q = by (lt b a)
    where
      by : (t : Bool) → is_null (cond t b a) ≡ false
      by true = q
      by false = p

  best-known : (a b : Value) → is_null a ≡ false → is_null b ≡ false → best a b ≡ pick a b
  best-known Null b p q = absurd (cc)
  best-known (BoolValue x) Null p q = absurd (cc)
  best-known (BoolValue x) (BoolValue y) p q = refl
  best-known (BoolValue x) (Int y) p q = refl
  best-known (BoolValue x) (Text y) p q = refl
  best-known (Int x) Null p q = absurd (cc)
  best-known (Int x) (BoolValue y) p q = refl
  best-known (Int x) (Int y) p q = refl
  best-known (Int x) (Text y) p q = refl
  best-known (Text x) Null p q = absurd (cc)
  best-known (Text x) (BoolValue y) p q = refl
  best-known (Text x) (Int y) p q = refl
  best-known (Text x) (Text y) p q = refl

  best-null : (b : Value) → best Null b ≡ b
  best-null Null = refl
  best-null (BoolValue y) = refl
  best-null (Int y) = refl
  best-null (Text y) = refl

  -- NULL, or not
  pub known : (v : Value) → (v ≡ Null) ⊎ (is_null v ≡ false)
  known Null = inl refl
  known (BoolValue b) = inr refl
  known (Int n) = inr refl
  known (Text t) = inr refl

  best-known_left : (a b : Value) → is_null a ≡ false → is_null (best a b) ≡ false
  best-known_left a b p = by (known b)
    where
      by : (b ≡ Null) ⊎ (is_null b ≡ false) → is_null (best a b) ≡ false
      by (inl e) = ap (λ z. is_null (best a z)) e ∙ p
      by (inr q) = ap is_null (best-known a b p q) ∙ pick-known a b p q

  pub best-assoc : (a v s : Value) → best (best a v) s ≡ best a (best v s)
  best-assoc a v s = by (known a) (known v) (known s)
    where
      by : (a ≡ Null) ⊎ (is_null a ≡ false) → (v ≡ Null) ⊎ (is_null v ≡ false) → (s ≡ Null) ⊎ (is_null s ≡ false) → best (best a v) s ≡ best a (best v s)
      by (inl e) q r = rw e (ap (λ z. best z s) (best-null v) ∙ sym (best-null (best v s)))
      by (inr p) (inl e) r = rw e (ap (best a) (sym (best-null s)))
      by (inr p) (inr q) (inl e) = rw e refl
      by (inr p) (inr q) (inr r) =
          ap (λ z. best z s) (best-known a v p q) ∙ best-known (pick a v) s (pick-known a v p q) r ∙ pick-assoc a v s
          ∙ sym (ap (best a) (best-known v s q r) ∙ best-known a (pick v s) p (pick-known v s q r))

  pub best-comm : (v w : Value) → best v w ≡ best w v
  best-comm v w = by (known v) (known w)
    where
      by : (v ≡ Null) ⊎ (is_null v ≡ false) → (w ≡ Null) ⊎ (is_null w ≡ false) → best v w ≡ best w v
      by (inl e) q = rw e (best-null w)
      by (inr p) (inl e) = rw e (sym (best-null v))
      by (inr p) (inr q) = best-known v w p q ∙ pick-comm v w ∙ sym (best-known w v q p)

  -- it is one of the two, NULL only where both are, and neither of them stands before it
  pub best-one : (a b : Value) → (best a b ≡ a) ⊎ (best a b ≡ b)
  best-one a b = by (known a) (known b) (true_or_false (lt b a))
    where
      by : (a ≡ Null) ⊎ (is_null a ≡ false) → (b ≡ Null) ⊎ (is_null b ≡ false) → (lt b a ≡ true) ⊎ (lt b a ≡ false) → (best a b ≡ a) ⊎ (best a b ≡ b)
      by (inl e) q t = inr (rw e (best-null b))
      by (inr p) (inl e) t = inl (rw e refl)
      by (inr p) (inr q) (inl t) = inr (best-known a b p q ∙ taken a b t)
      by (inr p) (inr q) (inr t) = inl (best-known a b p q ∙ left a b t)

  best-none_left : (a b : Value) → best a b ≡ Null → a ≡ Null
  best-none_left a b e = by (known a)
    where
      by : (a ≡ Null) ⊎ (is_null a ≡ false) → a ≡ Null
      by (inl n) = n
      by (inr p) = absurd (no_both (is_null (best a b)) (ap is_null e) (best-known_left a b p))

  pub best-none : (a b : Value) → best a b ≡ Null → (a ≡ Null) × (b ≡ Null)
  best-none a b e = (best-none_left a b e, best-none_left b a (best-comm b a ∙ e))

  pub best-left : (a b : Value) → is_null a ≡ false → lt a (best a b) ≡ false
  best-left a b p = by (known b) (true_or_false (lt b a))
    where
      by : (b ≡ Null) ⊎ (is_null b ≡ false) → (lt b a ≡ true) ⊎ (lt b a ≡ false) → lt a (best a b) ≡ false
      by (inl e) t = ap (λ z. lt a (best a z)) e ∙ alone a
      by (inr q) (inl t) = ap (lt a) (best-known a b p q ∙ taken a b t) ∙ o.one_way b a t
      by (inr q) (inr t) = ap (lt a) (best-known a b p q ∙ left a b t) ∙ alone a

  pub best-right : (a b : Value) → is_null b ≡ false → lt b (best a b) ≡ false
  best-right a b p = ap (lt b) (best-comm a b) ∙ best-left b a p

-- ---- the two orders

tied : (o p : Ordering) → o ≡ ordering_reverse p → is_lt o ≡ false → is_lt p ≡ false → o ≡ Equal
tied Less p e f g = absurd (cc)
tied Equal p e f g = refl
tied Greater Less e f g = absurd (cc)
tied Greater Equal e f g = absurd (cc)
tied Greater Greater e f g = absurd (cc)

abbrev pub less : Value → Value → Bool
less a b = is_lt (value_cmp a b)

abbrev pub more : Value → Value → Bool
more a b = is_lt (value_cmp b a)

pub less_order : IsStrictWeakOrder less
less_order = ranks_by value_cmp_total (λ v. v)

pub more_order : IsStrictWeakOrder more
more_order = IsStrictWeakOrder-flip less less_order

pub less_ties : (a b : Value) → less a b ≡ false → less b a ≡ false → a ≡ b
less_ties a b e f = value_cmp-IsAntisymmetric a b (tied (value_cmp a b) (value_cmp b a) (value_cmp_total.antisymm a b) e f)

pub more_ties : (a b : Value) → more a b ≡ false → more b a ≡ false → a ≡ b
more_ties a b e f = less_ties a b f e

pub min-best : (a v : Value) → combined Min a v ≡ best less less_order less_ties a v
min-best a Null = refl
min-best Null (BoolValue y) = refl
min-best Null (Int y) = refl
min-best Null (Text y) = refl
min-best (BoolValue x) (BoolValue y) = refl
min-best (BoolValue x) (Int y) = refl
min-best (BoolValue x) (Text y) = refl
min-best (Int x) (BoolValue y) = refl
min-best (Int x) (Int y) = refl
min-best (Int x) (Text y) = refl
min-best (Text x) (BoolValue y) = refl
min-best (Text x) (Int y) = refl
min-best (Text x) (Text y) = refl

pub max-best : (a v : Value) → combined Max a v ≡ best more more_order more_ties a v
max-best a Null = refl
max-best Null (BoolValue y) = refl
max-best Null (Int y) = refl
max-best Null (Text y) = refl
max-best (BoolValue x) (BoolValue y) = refl
max-best (BoolValue x) (Int y) = refl
max-best (BoolValue x) (Text y) = refl
max-best (Int x) (BoolValue y) = refl
max-best (Int x) (Int y) = refl
max-best (Int x) (Text y) = refl
max-best (Text x) (BoolValue y) = refl
max-best (Text x) (Int y) = refl
max-best (Text x) (Text y) = refl

-- an operation that is the same as another has its laws
assoc_along : (f g : Value → Value → Value) → ((a v : Value) → f a v ≡ g a v) → ((a v s : Value) → g (g a v) s ≡ g a (g v s)) → (a v s : Value) → f (f a v) s ≡ f a (f v s)
assoc_along f g same assoc a v s = same (f a v) s ∙ ap (λ z. g z s) (same a v) ∙ assoc a v s ∙ sym (same a (f v s) ∙ ap (g a) (same v s))

comm_along : (f g : Value → Value → Value) → ((a v : Value) → f a v ≡ g a v) → ((a v : Value) → g a v ≡ g v a) → (a v : Value) → f a v ≡ f v a
comm_along f g same comm a v = same a v ∙ comm a v ∙ sym (same v a)

min-assoc : (a v s : Value) → combined Min (combined Min a v) s ≡ combined Min a (combined Min v s)
min-assoc = assoc_along (combined Min) (best less less_order less_ties) min-best (best-assoc less less_order less_ties)

max-assoc : (a v s : Value) → combined Max (combined Max a v) s ≡ combined Max a (combined Max v s)
max-assoc = assoc_along (combined Max) (best more more_order more_ties) max-best (best-assoc more more_order more_ties)

min-comm : (a v : Value) → combined Min a v ≡ combined Min v a
min-comm = comm_along (combined Min) (best less less_order less_ties) min-best (best-comm less less_order less_ties)

max-comm : (a v : Value) → combined Max a v ≡ combined Max v a
max-comm = comm_along (combined Max) (best more more_order more_ties) max-best (best-comm more more_order more_ties)

-- ---- two values may be exchanged

Exchanges : (Value → Value → Value) → Type 0
Exchanges f = (a v w : Value) → f (f a v) w ≡ f (f a w) v

by_assoc : (f : Value → Value → Value) → ((a v s : Value) → f (f a v) s ≡ f a (f v s)) → ((a v : Value) → f a v ≡ f v a) → Exchanges f
unfolding Exchanges
by_assoc f assoc comm a v w = assoc a v w ∙ ap (f a) (comm v w) ∙ sym (assoc a w v)

plus_twice : (a : Value) (m n : ℤ) → plus (plus a (Int m)) (Int n) ≡ plus (plus a (Int n)) (Int m)
plus_twice Null m n = ap Int (omega (arith, ints))
plus_twice (BoolValue b) m n = refl
plus_twice (Int x) m n = ap Int (omega (arith, ints))
plus_twice (Text t) m n = refl

plus_bool : (a : Value) (b : Bool) → plus a (BoolValue b) ≡ a
plus_bool Null b = refl
plus_bool (BoolValue x) b = refl
plus_bool (Int x) b = refl
plus_bool (Text x) b = refl

plus_text : (a : Value) (t : List ℕ) → plus a (Text t) ≡ a
plus_text Null t = refl
plus_text (BoolValue x) t = refl
plus_text (Int x) t = refl
plus_text (Text x) t = refl

sum-exchanges : Exchanges (combined Sum)
unfolding Exchanges
sum-exchanges a Null w = refl
sum-exchanges a (BoolValue x) Null = refl
sum-exchanges a (BoolValue x) (BoolValue y) = plus_bool (plus a (BoolValue x)) y ∙ ap (λ z. plus z (BoolValue x)) (sym (plus_bool a y))
sum-exchanges a (BoolValue x) (Int y) = ap (λ z. plus z (Int y)) (plus_bool a x) ∙ sym (plus_bool (plus a (Int y)) x)
sum-exchanges a (BoolValue x) (Text y) = plus_text (plus a (BoolValue x)) y ∙ ap (λ z. plus z (BoolValue x)) (sym (plus_text a y))
sum-exchanges a (Int x) Null = refl
sum-exchanges a (Int x) (BoolValue y) = plus_bool (plus a (Int x)) y ∙ ap (λ z. plus z (Int x)) (sym (plus_bool a y))
sum-exchanges a (Int x) (Int y) = plus_twice a x y
sum-exchanges a (Int x) (Text y) = plus_text (plus a (Int x)) y ∙ ap (λ z. plus z (Int x)) (sym (plus_text a y))
sum-exchanges a (Text x) Null = refl
sum-exchanges a (Text x) (BoolValue y) = ap (λ z. plus z (BoolValue y)) (plus_text a x) ∙ sym (plus_text (plus a (BoolValue y)) x)
sum-exchanges a (Text x) (Int y) = ap (λ z. plus z (Int y)) (plus_text a x) ∙ sym (plus_text (plus a (Int y)) x)
sum-exchanges a (Text x) (Text y) = plus_text (plus a (Text x)) y ∙ ap (λ z. plus z (Text x)) (sym (plus_text a y))

count-exchanges : Exchanges (combined Count)
unfolding Exchanges
count-exchanges a Null w = refl
count-exchanges a (BoolValue x) Null = refl
count-exchanges a (BoolValue x) (BoolValue y) = refl
count-exchanges a (BoolValue x) (Int y) = refl
count-exchanges a (BoolValue x) (Text y) = refl
count-exchanges a (Int x) Null = refl
count-exchanges a (Int x) (BoolValue y) = refl
count-exchanges a (Int x) (Int y) = refl
count-exchanges a (Int x) (Text y) = refl
count-exchanges a (Text x) Null = refl
count-exchanges a (Text x) (BoolValue y) = refl
count-exchanges a (Text x) (Int y) = refl
count-exchanges a (Text x) (Text y) = refl

sum0-sum : (a v : Value) → combined Sum0 a v ≡ combined Sum a v
sum0-sum a Null = refl
sum0-sum a (BoolValue b) = refl
sum0-sum a (Int n) = refl
sum0-sum a (Text t) = refl

exchange_along : (f g : Value → Value → Value) → ((a v : Value) → f a v ≡ g a v) → Exchanges g → Exchanges f
unfolding Exchanges
exchange_along f g same h a v w = same (f a v) w ∙ ap (λ z. g z w) (same a v) ∙ h a v w ∙ sym (same (f a w) v ∙ ap (λ z. g z v) (same a w))

exchanges : (agg : Agg) → Exchanges (combined agg)
exchanges Count = count-exchanges
exchanges Sum = sum-exchanges
exchanges Sum0 = exchange_along (combined Sum0) (combined Sum) sum0-sum sum-exchanges
exchanges Min = by_assoc (combined Min) min-assoc min-comm
exchanges Max = by_assoc (combined Max) max-assoc max-comm

-- the same values in another order
pub aggregated-IsPermutation : (agg : Agg) (vs ws : List Value) → IsPermutation vs ws → aggregated agg vs ≡ aggregated agg ws
unfolding Exchanges
aggregated-IsPermutation agg vs ws h = fold-from_counts value_eq value_eq-Decides (combined agg) (exchanges agg) vs ws (start agg) (λ r. count_by-IsPermutation (value_eq r) vs ws h)

-- ---- parts

-- a fold by f from e whose parts g joins, over the states S
record Joins (f g : Value → Value → Value) (e : Value) (S : Value → Type 0) : Type 0 where
  first : S e
  keeps : (a v : Value) → S a → S (f a v)
  none : (a : Value) → S a → g a e ≡ a
  assoc : (a v s : Value) → S a → S s → g (f a v) s ≡ g a (g (f e v) s)

module _ (f g : Value → Value → Value) (e : Value) (S : Value → Type 0) (j : Joins f g e S) where
  fold-state : (a : Value) (vs : List Value) → S a → S (fold f a vs)
  fold-state a [] s = s
  fold-state a (v ∷ vs) s = fold-state (f a v) vs (j.keeps a v s)

  fold-from : (a : Value) (vs : List Value) → S a → fold f a vs ≡ g a (fold f e vs)
  fold-from a [] s = sym (j.none a s)
  fold-from a (v ∷ vs) s =
      fold-from (f a v) vs (j.keeps a v s) ∙ j.assoc a v (fold f e vs) s (fold-state e vs j.first)
      ∙ ap (g a) (sym (fold-from (f e v) vs (j.keeps e v j.first)))

  fold-parts : (vs ws : List Value) → fold f e (vs ++ ws) ≡ g (fold f e vs) (fold f e ws)
  fold-parts vs ws = fold-append f e vs ws ∙ fold-from (fold f e vs) ws (fold-state e vs j.first)

  fold-groups : (a : Value) (groups : List (List Value)) → S a → fold f a (flat_map (λ vs. vs) groups) ≡ fold g a (map (fold f e) groups)
  fold-groups a [] s = refl
  fold-groups a (vs ∷ groups) s =
      fold-append f a vs (flat_map (λ x. x) groups) ∙ fold-groups (fold f a vs) groups (fold-state a vs s)
      ∙ ap (λ z. fold g z (map (fold f e) groups)) (fold-from a vs s)

abbrev IsNumber : Value → Type 0
IsNumber Null = ⊥
IsNumber (BoolValue b) = ⊥
IsNumber (Int n) = Unit {0}
IsNumber (Text t) = ⊥

abbrev IsSumState : Value → Type 0
IsSumState Null = Unit {0}
IsSumState (BoolValue b) = ⊥
IsSumState (Int n) = Unit {0}
IsSumState (Text t) = ⊥

count-joins : Joins (combined Count) (combined Sum0) (Int (pos 0)) IsNumber
count-joins = record { first = tt; keeps = keeps; none = none; assoc = assoc }
  where
    keeps : (a v : Value) → IsNumber a → IsNumber (combined Count a v)
    keeps Null v s = absurd s
    keeps (BoolValue b) v s = absurd s
    keeps (Int x) Null s = tt
    keeps (Int x) (BoolValue b) s = tt
    keeps (Int x) (Int n) s = tt
    keeps (Int x) (Text t) s = tt
    keeps (Text t) v s = absurd s

    none : (a : Value) → IsNumber a → combined Sum0 a (Int (pos 0)) ≡ a
    none Null s = absurd s
    none (BoolValue b) s = absurd s
    none (Int x) s = ap Int (omega (arith, ints))
    none (Text t) s = absurd s

    at : (x m : ℤ) (v : Value) → combined Sum0 (combined Count (Int x) v) (Int m) ≡ combined Sum0 (Int x) (combined Sum0 (combined Count (Int (pos 0)) v) (Int m))
    at x m Null = ap Int (omega (arith, ints))
    at x m (BoolValue b) = ap Int (omega (arith, ints))
    at x m (Int n) = ap Int (omega (arith, ints))
    at x m (Text t) = ap Int (omega (arith, ints))

    assoc : (a v s : Value) → IsNumber a → IsNumber s → combined Sum0 (combined Count a v) s ≡ combined Sum0 a (combined Sum0 (combined Count (Int (pos 0)) v) s)
    assoc Null v s h k = absurd h
    assoc (BoolValue b) v s h k = absurd h
    assoc (Int x) v Null h k = absurd k
    assoc (Int x) v (BoolValue b) h k = absurd k
    assoc (Int x) v (Int m) h k = at x m v
    assoc (Int x) v (Text t) h k = absurd k
    assoc (Text t) v s h k = absurd h

sum0-joins : Joins (combined Sum0) (combined Sum0) (Int (pos 0)) IsNumber
sum0-joins = record { first = tt; keeps = keeps; none = none; assoc = assoc }
  where
    keeps : (a v : Value) → IsNumber a → IsNumber (combined Sum0 a v)
    keeps Null v s = absurd s
    keeps (BoolValue b) v s = absurd s
    keeps (Int x) Null s = tt
    keeps (Int x) (BoolValue b) s = tt
    keeps (Int x) (Int n) s = tt
    keeps (Int x) (Text t) s = tt
    keeps (Text t) v s = absurd s

    none : (a : Value) → IsNumber a → combined Sum0 a (Int (pos 0)) ≡ a
    none Null s = absurd s
    none (BoolValue b) s = absurd s
    none (Int x) s = ap Int (omega (arith, ints))
    none (Text t) s = absurd s

    at : (x m : ℤ) (v : Value) → combined Sum0 (combined Sum0 (Int x) v) (Int m) ≡ combined Sum0 (Int x) (combined Sum0 (combined Sum0 (Int (pos 0)) v) (Int m))
    at x m Null = ap Int (omega (arith, ints))
    at x m (BoolValue b) = ap Int (omega (arith, ints))
    at x m (Int n) = ap Int (omega (arith, ints))
    at x m (Text t) = ap Int (omega (arith, ints))

    assoc : (a v s : Value) → IsNumber a → IsNumber s → combined Sum0 (combined Sum0 a v) s ≡ combined Sum0 a (combined Sum0 (combined Sum0 (Int (pos 0)) v) s)
    assoc Null v s h k = absurd h
    assoc (BoolValue b) v s h k = absurd h
    assoc (Int x) v Null h k = absurd k
    assoc (Int x) v (BoolValue b) h k = absurd k
    assoc (Int x) v (Int m) h k = at x m v
    assoc (Int x) v (Text t) h k = absurd k
    assoc (Text t) v s h k = absurd h

sum-joins : Joins (combined Sum) (combined Sum) Null IsSumState
sum-joins = record { first = tt; keeps = keeps; none = λ a s. refl; assoc = assoc }
  where
    keeps : (a v : Value) → IsSumState a → IsSumState (combined Sum a v)
    keeps Null Null s = tt
    keeps Null (BoolValue b) s = tt
    keeps Null (Int n) s = tt
    keeps Null (Text t) s = tt
    keeps (BoolValue b) v s = absurd s
    keeps (Int x) Null s = tt
    keeps (Int x) (BoolValue b) s = tt
    keeps (Int x) (Int n) s = tt
    keeps (Int x) (Text t) s = tt
    keeps (Text t) v s = absurd s

    at_null : (v s : Value) → IsSumState s → combined Sum (combined Sum Null v) s ≡ combined Sum Null (combined Sum (combined Sum Null v) s)
    at_null Null Null k = refl
    at_null Null (BoolValue b) k = absurd k
    at_null Null (Int m) k = refl
    at_null Null (Text t) k = absurd k
    at_null (BoolValue x) Null k = refl
    at_null (BoolValue x) (BoolValue b) k = absurd k
    at_null (BoolValue x) (Int m) k = refl
    at_null (BoolValue x) (Text t) k = absurd k
    at_null (Int x) Null k = refl
    at_null (Int x) (BoolValue b) k = absurd k
    at_null (Int x) (Int m) k = refl
    at_null (Int x) (Text t) k = absurd k
    at_null (Text x) Null k = refl
    at_null (Text x) (BoolValue b) k = absurd k
    at_null (Text x) (Int m) k = refl
    at_null (Text x) (Text t) k = absurd k

    at_number : (x : ℤ) (v s : Value) → IsSumState s → combined Sum (combined Sum (Int x) v) s ≡ combined Sum (Int x) (combined Sum (combined Sum Null v) s)
    at_number x Null Null k = refl
    at_number x Null (BoolValue b) k = absurd k
    at_number x Null (Int m) k = refl
    at_number x Null (Text t) k = absurd k
    at_number x (BoolValue b) Null k = refl
    at_number x (BoolValue b) (BoolValue c) k = absurd k
    at_number x (BoolValue b) (Int m) k = refl
    at_number x (BoolValue b) (Text t) k = absurd k
    at_number x (Int n) Null k = refl
    at_number x (Int n) (BoolValue b) k = absurd k
    at_number x (Int n) (Int m) k = ap Int (omega (arith, ints))
    at_number x (Int n) (Text t) k = absurd k
    at_number x (Text b) Null k = refl
    at_number x (Text b) (BoolValue c) k = absurd k
    at_number x (Text b) (Int m) k = refl
    at_number x (Text b) (Text t) k = absurd k

    assoc : (a v s : Value) → IsSumState a → IsSumState s → combined Sum (combined Sum a v) s ≡ combined Sum a (combined Sum (combined Sum Null v) s)
    assoc Null v s h k = at_null v s k
    assoc (BoolValue b) v s h k = absurd h
    assoc (Int x) v s h k = at_number x v s k
    assoc (Text t) v s h k = absurd h

abbrev IsAny : Value → Type 0
IsAny v = Unit {0}

null_first : (f : Value → Value → Value) → ((v : Value) → f v Null ≡ v) → ((a v : Value) → f a v ≡ f v a) → (v : Value) → f Null v ≡ v
null_first f none comm v = comm Null v ∙ none v

extreme-joins : (f : Value → Value → Value) → ((v : Value) → f v Null ≡ v) → ((a v s : Value) → f (f a v) s ≡ f a (f v s)) → ((a v : Value) → f a v ≡ f v a) → Joins f f Null IsAny
extreme-joins f none assoc comm = record {
  first = tt;
  keeps = λ a v s. tt;
  none = λ a s. none a;
  assoc = λ a v s h k. assoc a v s ∙ ap (λ z. f a (f z s)) (sym (null_first f none comm v));
}

-- the states that an aggregate goes through
abbrev states : Agg → Value → Type 0
states Count = IsNumber
states Sum = IsSumState
states Sum0 = IsNumber
states Min = IsAny
states Max = IsAny

joins : (agg : Agg) → Joins (combined agg) (combined (rolled agg)) (start agg) (states agg)
joins Count = count-joins
joins Sum = sum-joins
joins Sum0 = sum0-joins
joins Min = extreme-joins (combined Min) (λ v. refl) min-assoc min-comm
joins Max = extreme-joins (combined Max) (λ v. refl) max-assoc max-comm

-- of two parts
pub aggregated-append : (agg : Agg) (vs ws : List Value) → aggregated agg (vs ++ ws) ≡ combined (rolled agg) (aggregated agg vs) (aggregated agg ws)
aggregated-append agg vs ws = fold-parts (combined agg) (combined (rolled agg)) (start agg) (states agg) (joins agg) vs ws

start-rolled : (agg : Agg) → start (rolled agg) ≡ start agg
start-rolled Count = refl
start-rolled Sum = refl
start-rolled Sum0 = refl
start-rolled Min = refl
start-rolled Max = refl

-- of any parts
pub aggregated-groups : (agg : Agg) (groups : List (List Value)) → aggregated agg (flat_map (λ vs. vs) groups) ≡ aggregated (rolled agg) (map (aggregated agg) groups)
aggregated-groups agg groups =
    fold-groups (combined agg) (combined (rolled agg)) (start agg) (states agg) (joins agg) (start agg) groups ((joins agg).first)
    ∙ ap (λ z. fold (combined (rolled agg)) z (map (aggregated agg) groups)) (sym (start-rolled agg))

-- ---- in other words

counted_from : (n : ℕ) (vs : List Value) → fold (combined Count) (Int (pos n)) vs ≡ Int (pos (n + count_by (λ v. not (is_null v)) vs))
counted_from n [] = ap Int (ap pos (omega arith))
counted_from n (Null ∷ vs) = counted_from n vs ∙ ap Int (ap pos (omega (arith, count_by-cons (λ v. not (is_null v)) Null vs)))
counted_from n (BoolValue b ∷ vs) = ap (λ z. fold (combined Count) (Int z) vs) (omega (arith, ints)) ∙ counted_from (n + 1) vs ∙ ap Int (ap pos (omega (arith, count_by-cons (λ v. not (is_null v)) (BoolValue b) vs)))
counted_from n (Int b ∷ vs) = ap (λ z. fold (combined Count) (Int z) vs) (omega (arith, ints)) ∙ counted_from (n + 1) vs ∙ ap Int (ap pos (omega (arith, count_by-cons (λ v. not (is_null v)) (Int b) vs)))
counted_from n (Text b ∷ vs) = ap (λ z. fold (combined Count) (Int z) vs) (omega (arith, ints)) ∙ counted_from (n + 1) vs ∙ ap Int (ap pos (omega (arith, count_by-cons (λ v. not (is_null v)) (Text b) vs)))

-- a count is the number of values that aren't NULL
pub count-is : (vs : List Value) → aggregated Count vs ≡ Int (pos (count_by (λ v. not (is_null v)) vs))
count-is vs = counted_from 0 vs ∙ ap Int (ap pos (omega arith))

summed_from : (x : ℤ) (vs : List Value) → fold (combined Sum0) (Int x) vs ≡ Int (fold ◌+ℤ◌ x (numbers vs))
summed_from x [] = refl
summed_from x (Null ∷ vs) = summed_from x vs
summed_from x (BoolValue b ∷ vs) = summed_from x vs
summed_from x (Int n ∷ vs) = summed_from (x +ℤ n) vs
summed_from x (Text t ∷ vs) = summed_from x vs

-- the sum of the numbers among the values
pub sum0-is : (vs : List Value) → aggregated Sum0 vs ≡ Int (fold ◌+ℤ◌ (pos 0) (numbers vs))
sum0-is vs = summed_from (pos 0) vs

pub fold-same : (f g : Value → Value → Value) → ((a v : Value) → f a v ≡ g a v) → (a : Value) (vs : List Value) → fold f a vs ≡ fold g a vs
fold-same f g same a [] = refl
fold-same f g same a (v ∷ vs) = ap (λ z. fold f z vs) (same a v) ∙ fold-same f g same (g a v) vs

-- and NULL where there is none
pub sum-is : (vs : List Value) → aggregated Sum vs ≡ sum_of (numbers vs)
sum-is [] = refl
sum-is (Null ∷ vs) = sum-is vs
sum-is (BoolValue b ∷ vs) = sum-is vs
sum-is (Int n ∷ vs) = fold-same (combined Sum) (combined Sum0) (λ a v. sym (sum0-sum a v)) (Int n) vs ∙ summed_from n vs
sum-is (Text t ∷ vs) = sum-is vs

pub ruleset aggregate_laws = (count-is, sum-is, sum0-is, aggregated-IsPermutation, aggregated-append, aggregated-groups)
