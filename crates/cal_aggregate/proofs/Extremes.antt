-- MIN and MAX in their own words.
use Rattle.std.proofs.Common.{◌≡◌, suc, refl, sym, subst, ap, ◌∙◌, arith, Bool, true, false, List, [], ◌∷◌, All, ◌⊎◌, inl, inr}
use Rattle.std.specs.Cmp.{IsStrictWeakOrder}
use Rattle.std.specs.List.{fold, Contains}
use Rattle.std.specs.Ordering.{is_lt}
use Rattle.std.specs.declared.cmp.Ordering.TheVariants.{Less}
use Rattle.std.proofs.lemmas.List.Elements.{All-nil, All-cons, All-weaker}
use Rattle.cal_value.specs.declared.operator.Agg.TheVariants.{Min, Max}
use Rattle.cal_value.specs.declared.value.Value.{Value}
use Rattle.cal_value.specs.declared.value.Value.TheVariants.{Null, Bool as BoolValue, Int, Text}
use Rattle.cal_value.specs.Logic.{is_null}
use Rattle.cal_value.specs.Order.{value_cmp}
use Rattle.cal_aggregate.specs.Aggregate.{combined, aggregated, IsLeast, IsGreatest, IsMin, IsMax}
use Rattle.cal_aggregate.proofs.AggregateFolds.{best, best-one, best-none, best-left, best-right, alone, known, less, more, less_order, more_order, less_ties, more_ties, min-best, max-best, fold-same}

module _ (lt : Value → Value → Bool) (o : IsStrictWeakOrder lt) (ties : (a b : Value) → lt a b ≡ false → lt b a ≡ false → a ≡ b) where
  abbrev chosen : Value → Value → Value
  chosen = best lt o ties

  not_null : (v : Value) → (v ≡ Null → ⊥) → is_null v ≡ false
  not_null v h = by (known lt o ties v)
    where
      by : (v ≡ Null) ⊎ (is_null v ≡ false) → is_null v ≡ false
      by (inl e) = absurd (h e)
      by (inr p) = p

  -- the first of a and vs that isn't NULL, or NULL where all are
  pub record IsFirst (a : Value) (vs : List Value) (r : Value) : Type 0 where
    pub among : (r ≡ a) ⊎ Contains vs r
    pub start : is_null a ≡ false → lt a r ≡ false
    pub rest : All (λ w. (w ≡ Null → ⊥) → lt w r ≡ false) vs
    pub none : r ≡ Null → (a ≡ Null) × All (λ w. w ≡ Null) vs

  one_more : (a v : Value) (vs : List Value) (r : Value) → IsFirst (chosen a v) vs r → IsFirst a (v ∷ vs) r
  one_more a v vs r h = record {
    among = among h.among (best-one lt o ties a v);
    start = λ p. o.chain a (chosen a v) r (best-left lt o ties a v p) (from_chosen (λ e. taken (ap is_null (best-none lt o ties a v e).0) p));
    rest = All-cons (λ w. (w ≡ Null → ⊥) → lt w r ≡ false) v vs
        (λ p. o.chain v (chosen a v) r (best-right lt o ties a v (not_null v p)) (from_chosen (λ e. p (best-none lt o ties a v e).1))) h.rest;
    none = none;
  }
    where
      taken : is_null a ≡ true → is_null a ≡ false → ⊥
      taken e f = cc

      from_chosen : (chosen a v ≡ Null → ⊥) → lt (chosen a v) r ≡ false
      from_chosen p = h.start (not_null (chosen a v) p)

      among : (r ≡ chosen a v) ⊎ Contains vs r → (chosen a v ≡ a) ⊎ (chosen a v ≡ v) → (r ≡ a) ⊎ Contains (v ∷ vs) r
      among (inl e) (inl f) = inl (e ∙ f)
      among (inl e) (inr f) = inr (0, omega arith, sym (e ∙ f))
      among (inr c) f = inr (suc c.0, omega (arith, c.1), c.2)

      none : r ≡ Null → (a ≡ Null) × All (λ w. w ≡ Null) (v ∷ vs)
      none e =
          let p = h.none e in
          let q = best-none lt o ties a v p.0 in
          (q.0, All-cons (λ w. w ≡ Null) v vs q.1 p.1)

  pub first : (a : Value) (vs : List Value) → IsFirst a vs (fold chosen a vs)
  first a [] = record {
    among = inl refl;
    start = λ p. alone lt o ties a;
    rest = All-nil (λ w. (w ≡ Null → ⊥) → lt w a ≡ false);
    none = λ e. (e, All-nil (λ w. w ≡ Null));
  }
  first a (v ∷ vs) = one_more a v vs (fold chosen (chosen a v) vs) (first (chosen a v) vs)

among_known : (vs : List Value) (r : Value) → is_null r ≡ false → (r ≡ Null) ⊎ Contains vs r → Contains vs r
among_known vs r p (inl e) = absurd (no (is_null r) (ap is_null e) p)
  where
    no : (t : Bool) → t ≡ true → t ≡ false → ⊥
    no t e f = cc
among_known vs r p (inr c) = c

known_value : (r : Value) → is_null r ≡ false → r ≡ Null → ⊥
known_value r p e = let n = ap is_null e in cc

not_less : (a b : Value) → is_lt (value_cmp a b) ≡ false → value_cmp a b ≡ Less → ⊥
not_less a b p e = let n = ap is_lt e in cc

-- ---- the least

least_of : (vs : List Value) (r : Value) → is_null r ≡ false → IsFirst less less_order less_ties Null vs r → IsLeast vs r
least_of vs r p h = record {
  known = known_value r p;
  among = among_known vs r p h.among;
  least = All-weaker (λ w. (w ≡ Null → ⊥) → less w r ≡ false) (λ w. (w ≡ Null → ⊥) → value_cmp w r ≡ Less → ⊥) (λ w g q. not_less w r (g q)) vs h.rest;
}

min_of : (vs : List Value) (r : Value) → IsFirst less less_order less_ties Null vs r → IsMin vs r
min_of vs Null h = (h.none refl).1
min_of vs (BoolValue b) h = least_of vs (BoolValue b) refl h
min_of vs (Int n) h = least_of vs (Int n) refl h
min_of vs (Text t) h = least_of vs (Text t) refl h

pub min-is : (vs : List Value) → IsMin vs (aggregated Min vs)
min-is vs = subst (IsMin vs) (sym (fold-same (combined Min) (best less less_order less_ties) min-best Null vs)) (min_of vs _ (first less less_order less_ties Null vs))

-- ---- the greatest

greatest_of : (vs : List Value) (r : Value) → is_null r ≡ false → IsFirst more more_order more_ties Null vs r → IsGreatest vs r
greatest_of vs r p h = record {
  known = known_value r p;
  among = among_known vs r p h.among;
  greatest = All-weaker (λ w. (w ≡ Null → ⊥) → more w r ≡ false) (λ w. (w ≡ Null → ⊥) → value_cmp r w ≡ Less → ⊥) (λ w g q. not_less r w (g q)) vs h.rest;
}

max_of : (vs : List Value) (r : Value) → IsFirst more more_order more_ties Null vs r → IsMax vs r
max_of vs Null h = (h.none refl).1
max_of vs (BoolValue b) h = greatest_of vs (BoolValue b) refl h
max_of vs (Int n) h = greatest_of vs (Int n) refl h
max_of vs (Text t) h = greatest_of vs (Text t) refl h

pub max-is : (vs : List Value) → IsMax vs (aggregated Max vs)
max-is vs = subst (IsMax vs) (sym (fold-same (combined Max) (best more more_order more_ties) max-best Null vs)) (max_of vs _ (first more more_order more_ties Null vs))

pub ruleset extreme_laws = (min-is, max-is)
