-- Elements and their places in lists without repeats.
use Rattle.std.proofs.Common.{◌≡◌, ◌+◌, ◌<◌, Bool, true, false, cond, not, ◌&&◌, ◌||◌, List, [], ◌∷◌, map, filter, length, All, refl, sym, ◌∙◌, ap, arith, one-add}
use Rattle.std.specs.Bool.{Decides}
use Rattle.std.specs.List.{list_any, list_all}
use Rattle.std.proofs.lemmas.List.Elements.{All-nil, All-cons, All-weaker}
use Rattle.cal_value.specs.declared.value.Value.{Value}
use Rattle.cal_value.specs.Order.{column_of}
use Rattle.cal_aggregate.specs.Parts.{distinct}
use Rattle.sql_algebra.specs.Algebra.{place_among}

-- one of the elements is the same
abbrev pub IsAmong : {K : Type 0} → (K → K → Bool) → List K → K → Type 0
IsAmong same ys x = list_any (λ y. same y x) ys ≡ true

pub any-right : {K : Type 0} (p : K → Bool) (y : K) (ys : List K) → list_any p ys ≡ true → list_any p (y ∷ ys) ≡ true
any-right p y ys h = by (p y)
  where
    by : (b : Bool) → (b || list_any p ys) ≡ true
    by true = refl
    by false = h

module _ {K : Type 0} (same : K → K → Bool) (decides : (x y : K) → Decides (same x y) (x ≡ y)) where
  -- what stands at an element's place
  pub found : (f : K → Value) (x : K) (ys : List K) → IsAmong same ys x → column_of (map f ys) (place_among same x ys) ≡ f x
  found f x [] h = absurd (cc)
  found f x (y ∷ ys) h = by (same y x) refl (found f x ys) h
    where
      by : (b : Bool) → same y x ≡ b → (IsAmong same ys x → column_of (map f ys) (place_among same x ys) ≡ f x) → (b || list_any (λ y. same y x) ys) ≡ true
          → column_of (f y ∷ map f ys) (cond (not b) (1 + place_among same x ys) 0) ≡ f x
      by true e more k = ap f ((decides y x).0 e)
      by false e more k = ap (column_of (f y ∷ map f ys)) (one-add (place_among same x ys)) ∙ more k

  pub place-below : (x : K) (ys : List K) → IsAmong same ys x → place_among same x ys < length ys
  place-below x [] h = absurd (cc)
  place-below x (y ∷ ys) h = by (same y x) (place-below x ys) h
    where
      by : (b : Bool) → (IsAmong same ys x → place_among same x ys < length ys) → (b || list_any (λ y. same y x) ys) ≡ true → cond (not b) (1 + place_among same x ys) 0 < length (y ∷ ys)
      by true more k = omega arith
      by false more k = let m = more k in omega arith

  others-among : (x y : K) → same y x ≡ false → (zs : List K) → IsAmong same zs x → IsAmong same (filter (λ z. not (same y z)) zs) x
  others-among x y e [] h = absurd (cc)
  others-among x y e (z ∷ zs) h = by (same y z) (same z x) refl refl (others-among x y e zs) h
    where
      by : (b c : Bool) → same y z ≡ b → same z x ≡ c → (IsAmong same zs x → IsAmong same (filter (λ z. not (same y z)) zs) x) → (c || list_any (λ z. same z x) zs) ≡ true
          → list_any (λ z. same z x) (cond (not b) (z ∷ filter (λ z. not (same y z)) zs) (filter (λ z. not (same y z)) zs)) ≡ true
      by true true p q more k =
          let yes : same y x ≡ true = (decides y x).1 ((decides y z).0 p ∙ (decides z x).0 q) in
          absurd (cc)
      by true false p q more k = more k
      by false true p q more k = ap (λ c. c || list_any (λ z. same z x) (filter (λ z. not (same y z)) zs)) q
      by false false p q more k = ap (λ c. c || list_any (λ z. same z x) (filter (λ z. not (same y z)) zs)) q ∙ more k

  pub among-distinct : (x : K) (ys : List K) → IsAmong same ys x → IsAmong same (distinct same ys) x
  among-distinct x [] h = absurd (cc)
  among-distinct x (y ∷ ys) h = by (same y x) refl (among-distinct x ys) h
    where
      by : (b : Bool) → same y x ≡ b → (IsAmong same ys x → IsAmong same (distinct same ys) x) → (b || list_any (λ z. same z x) ys) ≡ true
          → (b || list_any (λ z. same z x) (filter (λ z. not (same y z)) (distinct same ys))) ≡ true
      by true e more k = refl
      by false e more k = others-among x y e (distinct same ys) (more k)

  each-among : (xs : List K) → All (IsAmong same xs) xs
  each-among [] = All-nil (IsAmong same [])
  each-among (x ∷ xs) =
      All-cons (IsAmong same (x ∷ xs)) x xs (ap (λ b. b || list_any (λ y. same y x) xs) ((decides x x).1 refl))
      (All-weaker (IsAmong same xs) (IsAmong same (x ∷ xs)) (λ y h. any-right (λ z. same z y) x xs h) xs (each-among xs))

  pub all-distinct : (xs : List K) → All (IsAmong same (distinct same xs)) xs
  all-distinct xs = All-weaker (IsAmong same xs) (IsAmong same (distinct same xs)) (λ x h. among-distinct x xs h) xs (each-among xs)

  -- a test of all is the same without repeats
  without-others : (p : K → Bool) (y : K) → p y ≡ true → (zs : List K) → list_all p (filter (λ z. not (same y z)) zs) ≡ list_all p zs
  without-others p y h [] = refl
  without-others p y h (z ∷ zs) = by (same y z) refl (without-others p y h zs)
    where
      by : (b : Bool) → same y z ≡ b → list_all p (filter (λ z. not (same y z)) zs) ≡ list_all p zs
          → list_all p (cond (not b) (z ∷ filter (λ z. not (same y z)) zs) (filter (λ z. not (same y z)) zs)) ≡ (p z && list_all p zs)
      by true e k = k ∙ sym (ap (λ b. b && list_all p zs) (ap p (sym ((decides y z).0 e)) ∙ h))
      by false e k = ap (λ b. p z && b) k

  pub all-once : (p : K → Bool) (ys : List K) → list_all p (distinct same ys) ≡ list_all p ys
  all-once p [] = refl
  all-once p (y ∷ ys) = by (p y) refl (all-once p ys)
    where
      by : (b : Bool) → p y ≡ b → list_all p (distinct same ys) ≡ list_all p ys → (b && list_all p (filter (λ z. not (same y z)) (distinct same ys))) ≡ (b && list_all p ys)
      by true e k = without-others p y e (distinct same ys) ∙ k
      by false e k = refl
