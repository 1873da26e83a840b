-- Lists without repeats, made one element after another.
use Rattle.std.proofs.Common.{◌≡◌, Bool, true, false, cond, not, ◌||◌, List, [], ◌∷◌, ◌++◌, fold, filter, refl, sym, ◌∙◌, ap, append-nil, append_assoc}
use Rattle.std.specs.Bool.{Decides}
use Rattle.std.specs.List.{list_any}
use Rattle.cal_aggregate.specs.Parts.{distinct}
use Rattle.sql_translate.specs.Once.{with_one, with_each}

module _ {K : Type 0} (same : K → K → Bool) (decides : (x y : K) → Decides (same x y) (x ≡ y)) where
  among : K → List K → Bool
  among y xs = list_any (λ x. same x y) xs

  -- an element that differs is among the others too
  among-others : (x y : K) → same x y ≡ false → (zs : List K) → list_any (λ z. same z y) (filter (λ z. not (same x z)) zs) ≡ list_any (λ z. same z y) zs
  among-others x y e [] = refl
  among-others x y e (z ∷ zs) = by (same x z) (same z y) refl refl (among-others x y e zs)
    where
      by : (b c : Bool) → same x z ≡ b → same z y ≡ c → list_any (λ z. same z y) (filter (λ z. not (same x z)) zs) ≡ list_any (λ z. same z y) zs
          → list_any (λ z. same z y) (cond (not b) (z ∷ filter (λ z. not (same x z)) zs) (filter (λ z. not (same x z)) zs)) ≡ (c || list_any (λ z. same z y) zs)
      by true true p q k = let yes : same x y ≡ true = (decides x y).1 ((decides x z).0 p ∙ (decides z y).0 q) in absurd (cc)
      by true false p q k = k
      by false true p q k = ap (λ c. c || list_any (λ z. same z y) (filter (λ z. not (same x z)) zs)) q
      by false false p q k = ap (λ c. c || list_any (λ z. same z y) (filter (λ z. not (same x z)) zs)) q ∙ k

  -- it is among them also without repeats
  among-distinct : (y : K) (xs : List K) → list_any (λ x. same x y) (distinct same xs) ≡ list_any (λ x. same x y) xs
  among-distinct y [] = refl
  among-distinct y (x ∷ xs) = by (same x y) refl (among-distinct y xs)
    where
      by : (b : Bool) → same x y ≡ b → list_any (λ x. same x y) (distinct same xs) ≡ list_any (λ x. same x y) xs
          → (b || list_any (λ z. same z y) (filter (λ z. not (same x z)) (distinct same xs))) ≡ (b || list_any (λ z. same z y) xs)
      by true e k = refl
      by false e k = among-others x y e (distinct same xs) ∙ k

  -- the last element stands where no other one is the same
  distinct-last : (xs : List K) (y : K) → distinct same (xs ++ y ∷ []) ≡ cond (list_any (λ x. same x y) xs) (distinct same xs) (distinct same xs ++ y ∷ [])
  distinct-last [] y = refl
  distinct-last (x ∷ xs) y = ap (λ zs. x ∷ filter (λ z. not (same x z)) zs) (distinct-last xs y) ∙ by (same x y) (list_any (λ x. same x y) xs) refl
    where
      kept : List K
      kept = filter (λ z. not (same x z)) (distinct same xs)

      append-filter : (zs : List K) → (b : Bool) → same x y ≡ b → filter (λ z. not (same x z)) (zs ++ y ∷ []) ≡ cond b (filter (λ z. not (same x z)) zs) (filter (λ z. not (same x z)) zs ++ y ∷ [])
      append-filter [] true e = ap (λ b. cond (not b) (y ∷ []) []) e
      append-filter [] false e = ap (λ b. cond (not b) (y ∷ []) []) e
      append-filter (z ∷ zs) b e = at (same x z) b (append-filter zs b e)
        where
          at : (c b : Bool) → filter (λ z. not (same x z)) (zs ++ y ∷ []) ≡ cond b (filter (λ z. not (same x z)) zs) (filter (λ z. not (same x z)) zs ++ y ∷ [])
              → cond (not c) (z ∷ filter (λ z. not (same x z)) (zs ++ y ∷ [])) (filter (λ z. not (same x z)) (zs ++ y ∷ []))
              ≡ cond b (cond (not c) (z ∷ filter (λ z. not (same x z)) zs) (filter (λ z. not (same x z)) zs)) (cond (not c) (z ∷ filter (λ z. not (same x z)) zs) (filter (λ z. not (same x z)) zs) ++ y ∷ [])
          at true true k = k
          at true false k = k
          at false true k = ap (λ ws. z ∷ ws) k
          at false false k = ap (λ ws. z ∷ ws) k

      by : (b c : Bool) → same x y ≡ b
          → (x ∷ filter (λ z. not (same x z)) (cond c (distinct same xs) (distinct same xs ++ y ∷ []))) ≡ cond (b || c) (x ∷ filter (λ z. not (same x z)) (distinct same xs)) ((x ∷ filter (λ z. not (same x z)) (distinct same xs)) ++ y ∷ [])
      by true true e = refl
      by true false e = ap (λ zs. x ∷ zs) (append-filter (distinct same xs) true e)
      by false true e = refl
      by false false e = ap (λ zs. x ∷ zs) (append-filter (distinct same xs) false e)

  each-behind : (xs ys : List K) → distinct same (xs ++ ys) ≡ with_each same (distinct same xs) ys
  each-behind xs [] = ap (distinct same) (append-nil xs)
  each-behind xs (y ∷ ys) =
      ap (distinct same) (sym (append_assoc xs (y ∷ []) ys))
      ∙ each-behind (xs ++ y ∷ []) ys
      ∙ ap (λ zs. with_each same zs ys) (distinct-last xs y ∙ ap (λ b. cond b (distinct same xs) (distinct same xs ++ y ∷ [])) (sym (among-distinct y xs)))

  -- so each element put behind the others, where it is none of them, gives the list without repeats
  pub each-once : (ys : List K) → with_each same [] ys ≡ distinct same ys
  each-once ys = sym (each-behind [] ys)
