-- Lists of views: sums over them, and what holds of each view after one of them is changed.
use Rattle.std.proofs.Common.{◌≡◌, ◌≢◌, ℕ, zero, suc, ◌+◌, ◌<◌, ◌≤◌, List, [], ◌∷◌, ◌++◌, length, set, sym, refl, ap, ◌∙◌, subst, ◌⊎◌, inl, inr, ⊎_elim, arith}
use Rattle.std.specs.List.{sum_by}
use Rattle.std.proofs.lemmas.List.Sums.{sum_by-cons}
use mathlib.Core.Option.{some, some-injective, some-ne-none}
use lib.ListN.{get_elem?}
use Rattle.atomic_table.proofs.Lists.{at_set, set_here, set_else, at_longer, at_last}
use mathlib.Core.Logic.{dite}
use native.Mathlib.Decide.{ℕ_discrete}
use Rattle.turn_lock.specs.Rule.{Apart, Someone}

module _ {A : Type 0} where
  pub sum_at : (f : A → ℕ) (l : List A) (i : ℕ) (v w : A) → get_elem? l i ≡ some v → sum_by f (set l i w) + f v ≡ sum_by f l + f w
  sum_at f [] i v w e = absurd (some-ne-none v (sym e))
  sum_at f (x ∷ xs) zero v w e = omega (arith, sum_by-cons f x xs, sum_by-cons f w xs, ap f (some-injective x v e))
  sum_at f (x ∷ xs) (suc i) v w e = omega (arith, sum_by-cons f x xs, sum_by-cons f x (set xs i w), sum_at f xs i v w e)

  pub sum_one : (f : A → ℕ) (l : List A) (i : ℕ) (v : A) → get_elem? l i ≡ some v → f v ≤ sum_by f l
  sum_one f [] i v e = absurd (some-ne-none v (sym e))
  sum_one f (x ∷ xs) zero v e = omega (arith, sum_by-cons f x xs, ap f (some-injective x v e))
  sum_one f (x ∷ xs) (suc i) v e = omega (arith, sum_by-cons f x xs, sum_one f xs i v e)

  sum_none : (f : A → ℕ) (l : List A) → ((j : ℕ) (u : A) → get_elem? l j ≡ some u → f u ≡ 0) → sum_by f l ≡ 0
  sum_none f [] h = refl
  sum_none f (x ∷ xs) h = omega (arith, sum_by-cons f x xs, h 0 x refl, sum_none f xs (λ j. h (suc j)))

  -- the others add nothing
  pub sum_only : (f : A → ℕ) (l : List A) (i : ℕ) (v : A) → get_elem? l i ≡ some v → ((j : ℕ) (u : A) → j ≢ i → get_elem? l j ≡ some u → f u ≡ 0) → sum_by f l ≡ f v
  sum_only f [] i v e h = absurd (some-ne-none v (sym e))
  sum_only f (x ∷ xs) zero v e h = omega (arith, sum_by-cons f x xs, ap f (some-injective x v e), sum_none f xs (λ j u. h (suc j) u (λ s. absurd (omega arith))))
  sum_only f (x ∷ xs) (suc i) v e h = omega (arith, sum_by-cons f x xs, h 0 x (λ s. absurd (omega arith)) refl, sum_only f xs i v e (λ j u ne. h (suc j) u (λ s. ne (omega arith))))

  pub sum_snoc : (f : A → ℕ) (l : List A) (w : A) → sum_by f (l ++ w ∷ []) ≡ sum_by f l + f w
  sum_snoc f [] w = omega (arith, sum_by-cons f w [])
  sum_snoc f (x ∷ xs) w = omega (arith, sum_by-cons f x xs, sum_by-cons f x (xs ++ w ∷ []), sum_snoc f xs w)

  pub sum_le : (f g : A → ℕ) (l : List A) → ((i : ℕ) (v : A) → get_elem? l i ≡ some v → f v ≤ g v) → sum_by f l ≤ sum_by g l
  sum_le f g [] h = omega arith
  sum_le f g (x ∷ xs) h = omega (arith, sum_by-cons f x xs, sum_by-cons g x xs, h 0 x refl, sum_le f g xs (λ i. h (suc i)))

  pub each_set : (P : A → Type 0) (l : List A) (i : ℕ) (w : A) → P w → ((j : ℕ) (v : A) → j ≢ i → get_elem? l j ≡ some v → P v)
      → (j : ℕ) (v : A) → get_elem? (set l i w) j ≡ some v → P v
  each_set P l i w mine others j v e = ⊎_elim (λ (t : (j ≡ i) × (w ≡ v)). subst P t.1 mine) (λ (t : (j ≢ i) × (get_elem? l j ≡ some v)). others j v t.0 t.1) (at_set l i j w v e)

  -- what the new entry has, the old one had or none has
  pub apart_set : (C : A → ℕ → Type 0) (l : List A) (i : ℕ) (v w : A) → get_elem? l i ≡ some v → Apart C l → ((n : ℕ) → C w n → C v n ⊎ ((j : ℕ) (u : A) → get_elem? l j ≡ some u → ¬ C u n)) → Apart C (set l i w)
  apart_set C l i v w at apart from j k x y n ej ek cx cy =
      ⊎_elim
      (λ (s : (j ≡ i) × (w ≡ x)). ⊎_elim
      (λ (t : (k ≡ i) × (w ≡ y)). s.0 ∙ sym t.0)
      (λ (t : (k ≢ i) × (get_elem? l k ≡ some y)). ⊎_elim (λ (c : C v n). s.0 ∙ apart i k v y n at t.1 c cy) (λ none_has. absurd (none_has k y t.1 cy)) (from n (let P : A → Type 0 = λ z. C z n in subst P (sym s.1) cx)))
      (at_set l i k w y ek))
      (λ (s : (j ≢ i) × (get_elem? l j ≡ some x)). ⊎_elim
      (λ (t : (k ≡ i) × (w ≡ y)). ⊎_elim (λ (c : C v n). apart j i x v n s.1 at cx c ∙ sym t.0) (λ none_has. absurd (none_has j x s.1 cx)) (from n (let P : A → Type 0 = λ z. C z n in subst P (sym t.1) cy)))
      (λ (t : (k ≢ i) × (get_elem? l k ≡ some y)). apart j k x y n s.1 t.1 cx cy)
      (at_set l i k w y ek))
      (at_set l i j w x ej)

  pub in_bounds : (l : List A) (i : ℕ) (a : A) → get_elem? l i ≡ some a → i < length l
  in_bounds [] i a e = absurd (some-ne-none a (sym e))
  in_bounds (x ∷ xs) zero a e = omega arith
  in_bounds (x ∷ xs) (suc i) a e = omega (arith, in_bounds xs i a e)

  -- one place has one entry
  pub one_entry : (l : List A) (i j : ℕ) (v w : A) → get_elem? l i ≡ some v → get_elem? l j ≡ some w → i ≡ j → v ≡ w
  one_entry l i j v w e f same = some-injective v w (sym e ∙ (λ k. get_elem? l (same k)) ∙ f)

  pub some_set : (P : A → Type 0) (l : List A) (i : ℕ) (v w : A) → get_elem? l i ≡ some v → (P v → P w) → Someone P l → Someone P (set l i w)
  some_set P l i v w at gives s = dite (ℕ_discrete s.0 i)
      (λ same. (i, w, set_here l i w (in_bounds l i v at), gives (subst P (one_entry l s.0 i s.1 v s.2 at same) s.3)))
      (λ other. (s.0, s.1, set_else l i s.0 w other ∙ s.2, s.3))

  -- where the changed entry does not meet it
  pub some_unset : (P : A → Type 0) (l : List A) (i : ℕ) (w : A) → ¬ P w → Someone P (set l i w) → Someone P l
  some_unset P l i w not_w s = ⊎_elim (λ (t : (s.0 ≡ i) × (w ≡ s.1)). absurd (not_w (subst P (sym t.1) s.3))) (λ (t : (s.0 ≢ i) × (get_elem? l s.0 ≡ some s.1)). (s.0, s.1, t.1, s.3)) (at_set l i s.0 w s.1 s.2)

  pub sum_two : (f : A → ℕ) (l : List A) (i j : ℕ) (v w : A) → i ≢ j → get_elem? l i ≡ some v → get_elem? l j ≡ some w → f v + f w ≤ sum_by f l
  sum_two f [] i j v w ne e h = absurd (some-ne-none v (sym e))
  sum_two f (x ∷ xs) zero zero v w ne e h = absurd (ne refl)
  sum_two f (x ∷ xs) zero (suc j) v w ne e h = omega (arith, sum_by-cons f x xs, ap f (some-injective x v e), sum_one f xs j w h)
  sum_two f (x ∷ xs) (suc i) zero v w ne e h = omega (arith, sum_by-cons f x xs, ap f (some-injective x w h), sum_one f xs i v e)
  sum_two f (x ∷ xs) (suc i) (suc j) v w ne e h = omega (arith, sum_by-cons f x xs, sum_two f xs i j v w (λ s. ne (ap suc s)) e h)

  -- the entry after the last
  pub at_end : (l : List A) (a b : A) (j : ℕ) → get_elem? (l ++ a ∷ []) j ≡ some b → (get_elem? l j ≡ some b) ⊎ ((j ≡ length l) × (a ≡ b))
  at_end [] a b zero e = inr (refl, some-injective a b e)
  at_end [] a b (suc j) e = absurd (some-ne-none b (sym e))
  at_end (x ∷ xs) a b zero e = inl e
  at_end (x ∷ xs) a b (suc j) e = ⊎_elim (λ t. inl t) (λ t. inr (ap suc t.0, t.1)) (at_end xs a b j e)

  pub each_snoc : (P : A → Type 0) (l : List A) (w : A) → P w → ((j : ℕ) (v : A) → get_elem? l j ≡ some v → P v) → (j : ℕ) (v : A) → get_elem? (l ++ w ∷ []) j ≡ some v → P v
  each_snoc P l w mine others j v e = ⊎_elim (others j v) (λ (t : (j ≡ length l) × (w ≡ v)). subst P t.1 mine) (at_end l w v j e)

  pub apart_snoc : (C : A → ℕ → Type 0) (l : List A) (w : A) → Apart C l → ((n : ℕ) → C w n → (j : ℕ) (u : A) → get_elem? l j ≡ some u → ¬ C u n) → Apart C (l ++ w ∷ [])
  apart_snoc C l w apart new j k x y n ej ek cx cy =
      ⊎_elim
      (λ (s : get_elem? l j ≡ some x). ⊎_elim (λ (t : get_elem? l k ≡ some y). apart j k x y n s t cx cy)
      (λ (t : (k ≡ length l) × (w ≡ y)). absurd (new n (let P : A → Type 0 = λ z. C z n in subst P (sym t.1) cy) j x s cx)) (at_end l w y k ek))
      (λ (s : (j ≡ length l) × (w ≡ x)). ⊎_elim (λ (t : get_elem? l k ≡ some y). absurd (new n (let P : A → Type 0 = λ z. C z n in subst P (sym s.1) cx) k y t cy))
      (λ (t : (k ≡ length l) × (w ≡ y)). s.0 ∙ sym t.0) (at_end l w y k ek))
      (at_end l w x j ej)

  pub some_longer : (P : A → Type 0) (l m : List A) → Someone P l → Someone P (l ++ m)
  some_longer P l m s = (s.0, s.1, at_longer l m s.0 s.1 s.2, s.3)

  pub some_last : (P : A → Type 0) (l : List A) (w : A) → P w → Someone P (l ++ w ∷ [])
  some_last P l w p = (length l, w, at_last l w (length l) refl, p)

  pub some_one : (P : A → Type 0) (l : List A) (i : ℕ) (w : A) → i < length l → P w → Someone P (set l i w)
  some_one P l i w h p = (i, w, set_here l i w h, p)

  pub some_cut : (P : A → Type 0) (l : List A) (i : ℕ) (v left right : A) → get_elem? l i ≡ some v → (P v → P left ⊎ P right) → Someone P l → Someone P (set l i left ++ right ∷ [])
  some_cut P l i v left right at parts s = dite (ℕ_discrete s.0 i)
      (λ same. ⊎_elim (λ p. some_longer P (set l i left) (right ∷ []) (some_one P l i left (in_bounds l i v at) p)) (λ p. some_last P (set l i left) right p) (parts (subst P (one_entry l s.0 i s.1 v s.2 at same) s.3)))
      (λ other. some_longer P (set l i left) (right ∷ []) (s.0, s.1, set_else l i s.0 left other ∙ s.2, s.3))

  pub some_unlonger : (P : A → Type 0) (l : List A) (w : A) → ¬ P w → Someone P (l ++ w ∷ []) → Someone P l
  some_unlonger P l w not_w s = ⊎_elim (λ e. (s.0, s.1, e, s.3)) (λ (t : (s.0 ≡ length l) × (w ≡ s.1)). absurd (not_w (subst P (sym t.1) s.3))) (at_end l w s.1 s.0 s.2)

  set_swap : (l : List A) (i j : ℕ) (v w : A) → i ≢ j → set (set l i v) j w ≡ set (set l j w) i v
  set_swap [] i j v w ne = refl
  set_swap (x ∷ xs) zero zero v w ne = absurd (ne refl)
  set_swap (x ∷ xs) zero (suc j) v w ne = refl
  set_swap (x ∷ xs) (suc i) zero v w ne = refl
  set_swap (x ∷ xs) (suc i) (suc j) v w ne = λ k. x ∷ set_swap xs i j v w (λ e. ne (ap suc e)) k

  -- two entries become one, and the other is spent
  module _ (l : List A) (i j : ℕ) (v w both spent : A) (at : get_elem? l i ≡ some v) (apart_ids : ¬ (j ≡ i)) (there : get_elem? l j ≡ some w) where
    abbrev once : List A
    once = set l j spent

    abbrev pub twice : List A
    twice = set (set l i both) j spent

    still : get_elem? once i ≡ some v
    still = set_else l j i spent (λ e. apart_ids (sym e)) ∙ at

    swapped : set once i both ≡ twice
    swapped = set_swap l j i spent both apart_ids

    pub sum_twice : (f : A → ℕ) → sum_by f twice + (f v + f w) ≡ sum_by f l + (f both + f spent)
    sum_twice f = omega (arith, ap (sum_by f) swapped, sum_at f once i v both still, sum_at f l j w spent there)

    pub each_twice : (P : A → Type 0) → P both → P spent → ((k : ℕ) (u : A) → get_elem? l k ≡ some u → P u) → (k : ℕ) (u : A) → get_elem? twice k ≡ some u → P u
    each_twice P mine theirs others k u e = each_set P (set l i both) j spent theirs (λ k' u' _ f. each_set P l i both mine (λ m x _ g. others m x g) k' u' f) k u e

    pub apart_twice : (C : A → ℕ → Type 0) → Apart C l → ((n : ℕ) → C both n → C v n ⊎ C w n) → ((n : ℕ) → ¬ C spent n) → Apart C twice
    apart_twice C apart from none_spent = subst (Apart C) swapped (apart_set C once i v both still (apart_set C l j w spent there apart (λ n c. absurd (none_spent n c)))
        (λ n c. ⊎_elim (λ mine. inl mine)
        (λ theirs. inr (λ k u e h. ⊎_elim (λ (t : (k ≡ j) × (spent ≡ u)). none_spent n (let P : A → Type 0 = λ z. C z n in subst P (sym t.1) h)) (λ (t : (k ≢ j) × (get_elem? l k ≡ some u)). t.0 (apart k j u w n t.1 there h theirs)) (at_set l j k spent u e)))
        (from n c)))

    pub some_twice : (P : A → Type 0) → (P v → P both) → (P w → P both) → Someone P l → Someone P twice
    some_twice P mine theirs s = subst (Someone P) swapped (dite (ℕ_discrete s.0 j)
        (λ same. some_one P once i both (in_bounds once i v still) (theirs (subst P (one_entry l s.0 j s.1 w s.2 there same) s.3)))
        (λ other. some_set P once i v both still mine (s.0, s.1, set_else l j s.0 spent other ∙ s.2, s.3)))
