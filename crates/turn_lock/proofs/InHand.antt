-- What is in hand, and what is there.
use Rattle.std.proofs.Common.{◌≡◌, ℕ, zero, suc, Option, Some, None, IsSome, IsSomeAnd, List, [], ◌∷◌, refl, subst}
use Rattle.std.proofs.lemmas.Bool.{false≢true}
use Rattle.atomic_table.specs.Table.{rest}
use Rattle.turn_lock.specs.Kept.{value_of, machine_of}

module _ {A : Type 0} where
  pub something : (o : Option A) → IsSome o → (x : A) × (o ≡ Some x)
  something None there = absurd (false≢true there)
  something (Some x) there = (x, refl)

  pub value_is : (o : Option A) (there : IsSome o) (x : A) → o ≡ Some x → value_of o there ≡ x
  value_is None there x e = absurd (false≢true there)
  value_is (Some y) there x e = cc (e)

  pub is_value : (o : Option A) (there : IsSome o) → o ≡ Some (value_of o there)
  is_value None there = absurd (false≢true there)
  is_value (Some y) there = refl

  pub and_fact : (P : A → Type 0) (o : Option A) (x : A) → IsSomeAnd o P → o ≡ Some x → P x
  and_fact P o x h e = let Q : Option A → Type 0 = λ z. IsSomeAnd z P in subst Q e h

  pub and_there : (P : A → Type 0) (o : Option A) → IsSomeAnd o P → (x : A) × (o ≡ Some x) × P x
  and_there P None h = absurd h
  and_there P (Some x) h = (x, refl, h)

  pub in_hand : (l : List (ℕ × A)) (x : A) → machine_of l ≡ Some x → l ≡ (0, x) ∷ rest l
  in_hand [] x e = cc (e)
  in_hand ((zero, y) ∷ others) x e = let same : y ≡ x = cc (e) in λ i. (0, same i) ∷ others
  in_hand ((suc k, y) ∷ others) x e = cc (e)
