-- Where the root of a tree is found, the tree stood in that set before, and nothing was added; where it isn't, it stood nowhere.
use Rattle.std.proofs.Common.{◌≡◌, ℕ, ◌+◌, ◌<◌, ◌≤◌, ◌⊎◌, inl, inr, List, length, Some, None, refl, ◌∙◌, ap, arith}
use Rattle.std.specs.Prelude.{Option, slice_set}
use Rattle.std.proofs.lemmas.List.{length-set, length_push}
use Rattle.std.proofs.lemmas.List.Elements.{Contains-push_cases}
use Rattle.cal_schema.specs.declared.rel_type.RelType.{RelType}
use Rattle.cal_rel.specs.Holes.{EachHole}
use Rattle.cal_rel.specs.Info.{set_at}
use Rattle.cal_rel.specs.Tree.{Tree}
use Rattle.memo_model.specs.Sets.{Member, Sets, Has, Stands}
use Rattle.memo_model.specs.Steps.{found, met, Placed, place}
use Rattle.memo_model.proofs.PlaceLemmas.{found-has, found-none}

-- the tree stood in the answered set, and nothing was added
pub record WasKnown (m : Sets) (x : Tree) (r : Placed) : Type 0 where
  pub stood : Stands m.members r.set x
  pub members : r.sets.members ≡ m.members
  pub long : length r.sets.types ≡ length m.types
  pub added : r.sets.added ≡ m.added

-- the tree stood nowhere, and something was added
pub record WasNew (m : Sets) (x : Tree) (r : Placed) : Type 0 where
  pub nowhere : (k : ℕ) → Stands m.members k x → ⊥
  pub added : m.added < r.sets.added

-- and it has the last of the new sets
pub record IsLast (m : Sets) (x : Tree) (r : Placed) : Type 0 where
  pub nowhere : (k : ℕ) → Stands m.members k x → ⊥
  pub added : m.added < r.sets.added
  pub new : length m.types ≤ r.set
  pub last : length r.sets.types ≡ r.set + 1

-- a member that is new is over sets that are older than its own
abbrev pub IsAbove : Sets → Sets → Type 0
IsAbove m n = (s : ℕ) (y : Tree) → Has n.members s y → Has m.members s y ⊎ ((s < length n.types) × EachHole (λ k. k < s) y)

-- what is known of a node whose inputs are in: they were known and so nothing changed, or the node is over a new set and is nowhere
pub record IsOldNode (m mid : Sets) (x node : Tree) : Type 0 where
  pub members : mid.members ≡ m.members
  pub long : length mid.types ≡ length m.types
  pub added : mid.added ≡ m.added
  pub stands : (k : ℕ) → Has m.members k node → Stands m.members k x
  pub has : (k : ℕ) → Stands m.members k x → Has m.members k node

pub record IsNewNode (m mid : Sets) (x node : Tree) : Type 0 where
  pub added : m.added < mid.added
  pub long : length m.types ≤ length mid.types
  pub absent : (k : ℕ) → Has mid.members k node → ⊥
  pub nowhere : (k : ℕ) → Stands m.members k x → ⊥

narrowed-long : (types : List (Option RelType)) (k : ℕ) (t : Option RelType) → length (slice_set types k (met (set_at types k) t)) ≡ length types
narrowed-long types k t = length-set types k (met (set_at types k) t)

module _ (m mid : Sets) (x node : Tree) (t : Option RelType) where
  old-found : (target : Option ℕ) (k : ℕ) → IsOldNode m mid x node → found node mid.members ≡ Some k → WasKnown m x (place node t target (Some k) mid)
  old-found target k old e =
      let has : Has m.members k node = rw old.members at (found-has node mid.members k e) in
      record { stood = old.stands k has; members = old.members; long = narrowed-long mid.types k t ∙ old.long; added = old.added }

  old-absent : IsOldNode m mid x node → found node mid.members ≡ None → (k : ℕ) → Stands m.members k x → ⊥
  old-absent old e k stands =
      let has : Has mid.members k node = rw old.members (old.has k stands) in
      found-none node mid.members e k has

  old-new : IsOldNode m mid x node → found node mid.members ≡ None → IsLast m x (place node t None None mid)
  old-new old e =
      let a = old.added in
      let l = old.long in
      let p = length_push mid.types t in
      record { nowhere = old-absent old e; added = omega arith; new = omega arith; last = omega arith }

  new-found : (target : Option ℕ) (k : ℕ) → IsNewNode m mid x node → found node mid.members ≡ Some k → ⊥
  new-found target k new e = new.absent k (found-has node mid.members k e)

  new-new : IsNewNode m mid x node → IsLast m x (place node t None None mid)
  new-new new =
      let a = new.added in
      let l = new.long in
      let p = length_push mid.types t in
      record { nowhere = new.nowhere; added = omega arith; new = omega arith; last = omega arith }

  -- the node in a set of its own
  pub place-none : (o : Option ℕ) → found node mid.members ≡ o → IsOldNode m mid x node ⊎ IsNewNode m mid x node
      → WasKnown m x (place node t None o mid) ⊎ IsLast m x (place node t None o mid)
  place-none (Some k) e (inl old) = inl (old-found None k old e)
  place-none (Some k) e (inr new) = absurd (new-found None k new e)
  place-none None e (inl old) = inr (old-new old e)
  place-none None e (inr new) = inr (new-new new)

  -- the node in the target
  pub place-some : (s : ℕ) (o : Option ℕ) → found node mid.members ≡ o → IsOldNode m mid x node ⊎ IsNewNode m mid x node
      → WasKnown m x (place node t (Some s) o mid) ⊎ (WasNew m x (place node t (Some s) o mid) × ((place node t (Some s) o mid).set ≡ s))
  place-some s (Some k) e (inl old) = inl (old-found (Some s) k old e)
  place-some s (Some k) e (inr new) = absurd (new-found (Some s) k new e)
  place-some s None e (inl old) = inr (record { nowhere = old-absent old e; added = let a = old.added in omega arith }, refl)
  place-some s None e (inr new) = inr (record { nowhere = new.nowhere; added = let a = new.added in omega arith }, refl)

  pub above-placed : (o : Option ℕ) → IsAbove m mid → EachHole (λ k. k < length mid.types) node → length m.types ≤ length mid.types → IsAbove m (place node t None o mid).sets
  above-placed (Some k) above holes long = λ s y h. elim (above s y h) [
    | inl old ↦ inl old
    | inr new ↦ (let a = new.0 in let l = narrowed-long mid.types k t in inr (omega arith, new.1))
  ]
  above-placed None above holes long = λ s y h. elim (Contains-push_cases mid.members (record { set = length mid.types; tree = node }) (record { set = s; tree = y }) h.at) [
    | inl old ↦ elim (above s y (record { at = old })) [ inl e ↦ inl e | inr new ↦ (let a = new.0 in let p = length_push mid.types t in inr (omega arith, new.1)) ]
    | inr e ↦ inr (pushed s y e)
  ]
    where
      pushed : (s : ℕ) (y : Tree) → ◌≡◌ {A = Member} (record { set = length mid.types; tree = node }) (record { set = s; tree = y })
          → (s < length (place node t None None mid).sets.types) × EachHole (λ k. k < s) y
      pushed s y e =
          let q = ap (λ (z : Member). z.set) e in
          let w = ap (λ (z : Member). z.tree) e in
          let p = length_push mid.types t in
          (omega arith, rw (← w, ← q) holes)
