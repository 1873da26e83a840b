-- When alternatives name states below a number alone.
use Rattle.std.proofs.Common.{◌≡◌, ℕ, ◌↔◌, List, Some, get_or, subst, All}
use Rattle.std.specs.List.{slice_get}
use Rattle.std.proofs.lemmas.Option.{slice_get-get_or, slice_get_within, get_or_from_slice_get}
use Rattle.cheapest_derivations.specs.declared.table.Edge.{Edge}
use Rattle.cheapest_derivations.specs.Derivations.{IsEdgeWithin, AreWithin}

all-get : {A : Type 0} (P : A → Type 0) (xs : List A) → All P xs → (k : ℕ) (x : A) → slice_get xs k ≡ Some x → P x
all-get P xs h k x e = subst P (get_or_from_slice_get xs k x x e) (h k x (slice_get_within xs k x e))

get-all : {A : Type 0} (P : A → Type 0) (xs : List A) → ((k : ℕ) (x : A) → slice_get xs k ≡ Some x → P x) → All P xs
get-all P xs h = λ k d low. h k (get_or xs k d) (slice_get-get_or xs k d low)

pub all-within : (n : ℕ) (edges : List Edge) → All (IsEdgeWithin n) edges ↔ AreWithin edges n
all-within n edges = (
  λ all. record {
    target = λ k edge got. (all-get (IsEdgeWithin n) edges all k edge got).target;
    first = λ k edge got. (all-get (IsEdgeWithin n) edges all k edge got).first;
    second = λ k edge got. (all-get (IsEdgeWithin n) edges all k edge got).second;
  },
  λ within. get-all (IsEdgeWithin n) edges (λ k edge got. record {
    target = within.target k edge got;
    first = within.first k edge got;
    second = within.second k edge got;
  }),
)

pub ruleset within_steps = (all-within)
