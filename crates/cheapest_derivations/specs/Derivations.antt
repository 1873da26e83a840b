-- Derivations over a table of alternatives, and what they cost.
use Rattle.std.specs.Prelude.{◌≡◌, ℕ, ◌+◌, ◌<◌, min, map, List, Option, Some, None, slice_get, slice_index_or}
use Rattle.cheapest_derivations.specs.declared.table.Edge.{Edge}

-- a derivation: an alternative, by its place, over the derivations of its inputs; `none` where there is no input
pub data Tree : Type 0 where
  none : Tree
  step : ℕ → Tree → Tree → Tree

-- the tree derives this state; `none` derives no state
abbrev pub Derives : List Edge → Option ℕ → Tree → Type 0
Derives edges goal none = goal ≡ None
Derives edges goal (step e a b) =
    (edge : Edge) × (slice_get edges e ≡ Some edge) × (goal ≡ Some edge.target) × Derives edges edge.first a × Derives edges edge.second b

abbrev pub weight_at : List Edge → ℕ → ℕ
weight_at edges e = slice_index_or (map (λ edge. edge.weight) edges) e 0

-- the sum of the weights, cut at the limit
abbrev pub cost : ℕ → List Edge → Tree → ℕ
cost limit edges none = 0
cost limit edges (step e a b) = min (weight_at edges e + cost limit edges a + cost limit edges b) limit

abbrev pub IsWithin : ℕ → Option ℕ → Type 0
IsWithin n None = Unit {0}
IsWithin n (Some s) = s < n

-- the alternative names states below n alone
pub record IsEdgeWithin (n : ℕ) (edge : Edge) : Type 0 where
  pub target : edge.target < n
  pub first : IsWithin n edge.first
  pub second : IsWithin n edge.second

-- the alternatives name states below n alone
pub record AreWithin (edges : List Edge) (n : ℕ) : Type 0 where
  pub target : (k : ℕ) (edge : Edge) → slice_get edges k ≡ Some edge → edge.target < n
  pub first : (k : ℕ) (edge : Edge) → slice_get edges k ≡ Some edge → IsWithin n edge.first
  pub second : (k : ℕ) (edge : Edge) → slice_get edges k ≡ Some edge → IsWithin n edge.second
