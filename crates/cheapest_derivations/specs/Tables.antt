-- What a table of cheapest derivations is.
use Rattle.std.specs.Prelude.{◌≡◌, ℕ, ◌<◌, ◌≤◌, length, List, Option, Some, None, slice_get}
use Rattle.cheapest_derivations.specs.declared.table.Edge.{Edge}
use Rattle.cheapest_derivations.specs.declared.table.Cell.{Cell}
use Rattle.cheapest_derivations.specs.declared.table.Step.{Step}
use Rattle.cheapest_derivations.specs.Derivations.{Tree, none, step, Derives, cost}
use Rattle.cheapest_derivations.specs.Offers.{cell_at, value_of, offered}

-- the derivation that ends with the step at a place
abbrev pub Spells : List Step → Option ℕ → Tree → Type 0
Spells steps place none = place ≡ None
Spells steps place (step e a b) =
    (k : ℕ) × (x : Step) × (place ≡ Some k) × (slice_get steps k ≡ Some x) × (x.edge ≡ e) × Spells steps x.first a × Spells steps x.second b

-- a cell's cost is that of a derivation of its state, which ends at the cell's place
pub record Holds (limit : ℕ) (edges : List Edge) (steps : List Step) (s : ℕ) (c : Cell) : Type 0 where
  pub tree : Tree
  pub spelled : Spells steps (Some c.place) tree
  pub derives : Derives edges (Some s) tree
  pub cost : cost limit edges tree ≡ c.cost

abbrev pub IsBelow : ℕ → Option ℕ → Type 0
IsBelow n None = Unit {0}
IsBelow n (Some k) = k < n

-- each step takes one of n alternatives, and its inputs are earlier steps
pub record AreOrdered (steps : List Step) (n : ℕ) : Type 0 where
  pub edge : (k : ℕ) (x : Step) → slice_get steps k ≡ Some x → x.edge < n
  pub first : (k : ℕ) (x : Step) → slice_get steps k ≡ Some x → IsBelow k x.first
  pub second : (k : ℕ) (x : Step) → slice_get steps k ≡ Some x → IsBelow k x.second

pub record IsSound (limit : ℕ) (edges : List Edge) (cells : List (Option Cell)) (steps : List Step) : Type 0 where
  pub held : (s : ℕ) (c : Cell) → cell_at cells s ≡ Some c → Holds limit edges steps s c
  pub ordered : AreOrdered steps (length edges)

-- no alternative offers less than what its target has
pub record AreSettled (limit : ℕ) (edges : List Edge) (cells : List (Option Cell)) : Type 0 where
  pub settled : (k : ℕ) (edge : Edge) → slice_get edges k ≡ Some edge → offered limit cells edge ≡ None

abbrev pub IsAtMost : Option ℕ → ℕ → Type 0
IsAtMost None n = ⊥
IsAtMost (Some v) n = v ≤ n

-- no derivation of a state costs less than its cell, and a state with a derivation has a cell
pub record IsLeast (limit : ℕ) (edges : List Edge) (cells : List (Option Cell)) : Type 0 where
  pub least : (s : ℕ) (tree : Tree) → Derives edges (Some s) tree → IsAtMost (value_of cells (Some s)) (cost limit edges tree)
