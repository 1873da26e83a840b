-- What an alternative offers over the cells of a table.
use Rattle.std.specs.Prelude.{ℕ, ◌+◌, nat_lt, min, if◌then◌else◌, List, Option, Some, None, slice_index_or}
use Rattle.std.specs.Option.{option_map}
use Rattle.cheapest_derivations.specs.declared.table.Edge.{Edge}
use Rattle.cheapest_derivations.specs.declared.table.Cell.{Cell}
use Rattle.cheapest_derivations.specs.declared.table.Step.{Step}

abbrev pub cell_at : List (Option Cell) → ℕ → Option Cell
cell_at cells s = slice_index_or cells s None

-- the cost of an input so far, 0 where there is no input
abbrev pub value_of : List (Option Cell) → Option ℕ → Option ℕ
value_of cells None = Some 0
value_of cells (Some s) = option_map (λ c. c.cost) (cell_at cells s)

abbrev pub place_of : List (Option Cell) → Option ℕ → Option ℕ
place_of cells None = None
place_of cells (Some s) = option_map (λ c. c.place) (cell_at cells s)

-- over the costs of both inputs, where both have one
abbrev pub joined : ℕ → ℕ → Option ℕ → Option ℕ → Option ℕ
joined limit w None b = None
joined limit w (Some a) None = None
joined limit w (Some a) (Some b) = Some (min (w + a + b) limit)

-- a new cost, where it is less than what is there
abbrev pub better : Option ℕ → Option Cell → Option ℕ
better None there = None
better (Some n) None = Some n
better (Some n) (Some c) = if nat_lt n c.cost then Some n else None

abbrev pub offered : ℕ → List (Option Cell) → Edge → Option ℕ
offered limit cells edge = better (joined limit edge.weight (value_of cells edge.first) (value_of cells edge.second)) (cell_at cells edge.target)

-- the step that an alternative offers
abbrev pub step_for : List (Option Cell) → ℕ → Edge → Step
step_for cells k edge = record { edge = k; first = place_of cells edge.first; second = place_of cells edge.second }
