-- Firings as plain data.
use Rattle.std.specs.Prelude.{ℕ, List, [], map, slice_index_or}
use Rattle.cal_rel.specs.Tree.{Tree, tree_of}
use Rattle.search_model.specs.Firings as plain
use Rattle.search_firings.specs.declared.firing.Firing.{Firing}
use Rattle.search_firings.specs.declared.fired.Fired.{Fired}
use Rattle.search_firings.specs.declared.by_set.BySet.{BySet}

abbrev pub firing_of : Firing → plain.Firing
firing_of f = record { rule = f.rule; nth = f.nth; binding = tree_of f.binding; set = f.set }

-- the firings in their order
abbrev pub firings_of : Fired → List plain.Firing
firings_of f = map firing_of f.firings.keys

-- the nodes of each set
abbrev pub nodes_of : BySet → ℕ → List Tree
nodes_of n k = map tree_of (slice_index_or n.sets.items k [])
