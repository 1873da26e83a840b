use Rattle.std.proofs.Common.{◌≡◌, ◌++◌, drop}
use Rattle.std.specs.Option.{option_map}
use Rattle.rel_meta.specs.Keys.{each_of, place_of}
use Rattle.rel_meta.proofs.keys.placed_key.Given as goal

abbrev pub invariant-loop-column : goal.invariant-loop-column
invariant-loop-column l = option_map (λ rest. l.placed ++ rest) (each_of (place_of l.items) (drop l.column-index l.key)) ≡ each_of (place_of l.items) l.key
