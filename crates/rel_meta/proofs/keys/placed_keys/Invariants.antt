use Rattle.std.proofs.Common.{◌≡◌, ◌++◌, drop}
use Rattle.std.specs.Prelude.{filter_map}
use Rattle.rel_meta.specs.Keys.{each_of, place_of}
use Rattle.rel_meta.proofs.keys.placed_keys.Given as goal

abbrev pub invariant-loop-key : goal.invariant-loop-key
invariant-loop-key l = l.placed ++ filter_map (each_of (place_of l.items)) (drop l.key-index l.keys) ≡ filter_map (each_of (place_of l.items)) l.keys
