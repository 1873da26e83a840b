use Rattle.std.proofs.Common.{◌≡◌, ◌++◌, drop}
use Rattle.std.specs.Option.{option_map}
use Rattle.agg_images.specs.AggregateRemove.{single_call}
use Rattle.rel_meta.specs.Keys.{each_of}
use Rattle.rules_agg.proofs.remove.single_values.Given as goal

abbrev pub invariant-loop-call : goal.invariant-loop-call
invariant-loop-call l =
    option_map (λ rest. l.values ++ rest) (each_of (single_call l.columns) (drop l.call-index l.calls)) ≡ each_of (single_call l.columns) l.calls
