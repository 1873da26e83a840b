use Rattle.std.proofs.Common.{◌≡◌, ◌++◌, drop}
use Rattle.std.specs.Option.{option_map}
use Rattle.agg_images.specs.AggregateProjectMerge.{call_below}
use Rattle.rel_meta.specs.Keys.{each_of}
use Rattle.rules_agg.proofs.merge.calls_below.Given as goal

abbrev pub invariant-loop-call : goal.invariant-loop-call
invariant-loop-call l =
    option_map (λ rest. l.below ++ rest) (each_of (call_below l.items) (drop l.call-index l.calls)) ≡ each_of (call_below l.items) l.calls
