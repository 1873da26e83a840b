use Rattle.std.proofs.Common.{◌≡◌, ◌++◌, drop}
use Rattle.std.specs.Option.{option_map}
use Rattle.agg_images.specs.AggregateProjectMerge.{column_below}
use Rattle.rel_meta.specs.Keys.{each_of}
use Rattle.rules_agg.proofs.merge.groups_below.Given as goal

abbrev pub invariant-loop-group : goal.invariant-loop-group
invariant-loop-group l =
    option_map (λ rest. l.below ++ rest) (each_of (column_below l.items) (drop l.group-index l.groups)) ≡ each_of (column_below l.items) l.groups
