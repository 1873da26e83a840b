use Rattle.std.proofs.Common.{◌≡◌, take}
use Rattle.std.specs.List.{flat_map}
use Rattle.phys_plan.specs.Seen.{space_of}
use Rattle.phys_plan.specs.Alternatives.{meets_by}
use Rattle.phys_plan.proofs.alternatives.alternatives_of.Given as goal

abbrev pub invariant-loop-way : goal.invariant-loop-way
invariant-loop-way l = l.out ≡ flat_map (meets_by (space_of l.space) l.state) (take l.way-index l.way-items)
