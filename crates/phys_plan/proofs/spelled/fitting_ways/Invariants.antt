use Rattle.std.proofs.Common.{◌≡◌, ◌++◌, take}
use Rattle.std.specs.List.{flat_map}
use Rattle.phys_plan.specs.Seen.{kept}
use Rattle.phys_plan.specs.Ways.{converters}
use Rattle.phys_plan.proofs.WaySteps.{spelled_by}
use Rattle.phys_plan.proofs.spelled.fitting_ways.Given as goal

abbrev pub invariant-loop-member : goal.invariant-loop-member
invariant-loop-member l = l.out ≡ kept l.only (converters l.set l.order) ++ flat_map (spelled_by l.only l.space l.set) (take l.member-index l.member-items)
