use Rattle.std.proofs.Common.{◌≡◌, drop}
use Rattle.cal_rel.specs.Tree.{tree_of}
use Rattle.rule_hep.specs.Run.{first_place}
use Rattle.rule_hep.proofs.planner.first_place.Given as goal

abbrev pub invariant-loop-path : goal.invariant-loop-path
invariant-loop-path g l =
    let rule = (goal.Rule-dyn g (l.rule.vtable, l.rule.value)).meaning l.rule.value in
    first_place l.at rule l.info (tree_of l.root) l.paths ≡ first_place l.at rule l.info (tree_of l.root) (drop l.path-index l.paths)
