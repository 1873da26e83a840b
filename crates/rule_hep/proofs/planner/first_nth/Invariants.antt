use Rattle.std.proofs.Common.{◌≡◌, ◌-◌}
use Rattle.cal_rel.specs.Tree.{tree_of}
use Rattle.rule_hep.specs.Run.{first_nth}
use Rattle.rule_hep.proofs.planner.first_nth.Given as goal

abbrev pub invariant-loop-nth : goal.invariant-loop-nth
invariant-loop-nth g l =
    let rule = (goal.Rule-dyn g (l.rule.vtable, l.rule.value)).meaning l.rule.value in
    first_nth l.at rule l.info (tree_of l.root) l.path 0 (rule.width l.info) ≡ first_nth l.at rule l.info (tree_of l.root) l.path l.nth (rule.width l.info - l.nth)
