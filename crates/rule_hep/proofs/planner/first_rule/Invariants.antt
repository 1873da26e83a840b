use Rattle.std.proofs.Common.{◌≡◌, map, drop}
use Rattle.cal_rel.specs.Tree.{tree_of}
use Rattle.rule_hep.specs.Run.{first_rule}
use Rattle.rule_hep.proofs.planner.first_rule.Given as goal

abbrev pub invariant-loop-k : goal.invariant-loop-k
invariant-loop-k g l =
    first_rule 0 (map (λ b. (goal.Rule-dyn g (b.vtable, b.value)).meaning b.value) l.rules) l.info (tree_of l.root)
    ≡ first_rule l.k (map (λ b. (goal.Rule-dyn g (b.vtable, b.value)).meaning b.value) (drop l.k l.rules)) l.info (tree_of l.root)
