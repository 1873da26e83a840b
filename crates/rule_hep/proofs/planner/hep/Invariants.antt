use Rattle.std.proofs.Common.{◌≡◌, ◌-◌, ◌++◌, map, length}
use Rattle.cal_rel.specs.Tree.{tree_of}
use Rattle.rule_hep.specs.Run.{hep_run, last_result}
use Rattle.rule_hep.specs.Seen.{step_of}
use Rattle.rule_hep.proofs.planner.hep.Given as goal

abbrev pub invariant-loop-step : goal.invariant-loop-step
invariant-loop-step g l =
    let rules = map (λ b. (goal.Rule-dyn g (b.vtable, b.value)).meaning b.value) l.rules in
    record {
      log : hep_run l.limit rules l.info (tree_of l.fn.rel) ≡ map step_of l.log ++ hep_run (l.limit - l._step) rules l.info (tree_of l.root);
      last : tree_of l.root ≡ last_result (tree_of l.fn.rel) (map step_of l.log);
      long : length l.log ≡ l._step;
    }
