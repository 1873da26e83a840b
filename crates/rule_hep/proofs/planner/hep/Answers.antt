use Rattle.std.proofs.Common.{rules, ◌≡◌, map, List, [], ◌∷◌, ◌++◌, arith, sym, ◌∙◌, ap, Some}
use Rattle.std.specs.Option.{option_map}
use Rattle.std.proofs.lemmas.Grind.{common_steps}
use Rattle.std.proofs.lemmas.List.{map-append}
use Rattle.cal_rel.specs.Tree.{tree_of}
use Rattle.rule_hep.specs.Meaning.{Meaning}
use Rattle.rule_hep.specs.Run.{Step, first_rule, hep_run}
use Rattle.rule_hep.specs.Seen.{step_of}
use Rattle.rule_hep.proofs.RunLemmas.{hep_steps, hep_run-step, last_result-push}
use Rattle.rule_hep.proofs.StepLemmas.{follows-from_log}
use Rattle.rule_hep.proofs.planner.hep.Goals as goal

pub returns-in_default : goal.returns-in_default
returns-in_default g c =
    let all : List Meaning = map (λ b. (goal.Rule-dyn g (b.vtable, b.value)).meaning b.value) c.args.rules.now in
    let log : map step_of c.loop-step.log ≡ hep_run c.args.limit all c.args.info.now (tree_of c.args.rel) = search (rules, hep_steps) in
    let last = c.loop-step.invariant.last in
    let follows = follows-from_log c.args.limit all c.args.info.now (tree_of c.args.rel) (tree_of c.loop-step.root) (map step_of c.loop-step.log) log last in
    record {
      log = log;
      last = last;
      stopped = search rules;
      well_formed = follows.well_formed c.requires.well_formed;
      no_hole = follows.no_hole c.requires.no_hole;
      same = follows.same;
    }

pub returns : goal.returns
returns g c =
    let all : List Meaning = map (λ b. (goal.Rule-dyn g (b.vtable, b.value)).meaning b.value) c.args.rules.now in
    let log : map step_of c.loop-step.log ≡ hep_run c.args.limit all c.args.info.now (tree_of c.args.rel) = search (rules, hep_steps) in
    let last = c.loop-step.invariant.last in
    let follows = follows-from_log c.args.limit all c.args.info.now (tree_of c.args.rel) (tree_of c.loop-step.root) (map step_of c.loop-step.log) log last in
    record {
      log = log;
      last = last;
      stopped = search rules;
      well_formed = follows.well_formed c.requires.well_formed;
      no_hole = follows.no_hole c.requires.no_hole;
      same = follows.same;
    }

pub loop-step-preserved : goal.loop-step-preserved
loop-step-preserved g c =
    let all : List Meaning = map (λ b. (goal.Rule-dyn g (b.vtable, b.value)).meaning b.value) c.args.rules.now in
    let info = c.args.info.now in
    let step = c.in-Some.step in
    let log : List Step = map step_of c.loop-step.log in
    let first : Some (step_of step) ≡ first_rule 0 all info (tree_of c.loop-step.root) = sym (ap (option_map step_of) c.in-Some.is) ∙ c.in_ok-step.ensures in
    let grown : map step_of c.push.new.self ≡ log ++ step_of step ∷ [] = ap (map step_of) c.in_ok-push.ensures.ok ∙ map-append step_of c.loop-step.log (step ∷ []) in
    record {
      log = rw (grown, c.in_ok-root.ensures)
          (hep_run-step c.args.limit c.loop-step._step all info (tree_of c.args.rel) (tree_of c.loop-step.root) log (step_of step) c.loop-step-test.true c.loop-step.invariant.log first);
      last = rw (grown, last_result-push, c.in_ok-root.ensures);
      long = grind (arith, common_steps, c.in_ok-push.ensures.ok);
    }
