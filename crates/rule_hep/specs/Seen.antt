-- What a step of the log says.
use Rattle.cal_rel.specs.Tree.{tree_of}
use Rattle.rule_hep.specs.declared.planner.HepStep.{HepStep}
use Rattle.rule_hep.specs.Run.{Step}

abbrev pub step_of : HepStep → Step
step_of s = record { rule = s.rule; path = s.path; nth = s.nth; result = tree_of s.result }
