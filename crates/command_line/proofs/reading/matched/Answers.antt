use Rattle.std.proofs.Common.{◌∙◌, codes}
use Rattle.clap.specs.Matches.{first_value, found_of}
use Rattle.command_line.proofs.BudgetLemmas.{budget_accepted, budget_fits}
use Rattle.command_line.proofs.ReadingLemmas.{read_when_matched, none_when_faulty}
use Rattle.command_line.proofs.reading.matched.Goals as goal

pub asked_in-requires : goal.asked_in-requires
asked_in-requires c = budget_accepted _ c.in_ok-command.ensures c.in-Ok.matches c.in-Ok.ensures.parsed

pub returns-in-Ok-clause-reading : goal.returns-in-Ok-clause-reading
returns-in-Ok-clause-reading c =
    read_when_matched _ (found_of c.in-Ok.matches) _ c.in_ok-asked-in-Ok.asked c.in_ok-command.ensures c.in-Ok.ensures.kinds (λ simple. (c.in-Ok.ensures.matches simple).0) c.in_ok-asked-in-Ok.ensures

pub returns-in-Ok-clause-budget : goal.returns-in-Ok-clause-budget
returns-in-Ok-clause-budget c =
    let found = found_of c.in-Ok.matches in
    budget_fits (first_value found (codes "MODEL")) (first_value found (codes "SQL")) (first_value found (codes "budget")) c.in_ok-asked-in-Ok.asked c.in_ok-asked-in-Ok.ensures (budget_accepted _ c.in_ok-command.ensures c.in-Ok.matches c.in-Ok.ensures.parsed)

pub returns : goal.returns
returns c = record {
  reading = none_when_faulty _ c.in-Err.error _ c.in_ok-command.ensures c.in-Err.ensures.kinds (λ out. c.in_default.not-OutOfMemory (c.kind.ensures ∙ out));
  budget = tt;
}
