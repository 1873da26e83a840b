use Rattle.std.proofs.Common.{◌∙◌, ap₂}
use Rattle.std.proofs.lemmas.Result.{IfOk-weaker}
use Rattle.clap.specs.Simple.{with_rule}
use Rattle.command_line.proofs.command.calq_command.Goals as goal

pub returns : goal.returns
returns c =
    IfOk-weaker c.arg-3.result _ _
    (λ r added. added.shape c.budget_argument-budget.ensures.local
    ∙ ap₂ with_rule (c.in_ok-arg-2.ensures.shape c.word_argument-sql.ensures.local
    ∙ ap₂ with_rule (c.in_ok-arg.ensures.shape c.word_argument-model.ensures.local
    ∙ ap₂ with_rule c.bare_command.ensures c.word_argument-model.ensures.rule)
    c.word_argument-sql.ensures.rule)
    c.budget_argument-budget.ensures.rule)
    c.arg-3.ensures
