use Rattle.std.proofs.Common.{subst, sym}
use Rattle.plan_nodes.proofs.PlanLemmas.{inputs-one}
use Rattle.row_exec.specs.Passes.{IsPass, Pass}
use Rattle.row_exec.proofs.Passes.{pass-Project, project_of}
use Rattle.row_exec.proofs.pass.project_pass.Goals as goal

pub returns-in_ok-below-in-len1 : goal.returns-in_ok-below-in-len1
returns-in_ok-below-in-len1 c =
    let one = inputs-one c.args.plan.now c.input-item.result c.as_slice.result.now c.as_slice.ensures c.in-len1.len_at_least c.in-len1.len_below c.input-item.is in
    let below = c.in_ok-below-in-len1.below in
    subst (λ (b : Pass). IsPass c.args.plan.now (project_of b c.in-Project.items)) (sym c.below.view_is)
    (pass-Project c.args.plan.now c.input-item.result below c.in-Project.items c.in-Project.is one c.in_ok-below-in-len1.ensures.whole c.in_ok-below-in-len1.ensures.plan)
