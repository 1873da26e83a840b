use Rattle.std.proofs.Common.{◌≡◌, ◌<◌, ◌+◌, ◌++◌, ◌∷◌, [], ℕ, List, Option, Some, length, arith, subst, sym}
use Rattle.cheapest_derivations.specs.Tables.{IsBelow}
use Rattle.plan_nodes.specs.declared.plan.Plan.{Plan}
use Rattle.volcano_best.specs.Solved.{IsPlanAdded, size}
use Rattle.volcano_best.proofs.PlanSteps.{added-none, added-some, below-size, below-more}
use Rattle.volcano_best.proofs.read.+add_plan.Goals as goal

-- the measure falls, and the condition holds of an earlier step
lower : (t k : ℕ) (place next : Option ℕ) → place ≡ Some k → size place ≡ t → IsBelow k next → size next < t
lower t k place next is e below = let s = below-size k next below in let m : k + 1 ≡ t = subst (λ p. size p ≡ t) is e in omega arith

pub add_plan-requires : goal.add_plan-requires
add_plan-requires t c = (
  lower t c.in-Some.place c.args.place c.step_at-step.result.first c.in-Some.is c.decreases c.step_at-step.ensures.first,
  (
    c.requires.ordered,
    below-more c.in-Some.place (length c.args.steps.now) c.step_at-step.result.first c.step_at-step.ensures.first
        (let P : Option ℕ → Type 0 = λ p. IsBelow (length c.args.steps.now) p in subst P c.in-Some.is c.requires.within),
  ),
)

pub add_plan-requires-2 : goal.add_plan-requires-2
add_plan-requires-2 t c = (
  lower t c.in-Some.place c.args.place c.step_at-step.result.second c.in-Some.is c.decreases c.step_at-step.ensures.second,
  (
    c.requires.ordered,
    below-more c.in-Some.place (length c.args.steps.now) c.step_at-step.result.second c.step_at-step.ensures.second
        (let P : Option ℕ → Type 0 = λ p. IsBelow (length c.args.steps.now) p in subst P c.in-Some.is c.requires.within),
  ),
)

pub returns-in_default : goal.returns-in_default
returns-in_default t c =
    let P : Option ℕ → Type 0 = λ p. IsPlanAdded c.args.steps.now c.args.roots.now p c.args.plans.now c.args.plans.now in
    subst P (sym c.in_default.is) (added-none c.args.steps.now c.args.roots.now c.args.plans.now)

pub returns : goal.returns
returns t c =
    let plan : Plan = c.in_ok-plan.plan in
    let old : List Plan = c.args.plans.now in
    let one : List Plan = c.add_plan.new.plans in
    let two : List Plan = c.add_plan-2.new.plans in
    let P : Option ℕ → List Plan → Type 0 = λ p new. IsPlanAdded c.args.steps.now c.args.roots.now p old new in
    let first : IsPlanAdded c.args.steps.now c.args.roots.now c.step_at-step.result.first [] one =
    subst (λ (before : List Plan). IsPlanAdded c.args.steps.now c.args.roots.now c.step_at-step.result.first before one) c.new-inputs.ensures c.in_ok-add_plan.ensures in
    let second : IsPlanAdded c.args.steps.now c.args.roots.now c.step_at-step.result.second one two = c.in_ok-add_plan-2.ensures in
    let added : P (Some c.in-Some.place) (old ++ plan ∷ []) =
    added-some c.args.steps.now c.args.roots.now c.in-Some.place c.step_at-step.result c.root_at.result.now old one two plan c.step_at-step.ensures.got c.root_at.ensures
    first second c.in_ok-plan.ensures in
    subst (λ p. P p c.push.new.self) (sym c.in-Some.is) (subst (λ new. P (Some c.in-Some.place) new) (sym c.in_ok-push.ensures.ok) added)
