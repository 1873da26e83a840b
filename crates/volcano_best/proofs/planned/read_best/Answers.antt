use Rattle.std.proofs.Common.{◌≡◌, ◌<◌, ◌∷◌, [], ℕ, List, Option, Some, None, length, subst, sym, ◌∙◌, ap}
use Rattle.cheapest_derivations.specs.declared.table.Cell.{Cell}
use Rattle.cheapest_derivations.specs.declared.table.Step.{Step}
use Rattle.cheapest_derivations.specs.Offers.{cell_at}
use Rattle.plan_nodes.specs.declared.plan.Plan.{Plan}
use Rattle.phys_plan.specs.Seen.{space_of}
use Rattle.volcano_best.specs.declared.graph.Root.{Root}
use Rattle.volcano_best.specs.Solved.{IsPlanAdded}
use Rattle.volcano_best.proofs.SolvedLemmas.{solved-below}
use Rattle.volcano_best.proofs.AnswerLemmas.{answer-none, answer-some}
use Rattle.volcano_best.proofs.planned.read_best.Goals as goal

-- what was read is the root's cell
the-cell : (cells slice : List (Option Cell)) (got : Option Cell) → slice ≡ cells → got ≡ cell_at slice 0 → cell_at cells 0 ≡ got
the-cell cells slice got e f = sym (f ∙ ap (λ xs. cell_at xs 0) e)

the-plan : (steps steps' : List Step) (roots roots' : List Root) (place : ℕ) (p : Plan) → steps' ≡ steps → roots' ≡ roots
    → IsPlanAdded steps' roots' (Some place) [] (p ∷ []) → IsPlanAdded steps roots (Some place) [] (p ∷ [])
the-plan steps steps' roots roots' place p e f h =
    subst (λ xs. IsPlanAdded steps xs (Some place) [] (p ∷ [])) f (subst (λ xs. IsPlanAdded xs roots' (Some place) [] (p ∷ [])) e h)

pub plan_at-requires-clause-within : goal.plan_at-requires-clause-within
plan_at-requires-clause-within c =
    let g = c.args.graph.now in
    let t = c.args.table.now in
    let is : cell_at t.cells 0 ≡ Some c.in-Some.cell = the-cell t.cells c.as_slice.result.now (Some c.in-Some.cell) c.as_slice.ensures c.in-Some.ensures in
    subst (λ xs. c.in-Some.cell.place < length xs) (sym c.as_slice-steps.ensures)
    (solved-below (space_of c.args.space.now) c.args.root c.args.order.now g.states g.roots g.edges t.cells t.steps c.in-Some.cell c.requires is)

pub returns-in-None : goal.returns-in-None
returns-in-None c =
    let g = c.args.graph.now in
    let t = c.args.table.now in
    answer-none (space_of c.args.space.now) c.args.root c.args.order.now g.states g.roots g.edges t.cells t.steps c.requires
    (the-cell t.cells c.as_slice.result.now None c.as_slice.ensures c.in-None.ensures)

pub returns-in_ok-plan-in-Some : goal.returns-in_ok-plan-in-Some
returns-in_ok-plan-in-Some c =
    let g = c.args.graph.now in
    let t = c.args.table.now in
    let is : cell_at t.cells 0 ≡ Some c.in-Some.cell = the-cell t.cells c.as_slice.result.now (Some c.in-Some.cell) c.as_slice.ensures c.in-Some.ensures in
    let plan : Plan = c.in_ok-plan-in-Some.plan in
    answer-some (space_of c.args.space.now) c.args.root c.args.order.now g.states g.roots g.edges t.cells t.steps c.in-Some.cell plan c.requires is
    (the-plan t.steps c.as_slice-steps.result.now g.roots c.as_slice-roots.result.now c.in-Some.cell.place plan c.as_slice-steps.ensures c.as_slice-roots.ensures
    c.in_ok-plan-in-Some.ensures)
