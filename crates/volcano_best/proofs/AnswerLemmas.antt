-- What is answered from a solved table.
use Rattle.std.proofs.Common.{◌≡◌, ℕ, List, [], ◌∷◌, Option, Some, None, refl, subst}
use Rattle.std.specs.Option.{IsSome}
use Rattle.cal_value.specs.declared.order.KeyOrder.{KeyOrder}
use Rattle.cheapest_derivations.specs.declared.table.Edge.{Edge}
use Rattle.cheapest_derivations.specs.declared.table.Cell.{Cell}
use Rattle.cheapest_derivations.specs.declared.table.Step.{Step}
use Rattle.cheapest_derivations.specs.Offers.{cell_at}
use Rattle.plan_nodes.specs.declared.plan.Plan.{Plan}
use Rattle.phys_plan.specs.declared.alternatives.State.{State}
use Rattle.phys_plan.specs.Spaces.{Space, HasWidths}
use Rattle.phys_plan.specs.Grounded.{HoldsTree}
use Rattle.phys_plan.specs.Realised.{HasPlan}
use Rattle.phys_plan.proofs.WidthLemmas.{plan-wide}
use Rattle.phys_plan.proofs.Exists.{has-plan}
use Rattle.volcano_best.specs.declared.graph.Root.{Root}
use Rattle.volcano_best.specs.declared.planned.Planned.{Planned}
use Rattle.volcano_best.specs.Solved.{IsCheapest, HasNoPlan, IsAnswer, IsSolved, IsPlanAdded}
use Rattle.volcano_best.proofs.GraphLemmas.{AreWide}
use Rattle.volcano_best.proofs.SolvedLemmas.{solved-none, solved-best}

are-wide : (space : Space) → HasWidths space → AreWide space
are-wide space widths = record { wide = λ ask tree h. plan-wide space ask tree widths h }

pub answer-none : (space : Space) (set : ℕ) (order : List KeyOrder) (states : List State) (roots : List Root) (edges : List Edge) (cells : List (Option Cell)) (steps : List Step)
    → IsSolved space set order states roots edges cells steps → cell_at cells 0 ≡ None → IsAnswer space set order None
answer-none space set order states roots edges cells steps solved is = record {
  of = λ widths. solved-none space set order states roots edges cells steps (are-wide space widths) solved is;
}

pub answer-some : (space : Space) (set : ℕ) (order : List KeyOrder) (states : List State) (roots : List Root) (edges : List Edge) (cells : List (Option Cell)) (steps : List Step)
    (c : Cell) (p : Plan) → IsSolved space set order states roots edges cells steps → cell_at cells 0 ≡ Some c → IsPlanAdded steps roots (Some c.place) [] (p ∷ [])
    → IsAnswer space set order (Some (record { plan = p; cost = c.cost }))
answer-some space set order states roots edges cells steps c p solved is at = record {
  of = λ widths. solved-best space set order states roots edges cells steps c p (are-wide space widths) solved is at;
}

-- a set that holds a tree of parts that can be read has a plan
pub answer-there : (space : Space) (set : ℕ) (order : List KeyOrder) (found : Option Planned) → HasWidths space → HoldsTree space set → IsAnswer space set order found
    → IsSome found
answer-there space set order None widths holds answer =
    let some : HasPlan space set order = has-plan space set order holds in
    let no : HasNoPlan space set order = answer.of widths in
    absurd (no.none some.tree some.plan_of)
answer-there space set order (Some best) widths holds answer = refl

pub answer-cheapest : (space : Space) (set : ℕ) (order : List KeyOrder) (found : Option Planned) (best : Planned) → HasWidths space → IsAnswer space set order found
    → found ≡ Some best → IsCheapest space set order best
answer-cheapest space set order found best widths answer is =
    let some : IsAnswer space set order (Some best) = subst (λ f. IsAnswer space set order f) is answer in
    some.of widths
