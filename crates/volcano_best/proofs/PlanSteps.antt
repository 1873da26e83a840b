-- How plans are read from steps.
use Rattle.std.proofs.Common.{◌≡◌, ℕ, suc, ◌+◌, ◌<◌, List, [], ◌∷◌, ◌++◌, map, length, Option, Some, None, refl, sym, ◌∙◌, ap, subst, arith}
use Rattle.std.specs.List.{slice_get}
use Rattle.std.specs.Option.{IsSome, MatchOption}
use Rattle.std.proofs.lemmas.List.{append-nil, map-append, length_push}
use Rattle.cheapest_derivations.specs.declared.table.Step.{Step}
use Rattle.cheapest_derivations.specs.Derivations as d
use Rattle.cheapest_derivations.specs.Tables.{Spells, IsBelow}
use Rattle.plan_nodes.specs.declared.nodes.PlanNode.{PlanNode}
use Rattle.plan_nodes.specs.declared.plan.Plan.{Plan, roll-Plan}
use Rattle.plan_nodes.specs.Seen.{planned, plan_tree}
use Rattle.plan_nodes.proofs.PlanLemmas.{tree-roll}
use Rattle.volcano_best.specs.declared.graph.Root.{Root}
use Rattle.volcano_best.specs.Graphs.{seen_over, seen_of}
use Rattle.volcano_best.specs.Solved.{IsPlanAdded, size}

pub over-root : (r : Root) (node : PlanNode) (inputs : List Plan) → node ≡ r.node
    → plan_tree (roll-Plan (record { node = node; inputs = inputs; rows = r.rows; part_rows = r.part_rows })) ≡ planned r.node r.rows r.part_rows (map plan_tree inputs)
over-root r node inputs e =
    tree-roll node inputs r.rows r.part_rows ∙ ap (λ (n : PlanNode). planned n r.rows r.part_rows (map plan_tree inputs)) e

pub ruleset over_steps = (over-root)

none-spelled : (steps : List Step) (t : d.Tree) → Spells steps None t → t ≡ d.none
none-spelled steps d.none h = refl
none-spelled steps (d.step e a b) h = let e = h.2 in absurd cc

pub added-none : (steps : List Step) (roots : List Root) (old : List Plan) → IsPlanAdded steps roots None old old
added-none steps roots old = record { added = []; is = sym (append-nil old); many = refl; seen = λ t h. rw (none-spelled steps t h) refl }

pub added-some : (steps : List Step) (roots : List Root) (k : ℕ) (x : Step) (r : Root) (old one two : List Plan) (p : Plan) → slice_get steps k ≡ Some x → slice_get roots x.edge ≡ Some r
    → IsPlanAdded steps roots x.first [] one → IsPlanAdded steps roots x.second one two → plan_tree p ≡ planned r.node r.rows r.part_rows (map plan_tree two)
    → IsPlanAdded steps roots (Some k) old (old ++ p ∷ [])
added-some steps roots k x r old one two p step_is root_is first second is = record { added = p ∷ []; is = refl; many = refl; seen = at_tree }
  where
    at_tree : (t : d.Tree) → Spells steps (Some k) t → map plan_tree (p ∷ []) ≡ seen_of roots t
    at_tree d.none h = absurd cc
    at_tree (d.step e a b) h =
        let at : k ≡ h.0 = let g = h.2 in cc in
        let there : slice_get steps k ≡ Some h.1 = subst (λ n. slice_get steps n ≡ Some h.1) (sym at) h.3 in
        let same : h.1 ≡ x = cc in
        let edge : x.edge ≡ e = ap (λ (z : Step). z.edge) (sym same) ∙ h.4 in
        let here : slice_get roots e ≡ Some r = subst (λ n. slice_get roots n ≡ Some r) edge root_is in
        let left : map plan_tree first.added ≡ seen_of roots a = first.seen a (subst (λ (z : Step). Spells steps z.first a) same h.5) in
        let right : map plan_tree second.added ≡ seen_of roots b = second.seen b (subst (λ (z : Step). Spells steps z.second b) same h.6) in
        let all : two ≡ first.added ++ second.added = second.is ∙ ap (λ z. z ++ second.added) first.is in
        let inputs : map plan_tree two ≡ seen_of roots a ++ seen_of roots b =
        ap (map plan_tree) all ∙ map-append plan_tree first.added second.added ∙ ap (λ z. z ++ map plan_tree second.added) left ∙ ap (λ z. seen_of roots a ++ z) right in
        let seen : plan_tree p ≡ seen_over (slice_get roots e) (seen_of roots a ++ seen_of roots b) = rw here (is ∙ ap (planned r.node r.rows r.part_rows) inputs) in
        ap (λ z. z ∷ []) seen

pub below-size : (k : ℕ) (o : Option ℕ) → IsBelow k o → size o < k + 1
below-size k None h = omega arith
below-size k (Some j) h = omega arith

pub below-more : (k n : ℕ) (o : Option ℕ) → IsBelow k o → k < n → IsBelow n o
below-more k n None h l = tt
below-more k n (Some j) h l = omega arith

long-two : (q p : Plan) (more plans : List Plan) → plans ≡ q ∷ (more ++ p ∷ []) → length plans ≡ length more + 2
long-two q p more plans e =
    let l : length (more ++ p ∷ []) ≡ length more + 1 = length_push more p in
    let m : length plans ≡ suc (length (more ++ p ∷ [])) = ap length e in
    omega arith

-- the one plan that was added
pub popped-one : (steps : List Step) (roots : List Root) (place : ℕ) (plans rest : List Plan) (p : Plan) → IsPlanAdded steps roots (Some place) [] plans → plans ≡ rest ++ p ∷ []
    → IsPlanAdded steps roots (Some place) [] (p ∷ [])
popped-one steps roots place plans rest p h e = at_rest rest e
  where
    at_rest : (rest : List Plan) → plans ≡ rest ++ p ∷ [] → IsPlanAdded steps roots (Some place) [] (p ∷ [])
    at_rest [] e = subst (λ ps. IsPlanAdded steps roots (Some place) [] ps) e h
    at_rest (q ∷ more) e =
        let long : length plans ≡ length more + 2 = long-two q p more plans e in
        let one : length plans ≡ 1 = ap length h.is ∙ h.many in
        absurd (omega arith)

pub popped-some : (steps : List Step) (roots : List Root) (place : ℕ) (plans rest : List Plan) (found : Option Plan) → IsPlanAdded steps roots (Some place) [] plans
    → MatchOption found ((plans ≡ []) × (rest ≡ [])) (λ last. plans ≡ rest ++ last ∷ []) → IsSome found
popped-some steps roots place plans rest None h e =
    let none : length plans ≡ 0 = ap length e.0 in
    let one : length plans ≡ 1 = ap length h.is ∙ h.many in
    absurd (omega arith)
popped-some steps roots place plans rest (Some p) h e = refl

pub ruleset added_steps = (added-none, added-some, popped-one, popped-some)
