-- The nodes of a plan, by which a run goes down it.
use Rattle.std.proofs.Common.{◌≡◌, ℕ, ◌+◌, ◌<◌, List, ◌∷◌, sum, ◌∙◌, ap, arith}
use Rattle.std.specs.List.{sum_by}
use Rattle.std.proofs.lemmas.List.Sums.{sum_by-cons, sum-map}
use Rattle.plan_nodes.specs.declared.plan.Plan.{Plan, out-Plan}
use Rattle.plan_nodes.specs.declared.plan.Plan.TheOpen.{Plan-F}
use Rattle.plan_nodes.specs.declared.plan.Plan.TheFolds.{fold-Plan, fold_out-Plan}

abbrev nodes_step : Plan-F ℕ → ℕ
nodes_step f = 1 + sum f.inputs

unfoldable pub nodes : Plan → ℕ
nodes = fold-Plan ℕ nodes_step

nodes-out : (p : Plan) → nodes p ≡ 1 + sum_by nodes (out-Plan p).inputs
unfolding nodes
nodes-out p = fold_out-Plan ℕ nodes_step p ∙ ap (λ n. 1 + n) (sum-map nodes (out-Plan p).inputs)

nodes-over : (p a : Plan) (rest : List Plan) → (out-Plan p).inputs ≡ a ∷ rest → nodes p ≡ 1 + (nodes a + sum_by nodes rest)
nodes-over p a rest e = nodes-out p ∙ ap (λ ps. 1 + sum_by nodes ps) e ∙ ap (λ n. 1 + n) (sum_by-cons nodes a rest)

pub below-first : (p a : Plan) (rest : List Plan) → (out-Plan p).inputs ≡ a ∷ rest → nodes a < nodes p
below-first p a rest e = let all = nodes-over p a rest e in omega (arith, all)

pub below-second : (p a b : Plan) (rest : List Plan) → (out-Plan p).inputs ≡ a ∷ b ∷ rest → nodes b < nodes p
below-second p a b rest e =
    let all = nodes-over p a (b ∷ rest) e in
    let more = sum_by-cons nodes b rest in
    omega (arith, all, more)
