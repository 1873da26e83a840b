-- The chain of a plan is that of its tree.
use Rattle.std.proofs.Common.{◌≡◌, ◌≤◌, List, [], ◌∷◌, length, drop, get_or, Option, Some, None, sym, ◌∙◌, ap, arith}
use Rattle.plan_nodes.specs.declared.plan.Plan.{Plan, out-Plan}
use Rattle.plan_nodes.specs.PlanTrees.{PlanTree, nothing, plan}
use Rattle.plan_nodes.specs.Seen.{plan_tree}
use Rattle.plan_nodes.proofs.PlanLemmas.{over-none, over-one, over-two}
use Rattle.plan_scans.specs.Chains.{Chain, chained, chain_of, IsChain}

pub chain-none : (p : Plan) (o : Option Chain) → (out-Plan p).inputs ≡ [] → o ≡ chained (out-Plan p).node None → IsChain p o
chain-none p o none is = record { of = λ tree e. let t = over-none p tree none e in is ∙ ap chain_of (sym t.is) }

-- the first input is there
record IsOverFirst (p a : Plan) (tree : PlanTree) : Type 0 where
  first : PlanTree
  first_is : plan_tree a ≡ Some first
  second : PlanTree
  is : tree ≡ plan (out-Plan p).node (out-Plan p).rows (out-Plan p).part_rows first second

over-first : (p a : Plan) (rest : List Plan) (tree : PlanTree) → (out-Plan p).inputs ≡ a ∷ rest → plan_tree p ≡ Some tree → IsOverFirst p a tree
over-first p a [] tree e is = let t = over-one p a tree e is in record { first = t.first; first_is = t.first_is; second = nothing; is = t.is }
over-first p a (b ∷ rest) tree e is = let t = over-two p a b rest tree e is in record { first = t.first; first_is = t.first_is; second = t.second; is = t.is }

pub chain-first : (p a : Plan) (rest : List Plan) (o below : Option Chain) → (out-Plan p).inputs ≡ a ∷ rest → IsChain a below → o ≡ chained (out-Plan p).node below → IsChain p o
chain-first p a rest o below inputs first is = record {
  of = λ tree e.
      let t = over-first p a rest tree inputs e in
      is ∙ ap (chained (out-Plan p).node) (first.of t.first t.first_is) ∙ ap chain_of (sym t.is);
}

pub inputs-first : (p a : Plan) (xs : List Plan) → xs ≡ (out-Plan p).inputs → 1 ≤ length xs → a ≡ get_or xs 0 a → (out-Plan p).inputs ≡ a ∷ drop 1 xs
inputs-first p a [] e h i = absurd (omega arith)
inputs-first p a (x ∷ xs) e h i = sym e ∙ ap (λ y. y ∷ xs) (sym i)
