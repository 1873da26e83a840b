-- The two ways to say that a plan realises what is asked are one.
use Rattle.std.proofs.Common.{◌≡◌, ℕ, Option, Some, None, refl, sym, ap, subst, true}
use Rattle.std.specs.Prelude.{IsTrue}
use Rattle.std.specs.List.{slice_get}
use Rattle.plan_nodes.specs.declared.nodes.PlanNode.{PlanNode}
use Rattle.plan_nodes.specs.Orders.{is_prefix}
use Rattle.plan_nodes.specs.PlanTrees.{PlanTree, nothing, plan, order_of}
use Rattle.phys_plan.specs.declared.ways.Ask.{Ask}
use Rattle.phys_plan.specs.declared.ways.Way.{Way}
use Rattle.phys_plan.specs.Spaces.{Space, estimate, part_len}
use Rattle.phys_plan.specs.Ways.{fits, ways}
use Rattle.phys_plan.specs.Plans.{Realises}
use Rattle.phys_plan.specs.Realised.{IsRoot, Realised, not_asked, by_root, rooted}

pub from-realised : (space : Space) (ask : Option Ask) (tree : PlanTree) → Realised space ask tree → Realises space ask tree
from-realised space _ _ not_asked = refl
from-realised space _ _ (by_root q w a b root ordered x y) =
    (q, root.at, w, refl, root.among, refl, root.fit, refl, refl, ordered, from-realised space w.first a x, from-realised space w.second b y)

to-realised-tree : (space : Space) (tree : PlanTree) (ask : Option Ask) → Realises space ask tree → Realised space ask tree
to-realised-tree space nothing ask h = subst (λ o. Realised space o nothing) (sym h) not_asked
to-realised-tree space (plan node rows part a b) ask h =
    let q : Ask = h.0 in
    let w : Way = h.2 in
    let fit : IsTrue (fits q.want w.node) = subst (λ n. IsTrue (fits q.want n)) h.5 h.6 in
    let O : PlanNode → Type 0 = λ n. IsTrue (is_prefix q.order (order_of space.info (plan n rows part a b))) in
    let ordered : IsTrue (is_prefix q.order (order_of space.info (rooted space q w a b))) = subst O h.5 h.9 in
    let made : Realised space (Some q) (rooted space q w a b) =
    by_root q w a b (record { at = h.1; among = h.4; fit = fit }) ordered (to-realised-tree space a w.first h.10) (to-realised-tree space b w.second h.11) in
    let P : ℕ → Type 0 = λ n. Realised space (Some q) (plan w.node (estimate space q.set) n a b) in
    let Q : ℕ → Type 0 = λ n. Realised space (Some q) (plan w.node n part a b) in
    let R : PlanNode → Type 0 = λ n. Realised space (Some q) (plan n rows part a b) in
    let part_is : part ≡ part_len space w.node = subst (λ n. part ≡ part_len space n) h.5 h.8 in
    subst (λ o. Realised space o (plan node rows part a b)) (sym h.3) (subst R (sym h.5) (subst Q (sym h.7) (subst P (sym part_is) made)))

pub to-realised : (space : Space) (ask : Option Ask) (tree : PlanTree) → Realises space ask tree → Realised space ask tree
to-realised space ask tree h = to-realised-tree space tree ask h
