-- The lines of a plan, over its inputs.
use Rattle.std.proofs.Common.{◌≡◌, ℕ, List, [], ◌∷◌, ◌++◌, Result, OnOk, Option, Some, codes, decimal, map, refl, sym, ◌∙◌, ap, subst, append_assoc, append-nil}
use Rattle.std.proofs.lemmas.Result.{on_ok_weaker}
use Rattle.cal_schema.specs.declared.schema.Schema.{Schema}
use Rattle.plan_nodes.specs.declared.plan.Plan.{Plan, out-Plan}
use Rattle.plan_nodes.specs.PlanTrees.{PlanTree, nothing, plan, cost}
use Rattle.plan_nodes.specs.Seen.{plan_tree, IsCost}
use Rattle.plan_nodes.proofs.PlanLemmas.{IsTreeOver, over_nothing, over_first, over_both, tree-over, over-none, over-one, over-two}
use Rattle.explain_text.specs.Plans.{node_text, node_line, root_line, plan_lines}

-- the line of the root, by the plan's own node and estimate
root_line-tree : (schema : Schema) (margin : List ℕ) (p : Plan) (tree : PlanTree) → plan_tree p ≡ Some tree
    → margin ++ node_line (node_text schema (out-Plan p).node) (out-Plan p).rows (cost tree) ≡ root_line schema margin tree
root_line-tree schema margin p tree e = at_inputs (map plan_tree (out-Plan p).inputs) (tree-over p tree e)
  where
    at_inputs : (xs : List (Option PlanTree)) → IsTreeOver (out-Plan p).node (out-Plan p).rows (out-Plan p).part_rows tree xs
        → margin ++ node_line (node_text schema (out-Plan p).node) (out-Plan p).rows (cost tree) ≡ root_line schema margin tree
    at_inputs _ (over_nothing is) = rw is refl
    at_inputs _ (over_first a is) = rw is refl
    at_inputs _ (over_both a b is) = rw is refl

pub root-printed : {T E : Type 0} (r : Result T E) (schema : Schema) (margin old first second new : List ℕ) (p : Plan) (n : ℕ) (tree : PlanTree)
    → first ≡ old ++ margin → second ≡ first ++ node_text schema (out-Plan p).node → IsCost p n
    → OnOk r (new ≡ second ++ (codes " rows=" ++ decimal (out-Plan p).rows ++ codes " cost=" ++ decimal n ++ codes "\n"))
    → plan_tree p ≡ Some tree → OnOk r (new ≡ old ++ root_line schema margin tree)
root-printed r schema margin old first second new p n tree start node costs numbers e =
    let text = node_text schema (out-Plan p).node in
    let end : ℕ → List ℕ = λ k. codes " rows=" ++ decimal (out-Plan p).rows ++ codes " cost=" ++ decimal k ++ codes "\n" in
    on_ok_weaker r (λ f. f ∙ ap (λ k. second ++ end k) (costs.of tree e) ∙ ap (λ x. x ++ end (cost tree)) (node ∙ ap (λ x. x ++ text) start)
    ∙ append_assoc (old ++ margin) text (end (cost tree)) ∙ append_assoc old margin (text ++ end (cost tree)) ∙ ap (λ x. old ++ x) (root_line-tree schema margin p tree e))
    numbers

pub lines-none : (schema : Schema) (margin old new : List ℕ) (p : Plan) (tree : PlanTree) → (out-Plan p).inputs ≡ []
    → new ≡ old ++ root_line schema margin tree → plan_tree p ≡ Some tree → new ≡ old ++ plan_lines schema margin tree
lines-none schema margin old new p tree none root e =
    let t = over-none p tree none e in
    let P : PlanTree → Type 0 = λ x. old ++ root_line schema margin x ≡ old ++ plan_lines schema margin x in
    let bare = plan (out-Plan p).node (out-Plan p).rows (out-Plan p).part_rows nothing nothing in
    root ∙ subst P (sym t.is) (ap (λ ys. old ++ ys) (sym (append-nil (root_line schema margin bare))))

pub lines-one : {T E : Type 0} (r : Result T E) (schema : Schema) (margin deeper old first new : List ℕ) (p a : Plan) (tree : PlanTree) → (out-Plan p).inputs ≡ a ∷ []
    → deeper ≡ margin ++ codes "  " → first ≡ old ++ root_line schema margin tree → ((t : PlanTree) → plan_tree a ≡ Some t → OnOk r (new ≡ first ++ plan_lines schema deeper t))
    → plan_tree p ≡ Some tree → OnOk r (new ≡ old ++ plan_lines schema margin tree)
lines-one r schema margin deeper old first new p a tree one is root below e =
    let t = over-one p a tree one e in
    let left = plan_lines schema (margin ++ codes "  ") t.first in
    let over = plan (out-Plan p).node (out-Plan p).rows (out-Plan p).part_rows t.first nothing in
    let P : PlanTree → Type 0 = λ x. old ++ (root_line schema margin x ++ left) ≡ old ++ plan_lines schema margin x in
    let whole : P tree = subst P (sym t.is) (ap (λ ys. old ++ (root_line schema margin over ++ ys)) (sym (append-nil left))) in
    on_ok_weaker r (λ f. f ∙ ap (λ m. first ++ plan_lines schema m t.first) is ∙ ap (λ x. x ++ left) root ∙ append_assoc old (root_line schema margin tree) left ∙ whole)
    (below t.first t.first_is)

pub lines-two : {T E : Type 0} (r : Result T E) (schema : Schema) (margin deeper old first second new : List ℕ) (p a b : Plan) (rest : List Plan) (tree : PlanTree)
    → (out-Plan p).inputs ≡ a ∷ b ∷ rest → deeper ≡ margin ++ codes "  " → first ≡ old ++ root_line schema margin tree
    → ((t : PlanTree) → plan_tree a ≡ Some t → second ≡ first ++ plan_lines schema deeper t) → ((t : PlanTree) → plan_tree b ≡ Some t → OnOk r (new ≡ second ++ plan_lines schema deeper t))
    → plan_tree p ≡ Some tree → OnOk r (new ≡ old ++ plan_lines schema margin tree)
lines-two r schema margin deeper old first second new p a b rest tree two is root below next e =
    let t = over-two p a b rest tree two e in
    let left = plan_lines schema (margin ++ codes "  ") t.first in
    let right = plan_lines schema (margin ++ codes "  ") t.second in
    let over = plan (out-Plan p).node (out-Plan p).rows (out-Plan p).part_rows t.first t.second in
    let P : PlanTree → Type 0 = λ x. old ++ (root_line schema margin x ++ (left ++ right)) ≡ old ++ plan_lines schema margin x in
    let whole : P tree = subst P (sym t.is) refl in
    let start : second ≡ (old ++ root_line schema margin tree) ++ left = below t.first t.first_is ∙ ap (λ m. first ++ plan_lines schema m t.first) is ∙ ap (λ x. x ++ left) root in
    on_ok_weaker r (λ f. f ∙ ap (λ m. second ++ plan_lines schema m t.second) is ∙ ap (λ x. x ++ right) start ∙ append_assoc (old ++ root_line schema margin tree) left right
    ∙ append_assoc old (root_line schema margin tree) (left ++ right) ∙ whole)
    (next t.second t.second_is)
