-- How `renumbered`, `filled` and `EachHole` meet, and that `same_tree` decides.
use Rattle.std.proofs.Common.{◌≡◌, ℕ, Bool, true, List, refl, sym, ◌∙◌, ap, subst}
use Rattle.std.specs.Bool.{Decides}
use Rattle.cal_value.specs.declared.kind.SqlType.{SqlType}
use Rattle.cal_expr.specs.declared.expr.Expr.{Expr}
use Rattle.cal_rel.specs.declared.rel.Rel.{Rel}
use Rattle.cal_rel.specs.declared.rel.Rel.TheOpen.{Rel-F}
use Rattle.cal_rel.specs.declared.rel.Rel.TheFolds.{fold-roll-Rel, ind-Rel, map-Rel}
use Rattle.cal_rel.specs.declared.rel.Rel.TheViews.{roll-Rel}
use Rattle.cal_rel.specs.declared.rel.Rel.TheVariants as r
use Rattle.cal_rel.specs.declared.rel.Rel.TheVariants.{rolls-Scan, rolls-TileScan, rolls-StarScan, rolls-Filter, rolls-Project, rolls-Join, rolls-Aggregate, rolls-Empty, rolls-Hole}
use Rattle.cal_rel.specs.Equal.{rel_eq}
use Rattle.cal_rel.specs.EqualLaws.{rel_eq-Decides}
use Rattle.cal_rel.specs.Holes.{renumbered, filled, EachHole}
use Rattle.cal_rel.specs.Tree.{Leaf, scan, tile_scan, star_scan, empty_of, Unary, filter_by, project_to, aggregate_by, Binary, join_on, Tree, leaf, unary, binary, hole, tree_of, tree_step}
use Rattle.cal_rel.proofs.TreeSteps.{tree-Scan, tree-TileScan, tree-StarScan, tree-Filter, tree-Project, tree-Join, tree-Aggregate, tree-Empty, tree-Hole}
use Rattle.memo_model.specs.Same.{rel_of_leaf, rel_of_unary, rel_of_binary, rel_of, same_tree}

-- ---- holes

-- what is so of each hole is so of each where the one gives the other
pub each-weaker : (P Q : ℕ → Type 0) → ((k : ℕ) → P k → Q k) → (t : Tree) → EachHole P t → EachHole Q t
each-weaker P Q h (leaf l) e = tt
each-weaker P Q h (unary u t) e = each-weaker P Q h t e
each-weaker P Q h (binary b s t) e = (each-weaker P Q h s e.0, each-weaker P Q h t e.1)
each-weaker P Q h (hole k) e = h k e

pub each-always : (P : ℕ → Type 0) → ((k : ℕ) → P k) → (t : Tree) → EachHole P t
each-always P h (leaf l) = tt
each-always P h (unary u t) = each-always P h t
each-always P h (binary b s t) = (each-always P h s, each-always P h t)
each-always P h (hole k) = h k

pub each-renumbered : (P : ℕ → Type 0) (m : ℕ → ℕ) (t : Tree) → EachHole (λ k. P (m k)) t → EachHole P (renumbered m t)
each-renumbered P m (leaf l) e = tt
each-renumbered P m (unary u t) e = each-renumbered P m t e
each-renumbered P m (binary b s t) e = (each-renumbered P m s e.0, each-renumbered P m t e.1)
each-renumbered P m (hole k) e = e

-- two renumberings that agree at each hole
pub renumbered-agree : (m l : ℕ → ℕ) (t : Tree) → EachHole (λ k. m k ≡ l k) t → renumbered m t ≡ renumbered l t
renumbered-agree m l (leaf x) e = refl
renumbered-agree m l (unary u t) e = ap (unary u) (renumbered-agree m l t e)
renumbered-agree m l (binary b s t) e = let f = renumbered-agree m l s e.0 in let g = renumbered-agree m l t e.1 in cc
renumbered-agree m l (hole k) e = ap hole e

pub renumbered-itself : (m : ℕ → ℕ) (t : Tree) → EachHole (λ k. m k ≡ k) t → renumbered m t ≡ t
renumbered-itself m (leaf l) e = refl
renumbered-itself m (unary u t) e = ap (unary u) (renumbered-itself m t e)
renumbered-itself m (binary b s t) e = let f = renumbered-itself m s e.0 in let g = renumbered-itself m t e.1 in cc
renumbered-itself m (hole k) e = ap hole e

pub renumbered-twice : (m l : ℕ → ℕ) (t : Tree) → renumbered m (renumbered l t) ≡ renumbered (λ k. m (l k)) t
renumbered-twice m l (leaf x) = refl
renumbered-twice m l (unary u t) = ap (unary u) (renumbered-twice m l t)
renumbered-twice m l (binary b s t) = let f = renumbered-twice m l s in let g = renumbered-twice m l t in cc
renumbered-twice m l (hole k) = refl

pub filled-renumbered : (g : ℕ → Tree) (m : ℕ → ℕ) (t : Tree) → filled g (renumbered m t) ≡ filled (λ k. g (m k)) t
filled-renumbered g m (leaf l) = refl
filled-renumbered g m (unary u t) = ap (unary u) (filled-renumbered g m t)
filled-renumbered g m (binary b s t) = let f = filled-renumbered g m s in let h = filled-renumbered g m t in cc
filled-renumbered g m (hole k) = refl

pub filled-agree : (g h : ℕ → Tree) (t : Tree) → EachHole (λ k. g k ≡ h k) t → filled g t ≡ filled h t
filled-agree g h (leaf l) e = refl
filled-agree g h (unary u t) e = ap (unary u) (filled-agree g h t e)
filled-agree g h (binary b s t) e = let f = filled-agree g h s e.0 in let k = filled-agree g h t e.1 in cc
filled-agree g h (hole k) e = e

-- ---- the same tree

tree_of_leaf : (l : Leaf) → tree_of (rel_of_leaf l) ≡ leaf l
tree_of_leaf (scan table) = tree-Scan table
tree_of_leaf (tile_scan at) = tree-TileScan at
tree_of_leaf (star_scan lattice) = tree-StarScan lattice
tree_of_leaf (empty_of types) = tree-Empty types

tree_of_unary : (u : Unary) (q : Rel) → tree_of (rel_of_unary u q) ≡ unary u (tree_of q)
tree_of_unary (filter_by predicate) q = tree-Filter q predicate
tree_of_unary (project_to items) q = tree-Project q items
tree_of_unary (aggregate_by groups calls) q = tree-Aggregate q groups calls

tree_of_binary : (b : Binary) (p q : Rel) → tree_of (rel_of_binary b p q) ≡ binary b (tree_of p) (tree_of q)
tree_of_binary (join_on kind on) p q = tree-Join kind p q on

tree_of-rel_of : (t : Tree) → tree_of (rel_of t) ≡ t
tree_of-rel_of (leaf l) = tree_of_leaf l
tree_of-rel_of (unary u t) = tree_of_unary u (rel_of t) ∙ ap (unary u) (tree_of-rel_of t)
tree_of-rel_of (binary b s t) = tree_of_binary b (rel_of s) (rel_of t) ∙ ap (λ x. binary b x (tree_of (rel_of t))) (tree_of-rel_of s) ∙ ap (binary b s) (tree_of-rel_of t)
tree_of-rel_of (hole k) = tree-Hole k

abbrev GivesBack : Rel → Type 0
GivesBack q = rel_of (tree_of q) ≡ q

abbrev Back : Type 0
Back = (q : Rel) × GivesBack q

level : (y : Rel-F Back) → rel_of (tree_step (map-Rel Rel Tree tree_of (map-Rel Back Rel (λ p. p.0) y))) ≡ roll-Rel (map-Rel Back Rel (λ p. p.0) y)
level (Rel-F.Scan table) = sym (rolls-Scan table)
level (Rel-F.TileScan at) = sym (rolls-TileScan at)
level (Rel-F.StarScan lattice) = sym (rolls-StarScan lattice)
level (Rel-F.Filter p predicate) = ap (λ q. r.Filter q predicate) p.1 ∙ sym (rolls-Filter p.0 predicate)
level (Rel-F.Project p items) = ap (λ q. r.Project q items) p.1 ∙ sym (rolls-Project p.0 items)
level (Rel-F.Join kind p q on) = ap (λ x. r.Join kind x (rel_of (tree_of q.0)) on) p.1 ∙ ap (λ x. r.Join kind p.0 x on) q.1 ∙ sym (rolls-Join kind p.0 q.0 on)
level (Rel-F.Aggregate p groups calls) = ap (λ q. r.Aggregate q groups calls) p.1 ∙ sym (rolls-Aggregate p.0 groups calls)
level (Rel-F.Empty types) = sym (rolls-Empty types)
level (Rel-F.Hole set) = sym (rolls-Hole set)

at_roll : (x : Rel-F Rel) → rel_of (tree_step (map-Rel Rel Tree tree_of x)) ≡ roll-Rel x → GivesBack (roll-Rel x)
unfolding tree_of
at_roll x e = ap rel_of (fold-roll-Rel Tree tree_step x) ∙ e

pub rel_of-tree_of : (q : Rel) → rel_of (tree_of q) ≡ q
rel_of-tree_of = ind-Rel GivesBack (λ x y is. subst (λ z. GivesBack (roll-Rel z)) is (at_roll _ (level y)))

pub tree-true : (a b : Tree) → same_tree a b ≡ true → a ≡ b
unfolding same_tree
tree-true a b h = sym (tree_of-rel_of a) ∙ ap tree_of ((rel_eq-Decides (rel_of a) (rel_of b)).0 h) ∙ tree_of-rel_of b

pub tree-itself : (a : Tree) → same_tree a a ≡ true
unfolding same_tree
tree-itself a = (rel_eq-Decides (rel_of a) (rel_of a)).1 refl

-- the test of two `Rel`s is that of their trees
pub rel_eq-tree : (p q : Rel) → rel_eq p q ≡ same_tree (tree_of p) (tree_of q)
unfolding same_tree
rel_eq-tree p q = sym (ap (λ x. rel_eq x (rel_of (tree_of q))) (rel_of-tree_of p) ∙ ap (rel_eq p) (rel_of-tree_of q))
