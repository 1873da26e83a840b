-- PruneEmpty is lawful. For proofs alone.
use Rattle.std.proofs.Common.{◌≡◌, ℕ, Bool, true, false, cond, ◌||◌, List, [], ◌∷◌, Some, None, refl, sym, ◌∙◌, ap}
use Rattle.std.specs.List.{flat_map}
use Rattle.cal_value.proofs.TypeLemmas.{split_if}
use Rattle.cal_schema.specs.declared.database.Db.{Db}
use Rattle.cal_schema.specs.declared.join_kind.JoinKind.TheVariants.{Inner, Left}
use Rattle.cal_schema.specs.Valid.{IsValidSchema}
use Rattle.cal_expr.specs.declared.expr.Expr.{Expr}
use Rattle.cal_rel.specs.Bag.{bag, width, unary_bag, binary_bag}
use Rattle.cal_rel.specs.Holes.{renumbered, Narrows}
use Rattle.cal_rel.specs.Info.{Info}
use Rattle.cal_rel.specs.Operators.{Row, joined}
use Rattle.cal_rel.specs.Tree.{scan, tile_scan, star_scan, empty_of, Unary, filter_by, project_to, aggregate_by, Binary, join_on, Tree, leaf, unary, binary, hole}
use Rattle.rule_hep.specs.Local.{IsLocal}
use Rattle.project_images.specs.Empties.{empty_for}
use Rattle.project_images.specs.EmptyLaws.{same-rows, empty-sets, empty-rows, empty-steady}
use Rattle.project_images.specs.PruneEmpty.{is_empty, is_empty_over, is_empty_join, is_pruned, pruned}

-- ---- what is pruned has no rows

no-rows : (info : Info) (db : Db) (holes : ℕ → List Row) (t : Tree) → is_empty t ≡ true → bag info db holes t ≡ []
no-rows info db holes (leaf (scan table)) e = absurd (cc)
no-rows info db holes (leaf (tile_scan at)) e = absurd (cc)
no-rows info db holes (leaf (star_scan lattice)) e = absurd (cc)
no-rows info db holes (leaf (empty_of types)) e = refl
no-rows info db holes (unary u t) e = absurd (cc)
no-rows info db holes (binary b s t) e = absurd (cc)
no-rows info db holes (hole set) e = absurd (cc)

over-none : (u : Unary) (empty : Bool) (rows : List Row) → is_empty_over u empty ≡ true → (empty ≡ true → rows ≡ []) → unary_bag u rows ≡ []
over-none (filter_by predicate) empty rows e h = ap (unary_bag (filter_by predicate)) (h e)
over-none (project_to items) empty rows e h = ap (unary_bag (project_to items)) (h e)
over-none (aggregate_by [] calls) empty rows e h = absurd (cc)
over-none (aggregate_by (group ∷ groups) calls) empty rows e h = ap (unary_bag (aggregate_by (group ∷ groups) calls)) (h e)

no-partners : (on : Expr) (columns : ℕ) (left : List Row) → flat_map (joined Inner on columns []) left ≡ []
no-partners on columns [] = refl
no-partners on columns (row ∷ left) = no-partners on columns left

either-none : (on : Expr) (columns : ℕ) (p q : Bool) (left right : List Row) → (p || q) ≡ true → (p ≡ true → left ≡ []) → (q ≡ true → right ≡ []) → binary_bag (join_on Inner on) columns left right ≡ []
either-none on columns true q left right e h k = ap (λ rows. binary_bag (join_on Inner on) columns rows right) (h refl)
either-none on columns false q left right e h k = ap (binary_bag (join_on Inner on) columns left) (k e) ∙ no-partners on columns left

join-none : (b : Binary) (columns : ℕ) (p q : Bool) (left right : List Row) → is_empty_join b p q ≡ true → (p ≡ true → left ≡ []) → (q ≡ true → right ≡ []) → binary_bag b columns left right ≡ []
join-none (join_on Inner on) columns p q left right e h k = either-none on columns p q left right e h k
join-none (join_on Left on) columns p q left right e h k = ap (λ rows. binary_bag (join_on Left on) columns rows right) (h e)

pruned-none : (info : Info) (db : Db) (holes : ℕ → List Row) (t : Tree) → is_pruned t ≡ true → bag info db holes t ≡ []
pruned-none info db holes (leaf l) e = absurd (cc)
pruned-none info db holes (unary u t) e = over-none u (is_empty t) (bag info db holes t) e (no-rows info db holes t)
pruned-none info db holes (binary b s t) e = join-none b (width info t) (is_empty s) (is_empty t) (bag info db holes s) (bag info db holes t) e (no-rows info db holes s) (no-rows info db holes t)
pruned-none info db holes (hole set) e = absurd (cc)

-- ---- under other numbers

empty-renumbered : (m : ℕ → ℕ) (t : Tree) → is_empty (renumbered m t) ≡ is_empty t
empty-renumbered m (leaf l) = refl
empty-renumbered m (unary u t) = refl
empty-renumbered m (binary b s t) = refl
empty-renumbered m (hole set) = refl

pruned-renumbered : (m : ℕ → ℕ) (t : Tree) → is_pruned (renumbered m t) ≡ is_pruned t
pruned-renumbered m (leaf l) = refl
pruned-renumbered m (unary u t) = ap (is_empty_over u) (empty-renumbered m t)
pruned-renumbered m (binary b s t) = ap (λ p. is_empty_join b p (is_empty (renumbered m t))) (empty-renumbered m s) ∙ ap (is_empty_join b (is_empty s)) (empty-renumbered m t)
pruned-renumbered m (hole set) = refl

-- ---- the law

pruned-is : (info : Info) (rel out : Tree) → pruned info rel ≡ Some out → (is_pruned rel ≡ true) × (empty_for info rel ≡ Some out)
pruned-is info rel out e = split_if (is_pruned rel) (empty_for info rel) out e

pruned-rows : (info : Info) (rel out : Tree) (db : Db) (holes : ℕ → List Row) → pruned info rel ≡ Some out → bag info db holes out ≡ bag info db holes rel
pruned-rows info rel out db holes e =
    let is = pruned-is info rel out e in
    empty-rows info rel out db holes is.1 ∙ sym (pruned-none info db holes rel is.0)

pruned-steady : (m : ℕ → ℕ) (from to : Info) (rel out : Tree) → IsValidSchema from.schema → Narrows m from to → pruned from rel ≡ Some out → pruned to (renumbered m rel) ≡ Some (renumbered m out)
pruned-steady m from to rel out valid narrows e =
    let is = pruned-is from rel out e in
    ap (λ b. cond b (empty_for to (renumbered m rel)) None) (pruned-renumbered m rel ∙ is.0) ∙ empty-steady m from to rel out valid narrows is.1

pub prune_empty-local : IsLocal pruned
prune_empty-local = record {
  sets = λ info rel out p e each. empty-sets info rel out (λ k. p k ≡ true) (pruned-is info rel out e).1;
  means = λ info rel out s t over well e db holes fits true_of. same-rows (bag info db holes out) (bag info db holes rel) (pruned-rows info rel out db holes e);
  steady = λ m from to rel out t valid narrows over e. pruned-steady m from to rel out valid narrows e;
}
