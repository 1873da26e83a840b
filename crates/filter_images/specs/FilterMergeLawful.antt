-- FilterMerge is lawful: a filter over a filter keeps the rows of which all conjuncts of both are TRUE.
use Rattle.std.proofs.Common.{◌≡◌, ℕ, true, ◌&&◌, List, ◌++◌, filter, Some, sym, ◌∙◌, ap, subst}
use Rattle.std.proofs.lemmas.List.Elements.{filter_agree}
use Rattle.std.proofs.lemmas.List.Folds.{list_all-append}
use Rattle.cal_expr.specs.declared.expr.Expr.{Expr}
use Rattle.cal_schema.specs.declared.database.Db.{Db}
use Rattle.cal_rel.specs.Bag.{bag}
use Rattle.cal_rel.specs.Holes.{renumbered, EachHole}
use Rattle.cal_rel.specs.Info.{Info}
use Rattle.cal_rel.specs.Operators.{Row, holds}
use Rattle.cal_rel.specs.Tree.{Tree, filter_by, unary}
use Rattle.expr_parts.specs.Conjuncts.{conjuncts_of}
use Rattle.rule_hep.specs.Local.{IsLocal}
use Rattle.filter_images.specs.Filtered.{filtered}
use Rattle.filter_images.specs.FilterMerge.{merged_filters}
use Rattle.filter_images.specs.ListLemmas.{filter-both}
use Rattle.filter_images.specs.FilteredLemmas.{all_hold, holds-conjuncts, bag-filtered, holes-filtered, renumbered-filtered, SameBag-same}

pub both-hold : (lower upper : Expr) (row : Row) → all_hold (conjuncts_of lower ++ conjuncts_of upper) row ≡ (holds lower row && holds upper row)
both-hold lower upper row =
    list_all-append (λ c. holds c row) (conjuncts_of lower) (conjuncts_of upper)
    ∙ ap (λ b. b && all_hold (conjuncts_of upper) row) (sym (holds-conjuncts lower row)) ∙ ap (λ b. holds lower row && b) (sym (holds-conjuncts upper row))

merged-bag : (info : Info) (db : Db) (holes : ℕ → List Row) (upper lower : Expr) (t : Tree)
    → bag info db holes (filtered (conjuncts_of lower ++ conjuncts_of upper) t) ≡ filter (holds upper) (filter (holds lower) (bag info db holes t))
merged-bag info db holes upper lower t =
    bag-filtered info db holes (conjuncts_of lower ++ conjuncts_of upper) t
    ∙ filter_agree (all_hold (conjuncts_of lower ++ conjuncts_of upper)) (λ row. holds lower row && holds upper row) (both-hold lower upper) (bag info db holes t)
    ∙ sym (filter-both (holds lower) (holds upper) (bag info db holes t))

merged-sets : (P : ℕ → Type 0) (rel out : Tree) → merged_filters rel ≡ Some out → EachHole P rel → EachHole P out
merged-sets P (unary (filter_by upper) (unary (filter_by lower) t)) out e h =
    let is : filtered (conjuncts_of lower ++ conjuncts_of upper) t ≡ out = cc in
    subst (EachHole P) is (holes-filtered P (conjuncts_of lower ++ conjuncts_of upper) t h)
merged-sets P _ out e h = absurd (cc)

merged-means : (info : Info) (db : Db) (holes : ℕ → List Row) (rel out : Tree) → merged_filters rel ≡ Some out → bag info db holes out ≡ bag info db holes rel
merged-means info db holes (unary (filter_by upper) (unary (filter_by lower) t)) out e =
    let is : filtered (conjuncts_of lower ++ conjuncts_of upper) t ≡ out = cc in
    ap (bag info db holes) (sym is) ∙ merged-bag info db holes upper lower t
merged-means info db holes _ out e = absurd (cc)

merged-steady : (m : ℕ → ℕ) (rel out : Tree) → merged_filters rel ≡ Some out → merged_filters (renumbered m rel) ≡ Some (renumbered m out)
merged-steady m (unary (filter_by upper) (unary (filter_by lower) t)) out e =
    let is : filtered (conjuncts_of lower ++ conjuncts_of upper) t ≡ out = cc in
    ap Some (sym (renumbered-filtered m (conjuncts_of lower ++ conjuncts_of upper) t) ∙ ap (renumbered m) is)
merged-steady m _ out e = absurd (cc)

pub local_merged_filters : IsLocal (λ info rel. merged_filters rel)
local_merged_filters = record {
  sets = λ info rel out p e h. merged-sets (λ k. p k ≡ true) rel out e h;
  means = λ info rel out s t a b e db holes fits true_of. SameBag-same (bag info db holes out) (bag info db holes rel) (merged-means info db holes rel out e);
  steady = λ m from to rel out t valid narrows typed e. merged-steady m rel out e;
}
