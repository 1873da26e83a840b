-- Filters made of conjuncts: their rows and their holes, and what a part of a row decides.
use Rattle.std.proofs.Common.{◌≡◌, ℕ, Bool, true, false, cond, not, ◌&&◌, nat_le, ◌<◌, ◌≤◌, List, [], ◌∷◌, ◌++◌, map, filter, count_by, length, All, Some, None, refl, sym, ◌∙◌, ap, subst}
use Rattle.std.specs.List.{list_all}
use Rattle.std.specs.Option.{option_map}
use Rattle.std.proofs.lemmas.List.Elements.{All-head, All-tail, All-weaker, filter_agree, filter_passes}
use Rattle.std.proofs.lemmas.List.Folds.{list_all-append, list_all-map}
use Rattle.cal_value.specs.Logic.{is_true}
use Rattle.cal_value.specs.Equal.{row_eq}
use Rattle.cal_value.specs.Order.{columns_of, SameBag}
use Rattle.cal_value.proofs.TypeLemmas.{and-both}
use Rattle.cal_expr.specs.declared.expr.Expr.{Expr}
use Rattle.cal_schema.specs.declared.database.Db.{Db}
use Rattle.cal_rel.specs.Bag.{bag}
use Rattle.cal_rel.specs.Holes.{renumbered, EachHole}
use Rattle.cal_rel.specs.Info.{Info}
use Rattle.cal_rel.specs.Operators.{Row, holds}
use Rattle.cal_rel.specs.Tree.{Tree}
use Rattle.expr_parts.specs.Columns.{columns_read, over_columns, shifted_down}
use Rattle.expr_parts.specs.Conjuncts.{conjuncts_of, conjunction}
use Rattle.expr_parts.proofs.ColumnLaws.{first_part-mean, shifted_down-mean, over_columns-mean_before, below-all, from-all}
use Rattle.expr_parts.proofs.ConjunctLaws.{conjuncts-true, conjunction-true}
use Rattle.filter_images.specs.Filtered.{filtered}
use Rattle.filter_images.specs.FilterIntoJoin.{is_left, is_right, with_more}
use Rattle.filter_images.specs.ListLemmas.{filter-true}

-- ---- rows of a filter

-- each of them is TRUE of the row
abbrev pub all_hold : List Expr → Row → Bool
all_hold conjuncts row = list_all (λ c. holds c row) conjuncts

pub holds-conjuncts : (e : Expr) (row : Row) → holds e row ≡ all_hold (conjuncts_of e) row
holds-conjuncts e row = conjuncts-true e row

pub bag-filtered : (info : Info) (db : Db) (holes : ℕ → List Row) (conjuncts : List Expr) (t : Tree)
    → bag info db holes (filtered conjuncts t) ≡ filter (all_hold conjuncts) (bag info db holes t)
bag-filtered info db holes [] t = sym (filter-true (bag info db holes t))
bag-filtered info db holes (c ∷ cs) t =
    filter_agree (holds (conjunction (c ∷ cs))) (all_hold (c ∷ cs)) (λ row. conjunction-true (c ∷ cs) row) (bag info db holes t)

and-yes : (b : Bool) → b ≡ (b && true)
and-yes true = refl
and-yes false = refl

pub holds-with_more : (on : Expr) (conjuncts : List Expr) (row : Row) → holds (with_more on conjuncts) row ≡ (holds on row && all_hold conjuncts row)
holds-with_more on [] row = and-yes (holds on row)
holds-with_more on (c ∷ cs) row =
    conjunction-true (conjuncts_of on ++ c ∷ cs) row ∙ list_all-append (λ e. holds e row) (conjuncts_of on) (c ∷ cs)
    ∙ ap (λ b. b && all_hold (c ∷ cs) row) (sym (holds-conjuncts on row))

-- ---- holes and sets of a filter

pub holes-filtered : (P : ℕ → Type 0) (conjuncts : List Expr) (t : Tree) → EachHole P t → EachHole P (filtered conjuncts t)
holes-filtered P [] t h = h
holes-filtered P (c ∷ cs) t h = h

pub renumbered-filtered : (m : ℕ → ℕ) (conjuncts : List Expr) (t : Tree) → renumbered m (filtered conjuncts t) ≡ filtered conjuncts (renumbered m t)
renumbered-filtered m [] t = refl
renumbered-filtered m (c ∷ cs) t = refl

-- ---- what a part of a row decides

list_all-same : {A : Type 0} (g h : A → Bool) (xs : List A) → All (λ x. g x ≡ h x) xs → list_all g xs ≡ list_all h xs
list_all-same g h [] all = refl
list_all-same g h (x ∷ xs) all =
    ap (λ b. b && list_all g xs) (All-head (λ x. g x ≡ h x) x xs all) ∙ ap (λ b. h x && b) (list_all-same g h xs (All-tail (λ x. g x ≡ h x) x xs all))

-- conjuncts on the left side alone, by the left row
pub left-hold : (n : ℕ) (conjuncts : List Expr) (x y : Row) → length x ≡ n
    → all_hold (filter (is_left n) conjuncts) (x ++ y) ≡ all_hold (filter (is_left n) conjuncts) x
left-hold n conjuncts x y e =
    list_all-same (λ c. holds c (x ++ y)) (λ c. holds c x) (filter (is_left n) conjuncts)
    (All-weaker (λ c. is_left n c ≡ true) (λ c. holds c (x ++ y) ≡ holds c x) each (filter (is_left n) conjuncts) (filter_passes (is_left n) conjuncts))
  where
    each : (c : Expr) → is_left n c ≡ true → holds c (x ++ y) ≡ holds c x
    each c t = ap is_true (first_part-mean x y c (subst (λ k. All (λ at. at < k) (columns_read c)) (sym e) (below-all n (columns_read c) t)))

-- those on the right side alone, by the right row
pub right-hold : (n : ℕ) (conjuncts : List Expr) (x y : Row) → length x ≡ n
    → all_hold (filter (is_right n) conjuncts) (x ++ y) ≡ all_hold (map (shifted_down n) (filter (is_right n) conjuncts)) y
right-hold n conjuncts x y e =
    list_all-same (λ c. holds c (x ++ y)) (λ c. holds (shifted_down n c) y) (filter (is_right n) conjuncts)
    (All-weaker (λ c. is_right n c ≡ true) (λ c. holds c (x ++ y) ≡ holds (shifted_down n c) y) each (filter (is_right n) conjuncts) (filter_passes (is_right n) conjuncts))
    ∙ sym (list_all-map (λ c. holds c y) (shifted_down n) (filter (is_right n) conjuncts))
  where
    each : (c : Expr) → is_right n c ≡ true → holds c (x ++ y) ≡ holds (shifted_down n c) y
    each c t =
        let from = (and-both (not (is_left n c)) (list_all (λ at. nat_le n at) (columns_read c)) t).1 in
        sym (subst (λ k. holds (shifted_down k c) y ≡ holds c (x ++ y)) e
        (ap is_true (shifted_down-mean x y c (subst (λ k. All (λ at. k ≤ at) (columns_read c)) (sym e) (from-all n (columns_read c) from)))))

-- those on the group columns alone, by the key
pub key-hold : (groups : List ℕ) (conjuncts : List Expr) (row more : Row)
    → all_hold (map (over_columns groups) (filter (is_left (length groups)) conjuncts)) row ≡ all_hold (filter (is_left (length groups)) conjuncts) (columns_of row groups ++ more)
key-hold groups conjuncts row more =
    list_all-map (λ c. holds c row) (over_columns groups) (filter (is_left (length groups)) conjuncts)
    ∙ list_all-same (λ c. holds (over_columns groups c) row) (λ c. holds c (columns_of row groups ++ more)) (filter (is_left (length groups)) conjuncts)
    (All-weaker (λ c. is_left (length groups) c ≡ true) (λ c. holds (over_columns groups c) row ≡ holds c (columns_of row groups ++ more))
    (λ c t. ap is_true (over_columns-mean_before groups c row more (below-all (length groups) (columns_read c) t)))
    (filter (is_left (length groups)) conjuncts) (filter_passes (is_left (length groups)) conjuncts))

-- ---- where a rule keeps the filter as it is

-- the image is there only where the test fails
pub changed-is : (stays : Bool) (image out : Tree) → cond stays None (Some image) ≡ Some out → image ≡ out
changed-is true image out e = absurd (cc)
changed-is false image out e = cc

pub changed-renumbered : (m : ℕ → ℕ) (stays : Bool) (image : Tree) → cond stays None (Some (renumbered m image)) ≡ option_map (renumbered m) (cond stays None (Some image))
changed-renumbered m true image = refl
changed-renumbered m false image = refl

-- ---- the very rows

pub SameBag-same : (a b : List Row) → a ≡ b → SameBag a b
SameBag-same a b e r = ap (count_by (row_eq r)) e
