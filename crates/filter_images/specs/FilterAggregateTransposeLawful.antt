-- FilterAggregateTranspose is lawful: conjuncts on the key alone keep whole groups.
use Rattle.std.proofs.Common.{◌≡◌, ℕ, true, cond, not, ◌&&◌, List, [], ◌∷◌, ◌++◌, map, filter, length, Some, None, sym, ◌∙◌, ap, subst}
use Rattle.std.specs.Option.{option_map}
use Rattle.cal_value.specs.EqualLaws.{row_eq-Decides}
use Rattle.cal_value.specs.Order.{columns_of}
use Rattle.cal_expr.specs.declared.expr.Expr.{Expr}
use Rattle.cal_schema.specs.declared.agg_call.AggCall.{AggCall}
use Rattle.cal_schema.specs.declared.database.Db.{Db}
use Rattle.cal_rel.specs.Bag.{bag}
use Rattle.cal_rel.specs.Holes.{renumbered, EachHole}
use Rattle.cal_rel.specs.Info.{Info}
use Rattle.cal_rel.specs.Operators.{Row, holds, called, same_key, by_key}
use Rattle.cal_rel.specs.Tree.{Tree, filter_by, aggregate_by, unary}
use Rattle.expr_parts.specs.Columns.{over_columns}
use Rattle.expr_parts.specs.Conjuncts.{conjuncts_of}
use Rattle.rule_hep.specs.Local.{IsLocal}
use Rattle.filter_images.specs.Filtered.{filtered}
use Rattle.filter_images.specs.FilterIntoJoin.{is_left, stays_above}
use Rattle.filter_images.specs.FilterAggregateTranspose.{below_groups, over_groups, filter_below_aggregate}
use Rattle.filter_images.specs.FilteredLemmas.{all_hold, holds-conjuncts, bag-filtered, holes-filtered, renumbered-filtered, key-hold, changed-is, changed-renumbered, SameBag-same}
use Rattle.filter_images.specs.ListLemmas.{list_all-parted}
use Rattle.filter_images.specs.RowLemmas.{by_key-filtered}

-- the conjuncts that go below, over the rows of the input
abbrev moved : List ℕ → List Expr → List Expr
moved groups conjuncts = map (over_columns groups) (filter (is_left (length groups)) conjuncts)

abbrev kept_above : List ℕ → List Expr → List Expr
kept_above groups conjuncts = filter (λ c. not (is_left (length groups) c)) conjuncts

-- ---- the rows

-- rows with one key pass together
moved-agree : (groups : List ℕ) (conjuncts : List Expr) (a b : Row) → same_key groups a b ≡ true → all_hold (moved groups conjuncts) a ≡ all_hold (moved groups conjuncts) b
moved-agree groups conjuncts a b e =
    key-hold groups conjuncts a []
    ∙ ap (λ key. all_hold (filter (is_left (length groups)) conjuncts) (key ++ [])) ((row_eq-Decides (columns_of a groups) (columns_of b groups)).0 e)
    ∙ sym (key-hold groups conjuncts b [])

parted-hold : (groups : List ℕ) (predicate : Expr) (row more : Row)
    → holds predicate (columns_of row groups ++ more) ≡ (all_hold (moved groups (conjuncts_of predicate)) row && all_hold (kept_above groups (conjuncts_of predicate)) (columns_of row groups ++ more))
parted-hold groups predicate row more =
    holds-conjuncts predicate (columns_of row groups ++ more)
    ∙ list_all-parted (λ c. holds c (columns_of row groups ++ more)) (is_left (length groups)) (conjuncts_of predicate)
    ∙ ap (λ b. b && all_hold (kept_above groups (conjuncts_of predicate)) (columns_of row groups ++ more)) (sym (key-hold groups (conjuncts_of predicate) row more))

groups-bag : (info : Info) (db : Db) (holes : ℕ → List Row) (predicate : Expr) (group : ℕ) (groups : List ℕ) (calls : List AggCall) (t : Tree)
    → bag info db holes (below_groups (group ∷ groups) calls (conjuncts_of predicate) t) ≡ bag info db holes (unary (filter_by predicate) (unary (aggregate_by (group ∷ groups) calls) t))
groups-bag info db holes predicate group groups calls t =
    let down = moved (group ∷ groups) (conjuncts_of predicate) in
    let above = kept_above (group ∷ groups) (conjuncts_of predicate) in
    bag-filtered info db holes above (unary (aggregate_by (group ∷ groups) calls) (filtered down t))
    ∙ ap (λ rows. filter (all_hold above) (by_key (group ∷ groups) (called calls) rows)) (bag-filtered info db holes down t)
    ∙ sym (by_key-filtered (holds predicate) (all_hold down) (all_hold above) (group ∷ groups) (called calls)
    (moved-agree (group ∷ groups) (conjuncts_of predicate)) (parted-hold (group ∷ groups) predicate) (bag info db holes t))

-- ---- the rule

groups-renumbered : (m : ℕ → ℕ) (groups : List ℕ) (calls : List AggCall) (conjuncts : List Expr) (t : Tree)
    → below_groups groups calls conjuncts (renumbered m t) ≡ renumbered m (below_groups groups calls conjuncts t)
groups-renumbered m groups calls conjuncts t =
    ap (λ x. filtered (kept_above groups conjuncts) (unary (aggregate_by groups calls) x)) (sym (renumbered-filtered m (moved groups conjuncts) t))
    ∙ sym (renumbered-filtered m (kept_above groups conjuncts) (unary (aggregate_by groups calls) (filtered (moved groups conjuncts) t)))

over_groups-renumbered : (m : ℕ → ℕ) (predicate : Expr) (groups : List ℕ) (calls : List AggCall) (t : Tree)
    → over_groups predicate groups calls (renumbered m t) ≡ option_map (renumbered m) (over_groups predicate groups calls t)
over_groups-renumbered m predicate groups calls t =
    ap (λ x. cond (stays_above (length groups) predicate) None (Some x)) (groups-renumbered m groups calls (conjuncts_of predicate) t)
    ∙ changed-renumbered m (stays_above (length groups) predicate) (below_groups groups calls (conjuncts_of predicate) t)

over_groups-is : (predicate : Expr) (groups : List ℕ) (calls : List AggCall) (t out : Tree) → over_groups predicate groups calls t ≡ Some out
    → below_groups groups calls (conjuncts_of predicate) t ≡ out
over_groups-is predicate groups calls t out e = changed-is (stays_above (length groups) predicate) (below_groups groups calls (conjuncts_of predicate) t) out e

below-sets : (P : ℕ → Type 0) (rel out : Tree) → filter_below_aggregate rel ≡ Some out → EachHole P rel → EachHole P out
below-sets P (unary (filter_by predicate) (unary (aggregate_by (group ∷ groups) calls) t)) out e h =
    let down = moved (group ∷ groups) (conjuncts_of predicate) in
    let above = kept_above (group ∷ groups) (conjuncts_of predicate) in
    subst (EachHole P) (over_groups-is predicate (group ∷ groups) calls t out e)
    (holes-filtered P above (unary (aggregate_by (group ∷ groups) calls) (filtered down t)) (holes-filtered P down t h))
below-sets P _ out e h = absurd (cc)

below-means : (info : Info) (db : Db) (holes : ℕ → List Row) (rel out : Tree) → filter_below_aggregate rel ≡ Some out → bag info db holes out ≡ bag info db holes rel
below-means info db holes (unary (filter_by predicate) (unary (aggregate_by (group ∷ groups) calls) t)) out e =
    ap (bag info db holes) (sym (over_groups-is predicate (group ∷ groups) calls t out e)) ∙ groups-bag info db holes predicate group groups calls t
below-means info db holes _ out e = absurd (cc)

below-steady : (m : ℕ → ℕ) (rel out : Tree) → filter_below_aggregate rel ≡ Some out → filter_below_aggregate (renumbered m rel) ≡ Some (renumbered m out)
below-steady m (unary (filter_by predicate) (unary (aggregate_by (group ∷ groups) calls) t)) out e =
    over_groups-renumbered m predicate (group ∷ groups) calls t ∙ ap (option_map (renumbered m)) e
below-steady m _ out e = absurd (cc)

pub local_filter_below_aggregate : IsLocal (λ info rel. filter_below_aggregate rel)
local_filter_below_aggregate = record {
  sets = λ info rel out p e h. below-sets (λ k. p k ≡ true) rel out e h;
  means = λ info rel out s t typed made e db holes fits true_of. SameBag-same (bag info db holes out) (bag info db holes rel) (below-means info db holes rel out e);
  steady = λ m from to rel out t valid narrows typed e. below-steady m rel out e;
}
