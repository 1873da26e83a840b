-- FilterIntoJoin is lawful: conjuncts on one side's columns keep rows of that side, and those on both sides' keep pairs.
use Rattle.std.proofs.Common.{◌≡◌, ℕ, true, cond, not, ◌&&◌, nat_le, List, ◌++◌, map, filter, length, All, Some, None, sym, ◌∙◌, ap, ap₂, subst}
use Rattle.std.specs.List.{flat_map, list_all}
use Rattle.std.specs.Option.{option_map}
use Rattle.std.proofs.lemmas.List.Elements.{All-weaker}
use Rattle.cal_value.specs.Types.{HasTypes}
use Rattle.cal_expr.specs.declared.expr.Expr.{Expr}
use Rattle.cal_schema.specs.declared.database.Db.{Db}
use Rattle.cal_schema.specs.declared.join_kind.JoinKind.{JoinKind}
use Rattle.cal_schema.specs.declared.join_kind.JoinKind.TheVariants.{Inner, Left}
use Rattle.cal_schema.specs.declared.rel_type.RelType.{RelType}
use Rattle.cal_schema.specs.Fits.{Fits}
use Rattle.cal_schema.specs.Valid.{IsValidSchema}
use Rattle.cal_rel.specs.Bag.{bag, width}
use Rattle.cal_rel.specs.Holes.{renumbered, EachHole, Narrows}
use Rattle.cal_rel.specs.Info.{Info}
use Rattle.cal_rel.specs.Meaning.{AreTrueOf}
use Rattle.cal_rel.specs.Operators.{Row, holds, partners, joined}
use Rattle.cal_rel.specs.Tree.{Tree, filter_by, join_on, unary, binary}
use Rattle.cal_rel.specs.Typing.{unary_type, binary_type, type_of}
use Rattle.cal_rel.proofs.Narrower.{type-narrow, wide-length}
use Rattle.cal_rel.proofs.RowLemmas.{of_both-some, types-length}
use Rattle.cal_rel.proofs.TrueTypes.{and_then-some, type-width, type-true}
use Rattle.expr_parts.specs.Columns.{columns_read, shifted_down}
use Rattle.expr_parts.specs.Conjuncts.{conjuncts_of}
use Rattle.rule_hep.specs.Local.{IsLocal}
use Rattle.filter_images.specs.Filtered.{filtered}
use Rattle.filter_images.specs.FilterIntoJoin.{is_left, is_right, is_of_both, with_more, into_inner, into_left, stays_above, into_join, filter_below_join}
use Rattle.filter_images.specs.FilteredLemmas.{all_hold, holds-conjuncts, bag-filtered, holds-with_more, holes-filtered, renumbered-filtered, left-hold, right-hold, changed-is, changed-renumbered, SameBag-same}
use Rattle.filter_images.specs.ListLemmas.{and-last, list_all-parted, list_all-in_three}
use Rattle.filter_images.specs.RowLemmas.{inner-filtered, left-filtered}

-- ---- the type of the left side

pub record IsTyped (info : Info) (t : Tree) : Type 0 where
  pub own : RelType
  pub is : type_of info t ≡ Some own

left-typed : (info : Info) (predicate : Expr) (kind : JoinKind) (on : Expr) (s t : Tree) (u : RelType)
    → type_of info (unary (filter_by predicate) (binary (join_on kind on) s t)) ≡ Some u → IsTyped info s
left-typed info predicate kind on s t u e =
    let m = and_then-some (unary_type (filter_by predicate)) (type_of info (binary (join_on kind on) s t)) u e in
    let b = of_both-some (binary_type info (join_on kind on) s t) (type_of info s) (type_of info t) m.from m.found in
    record { own = b.first; is = b.first_is }

-- each row of a well-formed tree has as many values as the tree has columns
pub rows-long : (info : Info) (db : Db) (holes : ℕ → List Row) (t : Tree) → IsTyped info t → Fits db info.schema → AreTrueOf info.sets holes
    → All (λ row. length row ≡ width info t) (bag info db holes t)
rows-long info db holes t h fits true_of =
    All-weaker (λ row. HasTypes row h.own.columns) (λ row. length row ≡ width info t) (λ row typed. types-length row h.own.columns typed ∙ type-width info t h.own h.is)
    (bag info db holes t) (type-true info db holes t h.own fits true_of h.is).typed

-- with narrower sets a tree has as many columns
pub width-steady : (m : ℕ → ℕ) (from to : Info) (t : Tree) → IsTyped from t → IsValidSchema from.schema → Narrows m from to → width to (renumbered m t) ≡ width from t
width-steady m from to t h valid narrows =
    let w = type-narrow m from to t h.own valid narrows h.is in
    sym (type-width to (renumbered m t) w.found w.is) ∙ wide-length w.found.columns h.own.columns w.within.columns ∙ type-width from t h.own h.is

-- ---- the rows of an inner join

three-hold : (n : ℕ) (conjuncts : List Expr) (row : Row)
    → all_hold conjuncts row ≡ (all_hold (filter (is_left n) conjuncts) row && (all_hold (filter (is_right n) conjuncts) row && all_hold (filter (is_of_both n) conjuncts) row))
three-hold n conjuncts row = list_all-in_three (λ c. holds c row) (is_left n) (λ c. list_all (λ at. nat_le n at) (columns_read c)) conjuncts

inner-hold : (n : ℕ) (predicate on : Expr) (x y : Row) → length x ≡ n
    → (holds on (x ++ y) && holds predicate (x ++ y))
    ≡ (all_hold (filter (is_left n) (conjuncts_of predicate)) x
    && (all_hold (map (shifted_down n) (filter (is_right n) (conjuncts_of predicate))) y && holds (with_more on (filter (is_of_both n) (conjuncts_of predicate))) (x ++ y)))
inner-hold n predicate on x y e =
    ap (λ b. holds on (x ++ y) && b) (holds-conjuncts predicate (x ++ y) ∙ three-hold n (conjuncts_of predicate) (x ++ y))
    ∙ and-last (holds on (x ++ y)) (all_hold lefts (x ++ y)) (all_hold rights (x ++ y)) (all_hold boths (x ++ y))
    ∙ ap₂ (λ a b. a && b) (left-hold n (conjuncts_of predicate) x y e)
    (ap₂ (λ a b. a && b) (right-hold n (conjuncts_of predicate) x y e) (sym (holds-with_more on boths (x ++ y))))
  where
    lefts : List Expr
    lefts = filter (is_left n) (conjuncts_of predicate)

    rights : List Expr
    rights = filter (is_right n) (conjuncts_of predicate)

    boths : List Expr
    boths = filter (is_of_both n) (conjuncts_of predicate)

inner-bag : (info : Info) (db : Db) (holes : ℕ → List Row) (n : ℕ) (predicate on : Expr) (s t : Tree) → All (λ row. length row ≡ n) (bag info db holes s)
    → bag info db holes (into_inner n (conjuncts_of predicate) on s t) ≡ bag info db holes (unary (filter_by predicate) (binary (join_on Inner on) s t))
inner-bag info db holes n predicate on s t long =
    let lefts = filter (is_left n) (conjuncts_of predicate) in
    let rights = map (shifted_down n) (filter (is_right n) (conjuncts_of predicate)) in
    let other = with_more on (filter (is_of_both n) (conjuncts_of predicate)) in
    ap₂ (λ right left. flat_map (partners other right) left) (bag-filtered info db holes rights t) (bag-filtered info db holes lefts s)
    ∙ sym (inner-filtered (λ row. length row ≡ n) (holds predicate) (all_hold lefts) (all_hold rights) on other (inner-hold n predicate on) (bag info db holes t) (bag info db holes s) long)

-- ---- the rows of a left join

parted-hold : (n : ℕ) (predicate : Expr) (x y : Row) → length x ≡ n
    → holds predicate (x ++ y) ≡ (all_hold (filter (is_left n) (conjuncts_of predicate)) x && all_hold (filter (λ c. not (is_left n c)) (conjuncts_of predicate)) (x ++ y))
parted-hold n predicate x y e =
    holds-conjuncts predicate (x ++ y) ∙ list_all-parted (λ c. holds c (x ++ y)) (is_left n) (conjuncts_of predicate)
    ∙ ap (λ b. b && all_hold (filter (λ c. not (is_left n c)) (conjuncts_of predicate)) (x ++ y)) (left-hold n (conjuncts_of predicate) x y e)

left-bag : (info : Info) (db : Db) (holes : ℕ → List Row) (n : ℕ) (predicate on : Expr) (s t : Tree) → All (λ row. length row ≡ n) (bag info db holes s)
    → bag info db holes (into_left n (conjuncts_of predicate) on s t) ≡ bag info db holes (unary (filter_by predicate) (binary (join_on Left on) s t))
left-bag info db holes n predicate on s t long =
    let lefts = filter (is_left n) (conjuncts_of predicate) in
    let others = filter (λ c. not (is_left n c)) (conjuncts_of predicate) in
    bag-filtered info db holes others (binary (join_on Left on) (filtered lefts s) t)
    ∙ ap (λ left. filter (all_hold others) (flat_map (joined Left on (width info t) (bag info db holes t)) left)) (bag-filtered info db holes lefts s)
    ∙ sym (left-filtered (λ row. length row ≡ n) (holds predicate) (all_hold lefts) (all_hold others) (parted-hold n predicate) Left on (width info t) (bag info db holes t) (bag info db holes s) long)

-- ---- the rule

into_join-bag : (info : Info) (db : Db) (holes : ℕ → List Row) (n : ℕ) (predicate : Expr) (kind : JoinKind) (on : Expr) (s t out : Tree) → All (λ row. length row ≡ n) (bag info db holes s)
    → into_join n predicate kind on s t ≡ Some out → bag info db holes out ≡ bag info db holes (unary (filter_by predicate) (binary (join_on kind on) s t))
into_join-bag info db holes n predicate Inner on s t out long e =
    let is : into_inner n (conjuncts_of predicate) on s t ≡ out = cc in
    ap (bag info db holes) (sym is) ∙ inner-bag info db holes n predicate on s t long
into_join-bag info db holes n predicate Left on s t out long e =
    ap (bag info db holes) (sym (changed-is (stays_above n predicate) (into_left n (conjuncts_of predicate) on s t) out e)) ∙ left-bag info db holes n predicate on s t long

into_join-sets : (P : ℕ → Type 0) (n : ℕ) (predicate : Expr) (kind : JoinKind) (on : Expr) (s t out : Tree) → into_join n predicate kind on s t ≡ Some out
    → EachHole P s → EachHole P t → EachHole P out
into_join-sets P n predicate Inner on s t out e h k =
    let is : into_inner n (conjuncts_of predicate) on s t ≡ out = cc in
    subst (EachHole P) is
    (holes-filtered P (filter (is_left n) (conjuncts_of predicate)) s h, holes-filtered P (map (shifted_down n) (filter (is_right n) (conjuncts_of predicate))) t k)
into_join-sets P n predicate Left on s t out e h k =
    let lefts = filter (is_left n) (conjuncts_of predicate) in
    let others = filter (λ c. not (is_left n c)) (conjuncts_of predicate) in
    subst (EachHole P) (changed-is (stays_above n predicate) (into_left n (conjuncts_of predicate) on s t) out e)
    (holes-filtered P others (binary (join_on Left on) (filtered lefts s) t) (holes-filtered P lefts s h, k))

inner-renumbered : (m : ℕ → ℕ) (n : ℕ) (conjuncts : List Expr) (on : Expr) (s t : Tree)
    → into_inner n conjuncts on (renumbered m s) (renumbered m t) ≡ renumbered m (into_inner n conjuncts on s t)
inner-renumbered m n conjuncts on s t =
    ap₂ (binary (join_on Inner (with_more on (filter (is_of_both n) conjuncts))))
    (sym (renumbered-filtered m (filter (is_left n) conjuncts) s)) (sym (renumbered-filtered m (map (shifted_down n) (filter (is_right n) conjuncts)) t))

left-renumbered : (m : ℕ → ℕ) (n : ℕ) (conjuncts : List Expr) (on : Expr) (s t : Tree)
    → into_left n conjuncts on (renumbered m s) (renumbered m t) ≡ renumbered m (into_left n conjuncts on s t)
left-renumbered m n conjuncts on s t =
    ap (λ x. filtered (filter (λ c. not (is_left n c)) conjuncts) (binary (join_on Left on) x (renumbered m t))) (sym (renumbered-filtered m (filter (is_left n) conjuncts) s))
    ∙ sym (renumbered-filtered m (filter (λ c. not (is_left n c)) conjuncts) (binary (join_on Left on) (filtered (filter (is_left n) conjuncts) s) t))

into_join-renumbered : (m : ℕ → ℕ) (n : ℕ) (predicate : Expr) (kind : JoinKind) (on : Expr) (s t : Tree)
    → into_join n predicate kind on (renumbered m s) (renumbered m t) ≡ option_map (renumbered m) (into_join n predicate kind on s t)
into_join-renumbered m n predicate Inner on s t = ap Some (inner-renumbered m n (conjuncts_of predicate) on s t)
into_join-renumbered m n predicate Left on s t =
    ap (λ x. cond (stays_above n predicate) None (Some x)) (left-renumbered m n (conjuncts_of predicate) on s t)
    ∙ changed-renumbered m (stays_above n predicate) (into_left n (conjuncts_of predicate) on s t)

below-sets : (P : ℕ → Type 0) (info : Info) (rel out : Tree) → filter_below_join info rel ≡ Some out → EachHole P rel → EachHole P out
below-sets P info (unary (filter_by predicate) (binary (join_on kind on) s t)) out e h = into_join-sets P (width info s) predicate kind on s t out e h.0 h.1
below-sets P info _ out e h = absurd (cc)

below-means : (info : Info) (db : Db) (holes : ℕ → List Row) (rel out : Tree) (u : RelType) → Fits db info.schema → AreTrueOf info.sets holes → type_of info rel ≡ Some u
    → filter_below_join info rel ≡ Some out → bag info db holes out ≡ bag info db holes rel
below-means info db holes (unary (filter_by predicate) (binary (join_on kind on) s t)) out u fits true_of typed e =
    into_join-bag info db holes (width info s) predicate kind on s t out (rows-long info db holes s (left-typed info predicate kind on s t u typed) fits true_of) e
below-means info db holes _ out u fits true_of typed e = absurd (cc)

below-steady : (m : ℕ → ℕ) (from to : Info) (rel out : Tree) (u : RelType) → IsValidSchema from.schema → Narrows m from to → type_of from rel ≡ Some u
    → filter_below_join from rel ≡ Some out → filter_below_join to (renumbered m rel) ≡ Some (renumbered m out)
below-steady m from to (unary (filter_by predicate) (binary (join_on kind on) s t)) out u valid narrows typed e =
    ap (λ n. into_join n predicate kind on (renumbered m s) (renumbered m t)) (width-steady m from to s (left-typed from predicate kind on s t u typed) valid narrows)
    ∙ into_join-renumbered m (width from s) predicate kind on s t ∙ ap (option_map (renumbered m)) e
below-steady m from to _ out u valid narrows typed e = absurd (cc)

pub local_filter_below_join : IsLocal filter_below_join
local_filter_below_join = record {
  sets = λ info rel out p e h. below-sets (λ k. p k ≡ true) info rel out e h;
  means = λ info rel out s t typed made e db holes fits true_of. SameBag-same (bag info db holes out) (bag info db holes rel) (below-means info db holes rel out s fits true_of typed e);
  steady = λ m from to rel out t valid narrows typed e. below-steady m from to rel out t valid narrows typed e;
}
