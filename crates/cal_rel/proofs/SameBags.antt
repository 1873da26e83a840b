-- Each node keeps the same bag, and so does each tree.
use Rattle.std.proofs.Common.{◌≡◌, ℕ, pos, cond, List, [], ◌∷◌, ◌++◌, map, replicate, Option, Some, None, sym, ◌∙◌, ap, subst, arith}
use mathlib.Core.Path.{fun_ext}
use Rattle.std.specs.List.{flat_map}
use Rattle.std.specs.List.Sorted.{IsPermutation}
use Rattle.cal_value.specs.declared.operator.Agg.{Agg}
use Rattle.cal_value.specs.declared.value.Value.{Value}
use Rattle.cal_value.specs.declared.value.Value.TheVariants.{Null, Int}
use Rattle.cal_value.specs.Equal.{value_eq, row_eq}
use Rattle.cal_value.specs.EqualLaws.{value_eq-Decides, row_eq-Decides}
use Rattle.cal_value.specs.Order.{SameBag, column_of, columns_of}
use Rattle.cal_aggregate.specs.Parts.{members, parts}
use Rattle.cal_aggregate.proofs.AggregateFolds.{aggregated-IsPermutation}
use Rattle.cal_value.proofs.BagLemmas.{IsPermutation-from_counts}
use Rattle.cal_expr.specs.declared.expr.Expr.{Expr}
use Rattle.cal_schema.specs.declared.agg_call.AggCall.{AggCall}
use Rattle.cal_schema.specs.declared.database.Db.{Db}
use Rattle.cal_schema.specs.declared.join_kind.JoinKind.{JoinKind}
use Rattle.cal_schema.specs.declared.join_kind.JoinKind.TheVariants.{Inner, Left}
use Rattle.cal_rel.specs.Bag.{bag, width, unary_bag, binary_bag, leaf_bag}
use Rattle.cal_rel.specs.Holes.{EachHole}
use Rattle.cal_rel.specs.Info.{Info}
use Rattle.cal_rel.specs.Operators.{Row, holds, projected, partners, or_alone, joined, aggregate_of, called, same_key, by_key, grouped}
use Rattle.cal_rel.specs.Tree.{Unary, filter_by, project_to, aggregate_by, Binary, join_on, Tree, leaf, unary, binary, hole}
use Rattle.cal_rel.proofs.Totals.{Weighs, Weighs-from_SameBag, SameBag-from_Weighs, weighs-refl, weighs-trans, total-sum_by, same-length, same-filter, same-map, same-flat_left, same-flat_right}
use Rattle.cal_rel.proofs.Reorders.{Reordered, Settles, one-order, reordered-map, reordered-total, Weighs-from_Reordered, Reordered-from_Weighs, map-map, keyed-reordered}

-- ---- aggregates don't ask in which order rows stand

values-permuted : (vs ws : List Value) → Reordered vs ws → IsPermutation vs ws
values-permuted vs ws r =
    IsPermutation-from_counts value_eq value_eq-Decides vs ws
    (λ v. sym (total-sum_by (λ w. cond (value_eq v w) 1 0) vs) ∙ reordered-total (λ w. cond (value_eq v w) 1 0) vs ws r ∙ total-sum_by (λ w. cond (value_eq v w) 1 0) ws)

aggregate-reordered : (agg : Agg) (argument : Option ℕ) (xs ys : List Row) → Reordered xs ys → aggregate_of agg argument xs ≡ aggregate_of agg argument ys
aggregate-reordered agg None xs ys r = ap (λ n. Int (pos n)) (same-length xs ys (Weighs-from_Reordered xs ys r))
aggregate-reordered agg (Some column) xs ys r =
    aggregated-IsPermutation agg (map (λ row. column_of row column) xs) (map (λ row. column_of row column) ys)
    (values-permuted (map (λ row. column_of row column) xs) (map (λ row. column_of row column) ys) (reordered-map (λ row. column_of row column) xs ys r))

pub calls-settle : (calls : List AggCall) → Settles (called calls)
calls-settle calls = record { same = λ xs ys r. ap (λ f. map f calls) (fun_ext (λ (call : AggCall). aggregate-reordered call.agg call.argument xs ys r)) }

by_key-pairs : (columns : List ℕ) (calls : List Row → Row) (rows : List Row)
    → map (λ (r : Row × Row). r.0 ++ r.1) (map (λ part. (columns_of part.first columns, calls (members part))) (parts (same_key columns) rows)) ≡ by_key columns calls rows
by_key-pairs columns calls rows = map-map (λ (r : Row × Row). r.0 ++ r.1) (λ part. (columns_of part.first columns, calls (members part))) (parts (same_key columns) rows)

pub by_key-reordered : (columns : List ℕ) (calls : List Row → Row) → Settles calls → (xs ys : List Row) → Reordered xs ys → Reordered (by_key columns calls xs) (by_key columns calls ys)
by_key-reordered columns calls settles xs ys r =
    let pairs = reordered-map (λ (r : Row × Row). r.0 ++ r.1) _ _ (keyed-reordered row_eq row_eq-Decides (λ row. columns_of row columns) calls settles xs ys r) in
    subst (λ rows. Reordered rows (by_key columns calls ys)) (by_key-pairs columns calls xs) (subst (Reordered _) (by_key-pairs columns calls ys) pairs)

pub grouped-reordered : (columns : List ℕ) (calls : List Row → Row) → Settles calls → (xs ys : List Row) → Reordered xs ys → Reordered (grouped columns calls xs) (grouped columns calls ys)
grouped-reordered [] calls settles xs ys r = one-order (calls xs ∷ []) (calls ys ∷ []) (ap (λ row. row ∷ []) (settles.same xs ys r))
grouped-reordered (column ∷ columns) calls settles xs ys r = by_key-reordered (column ∷ columns) calls settles xs ys r

same-grouped : (columns : List ℕ) (calls : List AggCall) (a b : List Row) → Weighs a b → Weighs (grouped columns (called calls) a) (grouped columns (called calls) b)
same-grouped columns calls a b h =
    Weighs-from_Reordered (grouped columns (called calls) a) (grouped columns (called calls) b)
    (grouped-reordered columns (called calls) (calls-settle calls) a b (Reordered-from_Weighs row_eq row_eq-Decides a b h))

-- ---- joins

same-or_alone : (row : Row) (a b : List Row) → Weighs a b → Weighs (or_alone row a) (or_alone row b)
same-or_alone row [] [] h = weighs-refl (row ∷ [])
same-or_alone row [] (y ∷ b) h = absurd (let e = same-length [] (y ∷ b) h in omega arith)
same-or_alone row (x ∷ a) [] h = absurd (let e = same-length (x ∷ a) [] h in omega arith)
same-or_alone row (x ∷ a) (y ∷ b) h = h

same-partners : (on : Expr) (a b : List Row) → Weighs a b → (x : Row) → Weighs (partners on a x) (partners on b x)
same-partners on a b h x = same-filter (holds on) (map (λ y. x ++ y) a) (map (λ y. x ++ y) b) (same-map (λ y. x ++ y) a b h)

same-joined : (kind : JoinKind) (on : Expr) (width : ℕ) (a b : List Row) → Weighs a b → (x : Row) → Weighs (joined kind on width a x) (joined kind on width b x)
same-joined Inner on width a b h x = same-partners on a b h x
same-joined Left on width a b h x = same-or_alone (x ++ replicate width Null) (partners on a x) (partners on b x) (same-partners on a b h x)

-- ---- nodes

pub same-unary : (u : Unary) (a b : List Row) → Weighs a b → Weighs (unary_bag u a) (unary_bag u b)
same-unary (filter_by predicate) a b h = same-filter (holds predicate) a b h
same-unary (project_to items) a b h = same-map (projected items) a b h
same-unary (aggregate_by groups calls) a b h = same-grouped groups calls a b h

pub same-binary : (n : Binary) (width : ℕ) (a b c d : List Row) → Weighs a b → Weighs c d → Weighs (binary_bag n width a c) (binary_bag n width b d)
same-binary (join_on kind on) width a b c d h k =
    weighs-trans (flat_map (joined kind on width c) a) (flat_map (joined kind on width c) b) (flat_map (joined kind on width d) b)
    (same-flat_left (joined kind on width c) a b h)
    (same-flat_right (joined kind on width c) (joined kind on width d) (same-joined kind on width c d k) b)

-- ---- trees

weighs-holes : (info : Info) (db : Db) (holes others : ℕ → List Row) (tree : Tree) → EachHole (λ k. SameBag (holes k) (others k)) tree → Weighs (bag info db holes tree) (bag info db others tree)
weighs-holes info db holes others (leaf l) h = weighs-refl (leaf_bag info db l)
weighs-holes info db holes others (unary u t) h = same-unary u (bag info db holes t) (bag info db others t) (weighs-holes info db holes others t h)
weighs-holes info db holes others (binary b s t) h =
    same-binary b (width info t) (bag info db holes s) (bag info db others s) (bag info db holes t) (bag info db others t)
    (weighs-holes info db holes others s h.0) (weighs-holes info db holes others t h.1)
weighs-holes info db holes others (hole set) h = Weighs-from_SameBag (holes set) (others set) h

pub same-holes : (info : Info) (db : Db) (holes others : ℕ → List Row) (tree : Tree) → EachHole (λ k. SameBag (holes k) (others k)) tree → SameBag (bag info db holes tree) (bag info db others tree)
same-holes info db holes others tree h = SameBag-from_Weighs (bag info db holes tree) (bag info db others tree) (weighs-holes info db holes others tree h)
