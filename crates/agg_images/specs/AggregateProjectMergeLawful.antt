-- AggregateProjectMerge is lawful: groups and arguments have the values that they have over the project.
use Rattle.std.proofs.Common.{◌≡◌, ℕ, pos, Bool, true, not, List, [], ◌∷◌, ◌++◌, map, filter, length, count_by, Option, Some, None, slice_get, unwrap_or, refl, sym, ◌∙◌, ap, ap₂, subst}
use mathlib.Core.Path.{fun_ext}
use Rattle.std.specs.Option.{option_map}
use Rattle.std.proofs.lemmas.List.{length-map}
use Rattle.std.proofs.lemmas.Option.{same_Some, slice_get-map}
use Rattle.cal_value.specs.declared.operator.Agg.{Agg}
use Rattle.cal_value.specs.declared.value.Value.{Value}
use Rattle.cal_value.specs.declared.value.Value.TheVariants.{Null, Int}
use Rattle.cal_value.specs.Equal.{row_eq}
use Rattle.cal_value.specs.Order.{column_of, columns_of}
use Rattle.cal_aggregate.specs.Aggregate.{aggregated}
use Rattle.cal_aggregate.specs.Parts.{Part, members, parts}
use Rattle.cal_expr.specs.declared.expr.Expr.{Expr}
use Rattle.cal_expr.specs.Meaning.{meaning_of}
use Rattle.cal_schema.specs.declared.agg_call.AggCall.{AggCall}
use Rattle.cal_schema.specs.declared.database.Db.{Db}
use Rattle.cal_rel.specs.Bag.{bag}
use Rattle.cal_rel.specs.Holes.{renumbered, EachHole}
use Rattle.cal_rel.specs.Info.{Info}
use Rattle.cal_rel.specs.Operators.{Row, projected, aggregate_of, called, same_key, by_key, grouped}
use Rattle.cal_rel.specs.Tree.{Tree, project_to, aggregate_by, unary}
use Rattle.cal_rel.proofs.Reorders.{filter-map, map-map}
use Rattle.cal_rel.proofs.RowLemmas.{of_both-some}
use Rattle.cal_rel.proofs.TrueTypes.{option_map-some, and_then-some}
use Rattle.rel_meta.specs.Keys.{column_in, each_of}
use Rattle.rel_meta.proofs.OnceNodes.{column_in-mean, each-values}
use Rattle.rule_hep.specs.Local.{IsLocal}
use Rattle.agg_images.specs.AggregateProjectMerge.{column_below, argument_below, call_below, aggregate_over, merged_below}

-- ---- values

value-below : (items : List Expr) (row : Row) (at column : ℕ) → column_below items at ≡ Some column → column_of (projected items row) at ≡ column_of row column
value-below items row at column e =
    let m = and_then-some column_in (slice_get items at) column e in
    ap (λ o. unwrap_or o Null) (slice_get-map (λ item. meaning_of item row) items at ∙ ap (option_map (λ item. meaning_of item row)) m.found)
    ∙ column_in-mean m.from column row m.is

call-value : (items : List Expr) (rows : List Row) (agg : Agg) (argument : Option ℕ) (call : AggCall) → argument_below items agg argument ≡ Some call
    → aggregate_of call.agg call.argument rows ≡ aggregate_of agg argument (map (projected items) rows)
call-value items rows agg None call e =
    let is : record { agg = agg; argument = None } ≡ call = same_Some (record { agg = agg; argument = None }) call e in
    ap (λ (c : AggCall). aggregate_of c.agg c.argument rows) (sym is) ∙ sym (ap (λ n. Int (pos n)) (length-map rows (projected items)))
call-value items rows agg (Some at) call e =
    let m = option_map-some (λ column. record { agg = agg; argument = Some column }) (column_below items at) call e in
    ap (λ (c : AggCall). aggregate_of c.agg c.argument rows) (sym m.is)
    ∙ ap (aggregated agg)
    (ap (λ f. map f rows) (fun_ext (λ (row : Row). sym (value-below items row at m.from m.found))) ∙ sym (map-map (λ row. column_of row at) (projected items) rows))

calls-values : (items : List Expr) (rows : List Row) (calls below : List AggCall) → each_of (call_below items) calls ≡ Some below → called below rows ≡ called calls (map (projected items) rows)
calls-values items rows [] below e = ap (λ cs. called cs rows) (sym (same_Some [] below e))
calls-values items rows (call ∷ calls) below e =
    let b = of_both-some (λ y ys. Some (y ∷ ys)) (call_below items call) (each_of (call_below items) calls) below e in
    ap (λ cs. called cs rows) (sym (same_Some (b.first ∷ b.second) below b.is))
    ∙ ap₂ (λ (v : Value) vs. v ∷ vs) (call-value items rows call.agg call.argument b.first b.first_is) (calls-values items rows calls b.second b.second_is)

-- ---- groups

-- the groups of mapped rows, as keys and values, are those of the rows
module _ (key f : Row → Row) (calls : List Row → Row) where
  abbrev pair_of : Part Row → Row × Row
  pair_of part = (key part.first, calls (members part))

  abbrev pair_over : Part Row → Row × Row
  pair_over part = (key (f part.first), calls (map f (members part)))

  pairs-mapped : (rows : List Row) → map pair_of (parts (λ a b. row_eq (key a) (key b)) (map f rows)) ≡ map pair_over (parts (λ a b. row_eq (key (f a)) (key (f b))) rows)
  pairs-mapped [] = refl
  pairs-mapped (x ∷ rows) =
      let other : Row × Row → Bool = λ r. not (row_eq (key (f x)) r.0) in
      ap₂ (λ (later : List Row) (rest : List (Row × Row)). (key (f x), calls (f x ∷ later)) ∷ rest)
      (filter-map (λ b. row_eq (key (f x)) (key b)) f rows)
      (sym (filter-map other pair_of (parts (λ a b. row_eq (key a) (key b)) (map f rows)))
      ∙ ap (filter other) (pairs-mapped rows)
      ∙ filter-map other pair_over (parts (λ a b. row_eq (key (f a)) (key (f b))) rows))

by_key-mapped : (upper lower : List ℕ) (f : Row → Row) (calls above : List Row → Row) → ((row : Row) → columns_of (f row) upper ≡ columns_of row lower)
    → ((rows : List Row) → above rows ≡ calls (map f rows)) → (rows : List Row) → by_key lower above rows ≡ by_key upper calls (map f rows)
by_key-mapped upper lower f calls above e h rows =
    let key : Row → Row = λ row. columns_of row upper in
    let whole : Row × Row → Row = λ r. r.0 ++ r.1 in
    ap₂ (λ (g : Part Row → Row) alike. map g (parts alike rows))
    (fun_ext (λ (part : Part Row). ap₂ (λ (a b : Row). a ++ b) (sym (e part.first)) (h (members part))))
    (fun_ext (λ (a : Row). fun_ext (λ (b : Row). ap₂ row_eq (sym (e a)) (sym (e b)))))
    ∙ sym (map-map whole (pair_over key f calls) (parts (λ a b. row_eq (key (f a)) (key (f b))) rows))
    ∙ ap (map whole) (sym (pairs-mapped key f calls rows))
    ∙ map-map whole (pair_of key f calls) (parts (same_key upper) (map f rows))

-- as many groups on both sides
grouped-mapped : (items : List Expr) (groups below : List ℕ) (calls above : List Row → Row) (rows : List Row) → each_of (column_below items) groups ≡ Some below
    → ((rows : List Row) → above rows ≡ calls (map (projected items) rows)) → grouped below above rows ≡ grouped groups calls (map (projected items) rows)
grouped-mapped items [] below calls above rows e h = ap (λ gs. grouped gs above rows) (sym (same_Some [] below e)) ∙ ap (λ row. row ∷ []) (h rows)
grouped-mapped items (group ∷ groups) below calls above rows e h =
    let b = of_both-some (λ y ys. Some (y ∷ ys)) (column_below items group) (each_of (column_below items) groups) below e in
    let is : b.first ∷ b.second ≡ below = same_Some (b.first ∷ b.second) below b.is in
    let all : each_of (column_below items) (group ∷ groups) ≡ Some (b.first ∷ b.second) = e ∙ ap Some (sym is) in
    ap (λ gs. grouped gs above rows) (sym is)
    ∙ by_key-mapped (group ∷ groups) (b.first ∷ b.second) (projected items) calls above
    (λ row. each-values (column_below items) (projected items row) row (value-below items row) (group ∷ groups) (b.first ∷ b.second) all) h rows

-- ---- the rule

-- an aggregate over a project, and what it uses as columns below
record IsMerge (rel out : Tree) : Type 0 where
  groups : List ℕ
  calls : List AggCall
  items : List Expr
  input : Tree
  groups_below : List ℕ
  calls_below : List AggCall
  from : rel ≡ unary (aggregate_by groups calls) (unary (project_to items) input)
  is : unary (aggregate_by groups_below calls_below) input ≡ out
  groups_are : each_of (column_below items) groups ≡ Some groups_below
  calls_are : each_of (call_below items) calls ≡ Some calls_below

merge-is : (rel out : Tree) → merged_below rel ≡ Some out → IsMerge rel out
merge-is (unary (aggregate_by groups calls) (unary (project_to items) t)) out e =
    let b = of_both-some (aggregate_over t) (each_of (column_below items) groups) (each_of (call_below items) calls) out e in
    record {
      groups = groups;
      calls = calls;
      items = items;
      input = t;
      groups_below = b.first;
      calls_below = b.second;
      from = refl;
      is = same_Some (unary (aggregate_by b.first b.second) t) out b.is;
      groups_are = b.first_is;
      calls_are = b.second_is;
    }
merge-is _ out e = absurd (cc)

merge-sets : (P : ℕ → Type 0) (rel out : Tree) → merged_below rel ≡ Some out → EachHole P rel → EachHole P out
merge-sets P rel out e h = let m = merge-is rel out e in subst (EachHole P) m.is (subst (EachHole P) m.from h)

merge-means : (info : Info) (db : Db) (holes : ℕ → List Row) (rel out : Tree) → merged_below rel ≡ Some out → bag info db holes out ≡ bag info db holes rel
merge-means info db holes rel out e =
    let m = merge-is rel out e in
    ap (bag info db holes) (sym m.is)
    ∙ grouped-mapped m.items m.groups m.groups_below (called m.calls) (called m.calls_below) (bag info db holes m.input) m.groups_are
    (λ rows. calls-values m.items rows m.calls m.calls_below m.calls_are)
    ∙ ap (bag info db holes) (sym m.from)

merge-steady : (m : ℕ → ℕ) (rel out : Tree) → merged_below rel ≡ Some out → merged_below (renumbered m rel) ≡ Some (renumbered m out)
merge-steady m rel out e =
    let k = merge-is rel out e in
    ap (λ t. merged_below (renumbered m t)) k.from
    ∙ merged k.groups k.calls k.items (renumbered m k.input) k.groups_below k.calls_below k.groups_are k.calls_are
    ∙ ap (λ t. Some (renumbered m t)) k.is
  where
    merged : (groups : List ℕ) (calls : List AggCall) (items : List Expr) (t : Tree) (gs : List ℕ) (cs : List AggCall) → each_of (column_below items) groups ≡ Some gs → each_of (call_below items) calls ≡ Some cs
        → merged_below (unary (aggregate_by groups calls) (unary (project_to items) t)) ≡ Some (unary (aggregate_by gs cs) t)
    merged groups calls items t gs cs e f = rw (e, f) refl

pub local_merged_below : IsLocal (λ info rel. merged_below rel)
local_merged_below = record {
  sets = λ info rel out p e h. merge-sets (λ k. p k ≡ true) rel out e h;
  means = λ info rel out s t typed made e db holes fits true_of row. ap (count_by (row_eq row)) (merge-means info db holes rel out e);
  steady = λ m from to rel out t valid narrows typed e. merge-steady m rel out e;
}
