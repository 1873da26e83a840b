-- AggregateRemove is lawful: over rows that differ on the groups each group is one row.
use Rattle.std.proofs.Common.{◌≡◌, ◌≢◌, ℕ, zero, suc, pos, Bool, true, false, cond, not, List, [], ◌∷◌, ◌++◌, map, count_by, All, Option, Some, None, slice_get, refl, sym, ◌∙◌, ap, ap₂, subst}
use Rattle.std.specs.Option.{option_map, option_and_then, option_map_or}
use Rattle.std.proofs.lemmas.List.{map-append}
use Rattle.std.proofs.lemmas.List.Elements.{All-head, All-tail}
use Rattle.std.proofs.lemmas.Option.{same_Some, cond_some}
use Rattle.cal_value.specs.declared.kind.SqlType.{SqlType}
use Rattle.cal_value.specs.declared.operator.Agg.{Agg}
use Rattle.cal_value.specs.declared.operator.Agg.TheVariants.{Count, Sum, Sum0, Min, Max}
use Rattle.cal_value.specs.declared.value.Value.{Value}
use Rattle.cal_value.specs.declared.value.Value.TheVariants.{Null, Int}
use Rattle.cal_value.specs.Equal.{row_eq}
use Rattle.cal_value.specs.Order.{column_of, columns_of}
use Rattle.cal_value.specs.Types.{IsOfType, HasTypes, AreAtMostAsWide, number_type, is_integer}
use Rattle.cal_aggregate.specs.ResultType.{sums, with_zero, agg_type}
use Rattle.cal_expr.specs.declared.expr.Expr.{Expr}
use Rattle.cal_expr.specs.declared.expr.Expr.TheVariants.{Column}
use Rattle.cal_expr.specs.Meaning.{meaning_of}
use Rattle.cal_schema.specs.declared.agg_call.AggCall.{AggCall}
use Rattle.cal_schema.specs.declared.database.Db.{Db}
use Rattle.cal_schema.specs.declared.rel_type.RelType.{RelType}
use Rattle.cal_schema.specs.Fits.{Fits}
use Rattle.cal_schema.specs.Valid.{IsValidSchema}
use Rattle.cal_rel.specs.Bag.{bag}
use Rattle.cal_rel.specs.Holes.{renumbered, EachHole, Narrows}
use Rattle.cal_rel.specs.Info.{Info}
use Rattle.cal_rel.specs.Meaning.{AreTrueOf}
use Rattle.cal_rel.specs.Operators.{Row, projected, aggregate_of, called, by_key}
use Rattle.cal_rel.specs.Tree.{Tree, project_to, aggregate_by, unary}
use Rattle.cal_rel.specs.Typing.{types_by, of_columns, argument_type, call_type, group_bound, group_columns, unary_type, type_of}
use Rattle.cal_rel.proofs.Narrower.{type-narrow}
use Rattle.cal_rel.proofs.Reorders.{map-map}
use Rattle.cal_rel.proofs.RowLemmas.{of_both-some, column-typed}
use Rattle.cal_rel.proofs.TrueTypes.{option_map-some, and_then-some, type-true}
use Rattle.expr_parts.proofs.ExprSteps.{meaning-Column, meaning-Literal}
use Rattle.rel_meta.specs.Keys.{each_of, holds_key, unique_keys}
use Rattle.rel_meta.proofs.Once.{held-key}
use Rattle.rel_meta.proofs.UniqueKeys.{tree-keys, keys-steady}
use Rattle.rule_hep.specs.Local.{IsLocal}
use Rattle.agg_images.specs.AggregateRemove.{is_known, where_known, one, single_value, single_call, single_rows, over_input, removed_aggregate}
use Rattle.agg_images.specs.SingleRows.{by_key-alone, apart-on, least-of_one, greatest-of_one, sum-of_one, sum0-of_one, count-of_one}

-- ---- one call over one row

not-true : (b : Bool) → not b ≡ true → b ≡ true → ⊥
not-true true h e = cc
not-true false h e = cc

not-null : (v : Value) (t : SqlType) → IsOfType v t → not t.nullable ≡ true → v ≢ Null
not-null v t h known e = not-true t.nullable known (subst (λ w. IsOfType w t) e h)

known-type : (o : Option SqlType) → option_map_or (λ t. not t.nullable) o false ≡ true → (t : SqlType) × (o ≡ Some t) × (not t.nullable ≡ true)
known-type None e = absurd (cc)
known-type (Some t) e = (t, refl, e)

known-value : (row : Row) (columns : List SqlType) (at : ℕ) → HasTypes row columns → is_known columns at ≡ true → column_of row at ≢ Null
known-value row columns at h e =
    let k = known-type (slice_get columns at) e in
    not-null (column_of row at) k.0 (column-typed row columns at k.0 h k.1) k.2

-- the argument of a sum is a number
integer-of_sum : (t u : SqlType) (n : ℕ) → agg_type Sum (Some t) n ≡ Some u → is_integer t ≡ true
integer-of_sum t u n e = by (is_integer t) refl e
  where
    by : (b : Bool) → is_integer t ≡ b → cond b (number_type true (sums n t.interval)) None ≡ Some u → is_integer t ≡ true
    by true f e = f
    by false f e = absurd (cc)

integer-of_sum0 : (t u : SqlType) (n : ℕ) → agg_type Sum0 (Some t) n ≡ Some u → is_integer t ≡ true
integer-of_sum0 t u n e = by (is_integer t) refl e
  where
    by : (b : Bool) → is_integer t ≡ b → cond b (number_type false (with_zero (sums n t.interval))) None ≡ Some u → is_integer t ≡ true
    by true f e = f
    by false f e = absurd (cc)

module _ (row : Row) (columns : List SqlType) (n : ℕ) (typed : HasTypes row columns) where
  is-column : (at : ℕ) (item : Expr) (v : Value) → Some (Column at) ≡ Some item → v ≡ column_of row at → meaning_of item row ≡ v
  is-column at item v e is = ap (λ i. meaning_of i row) (sym (same_Some (Column at) item e)) ∙ meaning-Column at row ∙ sym is

  is-one : (item : Expr) (v : Value) → Some one ≡ Some item → v ≡ Int (pos 1) → meaning_of item row ≡ v
  is-one item v e is = ap (λ i. meaning_of i row) (sym (same_Some one item e)) ∙ meaning-Literal (Int (pos 1)) row ∙ sym is

  value-single : (agg : Agg) (argument : Option ℕ) (item : Expr) (u : SqlType) → argument_type agg columns n argument ≡ Some u → single_value columns agg argument ≡ Some item
      → meaning_of item row ≡ aggregate_of agg argument (row ∷ [])
  value-single Count None item u f e = is-one item (Int (pos 1)) e refl
  value-single Sum None item u f e = absurd (cc)
  value-single Sum0 None item u f e = absurd (cc)
  value-single Min None item u f e = absurd (cc)
  value-single Max None item u f e = absurd (cc)
  value-single Count (Some at) item u f e =
      let c = cond_some (is_known columns at) one item e in
      is-one item (aggregate_of Count (Some at) (row ∷ [])) (ap Some c.1) (count-of_one (column_of row at) (known-value row columns at typed c.0))
  value-single Sum (Some at) item u f e =
      let m = and_then-some (λ t. agg_type Sum (Some t) n) (slice_get columns at) u f in
      is-column at item (aggregate_of Sum (Some at) (row ∷ [])) e
      (sum-of_one (column_of row at) m.from (column-typed row columns at m.from typed m.found) (integer-of_sum m.from u n m.is))
  value-single Sum0 (Some at) item u f e =
      let m = and_then-some (λ t. agg_type Sum0 (Some t) n) (slice_get columns at) u f in
      let c = cond_some (is_known columns at) (Column at) item e in
      is-column at item (aggregate_of Sum0 (Some at) (row ∷ [])) (ap Some c.1)
      (sum0-of_one (column_of row at) m.from (column-typed row columns at m.from typed m.found) (integer-of_sum0 m.from u n m.is) (known-value row columns at typed c.0))
  value-single Min (Some at) item u f e = is-column at item (aggregate_of Min (Some at) (row ∷ [])) e (least-of_one (column_of row at))
  value-single Max (Some at) item u f e = is-column at item (aggregate_of Max (Some at) (row ∷ [])) e (greatest-of_one (column_of row at))

  values-single : (calls : List AggCall) (ts : List SqlType) (values : List Expr) → types_by (call_type columns n) calls ≡ Some ts → each_of (single_call columns) calls ≡ Some values
      → projected values row ≡ called calls (row ∷ [])
  values-single [] ts values f e = ap (λ vs. projected vs row) (sym (same_Some [] values e))
  values-single (call ∷ calls) ts values f e =
      let t = of_both-some (λ t ts. Some (t ∷ ts)) (call_type columns n call) (types_by (call_type columns n) calls) ts f in
      let b = of_both-some (λ y ys. Some (y ∷ ys)) (single_call columns call) (each_of (single_call columns) calls) values e in
      ap (λ vs. projected vs row) (sym (same_Some (b.first ∷ b.second) values b.is))
      ∙ ap₂ (λ (v : Value) vs. v ∷ vs) (value-single call.agg call.argument b.first t.first t.first_is b.first_is) (values-single calls t.second b.second t.second_is b.second_is)

  row-single : (groups : List ℕ) (calls : List AggCall) (ts : List SqlType) (values : List Expr) → types_by (call_type columns n) calls ≡ Some ts → each_of (single_call columns) calls ≡ Some values
      → projected (map Column groups ++ values) row ≡ columns_of row groups ++ called calls (row ∷ [])
  row-single groups calls ts values f e =
      map-append (λ item. meaning_of item row) (map Column groups) values
      ∙ ap₂ (λ (a b : Row). a ++ b) (groups-single groups) (values-single calls ts values f e)
    where
      groups-single : (groups : List ℕ) → projected (map Column groups) row ≡ columns_of row groups
      groups-single [] = refl
      groups-single (group ∷ groups) = ap₂ (λ (v : Value) vs. v ∷ vs) (meaning-Column group row) (groups-single groups)

-- ---- all rows

map-same : {A B : Type 0} (P : A → Type 0) (f g : A → B) → ((x : A) → P x → f x ≡ g x) → (xs : List A) → All P xs → map f xs ≡ map g xs
map-same P f g h [] all = refl
map-same P f g h (x ∷ xs) all = ap₂ (λ y ys. y ∷ ys) (h x (All-head P x xs all)) (map-same P f g h xs (All-tail P x xs all))

-- an aggregate with groups that hold a key, and its calls over single rows
record IsRemoval (info : Info) (rel out : Tree) : Type 0 where
  group : ℕ
  groups : List ℕ
  calls : List AggCall
  input : Tree
  own : RelType
  values : List Expr
  from : rel ≡ unary (aggregate_by (group ∷ groups) calls) input
  is : unary (project_to (map Column (group ∷ groups) ++ values)) input ≡ out
  holds : holds_key (group ∷ groups) (unique_keys info input) ≡ true
  typed : type_of info input ≡ Some own
  single : each_of (single_call own.columns) calls ≡ Some values

removal-is : (info : Info) (rel out : Tree) → removed_aggregate info rel ≡ Some out → IsRemoval info rel out
removal-is info (unary (aggregate_by (group ∷ groups) calls) t) out e = by (holds_key (group ∷ groups) (unique_keys info t)) refl e
  where
    by : (b : Bool) → holds_key (group ∷ groups) (unique_keys info t) ≡ b → cond b (over_input info (group ∷ groups) calls t) None ≡ Some out → IsRemoval info (unary (aggregate_by (group ∷ groups) calls) t) out
    by true h e =
        let m = and_then-some (λ (s : RelType). single_rows s.columns (group ∷ groups) calls t) (type_of info t) out e in
        let v = option_map-some (λ values. unary (project_to (map Column (group ∷ groups) ++ values)) t) (each_of (single_call m.from.columns) calls) out m.is in
        record {
          group = group;
          groups = groups;
          calls = calls;
          input = t;
          own = m.from;
          values = v.from;
          from = refl;
          is = v.is;
          holds = h;
          typed = m.found;
          single = v.found;
        }
    by false h e = absurd (cc)
removal-is info _ out e = absurd (cc)

-- the types of its calls
record AreCallsTyped (info : Info) (calls : List AggCall) (own : RelType) : Type 0 where
  types : List SqlType
  are : types_by (call_type own.columns own.bound) calls ≡ Some types

calls-typed : (info : Info) (groups : List ℕ) (calls : List AggCall) (t : Tree) (own s : RelType) → type_of info t ≡ Some own → type_of info (unary (aggregate_by groups calls) t) ≡ Some s
    → AreCallsTyped info calls own
calls-typed info groups calls t own s typed e =
    let u = and_then-some (unary_type (aggregate_by groups calls)) (type_of info t) s e in
    let same : u.from ≡ own = same_Some u.from own (sym u.found ∙ typed) in
    let m = option_map-some (of_columns (group_bound groups u.from.bound)) (group_columns groups calls u.from) s u.is in
    let b = of_both-some (λ keys values. Some (keys ++ values)) (types_by (slice_get u.from.columns) groups) (types_by (call_type u.from.columns u.from.bound) calls) m.from m.found in
    subst (AreCallsTyped info calls) same (record { types = b.second; are = b.second_is })

removal-means : (info : Info) (rel out : Tree) (s : RelType) (db : Db) (holes : ℕ → List Row) → Fits db info.schema → AreTrueOf info.sets holes → type_of info rel ≡ Some s
    → removed_aggregate info rel ≡ Some out → bag info db holes out ≡ bag info db holes rel
removal-means info rel out s db holes fits true_of e made =
    let m = removal-is info rel out made in
    let groups = m.group ∷ m.groups in
    let rows = bag info db holes m.input in
    let types = calls-typed info groups m.calls m.input m.own s m.typed (ap (type_of info) (sym m.from) ∙ e) in
    let keyed = held-key groups (unique_keys info m.input) rows (tree-keys info db holes fits true_of m.input m.own m.typed) m.holds in
    ap (bag info db holes) (sym m.is)
    ∙ map-same (λ row. HasTypes row m.own.columns) (projected (map Column groups ++ m.values)) (λ row. columns_of row groups ++ called m.calls (row ∷ []))
    (λ row typed. row-single row m.own.columns m.own.bound typed groups m.calls types.types m.values types.are m.single)
    rows (type-true info db holes m.input m.own fits true_of m.typed).typed
    ∙ sym (by_key-alone groups (called m.calls) rows (apart-on groups rows keyed))
    ∙ ap (bag info db holes) (sym m.from)

-- ---- other sets

known-narrow : (ss ts : List SqlType) → AreAtMostAsWide ss ts → (at : ℕ) → is_known ts at ≡ true → is_known ss at ≡ true
known-narrow [] [] h at e = e
known-narrow [] (t ∷ ts) h at e = absurd h
known-narrow (s ∷ ss) [] h at e = absurd h
known-narrow (s ∷ ss) (t ∷ ts) h zero e = by s.nullable t.nullable h.0.nullable e
  where
    by : (a b : Bool) → (a ≡ true → b ≡ true) → not b ≡ true → not a ≡ true
    by true b k e = absurd (let f = k refl in cc)
    by false b k e = refl
known-narrow (s ∷ ss) (t ∷ ts) h (suc at) e = known-narrow ss ts h.1 at e

module _ (ss ts : List SqlType) (wide : AreAtMostAsWide ss ts) where
  where-narrow : (at : ℕ) (made item : Expr) → where_known ts at made ≡ Some item → where_known ss at made ≡ Some item
  where-narrow at made item e =
      let c = cond_some (is_known ts at) made item e in
      ap (λ b. cond b (Some made) None) (known-narrow ss ts wide at c.0) ∙ ap Some c.1

  value-narrow : (agg : Agg) (argument : Option ℕ) (item : Expr) → single_value ts agg argument ≡ Some item → single_value ss agg argument ≡ Some item
  value-narrow Count None item e = e
  value-narrow Sum None item e = e
  value-narrow Sum0 None item e = e
  value-narrow Min None item e = e
  value-narrow Max None item e = e
  value-narrow Count (Some at) item e = where-narrow at one item e
  value-narrow Sum (Some at) item e = e
  value-narrow Sum0 (Some at) item e = where-narrow at (Column at) item e
  value-narrow Min (Some at) item e = e
  value-narrow Max (Some at) item e = e

  values-narrow : (calls : List AggCall) (values : List Expr) → each_of (single_call ts) calls ≡ Some values → each_of (single_call ss) calls ≡ Some values
  values-narrow [] values e = e
  values-narrow (call ∷ calls) values e =
      let b = of_both-some (λ y ys. Some (y ∷ ys)) (single_call ts call) (each_of (single_call ts) calls) values e in
      rw (value-narrow call.agg call.argument b.first b.first_is, values-narrow calls b.second b.second_is) b.is

removal-steady : (m : ℕ → ℕ) (from to : Info) (rel out : Tree) → IsValidSchema from.schema → Narrows m from to
    → removed_aggregate from rel ≡ Some out → removed_aggregate to (renumbered m rel) ≡ Some (renumbered m out)
removal-steady m from to rel out valid narrows e =
    let k = removal-is from rel out e in
    let groups = k.group ∷ k.groups in
    let narrow = type-narrow m from to k.input k.own valid narrows k.typed in
    let holds = ap (holds_key groups) (keys-steady m from to valid narrows k.input k.own k.typed) ∙ k.holds in
    let single = values-narrow narrow.found.columns k.own.columns narrow.within.columns k.calls k.values k.single in
    ap (λ t. removed_aggregate to (renumbered m t)) k.from
    ∙ ap (λ b. cond b (over_input to groups k.calls (renumbered m k.input)) None) holds
    ∙ ap (option_and_then (λ (s : RelType). single_rows s.columns groups k.calls (renumbered m k.input))) narrow.is
    ∙ ap (option_map (λ values. unary (project_to (map Column groups ++ values)) (renumbered m k.input))) single
    ∙ ap (λ t. Some (renumbered m t)) k.is

removal-sets : (info : Info) (P : ℕ → Type 0) (rel out : Tree) → removed_aggregate info rel ≡ Some out → EachHole P rel → EachHole P out
removal-sets info P rel out e h = let m = removal-is info rel out e in subst (EachHole P) m.is (subst (EachHole P) m.from h)

pub local_removed_aggregate : IsLocal removed_aggregate
local_removed_aggregate = record {
  sets = λ info rel out p e h. removal-sets info (λ k. p k ≡ true) rel out e h;
  means = λ info rel out s t typed made e db holes fits true_of row. ap (count_by (row_eq row)) (removal-means info rel out s db holes fits true_of typed e);
  steady = λ m from to rel out t valid narrows typed e. removal-steady m from to rel out valid narrows e;
}
