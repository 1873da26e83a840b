-- The type of a well-formed tree is true of the rows that it means.
use Rattle.std.proofs.Common.{◌≡◌, ℕ, zero, suc, pos, ◌+◌, ◌*◌, ◌<◌, ◌≤◌, max, Bool, true, false, List, [], ◌∷◌, ◌++◌, map, filter, length, replicate, All, Option, Some, None, slice_get, refl, sym, ◌∙◌, ap, subst, arith}
use Rattle.std.specs.Prelude.{◌≢◌, option_map, unwrap_or}
use Rattle.std.specs.List.{flat_map, list_all}
use Rattle.std.specs.Option.{option_and_then}
use Rattle.std.proofs.lemmas.List.{length-append, length-map}
use Rattle.std.proofs.lemmas.List.Elements.{All-nil, All-cons, All-head, All-weaker, All-map, All-filter}
use Rattle.std.proofs.lemmas.Option.{same_Some, cond_some}
use Rattle.cal_value.specs.declared.kind.SqlType.{SqlType}
use Rattle.cal_value.specs.declared.operator.Agg.{Agg}
use Rattle.cal_value.specs.declared.operator.Agg.TheVariants.{Count, Sum, Sum0, Min, Max}
use Rattle.cal_value.specs.declared.value.Value.TheVariants.{Null, Int}
use Rattle.cal_aggregate.specs.ResultType.{counts, agg_type}
use Rattle.cal_value.specs.Interval.{limit}
use Rattle.cal_value.specs.Order.{column_of, columns_of}
use Rattle.cal_aggregate.specs.Parts.{Part, members, parts}
use Rattle.cal_value.specs.Types.{IsOfType, HasTypes, integer_type}
use Rattle.cal_aggregate.proofs.AggregateTyped.{aggregated-typed}
use Rattle.cal_aggregate.proofs.SumLemmas.{counts-holds}
use Rattle.cal_value.proofs.TypeLemmas.{number_type-is, along}
use Rattle.cal_expr.specs.declared.expr.Expr.{Expr}
use Rattle.cal_expr.specs.Meaning.{meaning_of}
use Rattle.cal_expr.specs.Typing as expressions
use Rattle.cal_expr.proofs.Typed.{meaning-typed}
use Rattle.cal_schema.specs.declared.agg_call.AggCall.{AggCall}
use Rattle.cal_schema.specs.declared.database.Db.{Db}
use Rattle.cal_schema.specs.declared.join_kind.JoinKind.{JoinKind}
use Rattle.cal_schema.specs.declared.join_kind.JoinKind.TheVariants.{Inner, Left}
use Rattle.cal_schema.specs.declared.rel_type.RelType.{RelType}
use Rattle.cal_schema.specs.declared.table.TableDef.{TableDef}
use Rattle.cal_schema.specs.declared.tile.TileInfo.{TileInfo}
use Rattle.cal_schema.specs.declared.tile.TileKey.{TileKey}
use Rattle.cal_schema.specs.Fits.{key_of, IsFilledBy, AreFilledBy, Fits}
use Rattle.cal_schema.specs.RelType.{IsTrueOf}
use Rattle.cal_rel.specs.Bag.{bag, width, leaf_width, unary_width, table_width, tile_width, leaf_bag, unary_bag, binary_bag, rows_of_tile}
use Rattle.cal_rel.specs.Info.{Info, Star}
use Rattle.cal_rel.specs.Meaning.{AreTrueOf}
use Rattle.cal_rel.specs.Operators.{Row, holds, projected, partners, or_alone, joined, aggregate_of, called, same_key, by_key, grouped}
use Rattle.cal_rel.specs.Tiles.{table_rows, ascending, dims_of, calls_of, tile_rows}
use Rattle.cal_rel.specs.Tree.{Leaf, scan, tile_scan, star_scan, empty_of, Unary, filter_by, project_to, aggregate_by, Binary, join_on, Tree, leaf, unary, binary, hole}
use Rattle.cal_rel.specs.Typing.{types_by, is_condition, filter_type, of_columns, project_type, argument_type, call_type, group_bound, group_columns, aggregate_type, unary_type, pairs_of, is_among, has_key, table_has_key, is_keyed, Keyed, keyed, nullable, join_columns, inner_bound, left_bound, join_bound, join_type, binary_type, is_listed, table_type, star_type, tile_type_over, tile_type, leaf_type, type_of}
use Rattle.cal_rel.proofs.Counts.{pairs-few, padded-few, either-few}
use Rattle.cal_rel.proofs.Keys.{Apart-from_AllPairs, Apart-filter, Apart-weaker, few-by_left, few-by_right, HasKey, right-apart, left-apart}
use Rattle.cal_rel.proofs.RowLemmas.{of_both-some, types-append, types-nullable, types-nulls, types-length, column-typed, types-hold, types_by-length, All-flat_map, length-filter-le, length-flat_map-le, IsPart, parts-all, length-parts, sorted-all, length-sorted}

-- ---- inversions

pub record Mapped {A B : Type 0} (f : A → B) (o : Option A) (y : B) : Type 0 where
  pub from : A
  pub found : o ≡ Some from
  pub is : f from ≡ y

pub option_map-some : {A B : Type 0} (f : A → B) (o : Option A) (y : B) → option_map f o ≡ Some y → Mapped f o y
option_map-some f None y e = absurd (cc)
option_map-some f (Some x) y e = record { from = x; found = refl; is = same_Some (f x) y e }

pub and_then-some : {A B : Type 0} (f : A → Option B) (o : Option A) (y : B) → option_and_then f o ≡ Some y → Mapped f o (Some y)
and_then-some f None y e = absurd (cc)
and_then-some f (Some x) y e = record { from = x; found = refl; is = e }

-- ---- tables

pub filled-at : (tables : List TableDef) (lists : List (List Row)) (n : ℕ) (table : TableDef) → AreFilledBy tables lists → slice_get tables n ≡ Some table → IsFilledBy table (unwrap_or (slice_get lists n) [])
filled-at [] lists n table h e = absurd (cc)
filled-at (t ∷ tables) [] n table h e = absurd h
filled-at (t ∷ tables) (rows ∷ lists) zero table h e = subst (λ x. IsFilledBy x rows) (same_Some t table e) h.0
filled-at (t ∷ tables) (rows ∷ lists) (suc n) table h e = filled-at tables lists n table h.1 e

table-true : (table : TableDef) (rows : List Row) → IsFilledBy table rows → IsTrueOf (table_type table) rows
table-true table rows h = record { typed = h.typed; few = λ l. h.few }

along-type : (s t : RelType) (rows : List Row) → s ≡ t → IsTrueOf s rows → IsTrueOf t rows
along-type s t rows e h = subst (λ u. IsTrueOf u rows) e h

-- ---- aggregates

call-typed : (agg : Agg) (columns : List SqlType) (rows : List Row) (n : ℕ) (argument : Option ℕ) (t : SqlType) → All (λ row. HasTypes row columns) rows → (n < limit → length rows ≤ n)
    → argument_type agg columns n argument ≡ Some t → IsOfType (aggregate_of agg argument rows) t
call-typed Count columns rows n None t all few e =
    let p = number_type-is false (counts n) t e in
    along (Int (pos (length rows))) (integer_type false (counts n)) t p.1 (refl, counts-holds n (length rows) (length rows) (pos (length rows)) few (omega arith) refl p.0)
call-typed Sum columns rows n None t all few e = absurd (cc)
call-typed Sum0 columns rows n None t all few e = absurd (cc)
call-typed Min columns rows n None t all few e = absurd (cc)
call-typed Max columns rows n None t all few e = absurd (cc)
call-typed agg columns rows n (Some column) t all few e =
    let m = and_then-some (λ s. agg_type agg (Some s) n) (slice_get columns column) t e in
    let values = map (λ row. column_of row column) rows in
    let typed = All-map (λ v. IsOfType v m.from) (λ (row : Row). column_of row column) rows (All-weaker (λ row. HasTypes row columns) (λ row. IsOfType (column_of row column) m.from) (λ row h. column-typed row columns column m.from h m.found) rows all) in
    aggregated-typed (Some m.from) n values typed (λ l. let few' = few l in omega (arith, length-map rows (λ (row : Row). column_of row column))) agg t m.is

-- the row of a group
group-typed : (groups : List ℕ) (calls : List AggCall) (t : RelType) (columns : List SqlType) (first : Row) (rows : List Row) → HasTypes first t.columns → IsTrueOf t rows
    → group_columns groups calls t ≡ Some columns → HasTypes (columns_of first groups ++ called calls rows) columns
group-typed groups calls t columns first rows h true_of e =
    let b = of_both-some (λ keys values. Some (keys ++ values)) (types_by (slice_get t.columns) groups) (types_by (call_type t.columns t.bound) calls) columns e in
    let keys = types-hold (slice_get t.columns) (column_of first) (λ k s f. column-typed first t.columns k s h f) groups b.first b.first_is in
    let values = types-hold (call_type t.columns t.bound) (λ call. aggregate_of call.agg call.argument rows)
    (λ call s f. call-typed call.agg t.columns rows t.bound call.argument s true_of.typed true_of.few f) calls b.second b.second_is in
    subst (HasTypes (columns_of first groups ++ called calls rows)) (same_Some (b.first ++ b.second) columns b.is) (types-append (columns_of first groups) (called calls rows) b.first b.second keys values)

part-true : (t : RelType) (rows : List Row) (part : Part Row) → (t.bound < limit → length rows ≤ t.bound) → IsPart (λ row. HasTypes row t.columns) (length rows) part → IsTrueOf t (members part)
part-true t rows part few h = record { typed = h.all; few = λ l. let a = few l in let b = h.few in omega arith }

by_key-typed : (groups : List ℕ) (calls : List AggCall) (t : RelType) (columns : List SqlType) (rows : List Row) → IsTrueOf t rows
    → group_columns groups calls t ≡ Some columns → All (λ row. HasTypes row columns) (by_key groups (called calls) rows)
by_key-typed groups calls t columns rows h e =
    All-map (λ row. HasTypes row columns) (λ (part : Part Row). columns_of part.first groups ++ called calls (members part)) (parts (same_key groups) rows)
    (All-weaker (IsPart (λ row. HasTypes row t.columns) (length rows)) (λ part. HasTypes (columns_of part.first groups ++ called calls (members part)) columns)
    (λ part p. group-typed groups calls t columns part.first (members part) (All-head (λ row. HasTypes row t.columns) part.first part.later p.all) (part-true t rows part h.few p) e)
    (parts (same_key groups) rows) (parts-all (λ row. HasTypes row t.columns) (same_key groups) rows h.typed))

by_key-few : (groups : List ℕ) (calls : List Row → Row) (rows : List Row) → length (by_key groups calls rows) ≤ length rows
by_key-few groups calls rows = omega (arith, length-map (parts (same_key groups) rows) (λ (part : Part Row). columns_of part.first groups ++ calls (members part)), length-parts (same_key groups) rows)

grouped-true : (groups : List ℕ) (calls : List AggCall) (t : RelType) (columns : List SqlType) (rows : List Row) → IsTrueOf t rows
    → group_columns groups calls t ≡ Some columns → IsTrueOf (of_columns (group_bound groups t.bound) columns) (grouped groups (called calls) rows)
grouped-true [] calls t columns rows h e =
    let b = of_both-some (λ keys values. Some (keys ++ values)) (types_by (slice_get t.columns) []) (types_by (call_type t.columns t.bound) calls) columns e in
    let values = types-hold (call_type t.columns t.bound) (λ call. aggregate_of call.agg call.argument rows)
    (λ call s f. call-typed call.agg t.columns rows t.bound call.argument s h.typed h.few f) calls b.second b.second_is in
    let none : ([] ++ b.second) ≡ (b.first ++ b.second) = ap (λ ks. ks ++ b.second) (same_Some [] b.first b.first_is) in
    record {
      typed = All-cons (λ row. HasTypes row columns) (called calls rows) [] (subst (HasTypes (called calls rows)) (none ∙ same_Some (b.first ++ b.second) columns b.is) values) (All-nil (λ row. HasTypes row columns));
      few = λ l. omega arith;
    }
grouped-true (g ∷ gs) calls t columns rows h e = record {
  typed = by_key-typed (g ∷ gs) calls t columns rows h e;
  few = λ l. let few = h.few l in omega (arith, by_key-few (g ∷ gs) (called calls) rows);
}

-- ---- one input

filter-true : (predicate : Expr) (t u : RelType) (rows : List Row) → IsTrueOf t rows → filter_type predicate t ≡ Some u → IsTrueOf u (filter (holds predicate) rows)
filter-true predicate t u rows h e =
    along-type t u (filter (holds predicate) rows) (cond_some (is_condition predicate t.columns) t u e).1 (record {
      typed = All-filter (holds predicate) (λ row. HasTypes row t.columns) rows h.typed;
      few = λ l. let few = h.few l in omega (arith, length-filter-le (holds predicate) rows);
    })

project-true : (items : List Expr) (t u : RelType) (rows : List Row) → IsTrueOf t rows → project_type items t ≡ Some u → IsTrueOf u (map (projected items) rows)
project-true items t u rows h e =
    let m = option_map-some (of_columns t.bound) (types_by (λ item. expressions.type_of item t.columns) items) u e in
    along-type (of_columns t.bound m.from) u (map (projected items) rows) m.is (record {
      typed = All-map (λ row. HasTypes row m.from) (projected items) rows
          (All-weaker (λ row. HasTypes row t.columns) (λ row. HasTypes (projected items row) m.from)
          (λ row k. types-hold (λ item. expressions.type_of item t.columns) (λ item. meaning_of item row) (λ item s f. meaning-typed row t.columns k item s f) items m.from m.found) rows h.typed);
      few = λ l. let few = h.few l in omega (arith, length-map rows (projected items));
    })

aggregate-true : (groups : List ℕ) (calls : List AggCall) (t u : RelType) (rows : List Row) → IsTrueOf t rows → aggregate_type groups calls t ≡ Some u → IsTrueOf u (grouped groups (called calls) rows)
aggregate-true groups calls t u rows h e =
    let m = option_map-some (of_columns (group_bound groups t.bound)) (group_columns groups calls t) u e in
    along-type (of_columns (group_bound groups t.bound) m.from) u (grouped groups (called calls) rows) m.is (grouped-true groups calls t m.from rows h m.found)

unary-true : (n : Unary) (t u : RelType) (rows : List Row) → IsTrueOf t rows → unary_type n t ≡ Some u → IsTrueOf u (unary_bag n rows)
unary-true (filter_by predicate) t u rows h e = filter-true predicate t u rows h e
unary-true (project_to items) t u rows h e = project-true items t u rows h e
unary-true (aggregate_by groups calls) t u rows h e = aggregate-true groups calls t u rows h e

-- ---- joins

module _ (on : Expr) (s t : RelType) (left right : List Row) (first : IsTrueOf s left) (second : IsTrueOf t right) where
  abbrev IsLeftRow : Row → Type 0
  IsLeftRow row = HasTypes row s.columns

  partners-typed : (x : Row) → IsLeftRow x → All (λ row. HasTypes row (s.columns ++ t.columns)) (partners on right x)
  partners-typed x h =
      All-filter (holds on) (λ row. HasTypes row (s.columns ++ t.columns)) (map (λ y. x ++ y) right)
      (All-map (λ row. HasTypes row (s.columns ++ t.columns)) (λ (y : Row). x ++ y) right
      (All-weaker (λ row. HasTypes row t.columns) (λ y. HasTypes (x ++ y) (s.columns ++ t.columns)) (λ y k. types-append x y s.columns t.columns h k) right second.typed))

  padded-typed : (x : Row) → IsLeftRow x → All (λ row. HasTypes row (s.columns ++ map nullable t.columns)) (partners on right x)
  padded-typed x h =
      All-filter (holds on) (λ row. HasTypes row (s.columns ++ map nullable t.columns)) (map (λ y. x ++ y) right)
      (All-map (λ row. HasTypes row (s.columns ++ map nullable t.columns)) (λ (y : Row). x ++ y) right
      (All-weaker (λ row. HasTypes row t.columns) (λ y. HasTypes (x ++ y) (s.columns ++ map nullable t.columns)) (λ y k. types-append x y s.columns (map nullable t.columns) h (types-nullable y t.columns k)) right second.typed))

  or_alone-typed : (P : Row → Type 0) (row : Row) (rows : List Row) → P row → All P rows → All P (or_alone row rows)
  or_alone-typed P row [] h all = All-cons P row [] h all
  or_alone-typed P row (other ∷ rows) h all = all

  joined-typed : (kind : JoinKind) (x : Row) → IsLeftRow x → All (λ row. HasTypes row (join_columns kind s.columns t.columns)) (joined kind on (length t.columns) right x)
  joined-typed Inner x h = partners-typed x h
  joined-typed Left x h =
      or_alone-typed (λ row. HasTypes row (s.columns ++ map nullable t.columns)) (x ++ replicate (length t.columns) Null) (partners on right x)
      (types-append x (replicate (length t.columns) Null) s.columns (map nullable t.columns) h (types-nulls t.columns)) (padded-typed x h)

  -- ---- how many rows

  abbrev is_left_width : Row → Type 0
  is_left_width row = length row ≡ length s.columns

  left-widths : All is_left_width left
  left-widths = All-weaker IsLeftRow is_left_width (λ row h. types-length row s.columns h) left first.typed

  partners-few : (x : Row) → length (partners on right x) ≤ length right
  partners-few x = omega (arith, length-filter-le (holds on) (map (λ (y : Row). x ++ y) right), length-map right (λ (y : Row). x ++ y))

  or_alone-few : (row : Row) (rows : List Row) (n : ℕ) → length rows ≤ n → length (or_alone row rows) ≤ max n 1
  or_alone-few row [] n h = omega arith
  or_alone-few row (other ∷ rows) n h = omega arith

  -- the right side has a key
  module _ (key : HasKey (map (λ p. p.right) (pairs_of (length s.columns) on)) right) where
    one-partner : All (λ x. length (partners on right x) ≤ 1) left
    one-partner = All-weaker is_left_width (λ x. length (partners on right x) ≤ 1) (λ x e. few-by_right on right x (right-apart on (length s.columns) right x e key)) left left-widths

    inner-by_right : length (flat_map (joined Inner on (length t.columns) right) left) ≤ length left
    inner-by_right = omega (arith, length-flat_map-le (partners on right) 1 left one-partner)

    left-by_right : length (flat_map (joined Left on (length t.columns) right) left) ≤ length left
    left-by_right =
        omega (
          arith,
          length-flat_map-le (joined Left on (length t.columns) right) 1 left
              (All-weaker (λ x. length (partners on right x) ≤ 1) (λ x. length (joined Left on (length t.columns) right x) ≤ 1)
              (λ x h. let k = or_alone-few (x ++ replicate (length t.columns) Null) (partners on right x) 1 h in omega arith) left one-partner),
        )

  -- the left side has one
  inner-by_left : HasKey (map (λ p. p.left) (pairs_of (length s.columns) on)) left → length (flat_map (joined Inner on (length t.columns) right) left) ≤ length right
  inner-by_left key = few-by_left on left right (λ k d l. left-apart on (length s.columns) left _ left-widths key)

  all-widths : (n : ℕ) (f : Row → List Row) → ((x : Row) → length (f x) ≤ n) → All (λ x. length (f x) ≤ n) left
  all-widths n f h = λ k d l. h _

  inner-few : length (flat_map (joined Inner on (length t.columns) right) left) ≤ length left * length right
  inner-few = length-flat_map-le (partners on right) (length right) left (all-widths (length right) (partners on right) partners-few)

  left-few : length (flat_map (joined Left on (length t.columns) right) left) ≤ length left * max (length right) 1
  left-few =
      length-flat_map-le (joined Left on (length t.columns) right) (max (length right) 1) left
      (all-widths (max (length right) 1) (joined Left on (length t.columns) right) (λ x. or_alone-few (x ++ replicate (length t.columns) Null) (partners on right x) (length right) (partners-few x)))

  inner-bounded : (by_left by_right : Bool)
      → (by_left ≡ true → HasKey (map (λ p. p.left) (pairs_of (length s.columns) on)) left) → (by_right ≡ true → HasKey (map (λ p. p.right) (pairs_of (length s.columns) on)) right)
      → inner_bound by_left by_right s.bound t.bound < limit → length (flat_map (joined Inner on (length t.columns) right) left) ≤ inner_bound by_left by_right s.bound t.bound
  inner-bounded true true h k =
      either-few limit s.bound t.bound (length (flat_map (joined Inner on (length t.columns) right) left))
      (λ l. let few = first.few l in omega (arith, inner-by_right (k refl))) (λ l. let few = second.few l in omega (arith, inner-by_left (h refl)))
  inner-bounded true false h k = λ l. let few = second.few l in omega (arith, inner-by_left (h refl))
  inner-bounded false true h k = λ l. let few = first.few l in omega (arith, inner-by_right (k refl))
  inner-bounded false false h k =
      pairs-few limit s.bound t.bound (length left) (length right) (length (flat_map (joined Inner on (length t.columns) right) left)) first.few second.few inner-few

  left-bounded : (by_right : Bool) → (by_right ≡ true → HasKey (map (λ p. p.right) (pairs_of (length s.columns) on)) right)
      → left_bound by_right s.bound t.bound < limit → length (flat_map (joined Left on (length t.columns) right) left) ≤ left_bound by_right s.bound t.bound
  left-bounded true k = λ l. let few = first.few l in omega (arith, left-by_right (k refl))
  left-bounded false k =
      padded-few limit s.bound t.bound (length left) (length right) (length (flat_map (joined Left on (length t.columns) right) left)) first.few second.few left-few

  join-bounded : (kind : JoinKind) (by : Keyed)
      → (by.left ≡ true → HasKey (map (λ p. p.left) (pairs_of (length s.columns) on)) left) → (by.right ≡ true → HasKey (map (λ p. p.right) (pairs_of (length s.columns) on)) right)
      → join_bound kind by s.bound t.bound < limit → length (flat_map (joined kind on (length t.columns) right) left) ≤ join_bound kind by s.bound t.bound
  join-bounded Inner by h k = inner-bounded by.left by.right h k
  join-bounded Left by h k = left-bounded by.right k

  join-true : (kind : JoinKind) (by : Keyed) (u : RelType)
      → (by.left ≡ true → HasKey (map (λ p. p.left) (pairs_of (length s.columns) on)) left) → (by.right ≡ true → HasKey (map (λ p. p.right) (pairs_of (length s.columns) on)) right)
      → join_type kind on by s t ≡ Some u → IsTrueOf u (flat_map (joined kind on (length t.columns) right) left)
  join-true kind by u h k e =
      let made : RelType = of_columns (join_bound kind by s.bound t.bound) (join_columns kind s.columns t.columns) in
      along-type made u (flat_map (joined kind on (length t.columns) right) left) (cond_some (is_condition on (s.columns ++ t.columns)) made u e).1 (record {
        typed = All-flat_map (λ row. HasTypes row (join_columns kind s.columns t.columns)) (joined kind on (length t.columns) right) IsLeftRow (joined-typed kind) left first.typed;
        few = join-bounded kind by h k;
      })

-- ---- keys of sides

has_key-some : (columns key : List ℕ) → has_key columns key ≡ true → (key ≢ []) × (list_all (is_among columns) key ≡ true)
has_key-some columns [] e = absurd (cc)
has_key-some columns (k ∷ key) e = ((λ f. absurd (cc)), e)

scan-key : (db : Db) (tables : List TableDef) (n : ℕ) (columns : List ℕ) (o : Option TableDef) → AreFilledBy tables db.tables → slice_get tables n ≡ o → table_has_key columns o ≡ true → HasKey columns (table_rows db n)
scan-key db tables n columns None fits f e = absurd (cc)
scan-key db tables n columns (Some table) fits f e =
    let p = has_key-some columns table.primary_key e in
    let filled = filled-at tables db.tables n table fits f in
    record {
      key = table.primary_key;
      among = p.1;
      apart = Apart-weaker (λ a b. key_of table a ≢ key_of table b) (λ a b. columns_of a table.primary_key ≡ columns_of b table.primary_key → ⊥) (λ a b h g. h g) (table_rows db n) (Apart-from_AllPairs (λ a b. key_of table a ≢ key_of table b) (table_rows db n) (filled.keys p.0));
    }

key-true : (info : Info) (db : Db) (holes : ℕ → List Row) → Fits db info.schema → (t : Tree) (columns : List ℕ) → is_keyed info t columns ≡ true → HasKey columns (bag info db holes t)
key-true info db holes fits (leaf (scan table)) columns e = scan-key db info.schema.tables table columns (slice_get info.schema.tables table) fits refl e
key-true info db holes fits (leaf (tile_scan at)) columns e = absurd (cc)
key-true info db holes fits (leaf (star_scan lattice)) columns e = absurd (cc)
key-true info db holes fits (leaf (empty_of types)) columns e = absurd (cc)
key-true info db holes fits (unary (filter_by predicate) t) columns e =
    let k = key-true info db holes fits t columns e in
    record { key = k.key; among = k.among; apart = Apart-filter (λ a b. columns_of a k.key ≡ columns_of b k.key → ⊥) (holds predicate) (bag info db holes t) k.apart }
key-true info db holes fits (unary (project_to items) t) columns e = absurd (cc)
key-true info db holes fits (unary (aggregate_by groups calls) t) columns e = absurd (cc)
key-true info db holes fits (binary b s t) columns e = absurd (cc)
key-true info db holes fits (hole set) columns e = absurd (cc)

-- ---- leaves

star-true : (info : Info) (db : Db) (star : Star) (t : RelType) → Fits db info.schema → star_type info star ≡ Some t → IsTrueOf t (table_rows db star.table)
star-true info db star t fits e =
    let m = option_map-some table_type (slice_get info.schema.tables star.table) t e in
    along-type (table_type m.from) t (table_rows db star.table) m.is (table-true m.from (table_rows db star.table) (filled-at info.schema.tables db.tables star.table m.from fits m.found))

tile-rows-true : (star : Star) (key : TileKey) (s t : RelType) (rows : List Row) → IsTrueOf s rows → tile_type_over star key s ≡ Some t → IsTrueOf t (tile_rows star key rows)
tile-rows-true star key s t rows h e =
    let dims = dims_of star.dims key.dims in
    let calls = calls_of key.measures in
    let m = option_map-some (of_columns s.bound) (group_columns dims calls s) t e in
    along-type (of_columns s.bound m.from) t (tile_rows star key rows) m.is (record {
      typed = sorted-all (λ row. HasTypes row m.from) (ascending (length dims)) (by_key dims (called calls) rows) (by_key-typed dims calls s m.from rows h m.found);
      few = λ l. let few = h.few l in omega (arith, length-sorted (ascending (length dims)) (by_key dims (called calls) rows), by_key-few dims (called calls) rows);
    })

tile-true : (info : Info) (db : Db) (key : TileKey) (t : RelType) → Fits db info.schema → tile_type info key ≡ Some t → IsTrueOf t (rows_of_tile info db key)
tile-true info db key t fits e =
    let m = and_then-some (λ star. option_and_then (tile_type_over star key) (star_type info star)) (slice_get info.stars key.lattice) t e in
    let n = and_then-some (tile_type_over m.from key) (star_type info m.from) t m.is in
    let rows = table_rows db m.from.table in
    subst (λ o. IsTrueOf t (unwrap_or (option_map (λ (star : Star). tile_rows star key (table_rows db star.table)) o) [])) (sym m.found)
    (tile-rows-true m.from key n.from t rows (star-true info db m.from n.from fits n.found) n.is)

leaf-true : (info : Info) (db : Db) (l : Leaf) (t : RelType) → Fits db info.schema → leaf_type info l ≡ Some t → IsTrueOf t (leaf_bag info db l)
leaf-true info db (scan table) t fits e =
    let m = option_map-some table_type (slice_get info.schema.tables table) t e in
    along-type (table_type m.from) t (table_rows db table) m.is (table-true m.from (table_rows db table) (filled-at info.schema.tables db.tables table m.from fits m.found))
leaf-true info db (tile_scan at) t fits e =
    let m = and_then-some (λ (tile : TileInfo). tile_type info tile.key) (slice_get info.tiles at) t e in
    subst (λ o. IsTrueOf t (unwrap_or (option_map (λ (tile : TileInfo). rows_of_tile info db tile.key) o) [])) (sym m.found) (tile-true info db m.from.key t fits m.is)
leaf-true info db (star_scan lattice) t fits e =
    let m = and_then-some (star_type info) (slice_get info.stars lattice) t e in
    subst (λ o. IsTrueOf t (unwrap_or (option_map (λ (star : Star). table_rows db star.table) o) [])) (sym m.found) (star-true info db m.from t fits m.is)
leaf-true info db (empty_of types) t fits e =
    along-type (of_columns 0 types) t [] (cond_some (list_all is_listed types) (of_columns 0 types) t e).1 (record { typed = All-nil (λ row. HasTypes row types); few = λ l. omega arith })

-- ---- how many columns

group_columns-length : (groups : List ℕ) (calls : List AggCall) (t : RelType) (columns : List SqlType) → group_columns groups calls t ≡ Some columns → length columns ≡ length groups + length calls
group_columns-length groups calls t columns e =
    let b = of_both-some (λ keys values. Some (keys ++ values)) (types_by (slice_get t.columns) groups) (types_by (call_type t.columns t.bound) calls) columns e in
    omega (arith, ap length (same_Some (b.first ++ b.second) columns b.is), length-append b.first b.second, types_by-length (slice_get t.columns) groups b.first b.first_is, types_by-length (call_type t.columns t.bound) calls b.second b.second_is)

join_columns-length : (kind : JoinKind) (left right : List SqlType) → length (join_columns kind left right) ≡ length left + length right
join_columns-length Inner left right = length-append left right
join_columns-length Left left right = length-append left (map nullable right) ∙ ap (λ n. length left + n) (length-map right nullable)

table-width : (info : Info) (n : ℕ) (t : RelType) → option_map table_type (slice_get info.schema.tables n) ≡ Some t → length t.columns ≡ table_width info.schema n
table-width info n t e =
    let m = option_map-some table_type (slice_get info.schema.tables n) t e in
    ap (λ (u : RelType). length u.columns) (sym m.is) ∙ length-map m.from.columns (λ c. c.kind) ∙ sym (ap (λ o. unwrap_or (option_map (λ (t : TableDef). length t.columns) o) 0) m.found)

tile-width : (info : Info) (key : TileKey) (t : RelType) → tile_type info key ≡ Some t → length t.columns ≡ tile_width info key
tile-width info key t e =
    let m = and_then-some (λ star. option_and_then (tile_type_over star key) (star_type info star)) (slice_get info.stars key.lattice) t e in
    let n = and_then-some (tile_type_over m.from key) (star_type info m.from) t m.is in
    let dims = dims_of m.from.dims key.dims in
    let calls = calls_of key.measures in
    let c = option_map-some (of_columns n.from.bound) (group_columns dims calls n.from) t n.is in
    ap (λ (u : RelType). length u.columns) (sym c.is) ∙ group_columns-length dims calls n.from c.from c.found
    ∙ sym (ap (λ o. unwrap_or (option_map (λ (star : Star). length (dims_of star.dims key.dims) + length (calls_of key.measures)) o) 0) m.found)

leaf-width : (info : Info) (l : Leaf) (t : RelType) → leaf_type info l ≡ Some t → length t.columns ≡ leaf_width info l
leaf-width info (scan table) t e = table-width info table t e
leaf-width info (tile_scan at) t e =
    let m = and_then-some (λ (tile : TileInfo). tile_type info tile.key) (slice_get info.tiles at) t e in
    tile-width info m.from.key t m.is ∙ sym (ap (λ o. unwrap_or (option_map (λ (tile : TileInfo). tile_width info tile.key) o) 0) m.found)
leaf-width info (star_scan lattice) t e =
    let m = and_then-some (star_type info) (slice_get info.stars lattice) t e in
    table-width info m.from.table t m.is ∙ sym (ap (λ o. unwrap_or (option_map (λ (star : Star). table_width info.schema star.table) o) 0) m.found)
leaf-width info (empty_of types) t e = ap (λ (u : RelType). length u.columns) (sym (cond_some (list_all is_listed types) (of_columns 0 types) t e).1)

unary-width : (n : Unary) (t u : RelType) → unary_type n t ≡ Some u → length u.columns ≡ unary_width n (length t.columns)
unary-width (filter_by predicate) t u e = ap (λ (u : RelType). length u.columns) (sym (cond_some (is_condition predicate t.columns) t u e).1)
unary-width (project_to items) t u e =
    let m = option_map-some (of_columns t.bound) (types_by (λ item. expressions.type_of item t.columns) items) u e in
    ap (λ (u : RelType). length u.columns) (sym m.is) ∙ types_by-length (λ item. expressions.type_of item t.columns) items m.from m.found
unary-width (aggregate_by groups calls) t u e =
    let m = option_map-some (of_columns (group_bound groups t.bound)) (group_columns groups calls t) u e in
    ap (λ (u : RelType). length u.columns) (sym m.is) ∙ group_columns-length groups calls t m.from m.found

binary-width : (info : Info) (n : Binary) (a b : Tree) (s t u : RelType) → binary_type info n a b s t ≡ Some u → length u.columns ≡ length s.columns + length t.columns
binary-width info (join_on kind on) a b s t u e =
    let by = keyed info (length s.columns) on a b in
    let made : RelType = of_columns (join_bound kind by s.bound t.bound) (join_columns kind s.columns t.columns) in
    ap (λ (u : RelType). length u.columns) (sym (cond_some (is_condition on (s.columns ++ t.columns)) made u e).1) ∙ join_columns-length kind s.columns t.columns

pub type-width : (info : Info) (tree : Tree) (t : RelType) → type_of info tree ≡ Some t → length t.columns ≡ width info tree
type-width info (leaf l) t e = leaf-width info l t e
type-width info (unary n x) t e =
    let m = and_then-some (unary_type n) (type_of info x) t e in
    unary-width n m.from t m.is ∙ ap (unary_width n) (type-width info x m.from m.found)
type-width info (binary n a b) t e =
    let m = of_both-some (binary_type info n a b) (type_of info a) (type_of info b) t e in
    let p = type-width info a m.first m.first_is in
    let q = type-width info b m.second m.second_is in
    let r = binary-width info n a b m.first m.second t m.is in
    omega arith
type-width info (hole set) t e = sym (ap (λ o. unwrap_or (option_map (λ (t : RelType). length t.columns) o) 0) e)

-- ---- the tree

module _ (info : Info) (db : Db) (holes : ℕ → List Row) (fits : Fits db info.schema) (true_of : AreTrueOf info.sets holes) where
  binary-true : (n : Binary) (a b : Tree) (s t u : RelType) → length t.columns ≡ width info b → IsTrueOf s (bag info db holes a) → IsTrueOf t (bag info db holes b)
      → binary_type info n a b s t ≡ Some u → IsTrueOf u (binary_bag n (width info b) (bag info db holes a) (bag info db holes b))
  binary-true (join_on kind on) a b s t u w h k e =
      let by = keyed info (length s.columns) on a b in
      subst (λ m. IsTrueOf u (flat_map (joined kind on m (bag info db holes b)) (bag info db holes a))) w
      (join-true on s t (bag info db holes a) (bag info db holes b) h k kind by u
      (λ f. key-true info db holes fits a (map (λ p. p.left) (pairs_of (length s.columns) on)) f)
      (λ f. key-true info db holes fits b (map (λ p. p.right) (pairs_of (length s.columns) on)) f) e)

  tree-true : (tree : Tree) (t : RelType) → type_of info tree ≡ Some t → IsTrueOf t (bag info db holes tree)
  tree-true (leaf l) t e = leaf-true info db l t fits e
  tree-true (unary n x) t e =
      let m = and_then-some (unary_type n) (type_of info x) t e in
      unary-true n m.from t (bag info db holes x) (tree-true x m.from m.found) m.is
  tree-true (binary n a b) t e =
      let m = of_both-some (binary_type info n a b) (type_of info a) (type_of info b) t e in
      binary-true n a b m.first m.second t (type-width info b m.second m.second_is) (tree-true a m.first m.first_is) (tree-true b m.second m.second_is) m.is
  tree-true (hole set) t e = true_of.each set t e

pub type-true : (info : Info) (db : Db) (holes : ℕ → List Row) (tree : Tree) (t : RelType) → Fits db info.schema → AreTrueOf info.sets holes → type_of info tree ≡ Some t → IsTrueOf t (bag info db holes tree)
type-true info db holes tree t fits true_of e = tree-true info db holes fits true_of tree t e
