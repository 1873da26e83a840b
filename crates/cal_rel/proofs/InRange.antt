-- Each number that a well-formed tree gives is one of SQL.
use Rattle.std.proofs.Common.{◌≡◌, ℕ, zero, suc, Bool, true, false, cond, not, ◌&&◌, ◌||◌, List, [], ◌∷◌, ◌++◌, map, length, codes, All, Option, Some, None, slice_get, refl, ap, subst, arith, ℤ, ◌≤ℤ◌}
use Rattle.std.specs.Prelude.{option_map}
use Rattle.std.specs.List.{list_all}
use Rattle.std.specs.Option.{option_and_then}
use Rattle.std.proofs.lemmas.Int.{ints}
use Rattle.std.proofs.lemmas.List.Elements.{All-nil, All-cons, All-head, All-tail, All-append, All-weaker, All-map}
use Rattle.std.proofs.lemmas.Option.{same_Some, cond_some}
use Rattle.cal_value.specs.declared.interval.Interval.{Interval}
use Rattle.cal_value.specs.declared.interval.Interval.TheVariants.{Never, Range}
use Rattle.cal_value.specs.declared.kind.Kind.TheVariants.{Integer}
use Rattle.cal_value.specs.declared.kind.SqlType.{SqlType}
use Rattle.cal_value.specs.declared.operator.Agg.{Agg}
use Rattle.cal_value.specs.declared.operator.Agg.TheVariants.{Count, Sum, Sum0, Min, Max}
use Rattle.cal_value.specs.declared.value.Value.{Value}
use Rattle.cal_value.specs.declared.value.Value.TheVariants.{Null, Bool as BoolValue, Int, Text}
use Rattle.cal_value.specs.Interval.{Holds, is_in_range, is_number}
use Rattle.cal_value.specs.Types.{IsOfType, HasTypes, number_type, text_type, boolean_type, is_integer, same_kind}
use Rattle.cal_value.proofs.TypeLemmas.{and-both, number_type-is, split_if}
use Rattle.cal_aggregate.specs.ResultType.{agg_type, counts, sums, with_zero}
use Rattle.cal_expr.specs.Typing as expressions
use Rattle.cal_expr.proofs.Ranges.{in_range}
use Rattle.cal_schema.specs.declared.agg_call.AggCall.{AggCall}
use Rattle.cal_schema.specs.declared.column.ColumnDef.{ColumnDef}
use Rattle.cal_schema.specs.declared.database.Db.{Db}
use Rattle.cal_schema.specs.declared.join_kind.JoinKind.{JoinKind}
use Rattle.cal_schema.specs.declared.join_kind.JoinKind.TheVariants.{Inner, Left}
use Rattle.cal_schema.specs.declared.rel_type.RelType.{RelType}
use Rattle.cal_schema.specs.declared.table.TableDef.{TableDef}
use Rattle.cal_schema.specs.declared.tile.TileInfo.{TileInfo}
use Rattle.cal_schema.specs.declared.tile.TileKey.{TileKey}
use Rattle.cal_schema.specs.Column.{is_word, type_named, short_type, int_type, long_type}
use Rattle.cal_schema.specs.Fits.{types_of, Fits}
use Rattle.cal_schema.specs.Valid.{IsColumnType, IsValidTable, IsValidSchema}
use Rattle.cal_rel.specs.Bag.{bag}
use Rattle.cal_rel.specs.Info.{Info}
use Rattle.cal_rel.specs.Meaning.{AreTrueOf}
use Rattle.cal_rel.specs.Operators.{Row}
use Rattle.cal_rel.specs.Ranges.{IsInRange, AreInRange, IsSqlValue}
use Rattle.cal_rel.specs.Tiles.{dims_of, calls_of}
use Rattle.cal_rel.specs.Tree.{Leaf, scan, tile_scan, star_scan, empty_of, Unary, filter_by, project_to, aggregate_by, Binary, join_on, Tree, leaf, unary, binary, hole}
use Rattle.cal_rel.specs.Typing.{types_by, is_condition, of_columns, argument_type, call_type, group_bound, group_columns, unary_type, keyed, nullable, join_columns, join_bound, binary_type, is_ordered, is_listed, table_type, star_type, tile_type_over, tile_type, leaf_type, type_of}
use Rattle.cal_rel.proofs.Narrower.{valid-at}
use Rattle.cal_rel.proofs.RowLemmas.{of_both-some}
use Rattle.cal_rel.proofs.TrueTypes.{option_map-some, and_then-some, type-true}

number-in : (nullable : Bool) (i : Interval) (u : SqlType) → number_type nullable i ≡ Some u → IsInRange u
number-in nullable i u e k = let p = number_type-is nullable i u e in subst (λ (t : SqlType). is_in_range t.interval ≡ true) p.1 p.0

agg-in : (agg : Agg) (t : Option SqlType) (u : SqlType) (n : ℕ) → ((s : SqlType) → t ≡ Some s → IsInRange s) → agg_type agg t n ≡ Some u → IsInRange u
agg-in Count t u n h e = number-in false (counts n) u e
agg-in Sum None u n h e = absurd (cc)
agg-in Sum0 None u n h e = absurd (cc)
agg-in Min None u n h e = absurd (cc)
agg-in Max None u n h e = absurd (cc)
agg-in Sum (Some s) u n h e = number-in true (sums n s.interval) u (split_if (is_integer s) (number_type true (sums n s.interval)) u e).1
agg-in Sum0 (Some s) u n h e = number-in false (with_zero (sums n s.interval)) u (split_if (is_integer s) (number_type false (with_zero (sums n s.interval))) u e).1
agg-in Min (Some s) u n h e = subst IsInRange (same_Some (record s { nullable = true }) u e) (h s refl)
agg-in Max (Some s) u n h e = subst IsInRange (same_Some (record s { nullable = true }) u e) (h s refl)

get-in : (ts : List SqlType) → All IsInRange ts → (k : ℕ) (t : SqlType) → slice_get ts k ≡ Some t → IsInRange t
get-in [] h k t e = absurd (cc)
get-in (s ∷ ts) h zero t e = subst IsInRange (same_Some s t e) (All-head IsInRange s ts h)
get-in (s ∷ ts) h (suc k) t e = get-in ts (All-tail IsInRange s ts h) k t e

types-in : {A : Type 0} (f : A → Option SqlType) → ((x : A) (t : SqlType) → f x ≡ Some t → IsInRange t) → (xs : List A) (ts : List SqlType) → types_by f xs ≡ Some ts → All IsInRange ts
types-in f h [] ts e = subst (All IsInRange) (same_Some [] ts e) (All-nil IsInRange)
types-in f h (x ∷ xs) ts e =
    let b = of_both-some (λ t ts. Some (t ∷ ts)) (f x) (types_by f xs) ts e in
    subst (All IsInRange) (same_Some (b.first ∷ b.second) ts b.is) (All-cons IsInRange b.first b.second (h x b.first b.first_is) (types-in f h xs b.second b.second_is))

no-argument : (s : SqlType) → None ≡ Some s → IsInRange s
no-argument s e = absurd (cc)

argument-in : (agg : Agg) (columns : List SqlType) (n : ℕ) (argument : Option ℕ) (t : SqlType) → All IsInRange columns → argument_type agg columns n argument ≡ Some t → IsInRange t
argument-in agg columns n None t h e = agg-in agg None t n no-argument e
argument-in agg columns n (Some column) t h e =
    let m = and_then-some (λ s. agg_type agg (Some s) n) (slice_get columns column) t e in
    agg-in agg (Some m.from) t n (λ s f. subst IsInRange (same_Some m.from s f) (get-in columns h column m.from m.found)) m.is

group-in : (groups : List ℕ) (calls : List AggCall) (t : RelType) (ts : List SqlType) → All IsInRange t.columns → group_columns groups calls t ≡ Some ts → All IsInRange ts
group-in groups calls t ts h e =
    let b = of_both-some (λ keys values. Some (keys ++ values)) (types_by (slice_get t.columns) groups) (types_by (call_type t.columns t.bound) calls) ts e in
    subst (All IsInRange) (same_Some (b.first ++ b.second) ts b.is)
    (All-append IsInRange b.first b.second (types-in (slice_get t.columns) (get-in t.columns h) groups b.first b.first_is)
    (types-in (call_type t.columns t.bound) (λ call u f. argument-in call.agg t.columns t.bound call.argument u h f) calls b.second b.second_is))

nullable-in : (ts : List SqlType) → All IsInRange ts → All IsInRange (map nullable ts)
nullable-in ts h = All-map IsInRange nullable ts h

join-in : (kind : JoinKind) (ss ts : List SqlType) → All IsInRange ss → All IsInRange ts → All IsInRange (join_columns kind ss ts)
join-in Inner ss ts h k = All-append IsInRange ss ts h k
join-in Left ss ts h k = All-append IsInRange ss (map nullable ts) h (nullable-in ts k)

-- ---- leaves

choice-in : (b : Bool) (t u : SqlType) (o : Option SqlType) → IsInRange t → (o ≡ Some u → IsInRange u) → cond b (Some t) o ≡ Some u → IsInRange u
choice-in true t u o h k e = subst IsInRange (same_Some t u e) h
choice-in false t u o h k e = k e

named-in : (word : List ℕ) (u : SqlType) → type_named word ≡ Some u → IsInRange u
named-in word u =
    choice-in (is_word word (codes "string")) (text_type true) u _ (λ k. refl)
    (choice-in (is_word word (codes "boolean")) (boolean_type true) u _ (λ k. refl)
    (choice-in (is_word word (codes "short")) short_type u _ (λ k. refl)
    (choice-in (is_word word (codes "int")) int_type u _ (λ k. refl)
    (choice-in (is_word word (codes "long")) long_type u None (λ k. refl) (λ e. absurd (cc))))))

column-in : (t : SqlType) → IsColumnType t → IsInRange t
column-in t h = named-in h.0 (record t { nullable = true }) h.1

table-in : (table : TableDef) → IsValidTable table → All IsInRange (types_of table)
table-in table valid = All-map IsInRange (λ (c : ColumnDef). c.kind) table.columns (All-weaker (λ c. IsColumnType c.kind) (λ c. IsInRange c.kind) (λ c h. column-in c.kind h) table.columns valid.typed)

listed-in : (t : SqlType) (b c : Bool) → is_integer t ≡ b → (not b || (is_in_range t.interval && c)) ≡ true → IsInRange t
listed-in t false c e g k = absurd (let h = ap (λ z. same_kind z Integer) k in cc)
listed-in t true c e g k = (and-both (is_in_range t.interval) c g).0

listed-all : (ts : List SqlType) → list_all is_listed ts ≡ true → All IsInRange ts
listed-all [] e = All-nil IsInRange
listed-all (t ∷ ts) e =
    let p = and-both (is_listed t) (list_all is_listed ts) e in
    All-cons IsInRange t ts (listed-in t (is_integer t) (is_ordered t.interval) refl p.0) (listed-all ts p.1)

-- ---- trees

module _ (info : Info) (valid : IsValidSchema info.schema) (sets : AreInRange info.sets) where
  scan-in : (n : ℕ) (t : RelType) → option_map table_type (slice_get info.schema.tables n) ≡ Some t → All IsInRange t.columns
  scan-in n t e =
      let m = option_map-some table_type (slice_get info.schema.tables n) t e in
      subst (λ (u : RelType). All IsInRange u.columns) m.is (table-in m.from (valid-at info.schema.tables n m.from valid.tables m.found))

  tile-in : (key : TileKey) (t : RelType) → tile_type info key ≡ Some t → All IsInRange t.columns
  tile-in key t e =
      let m = and_then-some (λ star. option_and_then (tile_type_over star key) (star_type info star)) (slice_get info.stars key.lattice) t e in
      let n = and_then-some (tile_type_over m.from key) (star_type info m.from) t m.is in
      let c = option_map-some (of_columns n.from.bound) (group_columns (dims_of m.from.dims key.dims) (calls_of key.measures) n.from) t n.is in
      subst (λ (u : RelType). All IsInRange u.columns) c.is
      (group-in (dims_of m.from.dims key.dims) (calls_of key.measures) n.from c.from (scan-in m.from.table n.from n.found) c.found)

  leaf-in : (l : Leaf) (t : RelType) → leaf_type info l ≡ Some t → All IsInRange t.columns
  leaf-in (scan table) t e = scan-in table t e
  leaf-in (tile_scan at) t e =
      let m = and_then-some (λ (tile : TileInfo). tile_type info tile.key) (slice_get info.tiles at) t e in
      tile-in m.from.key t m.is
  leaf-in (star_scan lattice) t e =
      let m = and_then-some (star_type info) (slice_get info.stars lattice) t e in
      scan-in m.from.table t m.is
  leaf-in (empty_of types) t e =
      let c = cond_some (list_all is_listed types) (of_columns 0 types) t e in
      subst (λ (u : RelType). All IsInRange u.columns) c.1 (listed-all types c.0)

  unary-in : (n : Unary) (t u : RelType) → All IsInRange t.columns → unary_type n t ≡ Some u → All IsInRange u.columns
  unary-in (filter_by predicate) t u h e = subst (λ (v : RelType). All IsInRange v.columns) (cond_some (is_condition predicate t.columns) t u e).1 h
  unary-in (project_to items) t u h e =
      let m = option_map-some (of_columns t.bound) (types_by (λ item. expressions.type_of item t.columns) items) u e in
      subst (λ (v : RelType). All IsInRange v.columns) m.is (types-in (λ item. expressions.type_of item t.columns) (λ item s f k. in_range t.columns item s f k) items m.from m.found)
  unary-in (aggregate_by groups calls) t u h e =
      let m = option_map-some (of_columns (group_bound groups t.bound)) (group_columns groups calls t) u e in
      subst (λ (v : RelType). All IsInRange v.columns) m.is (group-in groups calls t m.from h m.found)

  binary-in : (n : Binary) (a b : Tree) (s t u : RelType) → All IsInRange s.columns → All IsInRange t.columns → binary_type info n a b s t ≡ Some u → All IsInRange u.columns
  binary-in (join_on kind on) a b s t u h k e =
      let by = keyed info (length s.columns) on a b in
      let made : RelType = of_columns (join_bound kind by s.bound t.bound) (join_columns kind s.columns t.columns) in
      subst (λ (v : RelType). All IsInRange v.columns) (cond_some (is_condition on (s.columns ++ t.columns)) made u e).1 (join-in kind s.columns t.columns h k)

  tree-in : (tree : Tree) (t : RelType) → type_of info tree ≡ Some t → All IsInRange t.columns
  tree-in (leaf l) t e = leaf-in l t e
  tree-in (unary n x) t e =
      let m = and_then-some (unary_type n) (type_of info x) t e in
      unary-in n m.from t (tree-in x m.from m.found) m.is
  tree-in (binary n a b) t e =
      let m = of_both-some (binary_type info n a b) (type_of info a) (type_of info b) t e in
      binary-in n a b m.first m.second t (tree-in a m.first m.first_is) (tree-in b m.second m.second_is) m.is
  tree-in (hole set) t e = sets.each set t e

pub type-in_range : (info : Info) (tree : Tree) (t : RelType) → IsValidSchema info.schema → AreInRange info.sets → type_of info tree ≡ Some t → All IsInRange t.columns
type-in_range info tree t valid sets e = tree-in info valid sets tree t e

-- ---- values

between : (lo hi n : ℤ) → is_number lo ≡ true → is_number hi ≡ true → lo ≤ℤ n → n ≤ℤ hi → is_number n ≡ true
between lo hi n p q h k = grind (arith, ints)

holds-number : (i : Interval) (n : ℤ) → is_in_range i ≡ true → Holds i n → is_number n ≡ true
holds-number Never n e h = absurd h
holds-number (Range lo hi) n e h = let p = and-both (is_number lo) (is_number hi) e in between lo hi n p.0 p.1 h.0 h.1

value-in : (v : Value) (t : SqlType) → IsOfType v t → IsInRange t → IsSqlValue v
value-in Null t h r = tt
value-in (BoolValue b) t h r = tt
value-in (Int n) t h r = holds-number t.interval n (r h.0) h.1
value-in (Text s) t h r = tt

row-in : (row : Row) (ts : List SqlType) → HasTypes row ts → All IsInRange ts → All IsSqlValue row
row-in [] ts h r = All-nil IsSqlValue
row-in (v ∷ row) [] h r = absurd h
row-in (v ∷ row) (t ∷ ts) h r = All-cons IsSqlValue v row (value-in v t h.0 (All-head IsInRange t ts r)) (row-in row ts h.1 (All-tail IsInRange t ts r))

pub values-in_range : (info : Info) (db : Db) (holes : ℕ → List Row) (tree : Tree) (t : RelType) → IsValidSchema info.schema → AreInRange info.sets → Fits db info.schema → AreTrueOf info.sets holes
    → type_of info tree ≡ Some t → All (λ row. All IsSqlValue row) (bag info db holes tree)
values-in_range info db holes tree t valid sets fits true_of e =
    let range = type-in_range info tree t valid sets e in
    All-weaker (λ row. HasTypes row t.columns) (λ row. All IsSqlValue row) (λ row h. row-in row t.columns h range) (bag info db holes tree) ((type-true info db holes tree t fits true_of e).typed)
