-- Narrower types of the sets keep a tree well formed, with a type at most as wide.
use Rattle.std.proofs.Common.{◌≡◌, ℕ, zero, suc, ◌*◌, ◌≤◌, min, max, Bool, true, false, cond, not, ◌&&◌, ◌||◌, List, [], ◌∷◌, ◌++◌, map, length, codes, All, Option, Some, None, slice_get, refl, sym, ◌∙◌, ap, subst, arith}
use Rattle.std.specs.Prelude.{option_map, unwrap_or}
use Rattle.std.specs.List.{list_all}
use Rattle.std.specs.Option.{option_and_then}
use Rattle.std.proofs.lemmas.Int.{ints}
use Rattle.std.proofs.lemmas.Nat.{mul-le}
use Rattle.std.proofs.lemmas.List.Elements.{All-nil, All-cons, All-head, All-tail, All-append, All-weaker, All-map}
use Rattle.std.proofs.lemmas.Option.{same_Some, cond_some}
use Rattle.cal_value.specs.declared.interval.Interval.{Interval}
use Rattle.cal_value.specs.declared.interval.Interval.TheVariants.{Never, Range}
use Rattle.cal_value.specs.declared.kind.Kind.TheVariants.{Boolean, Integer}
use Rattle.cal_value.specs.declared.kind.SqlType.{SqlType}
use Rattle.cal_value.specs.declared.operator.Agg.{Agg}
use Rattle.cal_value.specs.Interval.{limit, IsProper, is_in_range}
use Rattle.cal_value.specs.Narrower.{StillTyped}
use Rattle.cal_value.specs.Types.{IsAtMostAsWide, AreAtMostAsWide, IsProperType, text_type, boolean_type, is_integer, is_boolean, same_kind}
use Rattle.cal_value.proofs.TypeLaws.{wide-refl}
use Rattle.cal_value.proofs.TypeLemmas.{and-both}
use Rattle.cal_aggregate.specs.ResultType.{agg_type}
use Rattle.cal_aggregate.proofs.AggregateLaws.{agg_type-narrower, agg_type-proper}
use Rattle.cal_expr.specs.declared.expr.Expr.{Expr}
use Rattle.cal_expr.specs.Typing as expressions
use Rattle.cal_expr.proofs.Narrower.{type_of-narrower}
use Rattle.cal_schema.specs.declared.agg_call.AggCall.{AggCall}
use Rattle.cal_schema.specs.declared.column.ColumnDef.{ColumnDef}
use Rattle.cal_schema.specs.declared.join_kind.JoinKind.{JoinKind}
use Rattle.cal_schema.specs.declared.join_kind.JoinKind.TheVariants.{Inner, Left}
use Rattle.cal_schema.specs.declared.rel_type.RelType.{RelType}
use Rattle.cal_schema.specs.declared.table.TableDef.{TableDef}
use Rattle.cal_schema.specs.declared.tile.TileInfo.{TileInfo}
use Rattle.cal_schema.specs.declared.tile.TileKey.{TileKey}
use Rattle.cal_schema.specs.Column.{is_word, type_named, short_type, int_type, long_type}
use Rattle.cal_schema.specs.Fits.{types_of}
use Rattle.cal_schema.specs.RelType.{IsWithin}
use Rattle.cal_schema.specs.Valid.{IsColumnType, IsValidTable, IsValidSchema}
use Rattle.cal_rel.specs.Holes.{renumbered, HasWithin, Narrows}
use Rattle.cal_rel.specs.Info.{Info, set_at}
use Rattle.cal_rel.specs.Tiles.{dims_of, calls_of}
use Rattle.cal_rel.specs.Tree.{Leaf, scan, tile_scan, star_scan, empty_of, Unary, filter_by, project_to, aggregate_by, Binary, join_on, Tree, leaf, unary, binary, hole}
use Rattle.cal_rel.specs.Typing.{of_both, types_by, is_condition, filter_type, of_columns, project_type, argument_type, call_type, group_bound, group_columns, aggregate_type, unary_type, Keyed, keyed, nullable, join_columns, inner_bound, left_bound, join_bound, join_type, binary_type, is_ordered, is_listed, table_type, star_type, tile_type_over, tile_type, leaf_type, type_of}
use Rattle.cal_rel.proofs.Renumbered.{same-info, leaf_type-sets, binary_type-sets}
use Rattle.cal_rel.proofs.RowLemmas.{of_both-some}
use Rattle.cal_rel.proofs.TrueTypes.{option_map-some, and_then-some}

-- ---- lists of types

pub wide-append : (ss ts us vs : List SqlType) → AreAtMostAsWide ss ts → AreAtMostAsWide us vs → AreAtMostAsWide (ss ++ us) (ts ++ vs)
wide-append [] [] us vs h k = k
wide-append [] (t ∷ ts) us vs h k = absurd h
wide-append (s ∷ ss) [] us vs h k = absurd h
wide-append (s ∷ ss) (t ∷ ts) us vs h k = (h.0, wide-append ss ts us vs h.1 k)

pub wide-length : (ss ts : List SqlType) → AreAtMostAsWide ss ts → length ss ≡ length ts
wide-length [] [] h = refl
wide-length [] (t ∷ ts) h = absurd h
wide-length (s ∷ ss) [] h = absurd h
wide-length (s ∷ ss) (t ∷ ts) h = ap suc (wide-length ss ts h.1)

wide-nullable : (ss ts : List SqlType) → AreAtMostAsWide ss ts → AreAtMostAsWide (map nullable ss) (map nullable ts)
wide-nullable [] [] h = tt
wide-nullable [] (t ∷ ts) h = absurd h
wide-nullable (s ∷ ss) [] h = absurd h
wide-nullable (s ∷ ss) (t ∷ ts) h = (record { kind = h.0.kind; nullable = λ e. refl; interval = h.0.interval }, wide-nullable ss ts h.1)

still-get : (ss ts : List SqlType) → AreAtMostAsWide ss ts → (k : ℕ) → StillTyped (slice_get ss k) (slice_get ts k)
still-get [] [] h k = tt
still-get [] (t ∷ ts) h k = absurd h
still-get (s ∷ ss) [] h k = absurd h
still-get (s ∷ ss) (t ∷ ts) h zero = h.0
still-get (s ∷ ss) (t ∷ ts) h (suc k) = still-get ss ts h.1 k

pub record StillSome (o : Option SqlType) (t : SqlType) : Type 0 where
  pub found : SqlType
  pub is : o ≡ Some found
  pub within : IsAtMostAsWide found t

still-some : (o p : Option SqlType) (t : SqlType) → StillTyped o p → p ≡ Some t → StillSome o t
still-some o None t h e = absurd (cc)
still-some None (Some s) t h e = absurd h
still-some (Some r) (Some s) t h e = record { found = r; is = refl; within = subst (IsAtMostAsWide r) (same_Some s t e) h }

pub record AllWithin (o : Option (List SqlType)) (ts : List SqlType) : Type 0 where
  pub found : List SqlType
  pub is : o ≡ Some found
  pub within : AreAtMostAsWide found ts

both-are : (o : Option SqlType) (p : Option (List SqlType)) (t : SqlType) (ts : List SqlType) → o ≡ Some t → p ≡ Some ts → of_both (λ t ts. Some (t ∷ ts)) o p ≡ Some (t ∷ ts)
both-are o p t ts e f = rw (e, f) refl

types-narrow : {A : Type 0} (f g : A → Option SqlType) → ((x : A) → StillTyped (f x) (g x)) → (xs : List A) (ts : List SqlType) → types_by g xs ≡ Some ts → AllWithin (types_by f xs) ts
types-narrow f g h [] ts e = record { found = []; is = refl; within = subst (AreAtMostAsWide []) (same_Some [] ts e) tt }
types-narrow f g h (x ∷ xs) ts e =
    let b = of_both-some (λ t ts. Some (t ∷ ts)) (g x) (types_by g xs) ts e in
    let one = still-some (f x) (g x) b.first (h x) b.first_is in
    let rest = types-narrow f g h xs b.second b.second_is in
    record {
      found = one.found ∷ rest.found;
      is = both-are (f x) (types_by f xs) one.found rest.found one.is rest.is;
      within = subst (AreAtMostAsWide (one.found ∷ rest.found)) (same_Some (b.first ∷ b.second) ts b.is) (one.within, rest.within);
    }

-- ---- conditions

still-boolean : (o p : Option SqlType) → StillTyped o p → unwrap_or (option_map is_boolean p) false ≡ true → unwrap_or (option_map is_boolean o) false ≡ true
still-boolean o None h e = absurd (cc)
still-boolean None (Some t) h e = absurd h
still-boolean (Some s) (Some t) h e = ap (λ k. same_kind k Boolean) h.kind ∙ e

condition-narrow : (e : Expr) (ss ts : List SqlType) → AreAtMostAsWide ss ts → is_condition e ts ≡ true → is_condition e ss ≡ true
condition-narrow e ss ts h = still-boolean (expressions.type_of e ss) (expressions.type_of e ts) (type_of-narrower ss ts h e)

-- ---- bounds

min-le : (l m n : ℕ) → m ≤ n → min m l ≤ min n l
min-le l m n h = omega arith

inner-le : (p q : Bool) (a b m n : ℕ) → a ≤ m → b ≤ n → inner_bound p q a b ≤ inner_bound p q m n
inner-le true true a b m n h k = omega arith
inner-le true false a b m n h k = k
inner-le false true a b m n h k = h
inner-le false false a b m n h k = min-le limit (a * b) (m * n) (mul-le a b m n h k)

left-le : (q : Bool) (a b m n : ℕ) → a ≤ m → b ≤ n → left_bound q a b ≤ left_bound q m n
left-le true a b m n h k = h
left-le false a b m n h k = min-le limit (a * max b 1) (m * max n 1) (mul-le a (max b 1) m (max n 1) h (omega arith))

join-le : (kind : JoinKind) (by : Keyed) (a b m n : ℕ) → a ≤ m → b ≤ n → join_bound kind by a b ≤ join_bound kind by m n
join-le Inner by a b m n h k = inner-le by.left by.right a b m n h k
join-le Left by a b m n h k = left-le by.right a b m n h k

group-le : (groups : List ℕ) (m n : ℕ) → m ≤ n → group_bound groups m ≤ group_bound groups n
group-le [] m n h = omega arith
group-le (g ∷ gs) m n h = h

-- ---- nodes

within_of : (ss ts : List SqlType) (m n : ℕ) (u : RelType) → AreAtMostAsWide ss ts → m ≤ n → of_columns n ts ≡ u → IsWithin (of_columns m ss) u
within_of ss ts m n u h l e = subst (IsWithin (of_columns m ss)) e (record { columns = h; bound = l })

module _ (s t : RelType) (w : IsWithin s t) where
  still-call : (agg : Agg) (o p : Option SqlType) → StillTyped o p
      → StillTyped (option_and_then (λ v. agg_type agg (Some v) s.bound) o) (option_and_then (λ v. agg_type agg (Some v) t.bound) p)
  still-call agg o None h = tt
  still-call agg None (Some q) h = absurd h
  still-call agg (Some r) (Some q) h = agg_type-narrower (Some r) (Some q) s.bound t.bound h w.bound agg

  still-argument : (agg : Agg) (argument : Option ℕ) → StillTyped (argument_type agg s.columns s.bound argument) (argument_type agg t.columns t.bound argument)
  still-argument agg None = agg_type-narrower None None s.bound t.bound tt w.bound agg
  still-argument agg (Some column) = still-call agg (slice_get s.columns column) (slice_get t.columns column) (still-get s.columns t.columns w.columns column)

  group-narrow : (groups : List ℕ) (calls : List AggCall) (ts : List SqlType) → group_columns groups calls t ≡ Some ts → AllWithin (group_columns groups calls s) ts
  group-narrow groups calls ts e =
      let b = of_both-some (λ keys values. Some (keys ++ values)) (types_by (slice_get t.columns) groups) (types_by (call_type t.columns t.bound) calls) ts e in
      let keys = types-narrow (slice_get s.columns) (slice_get t.columns) (still-get s.columns t.columns w.columns) groups b.first b.first_is in
      let values = types-narrow (call_type s.columns s.bound) (call_type t.columns t.bound) (λ call. still-argument call.agg call.argument) calls b.second b.second_is in
      record {
        found = keys.found ++ values.found;
        is = rw (keys.is, values.is) refl;
        within = subst (AreAtMostAsWide (keys.found ++ values.found)) (same_Some (b.first ++ b.second) ts b.is) (wide-append keys.found b.first values.found b.second keys.within values.within);
      }

  filter-narrow : (predicate : Expr) (u : RelType) → filter_type predicate t ≡ Some u → HasWithin (filter_type predicate s) u
  filter-narrow predicate u e =
      let c = cond_some (is_condition predicate t.columns) t u e in
      record {
        found = s;
        is = ap (λ b. cond b (Some s) None) (condition-narrow predicate s.columns t.columns w.columns c.0);
        within = subst (IsWithin s) c.1 w;
      }

  project-narrow : (items : List Expr) (u : RelType) → project_type items t ≡ Some u → HasWithin (project_type items s) u
  project-narrow items u e =
      let m = option_map-some (of_columns t.bound) (types_by (λ item. expressions.type_of item t.columns) items) u e in
      let all = types-narrow (λ item. expressions.type_of item s.columns) (λ item. expressions.type_of item t.columns) (type_of-narrower s.columns t.columns w.columns) items m.from m.found in
      record {
        found = of_columns s.bound all.found;
        is = ap (option_map (of_columns s.bound)) all.is;
        within = within_of all.found m.from s.bound t.bound u all.within w.bound m.is;
      }

  aggregate-narrow : (groups : List ℕ) (calls : List AggCall) (u : RelType) → aggregate_type groups calls t ≡ Some u → HasWithin (aggregate_type groups calls s) u
  aggregate-narrow groups calls u e =
      let m = option_map-some (of_columns (group_bound groups t.bound)) (group_columns groups calls t) u e in
      let all = group-narrow groups calls m.from m.found in
      record {
        found = of_columns (group_bound groups s.bound) all.found;
        is = ap (option_map (of_columns (group_bound groups s.bound))) all.is;
        within = within_of all.found m.from (group_bound groups s.bound) (group_bound groups t.bound) u all.within (group-le groups s.bound t.bound w.bound) m.is;
      }

  unary-narrow : (n : Unary) (u : RelType) → unary_type n t ≡ Some u → HasWithin (unary_type n s) u
  unary-narrow (filter_by predicate) u e = filter-narrow predicate u e
  unary-narrow (project_to items) u e = project-narrow items u e
  unary-narrow (aggregate_by groups calls) u e = aggregate-narrow groups calls u e

module _ (q r s t : RelType) (w : IsWithin q s) (x : IsWithin r t) where
  join_columns-narrow : (kind : JoinKind) → AreAtMostAsWide (join_columns kind q.columns r.columns) (join_columns kind s.columns t.columns)
  join_columns-narrow Inner = wide-append q.columns s.columns r.columns t.columns w.columns x.columns
  join_columns-narrow Left = wide-append q.columns s.columns (map nullable r.columns) (map nullable t.columns) w.columns (wide-nullable r.columns t.columns x.columns)

  join-narrow : (kind : JoinKind) (on : Expr) (by : Keyed) (u : RelType) → join_type kind on by s t ≡ Some u → HasWithin (join_type kind on by q r) u
  join-narrow kind on by u e =
      let made : RelType = of_columns (join_bound kind by s.bound t.bound) (join_columns kind s.columns t.columns) in
      let less : RelType = of_columns (join_bound kind by q.bound r.bound) (join_columns kind q.columns r.columns) in
      let c = cond_some (is_condition on (s.columns ++ t.columns)) made u e in
      record {
        found = less;
        is = ap (λ b. cond b (Some less) None) (condition-narrow on (q.columns ++ r.columns) (s.columns ++ t.columns) (wide-append q.columns s.columns r.columns t.columns w.columns x.columns) c.0);
        within = within_of (join_columns kind q.columns r.columns) (join_columns kind s.columns t.columns) (join_bound kind by q.bound r.bound) (join_bound kind by s.bound t.bound) u
            (join_columns-narrow kind) (join-le kind by q.bound r.bound s.bound t.bound w.bound x.bound) c.1;
      }

  binary-narrow : (info : Info) (n : Binary) (a b : Tree) (u : RelType) → binary_type info n a b s t ≡ Some u → HasWithin (binary_type info n a b q r) u
  binary-narrow info (join_on kind on) a b u e =
      subst (λ m. HasWithin (join_type kind on (keyed info m on a b) q r) u) (sym (wide-length q.columns s.columns w.columns))
      (join-narrow kind on (keyed info (length s.columns) on a b) u e)

-- ---- leaves: the ends of their intervals stand in order, so each type is as wide as itself

wide-itself : (ts : List SqlType) → All IsProperType ts → AreAtMostAsWide ts ts
wide-itself [] h = tt
wide-itself (t ∷ ts) h = (wide-refl t (All-head IsProperType t ts h), wide-itself ts (All-tail IsProperType t ts h))

within-itself : (t : RelType) → All IsProperType t.columns → IsWithin t t
within-itself t h = record { columns = wide-itself t.columns h; bound = omega arith }

-- of a choice of types
proper-choice : (b : Bool) (t u : SqlType) (o : Option SqlType) → IsProperType t → (o ≡ Some u → IsProperType u) → cond b (Some t) o ≡ Some u → IsProperType u
proper-choice true t u o h k e = subst IsProperType (same_Some t u e) h
proper-choice false t u o h k e = k e

proper-named : (word : List ℕ) (u : SqlType) → type_named word ≡ Some u → IsProperType u
proper-named word u =
    proper-choice (is_word word (codes "string")) (text_type true) u _ (λ k. absurd (cc))
    (proper-choice (is_word word (codes "boolean")) (boolean_type true) u _ (λ k. absurd (cc))
    (proper-choice (is_word word (codes "short")) short_type u _ (λ k. omega (arith, ints))
    (proper-choice (is_word word (codes "int")) int_type u _ (λ k. omega (arith, ints))
    (proper-choice (is_word word (codes "long")) long_type u None (λ k. omega (arith, ints)) (λ e. absurd (cc))))))

proper-column : (t : SqlType) → IsColumnType t → IsProperType t
proper-column t h = proper-named h.0 (record t { nullable = true }) h.1

proper-table : (table : TableDef) → IsValidTable table → All IsProperType (types_of table)
proper-table table valid = All-map IsProperType (λ (c : ColumnDef). c.kind) table.columns (All-weaker (λ c. IsColumnType c.kind) (λ c. IsProperType c.kind) (λ c h. proper-column c.kind h) table.columns valid.typed)

pub valid-at : (tables : List TableDef) (n : ℕ) (table : TableDef) → All IsValidTable tables → slice_get tables n ≡ Some table → IsValidTable table
valid-at [] n table h e = absurd (cc)
valid-at (t ∷ tables) zero table h e = subst IsValidTable (same_Some t table e) (All-head IsValidTable t tables h)
valid-at (t ∷ tables) (suc n) table h e = valid-at tables n table (All-tail IsValidTable t tables h) e

proper-get : (ts : List SqlType) → All IsProperType ts → (k : ℕ) (t : SqlType) → slice_get ts k ≡ Some t → IsProperType t
proper-get [] h k t e = absurd (cc)
proper-get (s ∷ ts) h zero t e = subst IsProperType (same_Some s t e) (All-head IsProperType s ts h)
proper-get (s ∷ ts) h (suc k) t e = proper-get ts (All-tail IsProperType s ts h) k t e

types-proper : {A : Type 0} (f : A → Option SqlType) → ((x : A) (t : SqlType) → f x ≡ Some t → IsProperType t) → (xs : List A) (ts : List SqlType) → types_by f xs ≡ Some ts → All IsProperType ts
types-proper f h [] ts e = subst (All IsProperType) (same_Some [] ts e) (All-nil IsProperType)
types-proper f h (x ∷ xs) ts e =
    let b = of_both-some (λ t ts. Some (t ∷ ts)) (f x) (types_by f xs) ts e in
    subst (All IsProperType) (same_Some (b.first ∷ b.second) ts b.is) (All-cons IsProperType b.first b.second (h x b.first b.first_is) (types-proper f h xs b.second b.second_is))

argument-proper : (agg : Agg) (columns : List SqlType) (n : ℕ) (argument : Option ℕ) (t : SqlType) → All IsProperType columns → argument_type agg columns n argument ≡ Some t → IsProperType t
argument-proper agg columns n None t h e = agg_type-proper agg None t n _ e
argument-proper agg columns n (Some column) t h e =
    let m = and_then-some (λ s. agg_type agg (Some s) n) (slice_get columns column) t e in
    agg_type-proper agg (Some m.from) t n (proper-get columns h column m.from m.found) m.is

group-proper : (groups : List ℕ) (calls : List AggCall) (t : RelType) (ts : List SqlType) → All IsProperType t.columns → group_columns groups calls t ≡ Some ts → All IsProperType ts
group-proper groups calls t ts h e =
    let b = of_both-some (λ keys values. Some (keys ++ values)) (types_by (slice_get t.columns) groups) (types_by (call_type t.columns t.bound) calls) ts e in
    subst (All IsProperType) (same_Some (b.first ++ b.second) ts b.is)
    (All-append IsProperType b.first b.second (types-proper (slice_get t.columns) (proper-get t.columns h) groups b.first b.first_is)
    (types-proper (call_type t.columns t.bound) (λ call u f. argument-proper call.agg t.columns t.bound call.argument u h f) calls b.second b.second_is))

ordered-is : (i : Interval) → is_ordered i ≡ true → IsProper i
ordered-is Never e = _
ordered-is (Range lo hi) e = grind (arith, ints)

listed-is : (t : SqlType) (b c : Bool) → is_integer t ≡ b → is_ordered t.interval ≡ c → (not b || (is_in_range t.interval && c)) ≡ true → IsProperType t
listed-is t false c e f g k = absurd (let h = ap (λ z. same_kind z Integer) k in cc)
listed-is t true true e f g k = ordered-is t.interval f
listed-is t true false e f g k = absurd (let h = and-both (is_in_range t.interval) false g in cc)

listed-all : (ts : List SqlType) → list_all is_listed ts ≡ true → All IsProperType ts
listed-all [] e = All-nil IsProperType
listed-all (t ∷ ts) e =
    let p = and-both (is_listed t) (list_all is_listed ts) e in
    All-cons IsProperType t ts (listed-is t (is_integer t) (is_ordered t.interval) refl refl p.0) (listed-all ts p.1)

module _ (info : Info) (valid : IsValidSchema info.schema) where
  table-proper : (n : ℕ) (t : RelType) → option_map table_type (slice_get info.schema.tables n) ≡ Some t → All IsProperType t.columns
  table-proper n t e =
      let m = option_map-some table_type (slice_get info.schema.tables n) t e in
      subst (λ (u : RelType). All IsProperType u.columns) m.is (proper-table m.from (valid-at info.schema.tables n m.from valid.tables m.found))

  tile-proper : (key : TileKey) (t : RelType) → tile_type info key ≡ Some t → All IsProperType t.columns
  tile-proper key t e =
      let m = and_then-some (λ star. option_and_then (tile_type_over star key) (star_type info star)) (slice_get info.stars key.lattice) t e in
      let n = and_then-some (tile_type_over m.from key) (star_type info m.from) t m.is in
      let c = option_map-some (of_columns n.from.bound) (group_columns (dims_of m.from.dims key.dims) (calls_of key.measures) n.from) t n.is in
      subst (λ (u : RelType). All IsProperType u.columns) c.is
      (group-proper (dims_of m.from.dims key.dims) (calls_of key.measures) n.from c.from (table-proper m.from.table n.from n.found) c.found)

  leaf-proper : (l : Leaf) (t : RelType) → leaf_type info l ≡ Some t → All IsProperType t.columns
  leaf-proper (scan table) t e = table-proper table t e
  leaf-proper (tile_scan at) t e =
      let m = and_then-some (λ (tile : TileInfo). tile_type info tile.key) (slice_get info.tiles at) t e in
      tile-proper m.from.key t m.is
  leaf-proper (star_scan lattice) t e =
      let m = and_then-some (star_type info) (slice_get info.stars lattice) t e in
      table-proper m.from.table t m.is
  leaf-proper (empty_of types) t e =
      let c = cond_some (list_all is_listed types) (of_columns 0 types) t e in
      subst (λ (u : RelType). All IsProperType u.columns) c.1 (listed-all types c.0)

  -- ---- trees

  module _ (m : ℕ → ℕ) (sets : List (Option RelType)) (narrows : (k : ℕ) (t : RelType) → set_at info.sets k ≡ Some t → HasWithin (set_at sets (m k)) t) where
    abbrev other : Info
    other = record info { sets = sets }

    narrow-unary : (n : Unary) (o : Option RelType) (t u : RelType) → HasWithin o t → unary_type n t ≡ Some u → HasWithin (option_and_then (unary_type n) o) u
    narrow-unary n o t u h e = subst (λ p. HasWithin (option_and_then (unary_type n) p) u) (sym h.is) (unary-narrow h.found t h.within n u e)

    narrow-binary : (n : Binary) (a b : Tree) (o p : Option RelType) (s t u : RelType) → HasWithin o s → HasWithin p t → binary_type info n a b s t ≡ Some u
        → HasWithin (of_both (binary_type other n (renumbered m a) (renumbered m b)) o p) u
    narrow-binary n a b o p s t u h k e =
        subst (λ x. HasWithin (of_both (binary_type other n (renumbered m a) (renumbered m b)) x p) u) (sym h.is)
        (subst (λ y. HasWithin (of_both (binary_type other n (renumbered m a) (renumbered m b)) (Some h.found) y) u) (sym k.is)
        (subst (λ z. HasWithin z u) (sym (binary_type-sets info sets m n a b h.found k.found)) (binary-narrow h.found k.found s t h.within k.within info n a b u e)))

    narrow : (tree : Tree) (t : RelType) → type_of info tree ≡ Some t → HasWithin (type_of other (renumbered m tree)) t
    narrow (leaf l) t e = record { found = t; is = leaf_type-sets info sets l ∙ e; within = within-itself t (leaf-proper l t e) }
    narrow (unary n x) t e =
        let i = and_then-some (unary_type n) (type_of info x) t e in
        narrow-unary n (type_of other (renumbered m x)) i.from t (narrow x i.from i.found) i.is
    narrow (binary n a b) t e =
        let i = of_both-some (binary_type info n a b) (type_of info a) (type_of info b) t e in
        narrow-binary n a b (type_of other (renumbered m a)) (type_of other (renumbered m b)) i.first i.second t (narrow a i.first i.first_is) (narrow b i.second i.second_is) i.is
    narrow (hole set) t e = narrows set t e

pub type-narrow : (m : ℕ → ℕ) (from to : Info) (tree : Tree) (t : RelType) → IsValidSchema from.schema → Narrows m from to → type_of from tree ≡ Some t → HasWithin (type_of to (renumbered m tree)) t
type-narrow m from to tree t valid h e =
    subst (λ i. HasWithin (type_of i (renumbered m tree)) t) (sym (same-info from to h.else)) (narrow from valid m to.sets h.sets tree t e)
