-- Groups by their keys.
use Rattle.std.proofs.Common.{◌≡◌, ◌<◌, ◌≤◌, ◌+◌, ℕ, zero, suc, get_or, take, drop, Bool, true, false, cond, not, Option, Some, None, IsSome, List, [], ◌∷◌, ◌++◌, length, map, filter, All, slice_get, refl, sym, ◌∙◌, ap, subst, arith}
use Rattle.std.specs.Bool.{Decides}
use Rattle.std.specs.List.{zip, range_with_len}
use Rattle.std.specs.Option.{option_and_then}
use Rattle.std.proofs.lemmas.List.{drop-map, get_or-map, get_or_read, length-drop, length-map, length-take, take-map, take_more}
use Rattle.std.proofs.lemmas.Grind.{fold-append}
use Rattle.std.proofs.lemmas.List.FromFn.{fill_by_all, get_or-range_with_len, length-range_with_len}
use Rattle.std.proofs.lemmas.List.Elements.{All-drop, All-filter, All-map, All-take, All-weaker}
use Rattle.std.proofs.lemmas.Option.{same_Some}
use Rattle.cal_value.specs.declared.kind.SqlType.{SqlType}
use Rattle.cal_value.specs.declared.operator.Agg.{Agg}
use Rattle.cal_value.specs.declared.value.Value.{Value}
use Rattle.cal_value.specs.Equal.{row_eq}
use Rattle.cal_value.specs.EqualLaws.{row_eq-Decides}
use Rattle.cal_value.specs.Interval.{limit}
use Rattle.cal_value.specs.Order.{column_of, columns_of}
use Rattle.cal_value.specs.Types.{HasTypes, IsOfType}
use Rattle.cal_aggregate.specs.Aggregate.{aggregated, combined, start}
use Rattle.cal_aggregate.specs.Parts.{Part, members, parts, distinct}
use Rattle.cal_aggregate.specs.ResultType.{agg_type, IsAggregable}
use Rattle.cal_schema.specs.declared.agg_call.AggCall.{AggCall}
use Rattle.cal_schema.specs.declared.rel_type.RelType.{RelType}
use Rattle.exec_ops.specs.Group.{called, same_key, by_key, group_rows, values_in}
use Rattle.exec_ops.specs.Join.{Row}
use Rattle.exec_ops.specs.Places.{rows_at, ArePlacesIn, has_key, IsIndexOf}
use Rattle.exec_ops.specs.Ready.{CanCall, CanCallEach, CanGroup, HasCallType}
use Rattle.exec_ops.specs.Steps.{grouped_at}
use Rattle.exec_ops.proofs.IndexLemmas.{lengths-of, other-back}

-- ---- parts of rows, and the keys with their rows

filter-of_map : {A B : Type 0} (q : B → Bool) (f : A → B) (xs : List A) → filter q (map f xs) ≡ map f (filter (λ x. q (f x)) xs)
filter-of_map q f [] = refl
filter-of_map {A} q f (x ∷ xs) = by (q (f x)) (filter-of_map q f xs)
  where
    by : (b : Bool) → filter q (map f xs) ≡ map f (filter (λ (x : A). q (f x)) xs) → cond b (f x ∷ filter q (map f xs)) (filter q (map f xs)) ≡ map f (cond b (x ∷ filter (λ (x : A). q (f x)) xs) (filter (λ (x : A). q (f x)) xs))
    by true more = ap (λ ys. f x ∷ ys) more
    by false more = more

map-of_filter : {A B : Type 0} (q : A → Bool) (f g : A → B) → ((x : A) → q x ≡ true → f x ≡ g x) → (xs : List A) → map f (filter q xs) ≡ map g (filter q xs)
map-of_filter q f g h [] = refl
map-of_filter q f g h (x ∷ xs) = by (q x) refl (map-of_filter q f g h xs)
  where
    by : (b : Bool) → q x ≡ b → map f (filter q xs) ≡ map g (filter q xs) → map f (cond b (x ∷ filter q xs) (filter q xs)) ≡ map g (cond b (x ∷ filter q xs) (filter q xs))
    by true e more = λ i. h x e i ∷ more i
    by false e more = more

map-of_map : {A B C : Type 0} (g : B → C) (f : A → B) (xs : List A) → map g (map f xs) ≡ map (λ x. g (f x)) xs
map-of_map g f [] = refl
map-of_map g f (x ∷ xs) = ap (λ ys. g (f x) ∷ ys) (map-of_map g f xs)

module _ {A : Type 0} (key : A → Row) where
  keyed : List A → Row → Row × List A
  keyed rows k = (k, filter (λ row. row_eq k (key row)) rows)

  of_part : Part A → Row × List A
  of_part p = (key p.first, members p)

  keyed-other : (x : A) (xs : List A) (k : Row) → row_eq (key x) k ≡ false → keyed (x ∷ xs) k ≡ keyed xs k
  unfolding keyed
  keyed-other x xs k e = ap (λ b. (k, cond b (x ∷ filter (λ (row : A). row_eq k (key row)) xs) (filter (λ (row : A). row_eq k (key row)) xs))) (other-back row_eq row_eq-Decides (key x) k e)

  keyed-own : (x : A) (xs : List A) → keyed (x ∷ xs) (key x) ≡ (key x, x ∷ filter (λ row. row_eq (key x) (key row)) xs)
  unfolding keyed
  keyed-own x xs = ap (λ b. (key x, cond b (x ∷ filter (λ (row : A). row_eq (key x) (key row)) xs) (filter (λ (row : A). row_eq (key x) (key row)) xs))) ((row_eq-Decides (key x) (key x)).1 refl)

  not-true : (b : Bool) → not b ≡ true → b ≡ false
  not-true true e = sym e
  not-true false e = refl

  keyed-parts : (xs : List A) → map (keyed xs) (distinct row_eq (map key xs)) ≡ map of_part (parts (λ a b. row_eq (key a) (key b)) xs)
  unfolding keyed of_part
  keyed-parts [] = refl
  keyed-parts (x ∷ xs) =
      let q : Row → Bool = λ k. not (row_eq (key x) k) in
      let keys = distinct row_eq (map key xs) in
      let rest : map (keyed (x ∷ xs)) (filter q keys) ≡ map of_part (filter (λ (p : Part A). q (key p.first)) (parts (λ (a b : A). row_eq (key a) (key b)) xs)) =
      map-of_filter q (keyed (x ∷ xs)) (keyed xs) (λ k e. keyed-other x xs k (not-true (row_eq (key x) k) e)) keys
      ∙ sym (filter-of_map (λ (e : Row × List A). q e.0) (keyed xs) keys)
      ∙ ap (filter (λ (e : Row × List A). q e.0)) (keyed-parts xs)
      ∙ filter-of_map (λ (e : Row × List A). q e.0) of_part (parts (λ (a b : A). row_eq (key a) (key b)) xs) in
      λ i. keyed-own x xs i ∷ rest i

  pub by-parts : (F : Row → List A → Row) (xs : List A) → map (λ k. F k (filter (λ row. row_eq k (key row)) xs)) (distinct row_eq (map key xs)) ≡ map (λ p. F (key p.first) (members p)) (parts (λ a b. row_eq (key a) (key b)) xs)
  unfolding keyed of_part
  by-parts F xs =
      let f : Row × List A → Row = λ e. F e.0 e.1 in
      sym (map-of_map f (keyed xs) (distinct row_eq (map key xs))) ∙ ap (map f) (keyed-parts xs) ∙ map-of_map f of_part (parts (λ (a b : A). row_eq (key a) (key b)) xs)

zip-keyed : {P B C : Type 0} (f : P → B) (g : Row → B) (F : Row → B → C) (keys : List Row) (places : List P) → map f places ≡ map g keys → map (λ (e : Row × P). F e.0 (f e.1)) (zip keys places) ≡ map (λ k. F k (g k)) keys
zip-keyed f g F [] places e = refl
zip-keyed f g F (k ∷ keys) [] e = absurd (cc)
zip-keyed f g F (k ∷ keys) (p ∷ places) e =
    let first : f p ≡ g k = cc in
    let rest : map f places ≡ map g keys = cc in
    λ i. F k (first i) ∷ zip-keyed f g F keys places rest i

pub grouped-is : {columns : List ℕ} {rows keys : List Row} {places : List (List ℕ)} (calls : List AggCall) → IsIndexOf columns rows rows keys places → grouped_at calls rows keys places ≡ by_key columns calls rows
grouped-is {columns} {rows} {keys} {places} calls h =
    let of_key : Row → List Row = λ k. filter (has_key columns k) rows in
    zip-keyed (rows_at rows) of_key (λ k group. k ++ called calls group) keys places h.rows_are
    ∙ ap (map (λ (k : Row). k ++ called calls (of_key k))) h.keys_are
    ∙ by-parts (λ (row : Row). columns_of row columns) (λ k group. k ++ called calls group) rows

-- ---- what the calls ask

column-typed : (row : Row) (ts : List SqlType) (k : ℕ) (t : SqlType) → HasTypes row ts → slice_get ts k ≡ Some t → IsOfType (column_of row k) t
column-typed [] [] k t h e = absurd (cc)
column-typed [] (s ∷ ts) k t h e = absurd h
column-typed (v ∷ row) [] k t h e = absurd h
column-typed (v ∷ row) (s ∷ ts) zero t h e = subst (IsOfType v) (same_Some s t e) h.0
column-typed (v ∷ row) (s ∷ ts) (suc k) t h e = column-typed row ts k t h.1 e

can_call : (t : RelType) (group : List Row) → All (λ row. HasTypes row t.columns) group → (t.bound < limit → length group ≤ t.bound) → (agg : Agg) (argument : Option ℕ) → HasCallType t agg argument → CanCall agg argument group
can_call t group typed few agg None h = tt
can_call t group typed few agg (Some column) h = by (slice_get t.columns column) refl h
  where
    by : (o : Option SqlType) → slice_get t.columns column ≡ o → IsSome (option_and_then (λ s. agg_type agg (Some s) t.bound) o) → IsAggregable agg (values_in column group)
    by None e k = absurd (cc)
    by (Some s) e k = record {
      argument = Some s;
      bound = t.bound;
      of_type = All-map (λ v. IsOfType v s) (λ (row : Row). column_of row column) group (All-weaker (λ row. HasTypes row t.columns) (λ row. IsOfType (column_of row column) s) (λ row m. column-typed row t.columns column s m e) group typed);
      bounded = λ l. let n = few l in omega (arith, length-map group (λ (row : Row). column_of row column));
      typed = k;
    }

pub can_call_whole : (calls : List AggCall) (rows : List Row) → CanGroup calls rows → CanCallEach calls rows
can_call_whole calls rows h = All-weaker (λ call. HasCallType h.row_type call.agg call.argument) (λ call. CanCall call.agg call.argument rows)
    (λ call k. can_call h.row_type rows h.true_of.typed h.true_of.few call.agg call.argument k) calls h.typed

filter-less : {A : Type 0} (p : A → Bool) (b : Bool) (x : A) (xs : List A) → length (filter p xs) ≤ length xs → length (cond b (x ∷ filter p xs) (filter p xs)) ≤ length xs + 1
filter-less p true x xs h = omega arith
filter-less p false x xs h = omega arith

length-filter-le : {A : Type 0} (p : A → Bool) (xs : List A) → length (filter p xs) ≤ length xs
length-filter-le p [] = omega arith
length-filter-le p (x ∷ xs) = let h = filter-less p (p x) x xs (length-filter-le p xs) in omega arith

-- over some of the rows
pub can_call_part : (calls : List AggCall) (rows group : List Row) → CanGroup calls rows → ((P : Row → Type 0) → All P rows → All P group) → length group ≤ length rows → CanCallEach calls group
can_call_part calls rows group h some less =
    can_call_whole calls group (record {
      row_type = h.row_type;
      true_of = record {
        typed = some (λ row. HasTypes row h.row_type.columns) h.true_of.typed;
        few = λ l. let few = h.true_of.few l in omega arith;
      };
      typed = h.typed;
    })

pub can_call_groups : {columns : List ℕ} {rows keys : List Row} {places : List (List ℕ)} (calls : List AggCall) → CanGroup calls rows → IsIndexOf columns rows rows keys places → All (λ places. CanCallEach calls (rows_at rows places)) places
can_call_groups {columns} {rows} {keys} {places} calls h index k d l =
    let of_key : Row → List Row = λ key. filter (has_key columns key) rows in
    let at : k < length keys = omega (arith, lengths-of index) in
    let is : rows_at rows (get_or places k d) ≡ of_key (get_or keys k []) =
    sym (get_or-map (rows_at rows) places k d [] l) ∙ ap (λ (groups : List (List Row)). get_or groups k []) index.rows_are ∙ get_or-map of_key keys k [] [] at in
    subst (CanCallEach calls) (sym is) (can_call_part calls rows (of_key (get_or keys k [])) h (λ P all. All-filter (has_key columns (get_or keys k [])) P rows all) (length-filter-le (has_key columns (get_or keys k [])) rows))

-- ---- all rows

pub rows-all : (rows : List Row) (n : ℕ) → n ≡ length rows → rows_at rows (range_with_len 0 n) ≡ rows
rows-all rows n e = sym (fill_by_all (λ at. get_or rows at []) rows n [] (sym e) (λ k l. refl))

pub within-all : (rows : List Row) (n : ℕ) → n ≡ length rows → ArePlacesIn rows (range_with_len 0 n)
within-all rows n e k d l =
    let len = length-range_with_len 0 n in
    let at = get_or-range_with_len 0 n k d (omega arith) in
    omega arith

range-push : (a n : ℕ) → range_with_len a (suc n) ≡ range_with_len a n ++ (a + n) ∷ []
range-push a zero = let e : a ≡ a + 0 = omega arith in ap (λ m. m ∷ []) e
range-push a (suc n) = let e : a + 1 + n ≡ a + suc n = omega arith in ap (λ ms. a ∷ ms) (range-push (a + 1) n ∙ ap (λ m. range_with_len (a + 1) n ++ m ∷ []) e)

pub range-more : (n : ℕ) → range_with_len 0 (n + 1) ≡ range_with_len 0 n ++ n ∷ []
range-more n = let e : n + 1 ≡ suc n = omega arith in let z : 0 + n ≡ n = omega arith in ap (range_with_len 0) e ∙ range-push 0 n ∙ ap (λ m. range_with_len 0 n ++ m ∷ []) z

pub ruleset place_rules = range-more

-- ---- the rows from a place on

pub length-places : (n : ℕ) → length (range_with_len 0 n) ≡ n
length-places n = length-range_with_len 0 n

pub ruleset part_rules = length-places

pub rows-between : (rows : List Row) (places : List ℕ) (m start : ℕ) → places ≡ range_with_len 0 (length rows) → rows_at rows (take m (drop start places)) ≡ take m (drop start rows)
rows-between rows places m start e =
    let row_of : ℕ → Row = λ at. get_or rows at [] in
    sym (take-map row_of m (drop start places)) ∙ ap (take m) (sym (drop-map row_of start places) ∙ ap (drop start) (ap (map row_of) e ∙ rows-all rows (length rows) refl))

pub within-between : (rows : List Row) (places : List ℕ) (m start : ℕ) → places ≡ range_with_len 0 (length rows) → ArePlacesIn rows (take m (drop start places))
within-between rows places m start e =
    All-take (λ at. at < length rows) m (drop start places) (All-drop (λ at. at < length rows) start places (subst (ArePlacesIn rows) (sym e) (within-all rows (length rows) refl)))

pub can_call_between : (calls : List AggCall) (rows : List Row) (m start : ℕ) → CanGroup calls rows → CanCallEach calls (take m (drop start rows))
can_call_between calls rows m start h =
    can_call_part calls rows (take m (drop start rows)) h (λ P all. All-take P m (drop start rows) (All-drop P start rows all))
    (omega (arith, length-take m (drop start rows), length-drop start rows))

-- ---- the values in a column of the rows at some places

pub length-values : (column : ℕ) (rows : List Row) (places : List ℕ) → length (values_in column (rows_at rows places)) ≡ length places
length-values column rows places = length-map (rows_at rows places) (λ (row : Row). column_of row column) ∙ length-map places (λ at. get_or rows at [])

pub value-at : (column : ℕ) (rows : List Row) (places : List ℕ) (i : ℕ) (row : Row) → i < length places → ArePlacesIn rows places → row ≡ get_or rows (get_or places i 0) row
    → column_of row column ≡ get_or (values_in column (rows_at rows places)) i (column_of row column)
value-at column rows places i row l within is =
    let f : Row → Value = λ r. column_of r column in
    let g : ℕ → Row = λ at. get_or rows at [] in
    let n = length-map places g in
    ap f (get_or_read rows (get_or places i 0) row (within i 0 l) is [] ∙ sym (get_or-map g places i 0 [] l))
    ∙ sym (get_or-map f (rows_at rows places) i [] (f row) (omega arith))

pub aggregated-more : (agg : Agg) (vs : List Value) (k : ℕ) (so_far v next : Value) → k < length vs → so_far ≡ aggregated agg (take k vs) → v ≡ get_or vs k v → next ≡ combined agg so_far v → next ≡ aggregated agg (take (k + 1) vs)
aggregated-more agg vs k so_far v next l e is n =
    n ∙ ap (λ s. combined agg s v) e ∙ sym (fold-append (combined agg) (start agg) (take k vs) (v ∷ []))
    ∙ ap (aggregated agg) (ap (λ w. take k vs ++ w ∷ []) is ∙ sym (take_more vs k v l))

-- ---- with columns, groups are by their keys

pub by_key-group_rows : (groups : List ℕ) (calls : List AggCall) (rows : List Row) → (groups ≡ [] → ⊥) → by_key groups calls rows ≡ group_rows groups calls rows
by_key-group_rows [] calls rows some = absurd (some refl)
by_key-group_rows (g ∷ groups) calls rows some = refl
