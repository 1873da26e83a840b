-- What a SELECT means is what its algebra means.
use Rattle.std.proofs.Common.{◌≡◌, ℕ, zero, suc, ◌+◌, ◌<◌, ◌==◌, Bool, true, false, cond, ◌&&◌, List, [], ◌∷◌, ◌++◌, map, filter, find, count_by, length, All, Option, Some, None, option_map, unwrap_or, slice_get, refl, sym, ◌∙◌, ap, subst, arith}
use mathlib.Core.Path.{ap₂, fun_ext}
use Rattle.std.specs.List.{flat_map, list_all}
use Rattle.std.specs.Option.{option_and_then, is_none}
use Rattle.std.proofs.lemmas.List.{append-nil, append_assoc, length-append, length-map, map-id}
use Rattle.std.proofs.lemmas.List.Elements.{All-nil, All-cons, All-head, All-tail, All-filter, All-weaker}
use Rattle.cal_value.specs.Equal.{row_eq}
use Rattle.cal_value.specs.Logic.{is_true}
use Rattle.cal_value.specs.Order.{column_of, columns_of, SameBag}
use Rattle.cal_aggregate.specs.Parts.{Part, parts, distinct}
use Rattle.cal_expr.specs.declared.expr.Expr.{Expr}
use Rattle.cal_expr.specs.declared.expr.Expr.TheVariants.{Column}
use Rattle.cal_expr.specs.Meaning.{meaning_of}
use Rattle.cal_schema.specs.declared.column.ColumnDef.{ColumnDef}
use Rattle.cal_schema.specs.declared.database.Db.{Db}
use Rattle.cal_schema.specs.declared.schema.Schema.{Schema}
use Rattle.cal_schema.specs.declared.table.TableDef.{TableDef}
use Rattle.cal_schema.specs.Fits.{Fits}
use Rattle.cal_schema.specs.Valid.{IsValidTable, IsValidSchema}
use Rattle.cal_schema.proofs.NameLemmas.{table_named-below}
use Rattle.cal_rel.specs.Bag.{bag}
use Rattle.cal_rel.specs.Info.{Info}
use Rattle.cal_rel.specs.Operators.{Row, holds, projected, same_key, grouped, called}
use Rattle.cal_rel.specs.Tree.{Tree as RelTree}
use Rattle.cal_rel.proofs.Reorders.{map-map}
use Rattle.sql_tree.specs.declared.select.FromEntry.{FromEntry}
use Rattle.sql_tree.specs.declared.select.How.{How}
use Rattle.sql_tree.specs.declared.select.How.TheVariants.{First, Cross, Inner, Left}
use Rattle.sql_tree.specs.declared.select.Item.{Item}
use Rattle.sql_tree.specs.declared.select.Items.{Items}
use Rattle.sql_tree.specs.declared.select.Items.TheVariants.{Star, Listed}
use Rattle.sql_tree.specs.declared.select.Select.{Select}
use Rattle.sql_tree.specs.declared.tree.Tree.{Tree}
use Rattle.sql_meaning.specs.Direct.{loops, found, shown, item_values, groups_of, keeps_group, first_star, answered, once, direct}
use Rattle.sql_meaning.specs.Direct.{group_items as meant_items}
use Rattle.sql_meaning.specs.Groups.{is_grouped, ungrouped, star_ungrouped, part_ungrouped, group_places}
use Rattle.sql_meaning.specs.Names.{places_from, star_places}
use Rattle.sql_meaning.specs.Parts.{item_trees, listed, is_aggregate_query, parts_of}
use Rattle.sql_meaning.specs.Refused.{is_first, is_unknown_table, unknown_table, refusal_of, star_place}
use Rattle.sql_meaning.specs.Scope.{Header, number_of, no_table, table_of, header_of, scope_of, hidden_by}
use Rattle.sql_meaning.specs.Value.{EntryRow, group_value}
use Rattle.sql_meaning.proofs.Nothing.{both-empty, or-none}
use Rattle.sql_to_rel.specs.Numbered.{numbered, flat}
use Rattle.typed_meaning.specs.Rows.{IsTypedRow}
use Rattle.typed_meaning.proofs.Nothing.{All-front, All-back, All-of_map, Nothing, nothing, none-outside}
use Rattle.sql_algebra.specs.declared.layout.ExprCall.{ExprCall}
use Rattle.sql_algebra.specs.declared.layout.Layout.{Layout}
use Rattle.sql_algebra.specs.Algebra.{from_tree, kept, same_call, placed, group_at, layout_of, aggregate_tree, row_items, group_items, row_answer, group_answer, answer_tree, once_tree, algebra}
use Rattle.sql_algebra.specs.Formed.{begins_first, has_items, IsFormed}
use Rattle.sql_algebra.proofs.Calls.{same_call-Decides, values_over, aggregate-rows}
use Rattle.sql_algebra.proofs.From.{walks-from, walks-where}
use Rattle.sql_algebra.proofs.Groups.{group_row, layout_by, groups-rows, IsTypedGroup, groups-typed, HasFirst, key-value, group-value, right-of_unless}
use Rattle.sql_algebra.proofs.Items.{value-at, row-answers, star-columns}
use Rattle.sql_algebra.proofs.Lists.{map-ext, map-filter, mapped, parts-map, firsts-distinct, all-kept}
use Rattle.sql_algebra.proofs.Places.{IsAmong, all-distinct}

-- ---- all of each

each-of_all : {A B : Type 0} (P : B → Type 0) (f : A → List B) (xs : List A) → All P (flat_map f xs) → All (λ x. All P (f x)) xs
each-of_all P f [] h = All-nil (λ x. All P (f x))
each-of_all P f (x ∷ xs) h = All-cons (λ y. All P (f y)) x xs (All-front P (f x) (flat_map f xs) h) (each-of_all P f xs (All-back P (f x) (flat_map f xs) h))

both-all : {A : Type 0} (P Q : A → Type 0) (xs : List A) → All P xs → All Q xs → All (λ x. P x × Q x) xs
both-all P Q xs h k = λ n d lt. (h n d lt, k n d lt)

-- ---- items and HAVING over groups

no-column : (columns ats : List ℕ) → HasFirst columns [] → list_all (is_grouped columns) ats ≡ true → ats ≡ []
no-column [] [] f h = refl
no-column [] (at ∷ ats) f h = absurd (cc)
no-column (column ∷ columns) ats f h = absurd f

module _ (scope : List Header) (columns : List ℕ) (calls : List ExprCall) where
  -- no column of it stands outside the groups, and its calls are among those of the Aggregate
  abbrev IsPlaced : Tree → Type 0
  IsPlaced tree = (ungrouped scope columns tree ≡ []) × All (IsAmong same_call calls) (placed scope tree).calls

  star-grouped : (row rest : Row) (ats : List ℕ) → list_all (is_grouped columns) ats ≡ true
      → map (column_of row) ats ≡ projected (map (group_at (layout_by columns calls)) ats) (columns_of row (distinct ◌==◌ columns) ++ rest)
  star-grouped row rest [] h = refl
  star-grouped row rest (at ∷ ats) h = by (is_grouped columns at) refl (star-grouped row rest ats) h
    where
      by : (b : Bool) → is_grouped columns at ≡ b
          → (list_all (is_grouped columns) ats ≡ true → map (column_of row) ats ≡ projected (map (group_at (layout_by columns calls)) ats) (columns_of row (distinct ◌==◌ columns) ++ rest))
          → (b && list_all (is_grouped columns) ats) ≡ true
          → map (column_of row) (at ∷ ats) ≡ projected (map (group_at (layout_by columns calls)) (at ∷ ats)) (columns_of row (distinct ◌==◌ columns) ++ rest)
      by true e more k = ap₂ (λ v vs. v ∷ vs) (key-value scope columns calls row rest at e) (more k)
      by false e more k = absurd (cc)

  group-star : (group : List (List EntryRow)) → IsTypedGroup scope columns group → list_all (is_grouped columns) (star_places 0 scope) ≡ true
      → first_star group ≡ projected (map (group_at (layout_by columns calls)) (star_places 0 scope)) (group_row (layout_by columns calls) group)
  group-star [] h k = ap (λ ats. projected (map (group_at (layout_by columns calls)) ats) (group_row (layout_by columns calls) [])) (sym (no-column columns (star_places 0 scope) h.has_first k))
  group-star (env ∷ envs) h k =
      star-columns scope env (All-head (IsTypedRow scope) env envs h.typed)
      ∙ star-grouped (flat env) (values_over calls (map flat (env ∷ envs))) (star_places 0 scope) k

  group-items : (items : Items) (group : List (List EntryRow)) → IsTypedGroup scope columns group → (place : ℕ) → star_ungrouped scope columns place items ≡ [] → All IsPlaced (item_trees items)
      → meant_items items group ≡ projected (group_items scope (layout_by columns calls) items) (group_row (layout_by columns calls) group)
  group-items Star group h place star all = group-star group h (right-of_unless (list_all (is_grouped columns) (star_places 0 scope)) place star)
  group-items (Listed items) group h place star all =
      map-ext (λ (item : Item). group_value group item.tree) (λ item. meaning_of ((placed scope item.tree).group (layout_by columns calls)) (group_row (layout_by columns calls) group)) items
      (All-weaker (λ (item : Item). IsPlaced item.tree) (λ item. group_value group item.tree ≡ meaning_of ((placed scope item.tree).group (layout_by columns calls)) (group_row (layout_by columns calls) group))
      (λ item k. group-value scope columns calls item.tree group h k.0 k.1) items (All-of_map IsPlaced (λ (item : Item). item.tree) items all))
      ∙ sym (map-map (λ e. meaning_of e (group_row (layout_by columns calls) group)) (λ (item : Item). (placed scope item.tree).group (layout_by columns calls)) items)

  module _ (info : Info) (db : Db) (holes : ℕ → List Row) where
    having-rows : (having : Option Tree) (tree : RelTree) (groups : List (List (List EntryRow))) → All (IsTypedGroup scope columns) groups → All IsPlaced (listed having)
        → bag info db holes tree ≡ map (group_row (layout_by columns calls)) groups
        → bag info db holes (kept (λ condition. (placed scope condition).group (layout_by columns calls)) having tree) ≡ map (group_row (layout_by columns calls)) (filter (keeps_group having) groups)
    having-rows None tree groups h all e = e ∙ ap (map (group_row (layout_by columns calls))) (sym (all-kept groups))
    having-rows (Some t) tree groups h all e =
        let p = All-head IsPlaced t [] all in
        ap (filter (holds ((placed scope t).group (layout_by columns calls)))) e
        ∙ sym (map-filter (group_row (layout_by columns calls)) (λ group. is_true (group_value group t)) (holds ((placed scope t).group (layout_by columns calls))) groups
        (All-weaker (IsTypedGroup scope columns) (λ group. is_true (group_value group t) ≡ holds ((placed scope t).group (layout_by columns calls)) (group_row (layout_by columns calls) group))
        (λ group k. ap is_true (group-value scope columns calls t group k p.0 p.1)) groups h))

-- ---- the answer, over typed rows of FROM

module _ (info : Info) (db : Db) (holes : ℕ → List Row) (scope : List Header) (select : Select) (tree : RelTree) (envs : List (List EntryRow)) where
  module _ (same : map flat envs ≡ bag info db holes tree) (typed : All (IsTypedRow scope) envs) where
    row-rows : bag info db holes (row_answer scope select tree) ≡ map (item_values select.items) envs
    row-rows = ap (map (projected (row_items scope select.items))) (sym same) ∙ sym (row-answers scope select.items envs typed)

    group-rows : (before : ℕ) → Nothing scope before select → is_aggregate_query select ≡ true
        → bag info db holes (group_answer scope (layout_of scope select) select tree) ≡ map (meant_items select.items) (filter (keeps_group select.having) (groups_of select.groups envs))
    group-rows before n is =
        let columns = group_places scope select in
        let trees = item_trees select.items ++ listed select.having in
        let calls = distinct same_call (flat_map (λ tree. (placed scope tree).calls) trees) in
        let layout = layout_of scope select in
        let groups = groups_of select.groups envs in
        let kept_groups = filter (keeps_group select.having) groups in
        let all_typed = groups-typed scope select.groups envs typed in
        let outside = none-outside scope before select n is in
        let star = (both-empty (star_ungrouped scope columns (star_place before select) select.items) (flat_map (part_ungrouped scope columns) (parts_of select)) (n.outside is)).0 in
        let among = each-of_all (IsAmong same_call calls) (λ tree. (placed scope tree).calls) trees (all-distinct same_call same_call-Decides (flat_map (λ tree. (placed scope tree).calls) trees)) in
        let InCalls : Tree → Type 0 = λ tree. All (IsAmong same_call calls) (placed scope tree).calls in
        let items = both-all (λ tree. ungrouped scope columns tree ≡ []) InCalls (item_trees select.items) outside.items (All-front InCalls (item_trees select.items) (listed select.having) among) in
        let having = both-all (λ tree. ungrouped scope columns tree ≡ []) InCalls (listed select.having) outside.having (All-back InCalls (item_trees select.items) (listed select.having) among) in
        let grouped_rows : bag info db holes (aggregate_tree layout tree) ≡ map (group_row layout) groups =
        aggregate-rows info db holes layout tree ∙ ap (grouped layout.groups (values_over layout.calls)) (sym same) ∙ groups-rows scope select.groups calls envs typed in
        ap (map (projected (group_items scope layout select.items))) (having-rows scope columns calls info db holes select.having (aggregate_tree layout tree) groups all_typed having grouped_rows)
        ∙ map-map (projected (group_items scope layout select.items)) (group_row layout) kept_groups
        ∙ sym (map-ext (meant_items select.items) (λ group. projected (group_items scope layout select.items) (group_row layout group)) kept_groups
        (All-weaker (IsTypedGroup scope columns) (λ group. meant_items select.items group ≡ projected (group_items scope layout select.items) (group_row layout group))
        (λ group k. group-items scope columns calls select.items group k (star_place before select) star items) kept_groups
        (All-filter (keeps_group select.having) (IsTypedGroup scope columns) groups all_typed)))

    answer-rows : (before : ℕ) → Nothing scope before select → bag info db holes (answer_tree scope select tree) ≡ answered select envs
    answer-rows before n = by (is_aggregate_query select) refl
      where
        by : (b : Bool) → is_aggregate_query select ≡ b
            → bag info db holes (cond b (group_answer scope (layout_of scope select) select tree) (row_answer scope select tree))
            ≡ cond b (map (meant_items select.items) (filter (keeps_group select.having) (groups_of select.groups envs))) (map (item_values select.items) envs)
        by true e = group-rows before n e
        by false e = row-rows

-- ---- DISTINCT

own-places : {A : Type 0} (before row : Row) (xs : List A) → length row ≡ length xs → map (column_of (before ++ row)) (places_from (length before) xs) ≡ row
own-places before [] [] h = refl
own-places before [] (x ∷ xs) h = absurd (omega arith)
own-places before (v ∷ row) [] h = absurd (omega arith)
own-places before (v ∷ row) (x ∷ xs) h =
    ap₂ (λ w ws. w ∷ ws) (value-at before v row)
    (sym (ap₂ (λ whole n. map (column_of whole) (places_from n xs)) (append_assoc before (v ∷ []) row) (length-append before (v ∷ [])))
    ∙ own-places (before ++ v ∷ []) row xs (omega arith))

grouped-distinct : {A : Type 0} (xs : List A) (rows : List Row) → 0 < length xs → All (λ row. length row ≡ length xs) rows → grouped (places_from 0 xs) (called []) rows ≡ distinct row_eq rows
grouped-distinct [] rows lt h = absurd (omega arith)
grouped-distinct {A} (x ∷ xs) rows lt h =
    let columns = places_from 0 (x ∷ xs) in
    let picked : Row → Row = λ row. columns_of row columns in
    let same : map picked rows ≡ rows =
    map-ext picked (λ row. row) rows (All-weaker (λ (row : Row). length row ≡ length (x ∷ xs)) (λ row. picked row ≡ row) (λ row e. own-places [] row (x ∷ xs) e) rows h) ∙ map-id rows in
    ap (λ f. map f (parts (same_key columns) rows)) (fun_ext (λ (part : Part Row). append-nil (picked part.first)))
    ∙ sym (map-map (λ (part : Part Row). part.first) (mapped picked) (parts (same_key columns) rows))
    ∙ ap (map (λ (part : Part Row). part.first)) (sym (parts-map row_eq picked rows))
    ∙ ap (λ rs. map (λ (part : Part Row). part.first) (parts row_eq rs)) same
    ∙ firsts-distinct row_eq rows

projected-wide : (es : List Expr) (rows : List Row) → All (λ row. length row ≡ length es) (map (projected es) rows)
projected-wide es [] = All-nil (λ row. length row ≡ length es)
projected-wide es (row ∷ rows) = All-cons (λ row. length row ≡ length es) (projected es row) (map (projected es) rows) (length-map es (λ e. meaning_of e row)) (projected-wide es rows)

pub as-many-items : (scope : List Header) (layout : Layout) (items : Items) → length (group_items scope layout items) ≡ length (row_items scope items)
as-many-items scope layout Star = length-map (star_places 0 scope) (group_at layout) ∙ sym (length-map (star_places 0 scope) Column)
as-many-items scope layout (Listed items) = length-map items (λ (item : Item). (placed scope item.tree).group layout) ∙ sym (length-map items (λ (item : Item). numbered scope item.tree))

module _ (info : Info) (db : Db) (holes : ℕ → List Row) (scope : List Header) (select : Select) (tree : RelTree) where
  answer-wide : All (λ row. length row ≡ length (row_items scope select.items)) (bag info db holes (answer_tree scope select tree))
  answer-wide = by (is_aggregate_query select)
    where
      by : (b : Bool) → All (λ row. length row ≡ length (row_items scope select.items)) (bag info db holes (cond b (group_answer scope (layout_of scope select) select tree) (row_answer scope select tree)))
      by true =
          subst (λ n. All (λ row. length row ≡ n) (bag info db holes (group_answer scope (layout_of scope select) select tree))) (as-many-items scope (layout_of scope select) select.items)
          (projected-wide (group_items scope (layout_of scope select) select.items) (bag info db holes (kept (λ condition. (placed scope condition).group (layout_of scope select)) select.having (aggregate_tree (layout_of scope select) tree))))
      by false = projected-wide (row_items scope select.items) (bag info db holes tree)

once-rows : (info : Info) (db : Db) (holes : ℕ → List Row) (distinct_asked : Bool) (xs : List Expr) (tree : RelTree) → 0 < length xs → All (λ row. length row ≡ length xs) (bag info db holes tree)
    → bag info db holes (once_tree distinct_asked (places_from 0 xs) tree) ≡ once distinct_asked (bag info db holes tree)
once-rows info db holes true xs tree lt h = grouped-distinct xs (bag info db holes tree) lt h
once-rows info db holes false xs tree lt h = refl

-- ---- an answer has a column

shown-some : (hidden : List (List ℕ)) (cs : List ColumnDef) (at : ℕ) → hidden ≡ [] → 0 < length cs → 0 < length (shown hidden cs (places_from at cs))
shown-some [] [] at e lt = absurd (omega arith)
shown-some [] (c ∷ cs) at e lt = omega arith
shown-some (name ∷ names) cs at e lt = absurd (cc)

first-hides : (how : How) → is_first how ≡ true → hidden_by how ≡ []
first-hides First e = refl
first-hides Cross e = absurd (cc)
first-hides (Inner cond) e = absurd (cc)
first-hides (Left cond) e = absurd (cc)

columns-there : (tables : List TableDef) (n : ℕ) → All IsValidTable tables → n < length tables → 0 < length (unwrap_or (slice_get tables n) no_table).columns
columns-there [] n h lt = absurd (omega arith)
columns-there (t ∷ tables) zero h lt = (All-head IsValidTable t tables h).some_columns
columns-there (t ∷ tables) (suc n) h lt = columns-there tables n (All-tail IsValidTable t tables h) (omega arith)

map-none : {A B : Type 0} (f : A → B) (o : Option A) → option_map f o ≡ None → o ≡ None
map-none f None e = refl
map-none f (Some x) e = absurd (cc)

table-columns : (schema : Schema) (entry : FromEntry) → IsValidSchema schema → is_unknown_table schema entry ≡ false → 0 < length (table_of schema entry.table).columns
table-columns schema entry valid known = by (number_of schema entry.table) refl known
  where
    by : (o : Option ℕ) → number_of schema entry.table ≡ o → is_none o ≡ false → 0 < length (unwrap_or (option_and_then (slice_get schema.tables) o) no_table).columns
    by None e k = absurd (cc)
    by (Some n) e k = columns-there schema.tables n valid.tables (table_named-below schema entry.table.schema entry.table.name n (sym e))

first-known : (schema : Schema) (entry : FromEntry) (entries : List FromEntry) → find (is_unknown_table schema) (entry ∷ entries) ≡ None → is_unknown_table schema entry ≡ false
first-known schema entry entries h = by (is_unknown_table schema entry) h
  where
    by : (b : Bool) → cond b (Some entry) (find (is_unknown_table schema) entries) ≡ None → b ≡ false
    by true e = absurd (cc)
    by false e = refl

star-some : (schema : Schema) (entries : List FromEntry) → IsValidSchema schema → begins_first entries ≡ true → find (is_unknown_table schema) entries ≡ None
    → 0 < length (star_places 0 (map (header_of schema) entries))
star-some schema [] valid first known = absurd (cc)
star-some schema (entry ∷ entries) valid first known =
    let columns = (table_of schema entry.table).columns in
    let own = shown (hidden_by entry.how) columns (places_from 0 columns) in
    let some : 0 < length own = shown-some (hidden_by entry.how) columns 0 (first-hides entry.how first) (table-columns schema entry valid (first-known schema entry entries known)) in
    let long = length-append own (star_places (0 + length columns) (map (header_of schema) entries)) in
    omega arith

some-items : (schema : Schema) (select : Select) (before : ℕ) → IsValidSchema schema → IsFormed select → refusal_of schema before select ≡ None → 0 < length (row_items (scope_of schema select) select.items)
some-items schema select before valid formed accepted = by select.items formed.items
  where
    by : (items : Items) → has_items items ≡ true → 0 < length (row_items (scope_of schema select) items)
    by Star h =
        subst (λ n. 0 < n) (sym (length-map (star_places 0 (scope_of schema select)) Column))
        (star-some schema select.from valid formed.from (map-none _ (find (is_unknown_table schema) select.from) (or-none (unknown_table schema select) _ accepted).0))
    by (Listed []) h = absurd (cc)
    by (Listed (item ∷ items)) h = omega arith

-- ---- the whole

pub algebra-rows : (info : Info) (db : Db) (holes : ℕ → List Row) (before : ℕ) (select : Select) → Fits db info.schema → IsValidSchema info.schema → IsFormed select → refusal_of info.schema before select ≡ None
    → bag info db holes (algebra info.schema select) ≡ direct select info.schema db
algebra-rows info db holes before select fits valid formed accepted =
    let scope = scope_of info.schema select in
    let from = from_tree info.schema select.from in
    let rows = kept (numbered scope) select.filter from in
    let walks = walks-where info db holes fits scope select.filter from (loops info.schema db select.from []) (walks-from info db holes fits select.from formed.from) in
    once-rows info db holes select.distinct (row_items scope select.items) (answer_tree scope select rows) (some-items info.schema select before valid formed accepted) (answer-wide info db holes scope select rows)
    ∙ ap (once select.distinct) (answer-rows info db holes scope select rows (found info.schema db select) walks.same walks.typed before (nothing info.schema before select accepted))

pub same-bag : (info : Info) (db : Db) (holes : ℕ → List Row) (before : ℕ) (select : Select) → Fits db info.schema → IsValidSchema info.schema → IsFormed select → refusal_of info.schema before select ≡ None
    → SameBag (bag info db holes (algebra info.schema select)) (direct select info.schema db)
same-bag info db holes before select fits valid formed accepted = λ r. ap (count_by (row_eq r)) (algebra-rows info db holes before select fits valid formed accepted)
