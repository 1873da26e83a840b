-- The rows of an answer have values of the types of its columns.
use Rattle.std.proofs.Common.{◌≡◌, ◌∙◌, ◌+◌, ℕ, Bool, true, false, cond, not, List, [], ◌∷◌, ◌++◌, length, map, filter, All, Option, Some, None, refl, sym, ap, subst}
use Rattle.std.specs.List.{flat_map, filter_map, cons_option, list_all}
use Rattle.std.specs.Option.{IsSomeAnd}
use Rattle.std.proofs.lemmas.List.Elements.{All-cons, All-head, All-tail, All-map, All-filter}
use Rattle.cal_value.specs.declared.kind.SqlType.{SqlType}
use Rattle.cal_value.specs.declared.value.Value.{Value}
use Rattle.cal_value.specs.Equal.{row_eq}
use Rattle.cal_value.specs.Types.{IsOfType, HasTypes}
use Rattle.cal_aggregate.specs.Parts.{distinct}
use Rattle.cal_schema.specs.declared.column.ColumnDef.{ColumnDef}
use Rattle.cal_schema.specs.declared.database.Db.{Db}
use Rattle.cal_schema.specs.declared.schema.Schema.{Schema}
use Rattle.cal_schema.specs.Fits.{Fits}
use Rattle.sql_tree.specs.declared.select.Item.{Item}
use Rattle.sql_tree.specs.declared.select.Items.{Items}
use Rattle.sql_tree.specs.declared.select.Items.TheVariants.{Star, Listed}
use Rattle.sql_tree.specs.declared.select.Select.{Select}
use Rattle.sql_tree.specs.declared.tree.ColumnName.{ColumnName}
use Rattle.sql_tree.specs.declared.tree.Tree.{Tree}
use Rattle.sql_meaning.specs.Direct.{direct, once, answered, found, groups_of, group_items, item_values, keeps_group, star_values, shown}
use Rattle.sql_meaning.specs.Groups.{is_grouped, group_places, star_ungrouped, part_ungrouped}
use Rattle.sql_meaning.specs.Kinds.{unless}
use Rattle.sql_meaning.specs.Names.{places_from, star_places}
use Rattle.sql_meaning.specs.Parts.{is_aggregate_query, item_trees, parts_of}
use Rattle.sql_meaning.specs.Refused.{refusal_of, star_place}
use Rattle.sql_meaning.specs.Scope.{Header, column_at, hidden_by, is_among, scope_of, type_of_column}
use Rattle.sql_meaning.specs.Sizes.{tree_type, shown_types, output_types}
use Rattle.sql_meaning.specs.Value.{EntryRow, value, group_value}
use Rattle.sql_meaning.proofs.Nothing.{both-empty}
use Rattle.typed_meaning.specs.Accepted.{IsTyped, AreTyped, AreTypedOver, groups, rows_bound, HasTypedValues}
use Rattle.typed_meaning.specs.Rows.{IsFilled, IsTypedRow}
use Rattle.typed_meaning.proofs.Accepted.{accepted-typed, IsGroup, are_groups}
use Rattle.typed_meaning.proofs.Bounds.{found-few}
use Rattle.typed_meaning.proofs.Known.{unless-right}
use Rattle.typed_meaning.proofs.Nothing.{All-of_map, Nothing, nothing}
use Rattle.typed_meaning.proofs.Rows.{headers, types-append, found-typed}

-- ---- listed items

-- a type that is there, and of which the value is
abbrev IsOfSome : Option SqlType → Value → Type 0
IsOfSome o v = IsSomeAnd o (IsOfType v)

one-typed : (o : Option SqlType) (v : Value) (vs : List Value) (ts : List SqlType) → IsOfSome o v → HasTypes vs ts → HasTypes (v ∷ vs) (cons_option o ts)
one-typed None v vs ts h k = absurd h
one-typed (Some t) v vs ts h k = (h, k)

listed-typed : (f : Item → Option SqlType) (g : Item → Value) (items : List Item) → All (λ item. IsOfSome (f item) (g item)) items → HasTypes (map g items) (filter_map f items)
listed-typed f g [] all = tt
listed-typed f g (item ∷ items) all =
    one-typed (f item) (g item) (map g items) (filter_map f items) (All-head (λ item. IsOfSome (f item) (g item)) item items all) (listed-typed f g items (All-tail (λ item. IsOfSome (f item) (g item)) item items all))

-- the values of listed items, by each expression's value
items-typed : (rows : ℕ) (scope : List Header) (value : Tree → Value) (items : List Item) → All (λ tree. IsTyped rows scope tree (value tree)) (map (λ item. item.tree) items)
    → HasTypes (map (λ item. value item.tree) items) (filter_map (λ item. tree_type rows scope item.tree) items)
items-typed rows scope value items h =
    listed-typed (λ item. tree_type rows scope item.tree) (λ item. value item.tree) items (All-of_map (λ tree. IsTyped rows scope tree (value tree)) (λ (item : Item). item.tree) items h)

-- ---- `*`

shown-typed : (hidden : List (List ℕ)) (f : ColumnDef → SqlType) (columns : List ColumnDef) (row : List Value) → HasTypes row (map f columns) → HasTypes (shown hidden columns row) (shown hidden columns (map f columns))
shown-typed hidden f [] row h = tt
shown-typed hidden f (c ∷ cs) [] h = absurd h
shown-typed hidden f (c ∷ cs) (v ∷ row) h = by (is_among c.name hidden) (shown-typed hidden f cs row h.1)
  where
    by : (b : Bool) → HasTypes (shown hidden cs row) (shown hidden cs (map f cs)) → HasTypes (cond b (shown hidden cs row) (v ∷ shown hidden cs row)) (cond b (shown hidden cs (map f cs)) (f c ∷ shown hidden cs (map f cs)))
    by true k = k
    by false k = (h.0, k)

stars-typed : (env : List EntryRow) → All IsFilled env → HasTypes (star_values env) (flat_map shown_types (headers env))
stars-typed [] all = tt
stars-typed (b ∷ bs) all =
    types-append (shown (hidden_by b.header.entry.how) b.header.table.columns b.row) (star_values bs) (shown_types b.header) (flat_map shown_types (headers bs))
    (shown-typed (hidden_by b.header.entry.how) (type_of_column b.header) b.header.table.columns b.row (All-head IsFilled b bs all)) (stars-typed bs (All-tail IsFilled b bs all))

star-typed : (scope : List Header) (env : List EntryRow) → IsTypedRow scope env → HasTypes (star_values env) (flat_map shown_types scope)
star-typed scope env h = subst (λ hs. HasTypes (star_values env) (flat_map shown_types hs)) h.headers (stars-typed env h.filled)

-- where no place is shown, no type is
shown-none : (hidden : List (List ℕ)) (f : ColumnDef → SqlType) (at : ℕ) (columns : List ColumnDef) → shown hidden columns (places_from at columns) ≡ [] → shown hidden columns (map f columns) ≡ []
shown-none hidden f at [] e = refl
shown-none hidden f at (c ∷ cs) e = by (is_among c.name hidden) (shown-none hidden f (at + 1) cs) e
  where
    by : (b : Bool) → (shown hidden cs (places_from (at + 1) cs) ≡ [] → shown hidden cs (map f cs) ≡ []) → cond b (shown hidden cs (places_from (at + 1) cs)) (at ∷ shown hidden cs (places_from (at + 1) cs)) ≡ []
        → cond b (shown hidden cs (map f cs)) (f c ∷ shown hidden cs (map f cs)) ≡ []
    by true later g = later g
    by false later g = absurd (cc)

star-none : (before : ℕ) (scope : List Header) → star_places before scope ≡ [] → flat_map shown_types scope ≡ []
star-none before [] e = refl
star-none before (h ∷ hs) e =
    let both = both-empty (shown (hidden_by h.entry.how) h.table.columns (places_from before h.table.columns)) (star_places (before + length h.table.columns) hs) e in
    ap (λ ts. ts ++ flat_map shown_types hs) (shown-none (hidden_by h.entry.how) (type_of_column h) before h.table.columns both.0) ∙ star-none (before + length h.table.columns) hs both.1

none-grouped : (places : List ℕ) → list_all (is_grouped []) places ≡ true → places ≡ []
none-grouped [] e = refl
none-grouped (place ∷ places) e = absurd (cc)

-- ---- over groups

group-row-typed : (rows : ℕ) (scope : List Header) (columns : List ColumnName) (place : ℕ) (items : Items) (group : List (List EntryRow))
    → star_ungrouped scope (map (column_at scope) columns) place items ≡ [] → IsGroup scope rows columns group → AreTypedOver rows scope (item_trees items) group → HasTypes (group_items items group) (output_types rows scope items)
group-row-typed rows scope columns place Star [] e g k =
    let P : List ColumnName → Type 0 = λ cs. unless (list_all (is_grouped (map (column_at scope) cs)) (star_places 0 scope)) place ≡ [] in
    let none = unless-right (list_all (is_grouped []) (star_places 0 scope)) place (subst P (g.some refl) e) in
    subst (HasTypes []) (sym (star-none 0 scope (none-grouped (star_places 0 scope) none))) tt
group-row-typed rows scope columns place Star (env ∷ group) e g k = star-typed scope env (All-head (IsTypedRow scope) env group g.typed)
group-row-typed rows scope columns place (Listed items) group e g k = items-typed rows scope (group_value group) items k

row-typed : (rows : ℕ) (scope : List Header) (items : Items) (env : List EntryRow) → IsTypedRow scope env → AreTyped rows scope (item_trees items) env → HasTypes (item_values items env) (output_types rows scope items)
row-typed rows scope Star env g k = star-typed scope env g
row-typed rows scope (Listed items) env g k = items-typed rows scope (value env) items k

-- ---- DISTINCT

distinct-all : {A : Type 0} (P : A → Type 0) (alike : A → A → Bool) (xs : List A) → All P xs → All P (distinct alike xs)
distinct-all P alike [] all = all
distinct-all P alike (x ∷ xs) all =
    All-cons P x (filter (λ y. not (alike x y)) (distinct alike xs)) (All-head P x xs all) (All-filter (λ y. not (alike x y)) P (distinct alike xs) (distinct-all P alike xs (All-tail P x xs all)))

once-all : (P : List Value → Type 0) (asked : Bool) (rows : List (List Value)) → All P rows → All P (once asked rows)
once-all P true rows all = distinct-all P row_eq rows all
once-all P false rows all = all

-- ---- the whole

module _ (schema : Schema) (db : Db) (fits : Fits db schema) (before : ℕ) (select : Select) (none : Nothing (scope_of schema select) before select) (values : HasTypedValues schema db select) where
  abbrev scope : List Header
  scope = scope_of schema select

  abbrev bound : ℕ
  bound = rows_bound schema select

  abbrev IsOutput : List Value → Type 0
  IsOutput row = HasTypes row (output_types bound scope select.items)

  star-grouped : is_aggregate_query select ≡ true → star_ungrouped scope (group_places scope select) (star_place before select) select.items ≡ []
  star-grouped e = (both-empty (star_ungrouped scope (group_places scope select) (star_place before select) select.items) (flat_map (part_ungrouped scope (group_places scope select)) (parts_of select)) (none.outside e)).0

  groups-typed : is_aggregate_query select ≡ true → All IsOutput (map (group_items select.items) (filter (keeps_group select.having) (groups schema db select)))
  groups-typed e =
      let are = are_groups scope bound select.groups (found schema db select) (found-typed schema db fits select) (found-few schema db fits select) in
      let typed = values.group_items e in
      All-map IsOutput (group_items select.items) (filter (keeps_group select.having) (groups schema db select))
      (All-filter (keeps_group select.having) (λ group. IsOutput (group_items select.items group)) (groups schema db select)
      (λ i d lt. group-row-typed bound scope select.groups (star_place before select) select.items _ (star-grouped e) (are i d lt) (typed i d lt)))

  rows-typed : is_aggregate_query select ≡ false → All IsOutput (map (item_values select.items) (found schema db select))
  rows-typed e =
      let are = found-typed schema db fits select in
      let typed = values.items e in
      All-map IsOutput (item_values select.items) (found schema db select) (λ i d lt. row-typed bound scope select.items _ (are i d lt) (typed i d lt))

  answered-typed : All IsOutput (answered select (found schema db select))
  answered-typed = by (is_aggregate_query select) refl
    where
      by : (b : Bool) → is_aggregate_query select ≡ b
          → All IsOutput (cond b (map (group_items select.items) (filter (keeps_group select.having) (groups_of select.groups (found schema db select)))) (map (item_values select.items) (found schema db select)))
      by true e = groups-typed e
      by false e = rows-typed e

  direct-typed : All IsOutput (direct select schema db)
  direct-typed = once-all IsOutput select.distinct (answered select (found schema db select)) answered-typed

pub answer-typed : (schema : Schema) (db : Db) (before : ℕ) (select : Select) → Fits db schema → refusal_of schema before select ≡ None
    → All (λ row. HasTypes row (output_types (rows_bound schema select) (scope_of schema select) select.items)) (direct select schema db)
answer-typed schema db before select fits e = direct-typed schema db fits before select (nothing schema before select e) (accepted-typed schema db before select fits e)
