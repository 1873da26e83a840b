-- The tree of a SELECT has a column for each name of the answer, and each key of ORDER BY is one of them.
use Rattle.std.proofs.Common.{◌≡◌, ◌∙◌, ℕ, ℤ, zero, suc, pos, negsuc, ◌+◌, ◌<◌, Bool, true, false, cond, List, [], ◌∷◌, ◌++◌, length, map, Option, Some, None, refl, sym, ap, ap₂, subst, arith}
use Rattle.std.specs.Prelude.{All, nat_lt, position, filter_map, option_map, count_by, ◌==◌}
use Rattle.std.specs.List.{cons_option}
use Rattle.std.specs.Option.{is_none, option_and_then}
use Rattle.std.proofs.lemmas.List.{length-map, length-append}
use Rattle.std.proofs.lemmas.List.Elements.{All-nil, All-cons}
use Rattle.std.proofs.lemmas.Bool.Decides.{nat_tests}
use Rattle.cal_value.specs.declared.order.KeyOrder.{KeyOrder}
use Rattle.cal_schema.specs.declared.column.ColumnDef.{ColumnDef}
use Rattle.cal_schema.specs.declared.schema.Schema.{Schema}
use Rattle.cal_schema.specs.Lookup.{is_same_name}
use Rattle.cal_schema.proofs.NameLemmas.{position-below}
use Rattle.cal_expr.specs.declared.expr.Expr.TheVariants.{Column}
use Rattle.cal_rel.specs.Bag.{width}
use Rattle.cal_rel.specs.Info.{Info}
use Rattle.cal_rel.specs.Tree.{Tree as RelTree}
use Rattle.sql_tree.specs.declared.select.Item.{Item}
use Rattle.sql_tree.specs.declared.select.Items.{Items}
use Rattle.sql_tree.specs.declared.select.Items.TheVariants.{Star, Listed}
use Rattle.sql_tree.specs.declared.select.KeyBy.{KeyBy}
use Rattle.sql_tree.specs.declared.select.KeyBy.TheVariants.{Place, Column as ColumnOf}
use Rattle.sql_tree.specs.declared.select.OrderKey.{OrderKey}
use Rattle.sql_tree.specs.declared.select.Select.{Select}
use Rattle.sql_tree.specs.declared.tree.ColumnName.{ColumnName}
use Rattle.sql_tree.specs.declared.tree.Tree.TheViews.{out-Tree}
use Rattle.sql_meaning.specs.Direct.{shown}
use Rattle.sql_meaning.specs.Names.{item_names, shown_names, star_names, output_names, places_from, star_places, place_of_node, output_places}
use Rattle.sql_meaning.specs.Order.{placed, named_once, is_at, first_at, qualified_column, column_named, key_column, key_order, keys_of}
use Rattle.sql_meaning.specs.Parts.{is_aggregate_query}
use Rattle.sql_meaning.specs.Scope.{Header, hidden_by, is_among, place_of, scope_of}
use Rattle.sql_to_rel.specs.Numbered.{numbered}
use Rattle.sql_algebra.specs.Algebra.{row_items, group_items, layout_of, group_answer, row_answer, answer_tree, once_tree, from_tree, kept, algebra}
use Rattle.sql_algebra.proofs.Whole.{as-many-items}
use Rattle.plan_meaning.specs.WellFormed.{HasKeysWithin}

-- ---- as many names as items

item-names : (k : ℕ) (items : List Item) → length (item_names k items) ≡ length items
item-names k [] = refl
item-names k (item ∷ items) = ap suc (item-names (k + 1) items)

either-even : {A B : Type 0} (b : Bool) (xs : List A) (ys : List B) (x : A) (y : B) → length xs ≡ length ys → length (cond b xs (x ∷ xs)) ≡ length (cond b ys (y ∷ ys))
either-even true xs ys x y e = e
either-even false xs ys x y e = ap suc e

shown-even : {A B : Type 0} (hidden : List (List ℕ)) (cs : List ColumnDef) (xs : List A) (ys : List B) → length xs ≡ length ys → length (shown hidden cs xs) ≡ length (shown hidden cs ys)
shown-even hidden [] xs ys e = refl
shown-even hidden (c ∷ cs) [] [] e = refl
shown-even hidden (c ∷ cs) [] (y ∷ ys) e = absurd (omega arith)
shown-even hidden (c ∷ cs) (x ∷ xs) [] e = absurd (omega arith)
shown-even hidden (c ∷ cs) (x ∷ xs) (y ∷ ys) e = either-even (is_among c.name hidden) (shown hidden cs xs) (shown hidden cs ys) x y (shown-even hidden cs xs ys (omega arith))

places-long : {A : Type 0} (at : ℕ) (xs : List A) → length (places_from at xs) ≡ length xs
places-long at [] = refl
places-long at (x ∷ xs) = ap suc (places-long (at + 1) xs)

star-even : (before : ℕ) (scope : List Header) → length (star_places before scope) ≡ length (star_names scope)
star-even before [] = refl
star-even before (h ∷ hs) =
    let columns = h.table.columns in
    let hidden = hidden_by h.entry.how in
    let own : length (shown hidden columns (places_from before columns)) ≡ length (shown_names h) =
    shown-even hidden columns (places_from before columns) (map (λ c. c.name) columns) (places-long before columns ∙ sym (length-map columns (λ c. c.name))) in
    length-append (shown hidden columns (places_from before columns)) (star_places (before + length columns) hs)
    ∙ ap₂ (λ m n. m + n) own (star-even (before + length columns) hs)
    ∙ sym (length-append (shown_names h) (star_names hs))

items-even : (scope : List Header) (items : Items) → length (row_items scope items) ≡ length (output_names scope items)
items-even scope Star = length-map (star_places 0 scope) Column ∙ star-even 0 scope
items-even scope (Listed items) = length-map items (λ (item : Item). numbered scope item.tree) ∙ sym (item-names 0 items)

places-even : (scope : List Header) (items : Items) → length (output_places scope items) ≡ length (output_names scope items)
places-even scope Star = length-map (star_places 0 scope) Some ∙ star-even 0 scope
places-even scope (Listed items) = length-map items (λ (item : Item). place_of_node scope (out-Tree item.tree)) ∙ sym (item-names 0 items)

-- ---- columns of the tree

pub algebra-width : (info : Info) (schema : Schema) (select : Select) → width info (algebra schema select) ≡ length (output_names (scope_of schema select) select.items)
algebra-width info schema select = by_distinct select.distinct
  where
    scope : List Header
    scope = scope_of schema select

    inner : RelTree
    inner = kept (numbered scope) select.filter (from_tree schema select.from)

    names : ℕ
    names = length (output_names scope select.items)

    by_groups : (b : Bool) → width info (cond b (group_answer scope (layout_of scope select) select inner) (row_answer scope select inner)) ≡ names
    by_groups true = as-many-items scope (layout_of scope select) select.items ∙ items-even scope select.items
    by_groups false = items-even scope select.items

    by_distinct : (b : Bool) → width info (once_tree b (places_from 0 (row_items scope select.items)) (answer_tree scope select inner)) ≡ names
    by_distinct true = plus-none (length (places_from 0 (row_items scope select.items))) ∙ places-long 0 (row_items scope select.items) ∙ items-even scope select.items
      where
        plus-none : (n : ℕ) → n + 0 ≡ n
        plus-none n = omega arith
    by_distinct false = by_groups (is_aggregate_query select)

-- ---- keys

placed-below : (count : ℕ) (n : ℤ) (at : ℕ) → placed count n ≡ Some at → at < count
placed-below count (pos zero) at e = absurd cc
placed-below count (pos (suc k)) at e = by (nat_lt k count) refl e
  where
    by : (b : Bool) → nat_lt k count ≡ b → cond b (Some k) None ≡ Some at → at < count
    by true h e = let same : k ≡ at = cc in let below : k < count = grind (arith, nat_tests) in omega (arith, below, same)
    by false h e = absurd cc
placed-below count (negsuc n) at e = absurd cc

named-below : (names : List (List ℕ)) (name : List ℕ) (at : ℕ) → named_once names name ≡ Some at → at < length names
named-below names name at e = by (count_by (is_same_name name) names == 1) e
  where
    by : (b : Bool) → cond b (position (is_same_name name) names) None ≡ Some at → at < length names
    by true e = position-below (is_same_name name) names at e
    by false e = absurd cc

qualified-below : (scope : List Header) (items : Items) (c : ColumnName) (at : ℕ) → qualified_column scope items c ≡ Some at → at < length (output_names scope items)
qualified-below scope items c at e = by (place_of scope c) e
  where
    by : (o : Option ℕ) → option_and_then (first_at (output_places scope items)) o ≡ Some at → at < length (output_names scope items)
    by None e = absurd cc
    by (Some place) e = subst (λ n. at < n) (places-even scope items) (position-below (is_at place) (output_places scope items) at e)

column-below : (scope : List Header) (items : Items) (c : ColumnName) (at : ℕ) → column_named scope items c ≡ Some at → at < length (output_names scope items)
column-below scope items c at e = by (is_none c.alias) e
  where
    by : (b : Bool) → cond b (named_once (output_names scope items) c.name) (qualified_column scope items c) ≡ Some at → at < length (output_names scope items)
    by true e = named-below (output_names scope items) c.name at e
    by false e = qualified-below scope items c at e

key-below : (scope : List Header) (items : Items) (by_what : KeyBy) (at : ℕ) → key_column scope items by_what ≡ Some at → at < length (output_names scope items)
key-below scope items (Place n) at e = placed-below (length (output_names scope items)) n at e
key-below scope items (ColumnOf c) at e = column-below scope items c at e

abbrev IsWithin : ℕ → KeyOrder → Type 0
IsWithin n key = key.column < n

key-added : (n : ℕ) (key : OrderKey) (keys : List KeyOrder) (o : Option ℕ) → ((at : ℕ) → o ≡ Some at → at < n) → All (IsWithin n) keys
    → All (IsWithin n) (cons_option (option_map (λ column. record { column = column; descending = key.descending; nulls_first = key.nulls_first }) o) keys)
key-added n key keys None below rest = rest
key-added n key keys (Some at) below rest =
    All-cons (IsWithin n) (record { column = at; descending = key.descending; nulls_first = key.nulls_first }) keys (below at refl) rest

keys-below : (scope : List Header) (items : Items) (order : List OrderKey) → All (IsWithin (length (output_names scope items))) (filter_map (key_order scope items) order)
keys-below scope items [] = All-nil (IsWithin (length (output_names scope items)))
keys-below scope items (key ∷ order) =
    key-added (length (output_names scope items)) key (filter_map (key_order scope items) order) (key_column scope items key.by) (key-below scope items key.by) (keys-below scope items order)

-- each key of ORDER BY is a column of the SELECT's tree
pub keys-within : (info : Info) (schema : Schema) (select : Select) → HasKeysWithin (width info (algebra schema select)) (keys_of (scope_of schema select) select)
keys-within info schema select = record {
  within = subst (λ n. All (IsWithin n) (keys_of (scope_of schema select) select)) (sym (algebra-width info schema select)) (keys-below (scope_of schema select) select.items select.order);
}
