-- Lists of types, and the types of the items of a query without groups.
use Rattle.std.proofs.Common.{◌≡◌, ℕ, zero, suc, ◌+◌, Bool, true, false, cond, List, [], ◌∷◌, ◌++◌, map, length, All, Option, Some, None, option_map, slice_get, refl, sym, ◌∙◌, ap, subst, arith}
use mathlib.Core.Path.{ap₂}
use Rattle.std.specs.Bool.{Decides}
use Rattle.std.specs.List.{flat_map, filter_map, list_any}
use Rattle.std.specs.Option.{IsSomeAnd, option_and_then}
use Rattle.std.proofs.lemmas.List.{append_assoc, length-append, length-map}
use Rattle.std.proofs.lemmas.List.Elements.{All-head, All-tail}
use Rattle.std.proofs.lemmas.Option.{same_Some}
use Rattle.cal_value.specs.declared.kind.Kind.TheVariants.{Integer}
use Rattle.cal_value.specs.declared.kind.SqlType.{SqlType}
use Rattle.cal_value.specs.Interval.{is_in_range}
use Rattle.cal_value.specs.Types.{integer_type, is_integer}
use Rattle.cal_value.proofs.TypeLemmas.{same_kind-is}
use Rattle.cal_expr.specs.declared.expr.Expr.{Expr}
use Rattle.cal_expr.specs.declared.expr.Expr.TheVariants.{Column}
use Rattle.cal_expr.specs.Typing as expressions
use Rattle.cal_schema.specs.declared.column.ColumnDef.{ColumnDef}
use Rattle.cal_schema.specs.declared.rel_type.RelType.{RelType}
use Rattle.cal_rel.specs.Info.{Info}
use Rattle.cal_rel.specs.Ranges.{IsInRange}
use Rattle.cal_rel.specs.Tree.{Tree as RelTree, unary, project_to}
use Rattle.cal_rel.specs.Typing.{of_both, types_by, of_columns, project_type, filter_type, type_of}
use Rattle.sql_tree.specs.declared.select.Item.{Item}
use Rattle.sql_tree.specs.declared.select.Items.{Items}
use Rattle.sql_tree.specs.declared.select.Items.TheVariants.{Star, Listed}
use Rattle.sql_tree.specs.declared.tree.Tree.{Tree}
use Rattle.sql_meaning.specs.Direct.{shown}
use Rattle.sql_meaning.specs.Kinds.{kinded}
use Rattle.sql_meaning.specs.Names.{places_from, star_places}
use Rattle.sql_meaning.specs.Parts.{has_aggregate, item_trees, listed}
use Rattle.sql_meaning.specs.Scope.{Header, hidden_by, is_among, type_of_column, types_in}
use Rattle.sql_meaning.specs.Sizes.{tree_type, shown_types, output_types}
use Rattle.sql_to_rel.specs.Numbered.{numbered}
use Rattle.sql_to_rel.proofs.Rolls.{fold-Column}
use Rattle.sql_to_rel.proofs.Types.{type_of-numbered}
use Rattle.typed_meaning.specs.Known.{HasType}
use Rattle.typed_meaning.proofs.Nothing.{All-of_map}
use Rattle.sql_algebra.specs.Algebra.{kept, row_items}
use Rattle.sql_algebra.proofs.FromTypes.{IsTruth, condition-is}

-- ---- the type of a column is its own

own-kind : (t : SqlType) → IsInRange t → expressions.column_type t ≡ Some t
own-kind t h = by (is_integer t) refl
  where
    at_range : (b : Bool) → b ≡ true → cond b (Some (integer_type t.nullable t.interval)) None ≡ Some (integer_type t.nullable t.interval)
    at_range true e = refl
    at_range false e = absurd (cc)

    made : (s : SqlType) → s.kind ≡ Integer → integer_type s.nullable s.interval ≡ s
    made s e = ap (λ k. record { kind = k; nullable = s.nullable; interval = s.interval }) (sym e)

    by : (b : Bool) → is_integer t ≡ b → cond b (cond (is_in_range t.interval) (Some (integer_type t.nullable t.interval)) None) (Some t) ≡ Some t
    by true e = let k = same_kind-is t.kind Integer e in at_range (is_in_range t.interval) (h k) ∙ ap Some (made t k)
    by false e = refl

pub own-type : (o : Option SqlType) → ((t : SqlType) → o ≡ Some t → IsInRange t) → option_and_then expressions.column_type o ≡ o
own-type None h = refl
own-type (Some t) h = own-kind t (h t refl)

pub in-range-at : (ts : List SqlType) → All IsInRange ts → (at : ℕ) (t : SqlType) → slice_get ts at ≡ Some t → IsInRange t
in-range-at [] h at t e = absurd (cc)
in-range-at (s ∷ ts) h zero t e = subst IsInRange (same_Some s t e) (All-head IsInRange s ts h)
in-range-at (s ∷ ts) h (suc at) t e = in-range-at ts (All-tail IsInRange s ts h) at t e

pub column-type : (ts : List SqlType) → All IsInRange ts → (at : ℕ) → expressions.type_of (Column at) ts ≡ slice_get ts at
column-type ts h at = fold-Column (expressions.type_step ts) at ∙ own-type (slice_get ts at) (in-range-at ts h at)

-- ---- lists of types

pub types-same : {A B : Type 0} (f : A → Option SqlType) (g : B → Option SqlType) (i : B → A) (xs : List B) → All (λ x. f (i x) ≡ g x) xs → types_by f (map i xs) ≡ types_by g xs
types-same f g i [] h = refl
types-same f g i (x ∷ xs) h = ap₂ (of_both (λ t ts. Some (t ∷ ts))) (All-head (λ x. f (i x) ≡ g x) x xs h) (types-same f g i xs (All-tail (λ x. f (i x) ≡ g x) x xs h))

both-append : (o : Option SqlType) (p : Option (List SqlType)) (ss : List SqlType) → of_both (λ t ts. Some (t ∷ ts)) o (option_map (λ us. us ++ ss) p) ≡ option_map (λ us. us ++ ss) (of_both (λ t ts. Some (t ∷ ts)) o p)
both-append None p ss = refl
both-append (Some t) None ss = refl
both-append (Some t) (Some ts) ss = refl

types-append : {A : Type 0} (f : A → Option SqlType) (xs ys : List A) (ss : List SqlType) → types_by f ys ≡ Some ss → types_by f (xs ++ ys) ≡ option_map (λ us. us ++ ss) (types_by f xs)
types-append f [] ys ss e = e
types-append f (x ∷ xs) ys ss e = ap (of_both (λ t ts. Some (t ∷ ts)) (f x)) (types-append f xs ys ss e) ∙ both-append (f x) (types_by f xs) ss

listed-one : (o : Option SqlType) (P : SqlType → Type 0) (ts : List SqlType) → IsSomeAnd o P → of_both (λ t ts. Some (t ∷ ts)) o (Some ts) ≡ Some (Rattle.std.specs.List.cons_option o ts)
listed-one None P ts h = absurd h
listed-one (Some t) P ts h = refl

pub types-listed : (f : Item → Option SqlType) (P : Item → SqlType → Type 0) (items : List Item) → All (λ item. IsSomeAnd (f item) (P item)) items → types_by f items ≡ Some (filter_map f items)
types-listed f P [] h = refl
types-listed f P (item ∷ items) h =
    ap (of_both (λ t ts. Some (t ∷ ts)) (f item)) (types-listed f P items (All-tail (λ item. IsSomeAnd (f item) (P item)) item items h))
    ∙ listed-one (f item) (P item) (filter_map f items) (All-head (λ item. IsSomeAnd (f item) (P item)) item items h)

-- ---- `*`

get-at : (before : List SqlType) (t : SqlType) (rest : List SqlType) → slice_get (before ++ t ∷ rest) (length before) ≡ Some t
get-at [] t rest = refl
get-at (s ∷ before) t rest = get-at before t rest

shown-types : (hidden : List (List ℕ)) (cs : List ColumnDef) (before ts rest : List SqlType) → length ts ≡ length cs
    → types_by (slice_get (before ++ (ts ++ rest))) (shown hidden cs (places_from (length before) cs)) ≡ Some (shown hidden cs ts)
shown-types hidden [] before ts rest h = refl
shown-types hidden (c ∷ cs) before [] rest h = absurd (omega arith)
shown-types hidden (c ∷ cs) before (t ∷ ts) rest h =
    by (is_among c.name hidden)
    (sym (ap₂ (λ whole n. types_by (slice_get whole) (shown hidden cs (places_from n cs))) (append_assoc before (t ∷ []) (ts ++ rest)) (length-append before (t ∷ [])))
    ∙ shown-types hidden cs (before ++ t ∷ []) ts rest (omega arith))
  where
    by : (b : Bool) → types_by (slice_get (before ++ (t ∷ (ts ++ rest)))) (shown hidden cs (places_from (length before + 1) cs)) ≡ Some (shown hidden cs ts)
        → types_by (slice_get (before ++ (t ∷ (ts ++ rest)))) (cond b (shown hidden cs (places_from (length before + 1) cs)) (length before ∷ shown hidden cs (places_from (length before + 1) cs))) ≡ Some (cond b (shown hidden cs ts) (t ∷ shown hidden cs ts))
    by true e = e
    by false e = ap₂ (of_both (λ t ts. Some (t ∷ ts))) (get-at before t (ts ++ rest)) e

stars-types : (scope : List Header) (before : List SqlType) → types_by (slice_get (before ++ types_in scope)) (star_places (length before) scope) ≡ Some (flat_map shown_types scope)
stars-types [] before = refl
stars-types (h ∷ hs) before =
    let columns = h.table.columns in
    let hidden = hidden_by h.entry.how in
    let own = map (type_of_column h) columns in
    let whole = before ++ (own ++ types_in hs) in
    let rest : types_by (slice_get (before ++ (map (type_of_column h) h.table.columns ++ types_in hs))) (star_places (length before + length columns) hs) ≡ Some (flat_map shown_types hs) =
    sym (ap₂ (λ whole n. types_by (slice_get whole) (star_places n hs)) (append_assoc before own (types_in hs)) (length-append before own ∙ ap (λ n. length before + n) (length-map columns (type_of_column h))))
    ∙ stars-types hs (before ++ own) in
    types-append (slice_get whole) (shown hidden columns (places_from (length before) columns)) (star_places (length before + length columns) hs) (flat_map shown_types hs) rest
    ∙ ap (option_map (λ us. us ++ flat_map shown_types hs)) (shown-types hidden columns before own (types_in hs) (length-map columns (type_of_column h)))

pub star-types : (scope : List Header) → types_by (slice_get (types_in scope)) (star_places 0 scope) ≡ Some (flat_map shown_types scope)
star-types scope = stars-types scope []

-- ---- items of rows

pub each-of : {A : Type 0} (P : A → Type 0) → ((x : A) → P x) → (xs : List A) → All P xs
each-of P h xs = λ i d lt. h _

pub row-types : (rows : ℕ) (scope : List Header) → All IsInRange (types_in scope) → (items : Items) → All (HasType rows scope) (item_trees items) → All (λ tree. has_aggregate tree ≡ false) (item_trees items)
    → types_by (λ e. expressions.type_of e (types_in scope)) (row_items scope items) ≡ Some (output_types rows scope items)
row-types rows scope range Star h plain =
    types-same (λ e. expressions.type_of e (types_in scope)) (slice_get (types_in scope)) Column (star_places 0 scope)
    (each-of (λ at. expressions.type_of (Column at) (types_in scope) ≡ slice_get (types_in scope) at) (column-type (types_in scope) range) (star_places 0 scope))
    ∙ star-types scope
row-types rows scope range (Listed items) h plain =
    let p = All-of_map (HasType rows scope) (λ (item : Item). item.tree) items h in
    let q = All-of_map (λ tree. has_aggregate tree ≡ false) (λ (item : Item). item.tree) items plain in
    types-same (λ e. expressions.type_of e (types_in scope)) (λ (item : Item). tree_type rows scope item.tree) (λ item. numbered scope item.tree) items
    (λ i d lt. type_of-numbered rows scope _ (q i d lt))
    ∙ types-listed (λ item. tree_type rows scope item.tree) (λ item t. t.kind ≡ (kinded scope item.tree).kind) items p

-- ---- nodes

pub kept-type : (info : Info) (meaning : Tree → Expr) (condition : Option Tree) (tree : RelTree) (t : RelType) → type_of info tree ≡ Some t → All (λ c. IsTruth t.columns (meaning c)) (listed condition)
    → type_of info (kept meaning condition tree) ≡ Some t
kept-type info meaning None tree t e all = e
kept-type info meaning (Some c) tree t e all =
    ap (option_and_then (filter_type (meaning c))) e
    ∙ ap (λ b. cond b (Some t) None) (condition-is t.columns (meaning c) (All-head (λ c. IsTruth t.columns (meaning c)) c [] all))

pub project-type : (info : Info) (items : List Expr) (tree : RelTree) (t : RelType) (ts : List SqlType) → type_of info tree ≡ Some t → types_by (λ e. expressions.type_of e t.columns) items ≡ Some ts
    → type_of info (unary (project_to items) tree) ≡ Some (of_columns t.bound ts)
project-type info items tree t ts e f = ap (option_and_then (project_type items)) e ∙ ap (option_map (of_columns t.bound)) f

pub own-columns : {A : Type 0} (before ts : List SqlType) (xs : List A) → length ts ≡ length xs → types_by (slice_get (before ++ ts)) (places_from (length before) xs) ≡ Some ts
own-columns before [] [] h = refl
own-columns before [] (x ∷ xs) h = absurd (omega arith)
own-columns before (t ∷ ts) [] h = absurd (omega arith)
own-columns before (t ∷ ts) (x ∷ xs) h =
    ap₂ (of_both (λ t ts. Some (t ∷ ts))) (get-at before t ts)
    (sym (ap₂ (λ whole n. types_by (slice_get whole) (places_from n xs)) (append_assoc before (t ∷ []) ts) (length-append before (t ∷ [])))
    ∙ own-columns (before ++ t ∷ []) ts xs (omega arith))
