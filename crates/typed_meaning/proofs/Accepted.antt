-- An accepted SELECT has values of the types of their expressions.
use Rattle.std.proofs.Common.{◌≡◌, ◌+◌, ◌≤◌, ℕ, Bool, true, false, not, ◌||◌, List, [], ◌∷◌, ◌++◌, length, map, filter, All, Option, Some, None, refl, sym, subst, arith}
use Rattle.std.specs.Prelude.{is_some}
use Rattle.std.specs.List.{list_any}
use Rattle.std.specs.Option.{IsSomeAnd}
use Rattle.std.proofs.lemmas.List.{map-append}
use Rattle.std.proofs.lemmas.List.Elements.{All-nil, All-cons, All-head, All-tail, All-map, All-weaker, All-filter}
use Rattle.cal_value.specs.declared.kind.Kind.TheVariants.{Boolean}
use Rattle.cal_value.specs.declared.kind.SqlType.{SqlType}
use Rattle.cal_value.specs.declared.value.Value.{Value}
use Rattle.cal_value.specs.Types.{IsOfType}
use Rattle.cal_aggregate.specs.Parts.{Part, members, parts}
use Rattle.cal_aggregate.specs.ResultType.{IsBounded}
use Rattle.cal_expr.proofs.Typed.{Typed}
use Rattle.cal_schema.specs.declared.database.Db.{Db}
use Rattle.cal_schema.specs.declared.schema.Schema.{Schema}
use Rattle.cal_schema.specs.Fits.{Fits}
use Rattle.sql_tree.specs.declared.select.FromEntry.{FromEntry}
use Rattle.sql_tree.specs.declared.select.Select.{Select}
use Rattle.sql_tree.specs.declared.tree.ColumnName.{ColumnName}
use Rattle.sql_tree.specs.declared.tree.Tree.{Tree}
use Rattle.sql_meaning.specs.declared.parts.SelectPart.{SelectPart}
use Rattle.sql_meaning.specs.Direct.{loops, pairs, found, same_group, groups_of}
use Rattle.sql_meaning.specs.Groups.{aggregates_in, misplaced_in, ungrouped, group_places}
use Rattle.sql_meaning.specs.Kinds.{kinded}
use Rattle.sql_meaning.specs.Parts.{has_aggregate, conditions, is_aggregate_query, is_empty, item_trees, join_parts, listed}
use Rattle.sql_meaning.specs.Refused.{refusal_of}
use Rattle.sql_meaning.specs.Scope.{Header, column_at, header_of, scope_of}
use Rattle.sql_meaning.specs.Sizes.{tree_type}
use Rattle.sql_meaning.specs.Value.{EntryRow, value, group_value}
use Rattle.typed_meaning.specs.Accepted.{AreTyped, AreTypedOver, groups, rows_bound, HasTypedValues}
use Rattle.typed_meaning.specs.Known.{HasTruthType, HasAllTypes}
use Rattle.typed_meaning.specs.Rows.{IsTypedRow}
use Rattle.typed_meaning.proofs.Bounds.{found-few}
use Rattle.typed_meaning.proofs.Groups.{no-aggregate, group-typed}
use Rattle.typed_meaning.proofs.Lists.{length-filter-le}
use Rattle.typed_meaning.proofs.Nothing.{Nothing, nothing, none-outside, each-false, join-conditions}
use Rattle.typed_meaning.proofs.Rows.{loops-behind, loops-typed, found-typed, pairs-typed, no-rows}
use Rattle.typed_meaning.proofs.Types.{accepted-types}
use Rattle.typed_meaning.proofs.Values.{value-typed}

-- a type that is there is that of the value
there : (v : Value) (o : Option SqlType) (P : SqlType → Type 0) → IsSomeAnd o P → Typed v o → IsSomeAnd o (IsOfType v)
there v None P s h = absurd s
there v (Some t) P s h = h t refl

-- each expression has a type
abbrev HaveTypes : ℕ → List Header → (Tree → SqlType → Type 0) → List Tree → Type 0
HaveTypes rows scope P trees = All (λ tree. IsSomeAnd (tree_type rows scope tree) (P tree)) trees

-- ---- groups

-- no part has more members than the list, and what holds of each element holds of each member
record IsPart {A : Type 0} (P : A → Type 0) (n : ℕ) (part : Part A) : Type 0 where
  all : All P (members part)
  few : length (members part) ≤ n

part-wider : {A : Type 0} (P : A → Type 0) (n : ℕ) (part : Part A) → IsPart P n part → IsPart P (n + 1) part
part-wider P n part h = let few = h.few in record { all = h.all; few = omega arith }

parts-all : {A : Type 0} (P : A → Type 0) (alike : A → A → Bool) (xs : List A) → All P xs → All (IsPart P (length xs)) (parts alike xs)
parts-all P alike [] all = All-nil (IsPart P 0)
parts-all {A} P alike (x ∷ xs) all =
    let part : Part A = record { first = x; later = filter (alike x) xs } in
    let less = length-filter-le (alike x) xs in
    let n : length xs + 1 ≡ length (x ∷ xs) = omega arith in
    let rest = All-weaker (IsPart P (length xs)) (IsPart P (length (x ∷ xs))) (λ q h. subst (λ k. IsPart P k q) n (part-wider P (length xs) q h)) (parts alike xs) (parts-all P alike xs (All-tail P x xs all)) in
    All-cons (IsPart P (length (x ∷ xs))) part (filter (λ q. not (alike x q.first)) (parts alike xs))
    (record { all = All-cons P x (filter (alike x) xs) (All-head P x xs all) (All-filter (alike x) P xs (All-tail P x xs all)); few = omega arith })
    (All-filter (λ q. not (alike x q.first)) (IsPart P (length (x ∷ xs))) (parts alike xs) rest)

-- a group of rows, which has one where there are columns of groups
pub record IsGroup (scope : List Header) (rows : ℕ) (columns : List ColumnName) (group : List (List EntryRow)) : Type 0 where
  pub typed : All (IsTypedRow scope) group
  pub few : IsBounded (length group) rows
  pub some : group ≡ [] → columns ≡ []

pub are_groups : (scope : List Header) (rows : ℕ) (columns : List ColumnName) (envs : List (List EntryRow)) → All (IsTypedRow scope) envs → IsBounded (length envs) rows → All (IsGroup scope rows columns) (groups_of columns envs)
are_groups scope rows [] envs all few = All-cons (IsGroup scope rows []) envs [] (record { typed = all; few = few; some = λ e. refl }) (All-nil (IsGroup scope rows []))
are_groups scope rows (c ∷ cs) envs all few =
    All-map (IsGroup scope rows (c ∷ cs)) members (parts (same_group (c ∷ cs)) envs)
    (All-weaker (IsPart (IsTypedRow scope) (length envs)) (λ p. IsGroup scope rows (c ∷ cs) (members p))
    (λ p h. record { typed = h.all; few = λ l. let most = few l in let part = h.few in omega arith; some = λ e. absurd (cc) })
    (parts (same_group (c ∷ cs)) envs) (parts-all (IsTypedRow scope) (same_group (c ∷ cs)) envs all))

-- ---- lists of expressions

abbrev truth : Tree → SqlType → Type 0
truth tree t = t.kind ≡ Boolean

abbrev kind-of : List Header → Tree → SqlType → Type 0
kind-of scope tree t = t.kind ≡ (kinded scope tree).kind

are_typed : (rows : ℕ) (scope : List Header) (P : Tree → SqlType → Type 0) (trees : List Tree) (env : List EntryRow) → HaveTypes rows scope P trees → IsTypedRow scope env → All (λ tree. has_aggregate tree ≡ false) trees
    → AreTyped rows scope trees env
are_typed rows scope P trees env have h plain i d lt = there (value env _) (tree_type rows scope _) (P _) (have i d lt) (value-typed rows scope env h _ (plain i d lt))

record IsOfGroups (scope : List Header) (columns : List ColumnName) (tree : Tree) : Type 0 where
  apart : (aggregates_in tree).nested ≡ []
  within : ungrouped scope (map (column_at scope) columns) tree ≡ []

-- an empty group comes without columns of groups
no-columns : (scope : List Header) (columns : List ColumnName) (tree : Tree) → columns ≡ [] → ungrouped scope (map (column_at scope) columns) tree ≡ [] → ungrouped scope [] tree ≡ []
no-columns scope columns tree none e = subst (λ cs. ungrouped scope (map (column_at scope) cs) tree ≡ []) none e

are_typed-over : (rows : ℕ) (scope : List Header) (columns : List ColumnName) (P : Tree → SqlType → Type 0) (trees : List Tree) (group : List (List EntryRow)) → HaveTypes rows scope P trees → IsGroup scope rows columns group
    → All (IsOfGroups scope columns) trees → AreTypedOver rows scope trees group
are_typed-over rows scope columns P trees group have g all i d lt =
    let h = all i d lt in
    there (group_value group _) (tree_type rows scope _) (P _) (have i d lt) (group-typed rows scope group g.typed g.few _ h.apart (λ e. no-columns scope columns _ (g.some e) h.within))

-- ---- the whole

either-false : (p q : Bool) → (p || q) ≡ false → q ≡ false
either-false true q e = absurd (cc)
either-false false q e = e

module _ (schema : Schema) (db : Db) (fits : Fits db schema) (before : ℕ) (select : Select) (none : Nothing (scope_of schema select) before select) (types : HasAllTypes schema select) where
  plain-joins : (front : List FromEntry) (entry : FromEntry) (back : List FromEntry) → select.from ≡ front ++ entry ∷ back → All (λ tree. has_aggregate tree ≡ false) (conditions entry)
  plain-joins front entry back e =
      let P : SelectPart → Type 0 = λ p. misplaced_in p ≡ [] in
      All-weaker (λ tree. (aggregates_in tree).all ≡ []) (λ tree. has_aggregate tree ≡ false) (λ tree a. no-aggregate tree a) (conditions entry)
      (join-conditions P 0 front entry back (subst (λ from. All P (join_parts 0 from)) e none.misplaced.joins))

  joins-typed : (front : List FromEntry) (entry : FromEntry) (back : List FromEntry) → select.from ≡ front ++ entry ∷ back
      → All (λ env. All (AreTyped (rows_bound schema select) (map (header_of schema) (front ++ entry ∷ [])) (conditions entry)) (pairs schema db entry env)) (loops schema db front [])
  joins-typed front entry back e =
      let scope = map (header_of schema) front ++ header_of schema entry ∷ [] in
      let same : scope ≡ map (header_of schema) (front ++ entry ∷ []) = sym (map-append (header_of schema) front (entry ∷ [])) in
      let plain = plain-joins front entry back e in
      let have = subst (λ hs. All (HasTruthType (rows_bound schema select) hs) (conditions entry)) (sym same) (types.joins front entry back e) in
      subst (λ hs. All (λ env. All (AreTyped (rows_bound schema select) hs (conditions entry)) (pairs schema db entry env)) (loops schema db front [])) same
      (All-weaker (IsTypedRow (map (header_of schema) front)) (λ env. All (AreTyped (rows_bound schema select) scope (conditions entry)) (pairs schema db entry env))
      (λ env h. All-weaker (IsTypedRow scope) (AreTyped (rows_bound schema select) scope (conditions entry))
      (λ pair k. are_typed (rows_bound schema select) scope truth (conditions entry) pair have k plain) (pairs schema db entry env) (pairs-typed schema db fits (map (header_of schema) front) entry env h))
      (loops schema db front []) (loops-behind schema db fits front [] [] no-rows))

  filter-typed : All (AreTyped (rows_bound schema select) (scope_of schema select) (listed select.filter)) (loops schema db select.from [])
  filter-typed =
      let plain = All-weaker (λ tree. (aggregates_in tree).all ≡ []) (λ tree. has_aggregate tree ≡ false) (λ tree a. no-aggregate tree a) (listed select.filter) none.misplaced.filter in
      All-weaker (IsTypedRow (scope_of schema select)) (AreTyped (rows_bound schema select) (scope_of schema select) (listed select.filter))
      (λ env h. are_typed (rows_bound schema select) (scope_of schema select) truth (listed select.filter) env types.filter h plain) (loops schema db select.from []) (loops-typed schema db fits select)

  items-typed : is_aggregate_query select ≡ false → All (AreTyped (rows_bound schema select) (scope_of schema select) (item_trees select.items)) (found schema db select)
  items-typed e =
      let plain = each-false has_aggregate (item_trees select.items) (either-false (not (is_empty select.groups) || is_some select.having) (list_any has_aggregate (item_trees select.items)) e) in
      All-weaker (IsTypedRow (scope_of schema select)) (AreTyped (rows_bound schema select) (scope_of schema select) (item_trees select.items))
      (λ env h. are_typed (rows_bound schema select) (scope_of schema select) (kind-of (scope_of schema select)) (item_trees select.items) env types.items h plain) (found schema db select) (found-typed schema db fits select)

  of_groups : (trees : List Tree) → All (λ tree. (aggregates_in tree).nested ≡ []) trees → All (λ tree. ungrouped (scope_of schema select) (group_places (scope_of schema select) select) tree ≡ []) trees
      → All (IsOfGroups (scope_of schema select) select.groups) trees
  of_groups trees a b k d lt = record { apart = a k d lt; within = b k d lt }

  over-groups : (P : Tree → SqlType → Type 0) (trees : List Tree) → HaveTypes (rows_bound schema select) (scope_of schema select) P trees → All (IsOfGroups (scope_of schema select) select.groups) trees
      → All (AreTypedOver (rows_bound schema select) (scope_of schema select) trees) (groups schema db select)
  over-groups P trees have all =
      All-weaker (IsGroup (scope_of schema select) (rows_bound schema select) select.groups) (AreTypedOver (rows_bound schema select) (scope_of schema select) trees)
      (λ group g. are_typed-over (rows_bound schema select) (scope_of schema select) select.groups P trees group have g all) (groups schema db select)
      (are_groups (scope_of schema select) (rows_bound schema select) select.groups (found schema db select) (found-typed schema db fits select) (found-few schema db fits select))

  group_items-typed : is_aggregate_query select ≡ true → All (AreTypedOver (rows_bound schema select) (scope_of schema select) (item_trees select.items)) (groups schema db select)
  group_items-typed e = over-groups (kind-of (scope_of schema select)) (item_trees select.items) types.items (of_groups (item_trees select.items) none.misplaced.items (none-outside (scope_of schema select) before select none e).items)

  having-typed : is_aggregate_query select ≡ true → All (AreTypedOver (rows_bound schema select) (scope_of schema select) (listed select.having)) (groups schema db select)
  having-typed e = over-groups truth (listed select.having) types.having (of_groups (listed select.having) none.misplaced.having (none-outside (scope_of schema select) before select none e).having)

  typed-values : HasTypedValues schema db select
  typed-values = record { joins = joins-typed; filter = filter-typed; items = items-typed; group_items = group_items-typed; having = having-typed }

pub accepted-typed : (schema : Schema) (db : Db) (before : ℕ) (select : Select) → Fits db schema → refusal_of schema before select ≡ None → HasTypedValues schema db select
accepted-typed schema db before select fits e = typed-values schema db fits before select (nothing schema before select e) (accepted-types schema before select e)
