-- What an accepted SELECT has: values of the types of their expressions.
use Rattle.std.specs.Prelude.{◌≡◌, ℕ, true, false, List, [], ◌∷◌, ◌++◌, map, All}
use Rattle.std.specs.Option.{IsSomeAnd}
use Rattle.cal_value.specs.declared.kind.SqlType.{SqlType}
use Rattle.cal_value.specs.declared.value.Value.{Value}
use Rattle.cal_value.specs.Types.{IsOfType}
use Rattle.cal_schema.specs.declared.database.Db.{Db}
use Rattle.cal_schema.specs.declared.schema.Schema.{Schema}
use Rattle.sql_tree.specs.declared.select.FromEntry.{FromEntry}
use Rattle.sql_tree.specs.declared.select.Select.{Select}
use Rattle.sql_tree.specs.declared.tree.Tree.{Tree}
use Rattle.sql_meaning.specs.Bounds.{bound_of}
use Rattle.sql_meaning.specs.Direct.{loops, pairs, found, groups_of}
use Rattle.sql_meaning.specs.Parts.{conditions, item_trees, listed, is_aggregate_query}
use Rattle.sql_meaning.specs.Scope.{Header, header_of, scope_of}
use Rattle.sql_meaning.specs.Sizes.{tree_type, output_types}
use Rattle.sql_meaning.specs.Value.{EntryRow, value, group_value}

-- the expression has a type, of which the value is
abbrev pub IsTyped : ℕ → List Header → Tree → Value → Type 0
IsTyped rows scope tree v = IsSomeAnd (tree_type rows scope tree) (IsOfType v)

-- the values of these expressions over a row of each entry
abbrev pub AreTyped : ℕ → List Header → List Tree → List EntryRow → Type 0
AreTyped rows scope trees env = All (λ tree. IsTyped rows scope tree (value env tree)) trees

-- and over a group
abbrev pub AreTypedOver : ℕ → List Header → List Tree → List (List EntryRow) → Type 0
AreTypedOver rows scope trees group = All (λ tree. IsTyped rows scope tree (group_value group tree)) trees

abbrev pub groups : Schema → Db → Select → List (List (List EntryRow))
groups schema db select = groups_of select.groups (found schema db select)

-- the types are those that are looked at before a SELECT is accepted: over the bound of FROM
abbrev pub rows_bound : Schema → Select → ℕ
rows_bound schema select = bound_of (scope_of schema select)

-- the types of the columns of the answer
abbrev pub answer_types : Schema → Select → List SqlType
answer_types schema select = output_types (rows_bound schema select) (scope_of schema select) select.items

pub record HasTypedValues (schema : Schema) (db : Db) (select : Select) : Type 0 where
  -- the conditions of each join, over the entries up to its own
  pub joins : (front : List FromEntry) (entry : FromEntry) (back : List FromEntry) → select.from ≡ front ++ entry ∷ back
      → All (λ env. All (AreTyped (rows_bound schema select) (map (header_of schema) (front ++ entry ∷ [])) (conditions entry)) (pairs schema db entry env)) (loops schema db front [])
  pub filter : All (AreTyped (rows_bound schema select) (scope_of schema select) (listed select.filter)) (loops schema db select.from [])
  -- where there are no groups, of each row
  pub items : is_aggregate_query select ≡ false → All (AreTyped (rows_bound schema select) (scope_of schema select) (item_trees select.items)) (found schema db select)
  pub group_items : is_aggregate_query select ≡ true → All (AreTypedOver (rows_bound schema select) (scope_of schema select) (item_trees select.items)) (groups schema db select)
  pub having : is_aggregate_query select ≡ true → All (AreTypedOver (rows_bound schema select) (scope_of schema select) (listed select.having)) (groups schema db select)
