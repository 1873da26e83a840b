-- Expressions that have a type.
use Rattle.std.specs.Prelude.{◌≡◌, ℕ, ◌==◌, List, [], ◌∷◌, ◌++◌, map, find, All, None}
use Rattle.std.specs.Option.{IsSomeAnd}
use Rattle.cal_value.specs.declared.kind.Kind.TheVariants.{Boolean}
use Rattle.cal_schema.specs.declared.schema.Schema.{Schema}
use Rattle.sql_tree.specs.declared.select.FromEntry.{FromEntry}
use Rattle.sql_tree.specs.declared.select.Select.{Select}
use Rattle.sql_tree.specs.declared.tree.Tree.{Tree}
use Rattle.sql_meaning.specs.Kinds.{kinded}
use Rattle.sql_meaning.specs.Parts.{columns_in, conditions, item_trees, listed}
use Rattle.sql_meaning.specs.Scope.{Header, header_of, homes, scope_of}
use Rattle.sql_meaning.specs.Sizes.{tree_type}
use Rattle.typed_meaning.specs.Accepted.{rows_bound}

-- each column is one of an entry
abbrev pub HasKnownColumns : List Header → Tree → Type 0
HasKnownColumns scope tree = find (λ c. homes scope c == 0) (columns_in tree) ≡ None

-- it has a type, which is of its kind
abbrev pub HasType : ℕ → List Header → Tree → Type 0
HasType rows scope tree = IsSomeAnd (tree_type rows scope tree) (λ t. t.kind ≡ (kinded scope tree).kind)

-- it has a type, which is that of a truth value
abbrev pub HasTruthType : ℕ → List Header → Tree → Type 0
HasTruthType rows scope tree = IsSomeAnd (tree_type rows scope tree) (λ t. t.kind ≡ Boolean)

-- each expression of a SELECT has a type, and each condition that of a truth value
pub record HasAllTypes (schema : Schema) (select : Select) : Type 0 where
  pub items : All (HasType (rows_bound schema select) (scope_of schema select)) (item_trees select.items)
  -- the conditions of each join, over the entries up to its own
  pub joins : (front : List FromEntry) (entry : FromEntry) (back : List FromEntry) → select.from ≡ front ++ entry ∷ back
      → All (HasTruthType (rows_bound schema select) (map (header_of schema) (front ++ entry ∷ []))) (conditions entry)
  pub filter : All (HasTruthType (rows_bound schema select) (scope_of schema select)) (listed select.filter)
  pub having : All (HasTruthType (rows_bound schema select) (scope_of schema select)) (listed select.having)
