-- What an accepted statement has.
use Rattle.std.specs.Prelude.{◌≡◌, ℕ, List, map, Some, None}
use Rattle.cal_value.specs.declared.value.Value.{Value}
use Rattle.cal_schema.specs.declared.schema.Schema.{Schema}
use Rattle.sql_tree.specs.declared.select.Select.{Select}
use Rattle.sql_tree.specs.declared.select.TableName.{TableName}
use Rattle.sql_tree.specs.declared.statement.Statement.{Statement}
use Rattle.sql_tree.specs.declared.statement.Statement.TheVariants as statement
use Rattle.sql_meaning.specs.Bounds.{bound_of}
use Rattle.sql_meaning.specs.Mentions.{references}
use Rattle.sql_meaning.specs.Names.{output_names}
use Rattle.sql_meaning.specs.Refused.{refusal_of}
use Rattle.sql_meaning.specs.Scope.{column_at, number_of, scope_of}
use Rattle.sql_meaning.specs.Sizes.{output_types}
use Rattle.sql_validator.specs.Refusal.{explain_tokens, refusal_in}
use Rattle.sql_validator.specs.declared.checked.Checked.{Checked}
use Rattle.sql_validator.specs.declared.checked.Checked.TheVariants as checked
use Rattle.sql_validator.specs.declared.checked.CheckedSelect.{CheckedSelect}

-- the SELECT, which nothing refuses, with the table of each entry of FROM, the places of its references, and the names and types of its columns
pub record IsChecked (schema : Schema) (before : ℕ) (select : Select) (made : CheckedSelect) : Type 0 where
  pub kept : made.select ≡ select
  pub accepted : refusal_of schema before select ≡ None
  pub tables : map Some made.tables ≡ map (λ entry. number_of schema entry.table) select.from
  pub columns : made.columns ≡ map (column_at (scope_of schema select)) (references select)
  pub names : made.names ≡ output_names (scope_of schema select) select.items
  pub types : made.types ≡ output_types (bound_of (scope_of schema select)) (scope_of schema select) select.items

-- nothing refuses the statement, and the table is the one that it names
pub record HasTable (schema : Schema) (statement : Statement) (name : TableName) (table : ℕ) : Type 0 where
  pub accepted : refusal_in schema statement ≡ None
  pub number : Some table ≡ number_of schema name

-- the accepted statement with its names resolved
abbrev pub IsCheckedStatement : Schema → Statement → Checked → Type 0
IsCheckedStatement schema s (checked.Select made) = (select : Select) × (s ≡ statement.Select select) × IsChecked schema 0 select made
IsCheckedStatement schema s (checked.ExplainPlan made) = (select : Select) × (s ≡ statement.ExplainPlan select) × IsChecked schema explain_tokens select made
IsCheckedStatement schema s (checked.ExplainMemo made) = (select : Select) × (s ≡ statement.ExplainMemo select) × IsChecked schema explain_tokens select made
IsCheckedStatement schema s (checked.Insert table rows) = (name : TableName) × (s ≡ statement.Insert name rows) × HasTable schema s name table
IsCheckedStatement schema s (checked.Refresh table) = (name : TableName) × (s ≡ statement.Refresh name) × HasTable schema s name table
