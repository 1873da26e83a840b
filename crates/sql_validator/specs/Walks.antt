-- What is known of a SELECT on the way to its answer: words of private contracts.
use Rattle.std.specs.Prelude.{◌≡◌, ℕ, List, [], ◌∷◌, map, Option, Some, None}
use Rattle.std.specs.Option.{option_or}
use Rattle.cal_schema.specs.declared.refusal.Refusal.{Refusal}
use Rattle.cal_schema.specs.declared.schema.Schema.{Schema}
use Rattle.sql_tree.specs.declared.select.Select.{Select}
use Rattle.sql_tree.specs.declared.select.TableName.{TableName}
use Rattle.sql_meaning.specs.declared.mention.Mention.{Mention}
use Rattle.sql_meaning.specs.Bounds.{bound_of}
use Rattle.sql_meaning.specs.Mentions.{mentions, references}
use Rattle.sql_meaning.specs.Names.{output_names}
use Rattle.sql_meaning.specs.Refused.{unknown_column, ambiguous, type_clash, aggregate_misplaced, not_grouped, order_key, may_not_fit, refusal_of}
use Rattle.sql_meaning.specs.Scope.{Header, column_at, number_of, scope_of}
use Rattle.sql_meaning.specs.Sizes.{output_types}
use Rattle.sql_validator.specs.declared.validator.Outputs.{Outputs}

-- the first of the causes that come from names
abbrev pub name_cause : List Mention → Option Refusal
name_cause all = option_or (unknown_column all) (ambiguous all)

-- of those that come from expressions by themselves
abbrev pub part_cause : List Header → Select → Option Refusal
part_cause scope select = option_or (type_clash scope select) (aggregate_misplaced select)

-- of those that are told last
abbrev pub late_cause : List Header → ℕ → Select → Option Refusal
late_cause scope before select = option_or (not_grouped scope before select) (option_or (order_key scope select) (may_not_fit scope select))

-- of all that come from the entries of FROM
abbrev pub scope_cause : List Header → ℕ → Select → Option Refusal
scope_cause scope before select = option_or (name_cause (mentions scope select)) (option_or (part_cause scope select) (late_cause scope before select))

-- the places of the references, and the names and types of the columns of the answer
pub record HasOutputs (scope : List Header) (select : Select) (made : Outputs) : Type 0 where
  pub columns : made.columns ≡ map (column_at scope) (references select)
  pub names : made.names ≡ output_names scope select.items
  pub types : made.types ≡ output_types (bound_of scope) scope select.items

-- and nothing refuses the SELECT, whose entries have these tables
pub record IsResolved (schema : Schema) (before : ℕ) (select : Select) (tables : List ℕ) (made : Outputs) : Type 0 where
  pub accepted : refusal_of schema before select ≡ None
  pub tables_are : map Some tables ≡ map (λ entry. number_of schema entry.table) select.from
  pub outputs : HasOutputs (scope_of schema select) select made
