-- Why a text is no statement, and why a statement isn't answered.
use Rattle.std.specs.Prelude.{ℕ, List, [], ◌∷◌, Option, Some, None, ⊤}
use Rattle.cal_schema.specs.declared.refusal.Refusal.{Refusal}
use Rattle.cal_schema.specs.declared.refusal.Refusal.TheVariants as refused
use Rattle.cal_schema.specs.declared.schema.Schema.{Schema}
use Rattle.sql_meaning.specs.Refused.{first_of}
use Rattle.sql_algebra.specs.Formed.{IsFormed}
use Rattle.sql_parser.specs.Answers.{HasFault, IsFaultOf}
use Rattle.sql_expressions.specs.declared.fault.ParseFault.TheVariants as parse
use Rattle.sql_text.specs.Tokens.{StopsAt}
use Rattle.sql_text.specs.declared.token.Token.{Token}
use Rattle.sql_tree.specs.declared.statement.Statement.{Statement}
use Rattle.sql_tree.specs.declared.statement.Statement.TheVariants.{Select as SelectOf, ExplainPlan, ExplainMemo, Insert, Refresh, CreateTile, DropTile, ChooseTiles}
use Rattle.sql_validator.specs.Refusal.{refusal_in}
use Rattle.sql_validator.specs.declared.checked.Checked.{Checked}
use Rattle.sql_validator.specs.declared.checked.Checked.TheVariants as checked

-- why a text is no statement
abbrev pub IsNoStatement : List ℕ → Refusal → Type 0
IsNoStatement text (refused.NotToken at) = StopsAt text at
IsNoStatement text (refused.TooDeep limit) = HasFault text (parse.TooDeep limit)
IsNoStatement text (refused.TooManyOperators limit) = HasFault text (parse.TooManyOperators limit)
IsNoStatement text refused.NotSql = HasFault text parse.NotSql
IsNoStatement text r = ⊥

-- ---- why a statement isn't answered

-- queries alone are answered
abbrev pub not_a_query : Statement → Option Refusal
not_a_query (SelectOf select) = None
not_a_query (ExplainPlan select) = None
not_a_query (ExplainMemo select) = None
not_a_query (Insert table rows) = Some refused.NotAQuery
not_a_query (Refresh table) = Some refused.NotAQuery
not_a_query (CreateTile tile) = Some refused.NotAQuery
not_a_query (DropTile tile) = Some refused.NotAQuery
not_a_query (ChooseTiles lattice limit) = Some refused.NotAQuery

-- the first cause that holds
abbrev pub refusal : Schema → Statement → Option Refusal
refusal schema s = first_of (not_a_query s ∷ refusal_in schema s ∷ [])

-- ---- what the parser says of tokens: a word of private contracts

abbrev pub IsParseRefusal : List Token → Refusal → Type 0
IsParseRefusal tokens (refused.TooDeep limit) = IsFaultOf tokens (parse.TooDeep limit)
IsParseRefusal tokens (refused.TooManyOperators limit) = IsFaultOf tokens (parse.TooManyOperators limit)
IsParseRefusal tokens refused.NotSql = IsFaultOf tokens parse.NotSql
IsParseRefusal tokens refused.NoMemory = ⊤
IsParseRefusal tokens r = ⊥

-- ---- what the validator answers for each kind of query: words of private contracts

abbrev pub IsOfSelect : Checked → Type 0
IsOfSelect (checked.Select made) = ⊤
IsOfSelect made = ⊥

abbrev pub IsOfPlan : Checked → Type 0
IsOfPlan (checked.ExplainPlan made) = ⊤
IsOfPlan made = ⊥

abbrev pub IsOfMemo : Checked → Type 0
IsOfMemo (checked.ExplainMemo made) = ⊤
IsOfMemo made = ⊥

-- ---- the form that the grammar gives a query: a word of private contracts

abbrev pub IsFormedStatement : Statement → Type 0
IsFormedStatement (SelectOf select) = IsFormed select
IsFormedStatement (ExplainPlan select) = IsFormed select
IsFormedStatement (ExplainMemo select) = IsFormed select
IsFormedStatement s = ⊤
