-- What the reply to a statement has to be.
use Rattle.std.specs.Prelude.{◌≡◌, ◌⊎◌, ℕ, List, map, Some, None}
use Rattle.cal_value.specs.Order.{SameBag}
use Rattle.cal_schema.specs.declared.schema.Schema.{Schema}
use Rattle.cal_snapshot.specs.Parts.{Parts}
use Rattle.plan_scans.specs.Scans.{tables_of}
use Rattle.row_exec.specs.Run.{IsRun}
use Rattle.rule_hep.specs.Meaning.{Meaning}
use Rattle.rule_hep.specs.Seen.{step_of}
use Rattle.sql_meaning.specs.Answer.{IsAnswer}
use Rattle.sql_meaning.specs.Names.{output_names}
use Rattle.sql_meaning.specs.Scope.{scope_of}
use Rattle.sql_parser.specs.Answers.{IsStatement}
use Rattle.sql_tree.specs.declared.select.Select.{Select}
use Rattle.sql_tree.specs.declared.statement.Statement.{Statement}
use Rattle.sql_tree.specs.declared.statement.Statement.TheVariants.{Select as SelectOf, ExplainPlan, ExplainMemo}
use Rattle.select_planning.specs.declared.planning.Planning.{Planning}
use Rattle.select_planning.specs.Planned.{IsPlanned}
use Rattle.session_lane.specs.declared.answer.Answer.{Answer}
use Rattle.session_lane.specs.declared.reply.Cause.TheVariants.{Text}
use Rattle.session_lane.specs.declared.reply.Reply.{Reply}
use Rattle.session_lane.specs.declared.reply.Reply.TheVariants.{Rows, Plan, Memo, Refused}
use Rattle.session_lane.specs.Statements.{IsNoStatement, refusal}

-- The statement is a SELECT without a cause of refusal; the names are those of its columns, the rows an answer to it over the snapshot's
-- tables. It is planned by these rules over the snapshot, and the rows are those of its plan, in the order that the plan gives.
pub record IsAnswered (rules : List Meaning) (budget : ℕ) (schema : Schema) (parts : Parts) (statement : Statement) (at : ℕ) (names : List (List ℕ)) (answer : Answer) : Type 0 where
  pub select : Select
  pub is_select : statement ≡ SelectOf select
  pub accepted : refusal schema statement ≡ None
  pub place : at ≡ 0
  pub names_are : names ≡ output_names (scope_of schema select) select.items
  pub rows_are : IsAnswer select schema (tables_of parts) answer.rows
  pub planned : IsPlanned rules budget schema parts select answer.planning
  pub run : IsRun schema parts answer.planning.plan answer.rows

-- The statement explains a SELECT without a cause of refusal, which is planned by these rules over the snapshot.
pub record IsExplained (rules : List Meaning) (budget : ℕ) (schema : Schema) (parts : Parts) (explain : Select → Statement) (statement : Statement) (at : ℕ) (planning : Planning) : Type 0 where
  pub select : Select
  pub is_explained : statement ≡ explain select
  pub accepted : refusal schema statement ≡ None
  pub place : at ≡ 0
  pub planned : IsPlanned rules budget schema parts select planning

-- the reply to a statement
abbrev pub Answers : List Meaning → ℕ → Schema → Parts → Statement → Reply → Type 0
Answers rules budget schema parts statement (Rows at names answer) = IsAnswered rules budget schema parts statement at names answer
Answers rules budget schema parts statement (Plan at planning) = IsExplained rules budget schema parts ExplainPlan statement at planning
Answers rules budget schema parts statement (Memo at planning) = IsExplained rules budget schema parts ExplainMemo statement at planning
Answers rules budget schema parts statement (Refused at (Text cause)) = (at ≡ None) × (refusal schema statement ≡ Some cause)

-- the reply tells why the text is no statement
abbrev pub TellsNoStatement : List ℕ → Reply → Type 0
TellsNoStatement text (Rows at names answer) = ⊥
TellsNoStatement text (Plan at planning) = ⊥
TellsNoStatement text (Memo at planning) = ⊥
TellsNoStatement text (Refused at (Text cause)) = (at ≡ None) × IsNoStatement text cause

-- the text is a statement, and the reply is one to it
pub record AnswersText (rules : List Meaning) (budget : ℕ) (schema : Schema) (parts : Parts) (text : List ℕ) (reply : Reply) : Type 0 where
  pub statement : Statement
  pub is_statement : IsStatement text statement
  pub answers : Answers rules budget schema parts statement reply

-- the reply to a text over a snapshot, planned by these rules
abbrev pub IsReplyTo : List Meaning → ℕ → Schema → Parts → List ℕ → Reply → Type 0
IsReplyTo rules budget schema parts text reply = AnswersText rules budget schema parts text reply ⊎ TellsNoStatement text reply

-- planned by the same steps
abbrev pub AreSameSteps : Planning → Planning → Type 0
AreSameSteps a b = map step_of a.hep.log ≡ map step_of b.hep.log

-- the same refusal, the same rows under the same names by the same steps, where each row stands as often, in any order; or plans or memos by the same steps
abbrev pub AreSameReplies : Reply → Reply → Type 0
AreSameReplies (Rows at names answer) (Rows at' names' answer') =
    (at ≡ at') × (names ≡ names') × SameBag answer.rows answer'.rows × AreSameSteps answer.planning answer'.planning
AreSameReplies (Plan at planning) (Plan at' planning') = (at ≡ at') × AreSameSteps planning planning'
AreSameReplies (Memo at planning) (Memo at' planning') = (at ≡ at') × AreSameSteps planning planning'
AreSameReplies (Refused at cause) (Refused at' cause') = (at ≡ at') × (cause ≡ cause')
AreSameReplies a b = ⊥
