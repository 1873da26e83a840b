-- What a run writes, and its status.
use Rattle.std.specs.Prelude.{ℕ, List, [], ◌++◌, length, Option, Some, None, option_map, IsSome, ⊤, codes, decimal}
use Rattle.cal_schema.specs.declared.schema.Schema.{Schema}
use Rattle.cal_start.specs.Next.{Next, done, next_of}
use Rattle.cal_start.specs.declared.files.FileRead.{FileRead}
use Rattle.command_line.specs.Reading.{reading}
use Rattle.explain_text.specs.declared.memos.Searched.{Searched}
use Rattle.explain_text.specs.Memos.{memo_text}
use Rattle.explain_text.specs.Plans.{plan_text}
use Rattle.memo_sets.specs.Seen.{sets_of}
use Rattle.plan_nodes.specs.PlanTrees.{PlanTree}
use Rattle.plan_nodes.specs.Seen.{plan_tree}
use Rattle.select_planning.specs.declared.planning.Planning.{Planning}
use Rattle.cal_start.specs.declared.fault.StartFault.{StartFault}
use Rattle.cal_start.specs.declared.fault.StartFault.TheVariants as start
use Rattle.cal_start.specs.declared.fault.TableFault.{TableFault}
use Rattle.cal_start.specs.declared.fault.TableFault.TheVariants as table
use Rattle.cal_start.specs.declared.fault.TableName.{TableName}
use Rattle.model_fields.specs.declared.fault.ModelCause.{ModelCause}
use Rattle.model_fields.specs.declared.fault.ModelCause.TheVariants as cause
use Rattle.script_text.specs.Causes.{refusal_text, csv_fault_text}
use Rattle.script_text.specs.Values.{answer_text, table_text}
use Rattle.session_lane.specs.declared.reply.Cause.{Cause}
use Rattle.session_lane.specs.declared.reply.Cause.TheVariants.{Text}
use Rattle.session_lane.specs.declared.reply.Reply.{Reply}
use Rattle.session_lane.specs.declared.reply.Reply.TheVariants.{Rows, Plan, Memo, Refused}
use Rattle.cal_top.specs.declared.record.TopFault.{TopFault}
use Rattle.cal_top.specs.declared.record.TopFault.TheVariants.{BadWords, NotJson, BadModel, Table, TooBig, ReadFault, SinkFault, NoMemory}

-- the fault of a run at a fault of its start
abbrev pub top_fault : StartFault → TopFault
top_fault start.NotJson = NotJson
top_fault (start.BadModel path c) = BadModel path c
top_fault (start.Table t fault) = Table t fault
top_fault (start.TooBig limit) = TooBig limit
top_fault start.ReadFault = ReadFault
top_fault start.NoMemory = NoMemory

abbrev pub model_cause_text : ModelCause → List ℕ
model_cause_text cause.Missing = codes "Missing"
model_cause_text cause.WrongKind = codes "WrongKind"
model_cause_text cause.BadValue = codes "BadValue"
model_cause_text cause.Repeated = codes "Repeated"
model_cause_text cause.TooMany = codes "TooMany"
model_cause_text cause.NoSuchName = codes "NoSuchName"
model_cause_text cause.Compressed = codes "Compressed"
model_cause_text cause.TextTooLong = codes "TextTooLong"
model_cause_text cause.NullValue = codes "NullValue"
model_cause_text cause.KeyTaken = codes "KeyTaken"
model_cause_text cause.NotYet = codes "NotYet"

abbrev pub bad_model_text : List ℕ → ModelCause → List ℕ
bad_model_text path c = codes "model: " ++ path ++ codes ": " ++ model_cause_text c ++ codes "\n"

abbrev pub too_big_cause : ℕ → List ℕ
too_big_cause limit = codes "TooBig limit " ++ decimal limit

abbrev pub table_fault_text : TableFault → List ℕ
table_fault_text (table.Csv fault) = csv_fault_text fault
table_fault_text (table.TooBig limit) = too_big_cause limit

abbrev pub bad_table_text : TableName → TableFault → List ℕ
bad_table_text t fault = codes "table " ++ table_text t.schema t.name ++ codes ": " ++ table_fault_text fault ++ codes "\n"

abbrev pub too_big_text : ℕ → List ℕ
too_big_text limit = codes "model: TooBig limit " ++ decimal limit ++ codes "\n"

-- a failed output has no text of its own
abbrev pub fault_text : TopFault → List ℕ
fault_text BadWords = codes "usage: calq MODEL SQL [--budget N]\n"
fault_text NotJson = codes "model: NotJson\n"
fault_text (BadModel path c) = bad_model_text path c
fault_text (Table t fault) = bad_table_text t fault
fault_text (TooBig limit) = too_big_text limit
fault_text ReadFault = codes "read fault\n"
fault_text (SinkFault of) = []
fault_text NoMemory = codes "no memory\n"

abbrev pub refused_text : Cause → List ℕ
refused_text (Text c) = codes "refused " ++ refusal_text c ++ codes "\n"

-- ---- plans and memos

abbrev pub text_of_plan : Schema → Option PlanTree → List ℕ
text_of_plan schema None = []
text_of_plan schema (Some tree) = plan_text schema tree

abbrev pub searched : Planning → Searched
searched planning = record { root = planning.root; firings = length planning.firings; complete = planning.complete }

abbrev pub text_of_memo : Schema → Planning → List ℕ
text_of_memo schema planning = memo_text schema (searched planning) planning.estimates planning.tiles (sets_of planning.memo)

-- ---- replies

-- header and rows, the lines of the plan or of the memo, or the cause of the refusal
abbrev pub reply_text : Schema → Reply → List ℕ
reply_text schema (Rows at names answer) = answer_text names answer.rows
reply_text schema (Plan at planning) = text_of_plan schema (plan_tree planning.plan)
reply_text schema (Memo at planning) = text_of_memo schema planning
reply_text schema (Refused at cause) = refused_text cause

-- the text of a run with this fault, or with no fault and this reply over this schema
abbrev pub text_of : Schema → Option TopFault → Option Reply → List ℕ
text_of schema (Some fault) reply = fault_text fault
text_of schema None (Some reply) = reply_text schema reply
text_of schema None None = []

-- for the code: a plan that is told is one with as many inputs at each node as its row asks
abbrev pub IsSpelled : Reply → Type 0
IsSpelled (Rows at names answer) = ⊤
IsSpelled (Plan at planning) = IsSome (plan_tree planning.plan)
IsSpelled (Memo at planning) = ⊤
IsSpelled (Refused at cause) = ⊤

-- ---- the schema

abbrev pub no_schema : Schema
no_schema = record { default_schema = None; tables = [] }

abbrev pub schema_in : Option Next → Schema
schema_in (Some (done schema db)) = schema
schema_in next = no_schema

-- the schema that the files give, over which plans and memos are told
unfoldable pub schema_of : List (List ℕ) → List FileRead → Schema
schema_of words files = schema_in (option_map (λ asked. next_of asked.model files) (reading words))

abbrev pub status_of_fault : TopFault → ℕ
status_of_fault BadWords = 2
status_of_fault NotJson = 3
status_of_fault (BadModel path c) = 3
status_of_fault (Table t fault) = 3
status_of_fault (TooBig limit) = 3
status_of_fault ReadFault = 5
status_of_fault (SinkFault of) = 6
status_of_fault NoMemory = 7

abbrev pub status_of_reply : Option Reply → ℕ
status_of_reply (Some (Refused at c)) = 1
status_of_reply (Some (Rows at names answer)) = 0
status_of_reply (Some (Plan at planning)) = 0
status_of_reply (Some (Memo at planning)) = 0
status_of_reply None = 0

abbrev pub status_of : Option TopFault → Option Reply → ℕ
status_of (Some fault) reply = status_of_fault fault
status_of None reply = status_of_reply reply
