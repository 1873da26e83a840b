use Rattle.std.proofs.Common.{◌∙◌, ◌++◌, ap, sym, string_bytes}
use Rattle.std.proofs.lemmas.Result.{on_ok_weaker}
use Rattle.cal_schema.specs.declared.refusal.Refusal.{Refusal}
use Rattle.script_text.specs.Causes.{refusal_text}
use Rattle.script_text.proofs.causes.push_refusal.Goals as goal

pub returns-in-UnknownTable : goal.returns-in-UnknownTable
returns-in-UnknownTable c = on_ok_weaker c.push_named.result (λ e. e ∙ ap (λ (r : Refusal). string_bytes c.args.out.now ++ refusal_text r) (sym c.in-UnknownTable.is)) c.push_named.ensures

pub returns-in-UnknownColumn : goal.returns-in-UnknownColumn
returns-in-UnknownColumn c = on_ok_weaker c.push_named-in-UnknownColumn.result (λ e. e ∙ ap (λ (r : Refusal). string_bytes c.args.out.now ++ refusal_text r) (sym c.in-UnknownColumn.is)) c.push_named-in-UnknownColumn.ensures
