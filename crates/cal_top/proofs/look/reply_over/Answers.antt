use Rattle.std.proofs.Common.{rules, ◌≡◌, ◌∙◌, map, subst, sym, ap}
use Rattle.std.specs.Prelude.{List}
use Rattle.std.proofs.lemmas.Result.{IfOk-weaker}
use Rattle.std.specs.Arc.{arc_value}
use Rattle.cal_schema.specs.declared.database.Db.{Db}
use Rattle.cal_snapshot.specs.Parts.{start_of}
use Rattle.cal_value.specs.declared.value.Value.{Value}
use Rattle.session_lane.specs.declared.reply.Reply.{Reply}
use Rattle.session_lane.specs.Replies.{IsReplyTo}
use Rattle.cal_top.specs.Texts.{IsSpelled}
use Rattle.cal_top.proofs.ReplyLemmas.{same_tables, spelled}
use Rattle.cal_top.proofs.look.reply_over.Goals as goal

pub returns-clause-db : goal.returns-clause-db
returns-clause-db g c =
    let over : List (List (List Value)) → Db = λ tables. record { tables = tables } in
    IfOk-weaker c.with_tables.result _ _ (λ made is. is ∙ ap over c.in_ok-parts.ensures) c.with_tables.ensures.db

pub returns-clause-reply : goal.returns-clause-reply
returns-clause-reply g c =
    let all = map (λ b. (goal.Rule-dyn g (b.vtable, b.value)).meaning b.value) c.args.rules.now in
    let tables : map arc_value c.in_ok-again.again ≡ c.args.db.tables = search rules in
    IfOk-weaker c.with_tables.result _ _
    (λ made is. subst (λ (r : Reply). IsReplyTo all c.args.budget c.args.schema.now (start_of c.args.db.tables) c.args.sql.now r) (sym is)
    (same_tables all c.args.budget c.args.schema.now c.args.sql.now c.in_ok-reply.reply _ c.args.db.tables tables c.in_ok-reply.ensures))
    c.with_tables.ensures.reply

pub returns-clause-spelled : goal.returns-clause-spelled
returns-clause-spelled g c =
    let all = map (λ b. (goal.Rule-dyn g (b.vtable, b.value)).meaning b.value) c.args.rules.now in
    IfOk-weaker c.with_tables.result _ _
    (λ made is. subst IsSpelled (sym is)
    (spelled all c.args.budget c.args.schema.now (start_of (map arc_value c.in_ok-again.again)) c.args.sql.now c.in_ok-reply.reply c.in_ok-reply.ensures))
    c.with_tables.ensures.reply
