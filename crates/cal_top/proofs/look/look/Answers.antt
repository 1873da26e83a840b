use Rattle.std.proofs.Common.{◌≡◌, map, refl}
use Rattle.std.specs.Prelude.{IfSome}
use Rattle.cal_top.specs.Texts.{text_of}
use Rattle.cal_top.proofs.RunLemmas.{stopped_cause_of, told-over}
use Rattle.cal_top.proofs.look.look.Goals as goal

pub returns-clause-cause : goal.returns-clause-cause
returns-clause-cause g c =
    stopped_cause_of (map (λ b. (goal.Rule-dyn g (b.vtable, b.value)).meaning b.value) c.args.rules.now) (g.S.Store.state c.args.store.now) (g.S.Store.state c.start-files.new.store) c.args.words.now c.in-Ok-Some.asked _ _ _ _ _ _ _ _
    (rw c.in-Ok-Some.field-0-is at c.in-Ok-Some.ensures.reading) c.in-Err-outcome.is c.start-files.ensures.read c.start-files.ensures.cause c.of_start.ensures
    c.stopped-in-Err-outcome.ensures.fault c.stopped-in-Err-outcome.ensures.files c.stopped-in-Err-outcome.ensures.db c.stopped-in-Err-outcome.ensures.reply

pub returns-in-Ok-reply_over-clause-text : goal.returns-in-Ok-reply_over-clause-text
returns-in-Ok-reply_over-clause-text g c =
    told-over (λ schema. IfSome c.with_reply.result.text (λ text. text.items ≡ text_of schema c.with_reply.result.fault c.with_reply.result.reply))
    (g.S.Store.state c.args.store.now) (g.S.Store.state c.start-files.new.store) c.args.words.now c.in-Ok-Some.asked _ _ _ _ _
    (rw c.in-Ok-Some.field-0-is at c.in-Ok-Some.ensures.reading) c.in-Ok.is refl c.start-files.ensures.cause c.with_reply.ensures.files c.with_reply.ensures.text
