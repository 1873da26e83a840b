use Rattle.std.proofs.Common.{◌∙◌, ap, string_bytes}
use Rattle.explain_text.specs.Memos.{member_line}
use Rattle.explain_text.proofs.MemoSteps.{lines_with, lines_without}
use Rattle.explain_text.proofs.memos.push_members.Goals.{then-member-set+in_ok-push_member, else-member-set}
use Rattle.explain_text.proofs.memos.push_members.Goals as goal

pub loop-member-preserved : goal.loop-member-preserved
loop-member-preserved c =
    let line = member_line c.args.schema.now c.args.tiles.now in
    elim c.if-member-set.branch [
      | then-member-set+in_ok-push_member w ↦ lines_with line (string_bytes c.args.out.now) (string_bytes c.loop-member.out) (string_bytes c.if-member-set.out) c.args.members.now c.args.set
          c.loop-member.member-index c.member-item.result c.loop-member-test.true c.member-item.is w.if-member-set.true c.loop-member.invariant (ap string_bytes w.out-is ∙ w.in_ok-push_member.ensures)
      | else-member-set w ↦ lines_without line (string_bytes c.args.out.now) (string_bytes c.loop-member.out) (string_bytes c.if-member-set.out) c.args.members.now c.args.set
          c.loop-member.member-index c.member-item.result c.loop-member-test.true c.member-item.is w.if-member-set.false c.loop-member.invariant (ap string_bytes w.out-is)
    ]
