use Rattle.std.proofs.Common.{length, slice_get, sym, ap, arith}
use Rattle.cal_rel.proofs.TypeSteps.{types_by-none, types_by-more, types_by-all}
use Rattle.cal_rel.proofs.typing.key_types.Goals as goal

pub returns-in_default : goal.returns-in_default
returns-in_default c =
    let e = c.as_slice-group-items.ensures in
    sym (types_by-none (slice_get c.args.columns.now) c.args.groups.now c.loop-group.group-index 0 (omega (arith, ap length e)) (cc))

pub loop-group-preserved : goal.loop-group-preserved
loop-group-preserved c =
    let e = c.as_slice-group-items.ensures in
    let more = types_by-more (slice_get c.args.columns.now) c.args.groups.now c.loop-group.group-index 0 c.in-Some.t c.loop-group.types (omega (arith, ap length e)) (cc) c.loop-group.invariant in
    rw c.in_ok-push.ensures.ok more

pub returns : goal.returns
returns c = let e = c.as_slice-group-items.ensures in sym (types_by-all (slice_get c.args.columns.now) c.args.groups.now c.loop-group.group-index c.loop-group.types (omega (arith, ap length e)) c.loop-group.invariant)
