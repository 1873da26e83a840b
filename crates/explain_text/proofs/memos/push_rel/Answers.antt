use Rattle.std.proofs.Common.{string_bytes}
use Rattle.explain_text.proofs.RelSteps.{aggregate-printed}
use Rattle.explain_text.proofs.memos.push_rel.Goals as goal

pub returns-in_ok-push_aggregate-in-Aggregate : goal.returns-in_ok-push_aggregate-in-Aggregate
returns-in_ok-push_aggregate-in-Aggregate c =
    aggregate-printed c.push_input-in-Aggregate.result c.args.schema.now c.args.tiles.now c.args.rel.now c.in-Aggregate.input c.get-in-Aggregate.result.now c.in-Aggregate.groups
    c.in-Aggregate.calls (string_bytes c.args.out.now) (string_bytes c.push_aggregate.new.out) (string_bytes c.push_input-in-Aggregate.new.out) c.in-Aggregate.is c.get-in-Aggregate.ensures
    c.in_ok-push_aggregate-in-Aggregate.ensures c.push_input-in-Aggregate.ensures
