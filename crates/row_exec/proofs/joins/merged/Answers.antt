use Rattle.cal_schema.specs.declared.join_kind.JoinKind.TheVariants.{Inner}
use Rattle.cal_rel.specs.Bag.{binary_bag}
use Rattle.cal_rel.specs.Tree.{join_on}
use Rattle.exec_ops.specs.Join.{join_rows}
use Rattle.row_exec.proofs.Typed.{answered, split-ready, split-rows}
use Rattle.row_exec.proofs.joins.merged.Goals as goal

pub merge_join-requires-clause-ready : goal.merge_join-requires-clause-ready
merge_join-requires-clause-ready c = split-ready c.args.on.now c.args.widths.0 c.in_ok-on.on c.args.left.now c.args.right.now c.requires.joins c.in_ok-on.ensures.typed

pub returns : goal.returns
returns c =
    answered c.merge_join.result (join_rows Inner c.in_ok-on.on c.args.left.now c.args.right.now) (binary_bag (join_on Inner c.args.on.now) c.args.widths.1 c.args.left.now c.args.right.now)
    (split-rows Inner c.args.on.now c.args.widths.0 c.args.widths.1 c.in_ok-on.on c.args.left.now c.args.right.now c.requires.joins c.in_ok-on.ensures.same c.in_ok-on.ensures.wide) c.merge_join.ensures
