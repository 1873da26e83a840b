use Rattle.cal_rel.specs.Bag.{binary_bag}
use Rattle.cal_rel.specs.Tree.{join_on}
use Rattle.exec_ops.specs.Join.{join_rows}
use Rattle.row_exec.proofs.Typed.{answered, split-ready, split-rows}
use Rattle.row_exec.proofs.joins.nested.Goals as goal

pub nested_join-requires : goal.nested_join-requires
nested_join-requires c = split-ready c.args.on.now c.args.widths.0 c.in_ok-on.on c.args.left.now c.args.right.now c.requires c.in_ok-on.ensures.typed

pub returns : goal.returns
returns c =
    answered c.nested_join.result (join_rows c.args.kind c.in_ok-on.on c.args.left.now c.args.right.now) (binary_bag (join_on c.args.kind c.args.on.now) c.args.widths.1 c.args.left.now c.args.right.now)
    (split-rows c.args.kind c.args.on.now c.args.widths.0 c.args.widths.1 c.in_ok-on.on c.args.left.now c.args.right.now c.requires c.in_ok-on.ensures.same c.in_ok-on.ensures.wide) c.nested_join.ensures
