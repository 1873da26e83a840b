use Rattle.std.proofs.Common.{◌≤◌, ◌+◌, refl, arith, length, take, get_or}
use Rattle.cal_rel.specs.Tree.{tree_of}
use Rattle.sql_meaning.specs.Scope.{types_in}
use Rattle.sql_types.proofs.Bounded.{types-fewer}
use Rattle.sql_translate.proofs.Joins.{joins-start, joins-turn}
use Rattle.sql_translate.proofs.from.from_tree.Goals as goal

pub loop-at-init : goal.loop-at-init
loop-at-init c = joins-start c.args.from.now c.args.tables.now c.args.scope.now (get_or c.args.tables.now 0 0) _ c.requires.some refl refl

pub joined_with-requires : goal.joined_with-requires
joined_with-requires c =
    let fewer : length (types_in (take (c.loop-at.at + 1) c.args.scope.now)) ≤ length (types_in c.args.scope.now) = types-fewer c.args.scope.now (c.loop-at.at + 1) in omega arith

pub loop-at-preserved : goal.loop-at-preserved
loop-at-preserved c =
    joins-turn c.args.from.now c.args.tables.now c.args.scope.now (take (c.loop-at.at + 1) c.args.scope.now) c.loop-at.at c.index-from-at.result (get_or c.args.tables.now c.loop-at.at 0)
    (tree_of c.loop-at.tree) (tree_of c.in_ok-tree.tree) c.loop-at-test.true c.index-from-at.is refl refl c.in_ok-tree.ensures c.loop-at.invariant
