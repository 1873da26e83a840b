use Rattle.std.proofs.Common.{◌≡◌}
use Rattle.cal_rel.specs.Tree.{tree_of}
use Rattle.sql_translate.proofs.Joins.{IsJoined}
use Rattle.sql_translate.proofs.from.from_tree.Given as goal

abbrev pub invariant-loop-at : goal.invariant-loop-at
invariant-loop-at l = IsJoined l.from l.tables l.scope l.at (tree_of l.tree)
