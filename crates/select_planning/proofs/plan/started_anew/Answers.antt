use Rattle.cal_rel.specs.Tree.{tree_of}
use Rattle.select_planning.proofs.Kept.{select-no-holes}
use Rattle.select_planning.proofs.SizeLemmas.{algebra-fits}
use Rattle.select_planning.proofs.plan.started_anew.Goals as goal

pub unreachable-requires : goal.unreachable-requires
unreachable-requires c =
    algebra-fits c.args.schema.now c.args.checked.now c.args.info.now c.requires.accepted
    (rw c.in_ok-tree.ensures.tree at (rw c.in-None.is at c.in_ok-made.ensures))

pub seeded-requires-clause-no_hole : goal.seeded-requires-clause-no_hole
seeded-requires-clause-no_hole c =
    select-no-holes c.args.info.now c.args.schema.now c.args.checked.now.select (tree_of c.in_ok-tree.tree) c.requires.schema c.requires.sets c.in_ok-tree.ensures.means
