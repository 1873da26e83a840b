use Rattle.std.proofs.Common.{refl, []}
use Rattle.cal_rel.specs.Info.{info_of}
use Rattle.cal_rel.specs.Tree.{tree_of}
use Rattle.select_planning.proofs.Kept.{select-typed, select-no-holes}
use Rattle.sql_tests.proofs.tests.trees.translated_text.Goals as goal

pub rewritten_text-requires-clause-well_formed : goal.rewritten_text-requires-clause-well_formed
rewritten_text-requires-clause-well_formed g c =
    select-typed (info_of c.args.schema.now [] []) c.args.schema.now c.args.made.now.select (tree_of c.in_ok-tree.tree) refl c.in_ok-tree.ensures.means

pub rewritten_text-requires-clause-no_hole : goal.rewritten_text-requires-clause-no_hole
rewritten_text-requires-clause-no_hole g c =
    select-no-holes (info_of c.args.schema.now [] []) c.args.schema.now c.args.made.now.select (tree_of c.in_ok-tree.tree) refl refl c.in_ok-tree.ensures.means
