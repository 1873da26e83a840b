use Rattle.std.proofs.Common.{map, subst}
use Rattle.cal_rel.specs.Meaning.{MeansTheSame}
use Rattle.cal_rel.specs.Tree.{Tree, tree_of}
use Rattle.sql_algebra.specs.Algebra.{algebra}
use Rattle.select_planning.proofs.Kept.{select-no-holes, is-rewritten, keeps-own, keeps-select}
use Rattle.select_planning.proofs.plan.rewritten.Goals as goal

pub hep-requires-clause-no_hole : goal.hep-requires-clause-no_hole
hep-requires-clause-no_hole g c =
    select-no-holes c.args.info.now c.args.schema.now c.args.checked.now.select (tree_of c.in_ok-tree.tree) c.requires.schema c.requires.sets c.in_ok-tree.ensures.means

pub returns-clause-hep : goal.returns-clause-hep
returns-clause-hep g c =
    is-rewritten (map (λ b. (goal.Rule-dyn g (b.vtable, b.value)).meaning b.value) c.args.rules.now) c.args.schema.now c.args.checked.now.select
    c.args.info.now (tree_of c.in_ok-tree.tree) c.in_ok-made.made
    c.in_ok-tree.ensures.tree c.in_ok-made.ensures.log c.in_ok-made.ensures.last c.in_ok-made.ensures.stopped

pub returns-clause-own : goal.returns-clause-own
returns-clause-own g c =
    keeps-own c.args.schema.now c.args.checked.now.select c.args.info.now (tree_of c.in_ok-tree.tree) c.requires.schema c.in_ok-tree.ensures.tree c.in_ok-tree.ensures.means

pub returns-clause-keeps : goal.returns-clause-keeps
returns-clause-keeps g c =
    keeps-select c.args.checked.now.select c.args.info.now (algebra c.args.schema.now c.args.checked.now.select) (tree_of c.in_ok-made.made.result)
    (keeps-own c.args.schema.now c.args.checked.now.select c.args.info.now (tree_of c.in_ok-tree.tree) c.requires.schema c.in_ok-tree.ensures.tree c.in_ok-tree.ensures.means)
    c.requires.sets c.in_ok-made.ensures.well_formed
    (subst (λ (t : Tree). MeansTheSame c.args.info.now (tree_of c.in_ok-made.made.result) t) c.in_ok-tree.ensures.tree c.in_ok-made.ensures.same)
