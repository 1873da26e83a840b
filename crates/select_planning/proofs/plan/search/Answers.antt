use Rattle.std.proofs.Common.{map}
use Rattle.cal_rel.specs.Tree.{tree_of}
use Rattle.memo_sets.specs.Seen.{sets_of}
use Rattle.search_firings.specs.Seen.{firing_of}
use Rattle.sql_algebra.specs.Algebra.{algebra}
use Rattle.select_planning.proofs.StartLemmas.{is-found}
use Rattle.select_planning.proofs.plan.search.Goals as goal

pub returns : goal.returns
returns g c =
    is-found (map (λ b. (goal.Rule-dyn g (b.vtable, b.value)).meaning b.value) c.args.rules.now) c.args.budget c.args.info.now c.args.checked.now.select
    (algebra c.args.schema.now c.args.checked.now.select) (tree_of c.args.tree.now) (sets_of c.in_ok-memo.memo) (sets_of c.in_ok-explored.explored.memo) c.in_ok-memo.set c.root_in-root.result
    (map firing_of c.in_ok-explored.explored.firings) c.in_ok-explored.explored.complete
    c.requires.own c.requires.keeps c.in_ok-memo.ensures c.in_ok-explored.ensures.explored c.in_ok-explored.ensures.grown c.root_in-root.ensures
