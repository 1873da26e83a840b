use Rattle.std.proofs.Common.{map, take, sym, ap, ◌∙◌, ◌++◌, ◌∷◌, [], cond}
use Rattle.std.specs.Prelude.{◌==◌}
use Rattle.cal_rel.specs.Tree.{tree_of}
use Rattle.memo_sets.specs.Seen.{member_of}
use Rattle.search_firings.proofs.BySetSteps.{in_set-next}
use Rattle.search_firings.proofs.by_set.BySet.of.Goals as goal

pub loop-member-preserved : goal.loop-member-preserved
loop-member-preserved c = λ k.
    let member = c.member-item.result in
    c.in_ok-add.ensures k
    ∙ ap (λ ys. ys ++ cond (member.set == k) (tree_of member.rel ∷ []) []) (c.loop-member.invariant k)
    ∙ sym (in_set-next member_of c.args.members.now c.loop-member.member-index member k c.loop-member-test.true c.member-item.is)
