use Rattle.std.proofs.Common.{◌≡◌, ◌++◌, drop}
use Rattle.join_images.specs.JoinAssociate.{inside}
use Rattle.rules_join.proofs.associate.all_inside.Given as goal

abbrev pub invariant-loop-conjunct : goal.invariant-loop-conjunct
invariant-loop-conjunct l = l.those ++ inside l.width (drop l.conjunct-index l.conjuncts) ≡ inside l.width l.conjuncts
