use Rattle.std.proofs.Common.{◌≡◌, ◌++◌, drop}
use Rattle.join_images.specs.JoinAssociate.{outside}
use Rattle.rules_join.proofs.associate.outside.Given as goal

abbrev pub invariant-loop-conjunct : goal.invariant-loop-conjunct
invariant-loop-conjunct l = l.those ++ outside l.width (drop l.conjunct-index l.conjuncts) ≡ outside l.width l.conjuncts
