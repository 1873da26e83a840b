use Rattle.std.proofs.Common.{◌≡◌, map, drop}
use Rattle.cal_rel.specs.Tree.{tree_of}
use Rattle.memo_model.specs.Steps.{found}
use Rattle.memo_sets.specs.Seen.{member_of}
use Rattle.memo_sets.proofs.draft.found.Given as goal

abbrev pub invariant-loop-member : goal.invariant-loop-member
invariant-loop-member l = found (tree_of l.node) (map member_of l.members) ≡ found (tree_of l.node) (map member_of (drop l.member-index l.members))
