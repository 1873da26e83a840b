use Rattle.std.proofs.Common.{◌≡◌}
use Rattle.std.specs.List.{filter, range_with_len}
use Rattle.std.specs.Prelude.{is_some}
use Rattle.cal_rel.specs.Info.{set_at}
use Rattle.explain_text.proofs.memos.sets_there.Given as goal

abbrev pub invariant-loop-set : goal.invariant-loop-set
invariant-loop-set l = l.sets ≡ filter (λ k. is_some (set_at l.types k)) (range_with_len 0 l.set)
