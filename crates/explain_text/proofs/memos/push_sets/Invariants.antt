use Rattle.std.proofs.Common.{◌≡◌, ◌++◌, map, take}
use Rattle.std.specs.List.{flat_map}
use Rattle.std.specs.Prelude.{string_bytes}
use Rattle.memo_sets.specs.Seen.{member_of}
use Rattle.explain_text.specs.Memos.{set_text}
use Rattle.explain_text.proofs.memos.push_sets.Given as goal

abbrev pub invariant-loop-set : goal.invariant-loop-set
invariant-loop-set l =
    string_bytes l.out ≡ string_bytes l.initial.out ++ flat_map (set_text l.schema l.estimates l.tiles (map member_of l.members)) (take l.set-index l.sets)
