use Rattle.std.proofs.Common.{◌≡◌, ◌++◌, map, take}
use Rattle.std.specs.List.{flat_map}
use Rattle.std.specs.Prelude.{string_bytes}
use Rattle.memo_sets.specs.Seen.{member_of}
use Rattle.explain_text.specs.Memos.{member_line, members_of}
use Rattle.explain_text.proofs.memos.push_members.Given as goal

abbrev pub invariant-loop-member : goal.invariant-loop-member
invariant-loop-member l =
    string_bytes l.out ≡ string_bytes l.initial.out ++ flat_map (member_line l.schema l.tiles) (members_of (map member_of (take l.member-index l.members)) l.set)
