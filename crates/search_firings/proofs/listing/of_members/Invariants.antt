use Rattle.std.proofs.Common.{◌≡◌, ◌++◌, map, drop}
use Rattle.std.specs.List.{flat_map}
use Rattle.memo_sets.specs.Seen.{member_of}
use Rattle.search_firings.specs.Seen.{firing_of, nodes_of}
use Rattle.search_firings.specs.Steps.{of_asked}
use Rattle.search_firings.proofs.listing.of_members.Given as goal

abbrev pub invariant-loop-member : goal.invariant-loop-member
invariant-loop-member l =
    map firing_of l.all ++ flat_map (λ m. flat_map (of_asked (nodes_of l.nodes) m) l.asked) (map member_of (drop l.member-index l.members))
    ≡ flat_map (λ m. flat_map (of_asked (nodes_of l.nodes) m) l.asked) (map member_of l.members)
