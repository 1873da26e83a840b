use Rattle.std.proofs.Common.{◌≡◌, ◌++◌, map, drop}
use Rattle.std.specs.List.{flat_map}
use Rattle.memo_sets.specs.Seen.{member_of}
use Rattle.search_firings.specs.Seen.{firing_of, nodes_of}
use Rattle.search_firings.specs.Steps.{of_asked}
use Rattle.search_firings.proofs.listing.add_of_member.Given as goal

abbrev pub invariant-loop-rule : goal.invariant-loop-rule
invariant-loop-rule l =
    map firing_of l.all ++ flat_map (of_asked (nodes_of l.nodes) (member_of l.member)) (drop l.rule-index l.asked)
    ≡ map firing_of l.fn.all ++ flat_map (of_asked (nodes_of l.nodes) (member_of l.member)) l.asked
