use Rattle.std.proofs.Common.{◌≡◌, ◌++◌, ◌-◌, map}
use Rattle.std.specs.List.{flat_map, range_with_len}
use Rattle.memo_sets.specs.Seen.{member_of}
use Rattle.search_model.specs.Listed.{bindings}
use Rattle.search_firings.specs.Seen.{firing_of, nodes_of}
use Rattle.search_firings.specs.Steps.{of_asked, of_nth}
use Rattle.search_firings.proofs.listing.add_of_rule.Given as goal

abbrev pub invariant-loop-nth : goal.invariant-loop-nth
invariant-loop-nth l =
    let trees = bindings (nodes_of l.nodes) l.rule.reach (member_of l.member).tree in
    map firing_of l.all ++ flat_map (λ n. of_nth (member_of l.member) l.rule.rule n trees) (range_with_len l.nth (l.rule.width - l.nth))
    ≡ map firing_of l.fn.all ++ of_asked (nodes_of l.nodes) (member_of l.member) l.rule
