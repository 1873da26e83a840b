use Rattle.std.proofs.Common.{◌≡◌, ◌++◌, map}
use Rattle.cal_rel.specs.Tree.{tree_of}
use Rattle.memo_sets.specs.Seen.{member_of}
use Rattle.search_firings.specs.Seen.{firing_of}
use Rattle.search_firings.specs.Steps.{of_nth}
use Rattle.search_firings.proofs.listing.add_nth.Given as goal

abbrev pub invariant-loop-binding : goal.invariant-loop-binding
invariant-loop-binding l =
    map firing_of l.all ≡ map firing_of l.fn.all ++ of_nth (member_of l.member) l.rule.rule l.nth (map tree_of l.yielded)
