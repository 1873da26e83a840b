use Rattle.std.proofs.Common.{ℕ, List, map, sym, ap, ◌∙◌, ◌++◌, ◌+◌, ◌-◌, append_assoc}
use Rattle.std.specs.List.{flat_map, range_with_len}
use Rattle.memo_sets.specs.Seen.{member_of}
use Rattle.search_model.specs.Firings as plain
use Rattle.search_model.specs.Listed.{bindings}
use Rattle.search_firings.specs.Seen.{firing_of, nodes_of}
use Rattle.search_firings.specs.Steps.{of_nth}
use Rattle.search_firings.proofs.TripleSteps.{range-next}
use Rattle.search_firings.proofs.listing.add_of_rule.Goals as goal

pub loop-nth-preserved : goal.loop-nth-preserved
loop-nth-preserved c =
    let member = member_of c.args.member.now in
    let rule = c.args.rule.now in
    let n = c.loop-nth.nth in
    let trees = bindings (nodes_of c.args.nodes.now) rule.reach member.tree in
    let all : List plain.Firing = map firing_of c.loop-nth.all in
    let each : ℕ → List plain.Firing = λ k. of_nth member rule.rule k trees in
    let more : List plain.Firing = flat_map each (range_with_len (n + 1) (rule.width - (n + 1))) in
    ap (λ ys. ys ++ more) c.in_ok-add_nth.ensures
    ∙ append_assoc all (each n) more
    ∙ ap (λ ks. all ++ flat_map each ks) (sym (range-next n rule.width c.loop-nth-test.true))
    ∙ c.loop-nth.invariant
