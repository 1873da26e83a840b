use Rattle.std.proofs.Common.{◌≡◌, List, map, sym, ap, ◌∙◌}
use Rattle.std.specs.List.{flat_map}
use Rattle.std.proofs.lemmas.Result.{IfOk-weaker}
use Rattle.cal_rel.specs.Tree.{Tree}
use Rattle.rule_hep.specs.Meaning.{Meaning}
use Rattle.memo_model.specs.Sets as plain
use Rattle.memo_sets.specs.Seen.{member_of}
use Rattle.search_model.specs.Firings.{Firing}
use Rattle.search_model.specs.Listed.{Nodes, in_set, listed}
use Rattle.search_firings.specs.declared.listing.Asked.{Asked}
use Rattle.search_firings.specs.Seen.{nodes_of}
use Rattle.search_firings.specs.Steps.{asked_from, of_asked}
use Rattle.search_firings.proofs.TripleSteps.{asked-members}
use Rattle.search_firings.proofs.listing.triples.Goals as goal

-- the triples by what was asked and the nodes of sets
by_nodes : Nodes → List Asked → List plain.Member → List Firing
by_nodes nodes asked members = flat_map (λ m. flat_map (of_asked nodes m) asked) members

pub returns : goal.returns
unfolding by_nodes
returns g c =
    let all : List Meaning = map (λ b. (goal.Rule-dyn g (b.vtable, b.value)).meaning b.value) c.args.rules.now in
    let members : List plain.Member = map member_of c.args.memo.now.members in
    let asked : c.as_slice-3.result.now ≡ asked_from c.args.info.now 0 all = c.as_slice-3.ensures ∙ c.in_ok-asked.ensures in
    let first : map member_of c.as_slice.result.now ≡ members = ap (map member_of) c.as_slice.ensures ∙ c.members-members.ensures in
    let second : map member_of c.as_slice-2.result.now ≡ members = ap (map member_of) c.as_slice-2.ensures ∙ c.members-members.ensures in
    let nodes : nodes_of c.in_ok-nodes.nodes ≡ in_set members = c.in_ok-nodes.ensures ∙ ap in_set first in
    let same : by_nodes (nodes_of c.in_ok-nodes.nodes) c.as_slice-3.result.now (map member_of c.as_slice-2.result.now) ≡ listed c.args.info.now all members =
    (λ i. by_nodes (nodes i) (asked i) (second i)) ∙ asked-members c.args.info.now all (in_set members) members in
    IfOk-weaker c.of_members.result _ _ (λ made e. e ∙ same) c.of_members.ensures
