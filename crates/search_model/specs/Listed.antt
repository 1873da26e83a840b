-- The bindings of a node, and the triples of a memo, as lists.
use Rattle.std.specs.Prelude.{ℕ, ◌==◌, cond, List, [], ◌∷◌, map}
use Rattle.std.specs.List.{flat_map, range_with_len, enumerate_from}
use Rattle.cal_rel.specs.Info.{Info}
use Rattle.cal_rel.specs.Tree.{Tree, leaf, unary, binary, hole}
use Rattle.rule_hep.specs.declared.rule.Reach.{Reach}
use Rattle.rule_hep.specs.declared.rule.Reach.TheVariants.{Node, FirstChild, BothChildren, Chain}
use Rattle.rule_hep.specs.Meaning.{Meaning}
use Rattle.memo_model.specs.Sets.{Member}
use Rattle.search_model.specs.Firings.{Firing}

-- the nodes of a set
abbrev pub in_set : List Member → ℕ → List Tree
in_set [] k = []
in_set (m ∷ more) k = cond (m.set == k) (m.tree ∷ in_set more k) (in_set more k)

-- ---- bindings, from the nodes of each set

abbrev pub Nodes : Type 0
Nodes = ℕ → List Tree

-- those of the set that a hole names
abbrev pub inputs : Nodes → Tree → List Tree
inputs nodes (leaf l) = []
inputs nodes (unary u t) = []
inputs nodes (binary b s t) = []
inputs nodes (hole k) = nodes k

-- the node with one of them in the place of its first input
abbrev pub firsts : Nodes → Tree → List Tree
firsts nodes (leaf l) = leaf l ∷ []
firsts nodes (unary u t) = map (unary u) (inputs nodes t)
firsts nodes (binary b s t) = map (λ x. binary b x t) (inputs nodes s)
firsts nodes (hole k) = []

-- of each input
abbrev pub boths : Nodes → Tree → List Tree
boths nodes (leaf l) = leaf l ∷ []
boths nodes (unary u t) = map (unary u) (inputs nodes t)
boths nodes (binary b s t) = flat_map (λ x. map (binary b x) (inputs nodes t)) (inputs nodes s)
boths nodes (hole k) = []

-- of its first input and that one's first input
abbrev pub chains : Nodes → Tree → List Tree
chains nodes (leaf l) = leaf l ∷ []
chains nodes (unary u t) = map (unary u) (flat_map (firsts nodes) (inputs nodes t))
chains nodes (binary b s t) = map (λ x. binary b x t) (flat_map (firsts nodes) (inputs nodes s))
chains nodes (hole k) = []

abbrev pub bindings : Nodes → Reach → Tree → List Tree
bindings nodes Node t = t ∷ []
bindings nodes FirstChild t = firsts nodes t
bindings nodes BothChildren t = boths nodes t
bindings nodes Chain t = chains nodes t

-- ---- triples

-- of a member and the rule at the place k, which looks so far and has so many images at most: by n, then by bindings
abbrev pub of_rule : Nodes → Member → ℕ → Reach → ℕ → List Firing
of_rule nodes m k reach width =
    flat_map (λ n. map (λ b. record { rule = k; nth = n; binding = b; set = m.set }) (bindings nodes reach m.tree)) (range_with_len 0 width)

-- of a member: by the places of rules
abbrev pub of_member : Info → List Meaning → Nodes → Member → List Firing
of_member info rules nodes m = flat_map (λ r. of_rule nodes m r.0 r.1.reach (r.1.width info)) (enumerate_from 0 rules)

-- the triples of a memo, by members in their order
abbrev pub listed : Info → List Meaning → List Member → List Firing
listed info rules members = flat_map (of_member info rules (in_set members)) members
