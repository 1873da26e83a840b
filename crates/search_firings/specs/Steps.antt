-- What the code that lists bindings and triples does. For the code alone.
use Rattle.std.specs.Prelude.{ℕ, ◌+◌, Bool, true, false, cond, List, [], ◌∷◌, map}
use Rattle.std.specs.List.{flat_map}
use Rattle.cal_rel.specs.Info.{Info}
use Rattle.cal_rel.specs.Places.{replaced}
use Rattle.cal_rel.specs.Tree.{Tree, leaf, unary, binary, hole}
use Rattle.rule_hep.specs.Meaning.{Meaning}
use Rattle.memo_model.specs.Sets.{Member}
use Rattle.search_model.specs.Firings as plain
use Rattle.search_model.specs.Listed.{Nodes, of_rule}
use Rattle.search_firings.specs.declared.listing.Asked.{Asked}

abbrev pub is_leaf : Tree → Bool
is_leaf (leaf l) = true
is_leaf (unary u t) = false
is_leaf (binary b s t) = false
is_leaf (hole k) = false

-- the tree, if it is a leaf
abbrev pub leaf_alone : Tree → List Tree
leaf_alone t = cond (is_leaf t) (t ∷ []) []

-- the node with each of the first as its first input, and with each of the others as its second one
abbrev pub pairs : Tree → List Tree → List Tree → List Tree
pairs node lefts rights = flat_map (λ x. map (replaced (replaced node (0 ∷ []) x) (1 ∷ [])) rights) lefts

-- what is asked of rules, from this place on
abbrev pub asked_from : Info → ℕ → List Meaning → List Asked
asked_from info k [] = []
asked_from info k (law ∷ more) = record { rule = k; reach = law.reach; width = law.width info } ∷ asked_from info (k + 1) more

-- the triples of a member and a rule of which this was asked
abbrev pub of_asked : Nodes → Member → Asked → List plain.Firing
of_asked nodes m a = of_rule nodes m a.rule a.reach a.width

-- those of one n
abbrev pub of_nth : Member → ℕ → ℕ → List Tree → List plain.Firing
of_nth m k n trees = map (λ b. record { rule = k; nth = n; binding = b; set = m.set }) trees
