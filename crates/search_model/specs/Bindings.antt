-- Bindings: a member, with members in the place of the holes that a rule looks into.
use Rattle.std.specs.Prelude.{ℕ, List}
use Rattle.cal_rel.specs.Tree.{Tree, leaf, unary, binary, hole}
use Rattle.memo_model.specs.Sets.{Member, Has}
use Rattle.rule_hep.specs.declared.rule.Reach.{Reach}
use Rattle.rule_hep.specs.declared.rule.Reach.TheVariants.{Node, FirstChild, BothChildren, Chain}

-- what is said of each member that a binding uses, by its set and its node
abbrev pub OfMembers : Type 1
OfMembers = ℕ → Tree → Type 0

-- a node over holes with a member in the place of its first input
abbrev pub BindsFirst : OfMembers → ℕ → Tree → Type 0
BindsFirst P s (leaf l) = P s (leaf l)
BindsFirst P s (unary u t) = (k : ℕ) × P s (unary u (hole k)) × P k t
BindsFirst P s (binary b x y) = (k : ℕ) × P s (binary b (hole k) y) × P k x
BindsFirst P s (hole k) = ⊥

-- of both inputs
abbrev pub BindsBoth : OfMembers → ℕ → Tree → Type 0
BindsBoth P s (leaf l) = P s (leaf l)
BindsBoth P s (unary u t) = (k : ℕ) × P s (unary u (hole k)) × P k t
BindsBoth P s (binary b x y) = (k : ℕ) × (l : ℕ) × P s (binary b (hole k) (hole l)) × P k x × P l y
BindsBoth P s (hole k) = ⊥

-- of its first input and that one's first input
abbrev pub BindsChain : OfMembers → ℕ → Tree → Type 0
BindsChain P s (leaf l) = P s (leaf l)
BindsChain P s (unary u t) = (k : ℕ) × P s (unary u (hole k)) × BindsFirst P k t
BindsChain P s (binary b x y) = (k : ℕ) × P s (binary b (hole k) y) × BindsFirst P k x
BindsChain P s (hole k) = ⊥

-- the tree is a binding of a member of the set `s`, and this holds of each member that it uses
abbrev pub BindsBy : OfMembers → Reach → ℕ → Tree → Type 0
BindsBy P Node s t = P s t
BindsBy P FirstChild s t = BindsFirst P s t
BindsBy P BothChildren s t = BindsBoth P s t
BindsBy P Chain s t = BindsChain P s t

-- the tree is a binding of a member of the set
abbrev pub Binds : List Member → Reach → ℕ → Tree → Type 0
Binds members reach s t = BindsBy (Has members) reach s t
