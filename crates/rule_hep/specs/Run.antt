-- The steps that rewrite a tree by a list of rules.
use Rattle.std.specs.Prelude.{ℕ, zero, suc, ◌+◌, if◌then◌else◌, is_some, List, [], ◌∷◌, ◌++◌, map, Option, Some, None}
use Rattle.std.specs.Option.{option_map, option_map_or}
use Rattle.cal_rel.specs.Info.{Info}
use Rattle.cal_rel.specs.Places.{place, replaced}
use Rattle.cal_rel.specs.Tree.{Tree, leaf, unary, binary, hole}
use Rattle.cal_rel.specs.Typing.{type_of}
use Rattle.rule_hep.specs.Meaning.{Meaning}

-- one step: the rule's place in the list, the path from the root, n, and the whole tree after it
pub record Step : Type 0 where
  pub rule : ℕ
  pub path : List ℕ
  pub nth : ℕ
  pub result : Tree

-- every place, a node before its inputs
abbrev pub places : Tree → List (List ℕ)
places (leaf l) = [] ∷ []
places (unary u t) = [] ∷ map (λ path. 0 ∷ path) (places t)
places (binary b s t) = [] ∷ (map (λ path. 0 ∷ path) (places s) ++ map (λ path. 1 ∷ path) (places t))
places (hole set) = [] ∷ []

abbrev pub or_else : {A : Type 0} → Option A → Option A → Option A
or_else None other = other
or_else (Some x) other = Some x

-- the whole tree with an image in its place, which counts where that is well formed
abbrev pub counted : Info → Tree → List ℕ → Option Tree → Option Tree
counted info root path None = None
counted info root path (Some image) = if is_some (type_of info (replaced root path image)) then Some (replaced root path image) else None

abbrev pub image_at : Meaning → Info → ℕ → Option Tree → Option Tree
image_at rule info n None = None
image_at rule info n (Some here) = rule.image info here n

-- the whole tree after the rule's n-th image at a place
abbrev pub rewritten : Meaning → Info → Tree → List ℕ → ℕ → Option Tree
rewritten rule info root path n = counted info root path (image_at rule info n (place root path))

-- the first of so many n from this one on
abbrev pub first_nth : ℕ → Meaning → Info → Tree → List ℕ → ℕ → ℕ → Option Step
first_nth k rule info root path n zero = None
first_nth k rule info root path n (suc left) =
    or_else (option_map (λ t. record { rule = k; path = path; nth = n; result = t }) (rewritten rule info root path n)) (first_nth k rule info root path (n + 1) left)

-- the first of the places
abbrev pub first_place : ℕ → Meaning → Info → Tree → List (List ℕ) → Option Step
first_place k rule info root [] = None
first_place k rule info root (path ∷ more) = or_else (first_nth k rule info root path 0 (rule.width info)) (first_place k rule info root more)

-- the first of the rules, of which the first is the k-th
abbrev pub first_rule : ℕ → List Meaning → Info → Tree → Option Step
first_rule k [] info root = None
first_rule k (rule ∷ more) info root = or_else (if rule.in_hep then first_place k rule info root (places root) else None) (first_rule (k + 1) more info root)

-- the steps, at most so many
abbrev pub hep_run : ℕ → List Meaning → Info → Tree → List Step
hep_run zero rules info root = []
hep_run (suc limit) rules info root = option_map_or (λ step. step ∷ hep_run limit rules info step.result) (first_rule 0 rules info root) []

-- the tree after all steps
abbrev pub last_result : Tree → List Step → Tree
last_result root [] = root
last_result root (step ∷ more) = last_result step.result more
