-- A space as plain data.
use Rattle.std.specs.Prelude.{◌≡◌, ℕ, Bool, true, if◌then◌else◌, List, [], ◌∷◌, map, Option, Some, None}
use Rattle.cal_rel.specs.Bag.{set_width}
use Rattle.cal_rel.specs.Info.{Info}
use Rattle.cal_rel.specs.Tree.{Unary, Binary, Tree, leaf, unary, binary, hole}
use Rattle.memo_sets.specs.Seen.{member_of}
use Rattle.plan_nodes.specs.Conventions.{convention_of}
use Rattle.plan_nodes.specs.declared.nodes.PlanNode.{PlanNode}
use Rattle.plan_nodes.specs.declared.traits.Convention.TheVariants.{Enumerable}
use Rattle.phys_plan.specs.declared.space.Space.{Space}
use Rattle.phys_plan.specs.declared.ways.Want.{Want}
use Rattle.phys_plan.specs.declared.ways.Way.{Way}
use Rattle.phys_plan.specs.Spaces as plain
use Rattle.phys_plan.specs.Ways.{fits, unary_ways, binary_ways}

abbrev pub space_of : Space → plain.Space
space_of s = record { members = map member_of s.members.now; info = s.info; estimates = s.estimates; tables = s.tables }

-- ---- for the code: what spells a node, by the sets of its inputs

abbrev pub hole_at : Tree → Option ℕ
hole_at (leaf l) = None
hole_at (unary u t) = None
hole_at (binary b s t) = None
hole_at (hole k) = Some k

abbrev pub over_one : Unary → Option ℕ → List Way
over_one u None = []
over_one u (Some k) = unary_ways u k

abbrev pub over_two : Info → Binary → Option ℕ → Option ℕ → List Way
over_two info b None k = []
over_two info b (Some j) None = []
over_two info b (Some j) (Some k) = binary_ways b (set_width info j) j k

-- ---- for the code: ways whose nodes are of the kind that is asked, all where no kind is

abbrev pub takes : Option Want → PlanNode → Bool
takes None node = true
takes (Some want) node = fits want node

abbrev pub kept : Option Want → List Way → List Way
kept only [] = []
kept only (w ∷ ws) = if takes only w.node then w ∷ kept only ws else kept only ws

-- the answer for each node of enumerable rows
pub record TakesRows (only : Option Want) (b : Bool) : Type 0 where
  pub answer : (node : PlanNode) → convention_of node ≡ Enumerable → takes only node ≡ b
