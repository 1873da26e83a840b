-- The states that can be asked, with an edge for each alternative of each.
use Rattle.std.specs.Prelude.{◌≡◌, ℕ, ◌<◌, ◌⊎◌, ◌∷◌, [], ◌++◌, length, IsTrue, List, Option, Some, None, slice_get}
use Rattle.cheapest_derivations.specs.declared.table.Edge.{Edge}
use Rattle.cheapest_derivations.specs.Derivations as d
use Rattle.plan_nodes.specs.Orders.{is_prefix}
use Rattle.plan_nodes.specs.PlanTrees.{PlanTree, nothing, plan}
use Rattle.plan_nodes.specs.Seen.{planned}
use Rattle.phys_plan.specs.declared.alternatives.State.{State}
use Rattle.phys_plan.specs.declared.alternatives.Alternative.{Alternative}
use Rattle.phys_plan.specs.Spaces.{Space}
use Rattle.phys_plan.specs.Alternatives.{alternatives}
use Rattle.volcano_best.specs.declared.graph.Root.{Root}

-- a state's number
abbrev pub IsNumber : List State → Option State → Option ℕ → Type 0
IsNumber states None None = Unit {0}
IsNumber states None (Some k) = ⊥
IsNumber states (Some s) None = ⊥
IsNumber states (Some s) (Some k) = slice_get states k ≡ Some s

abbrev pub root_of : Alternative → Root
root_of alt = record { node = alt.node; rows = alt.rows; part_rows = alt.part_rows }

-- the k-th edge is this alternative
pub record IsEdgeOf (states : List State) (roots : List Root) (alt : Alternative) (k : ℕ) (edge : Edge) : Type 0 where
  pub root : slice_get roots k ≡ Some (root_of alt)
  pub weight : edge.weight ≡ alt.weight
  pub first : IsNumber states alt.first edge.first
  pub second : IsNumber states alt.second edge.second

pub record IsAmong (space : Space) (s : State) (alt : Alternative) : Type 0 where
  pub at : ℕ
  pub got : slice_get (alternatives space s) at ≡ Some alt

-- the k-th edge is an alternative of its target
pub record IsMade (space : Space) (states : List State) (roots : List Root) (k : ℕ) (edge : Edge) : Type 0 where
  pub state : State
  pub alt : Alternative
  pub here : slice_get states edge.target ≡ Some state
  pub among : IsAmong space state alt
  pub linked : IsEdgeOf states roots alt k edge

-- an alternative of the i-th state is an edge
pub record IsOffered (states : List State) (roots : List Root) (edges : List Edge) (i : ℕ) (alt : Alternative) : Type 0 where
  pub at : ℕ
  pub edge : Edge
  pub got : slice_get edges at ≡ Some edge
  pub target : edge.target ≡ i
  pub linked : IsEdgeOf states roots alt at edge

-- each edge is an alternative of its target, and each state needs at least the order that is asked of it
pub record IsGraph (space : Space) (states : List State) (roots : List Root) (edges : List Edge) : Type 0 where
  pub made : (k : ℕ) (edge : Edge) → slice_get edges k ≡ Some edge → IsMade space states roots k edge
  pub valid : (k : ℕ) (s : State) → slice_get states k ≡ Some s → IsTrue (is_prefix s.ask.order s.need)

-- each alternative of each state is an edge
pub record IsFull (space : Space) (states : List State) (roots : List Root) (edges : List Edge) : Type 0 where
  pub offered : (i : ℕ) (s : State) (alt : Alternative) → slice_get states i ≡ Some s → IsAmong space s alt → IsOffered states roots edges i alt

-- ---- plans of derivations

abbrev pub over : Option Root → PlanTree → PlanTree → PlanTree
over None a b = nothing
over (Some r) a b = plan r.node r.rows r.part_rows a b

-- the plan of a derivation
abbrev pub plan_of : List Root → d.Tree → PlanTree
plan_of roots d.none = nothing
plan_of roots (d.step e a b) = over (slice_get roots e) (plan_of roots a) (plan_of roots b)

abbrev pub seen_over : Option Root → List (Option PlanTree) → Option PlanTree
seen_over None inputs = None
seen_over (Some r) inputs = planned r.node r.rows r.part_rows inputs

-- its plan with a list of inputs, seen as a tree: nothing where nothing is derived
abbrev pub seen_of : List Root → d.Tree → List (Option PlanTree)
seen_of roots d.none = []
seen_of roots (d.step e a b) = seen_over (slice_get roots e) (seen_of roots a ++ seen_of roots b) ∷ []

-- ---- graphs that grow

-- no state loses its number
pub record AreKept {A : Type 0} (old new : List A) : Type 0 where
  pub kept : (k : ℕ) (x : A) → slice_get old k ≡ Some x → slice_get new k ≡ Some x

-- the state has the number n; it may be new
pub record IsNumbered (old new : List State) (s : State) (n : ℕ) : Type 0 where
  pub kept : AreKept old new
  pub here : slice_get new n ≡ Some s
  pub from : (k : ℕ) (t : State) → slice_get new k ≡ Some t → (slice_get old k ≡ Some t) ⊎ (t ≡ s)

pub record IsInput (old new : List State) (s : Option State) (n : Option ℕ) : Type 0 where
  pub kept : AreKept old new
  pub here : IsNumber new s n
  pub from : (k : ℕ) (t : State) → slice_get new k ≡ Some t → (slice_get old k ≡ Some t) ⊎ (s ≡ Some t)

-- one edge more: an alternative of the state `at`
pub record IsExtended (states : List State) (roots : List Root) (edges : List Edge) (states' : List State) (roots' : List Root) (edges' : List Edge) (at : ℕ)
    (alt : Alternative) : Type 0 where
  pub edge : Edge
  pub edges_is : edges' ≡ edges ++ edge ∷ []
  pub roots_is : roots' ≡ roots ++ root_of alt ∷ []
  pub target : edge.target ≡ at
  pub weight : edge.weight ≡ alt.weight
  pub first : IsNumber states' alt.first edge.first
  pub second : IsNumber states' alt.second edge.second
  pub kept : AreKept states states'
  pub from : (k : ℕ) (t : State) → slice_get states' k ≡ Some t → (slice_get states k ≡ Some t) ⊎ ((alt.first ≡ Some t) ⊎ (alt.second ≡ Some t))

-- the alternatives of the first `done` states are edges, and the first `some` of the next one
pub record IsPartial (space : Space) (states : List State) (roots : List Root) (edges : List Edge) (done some : ℕ) : Type 0 where
  pub graph : IsGraph space states roots edges
  pub even : length roots ≡ length edges
  pub done_of : (i : ℕ) (s : State) (alt : Alternative) → i < done → slice_get states i ≡ Some s → IsAmong space s alt → IsOffered states roots edges i alt
  pub some_of : (s : State) (alt : Alternative) (j : ℕ) → slice_get states done ≡ Some s → j < some → slice_get (alternatives space s) j ≡ Some alt
      → IsOffered states roots edges done alt
