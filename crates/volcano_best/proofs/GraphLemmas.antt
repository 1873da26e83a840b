-- Derivations over a graph are plans, and plans are derivations, at the same cost.
use Rattle.std.proofs.Common.{◌≡◌, ℕ, zero, suc, ◌+◌, ◌^◌, List, [], ◌∷◌, ◌++◌, Option, Some, None, refl, sym, ◌∙◌, ap, subst, arith, cond, true, false, Bool}
use Rattle.std.specs.List.{slice_get}
use Rattle.std.specs.Option.{option_map}
use Rattle.cal_value.specs.declared.order.KeyOrder.{KeyOrder}
use Rattle.cal_rel.specs.Bag.{set_width}
use Rattle.cheapest_derivations.specs.declared.table.Edge.{Edge}
use Rattle.cheapest_derivations.specs.Derivations as d
use Rattle.cheapest_derivations.proofs.Sound.{weight-is}
use Rattle.plan_nodes.specs.Orders.{is_prefix, gives, below, asked_order, Found}
use Rattle.plan_nodes.specs.PlanTrees.{PlanTree, nothing, plan, rows_of, plan_width, order_of, cost}
use Rattle.plan_nodes.specs.Seen.{planned}
use Rattle.plan_nodes.specs.Weights.{cut, weight}
use Rattle.plan_nodes.proofs.OrderLemmas.{prefix-trans, below-up, below-down}
use Rattle.plan_nodes.proofs.PlanLemmas.{cost-plan}
use Rattle.phys_plan.specs.declared.ways.Ask.{Ask}
use Rattle.phys_plan.specs.declared.ways.Way.{Way}
use Rattle.phys_plan.specs.declared.alternatives.State.{State}
use Rattle.phys_plan.specs.declared.alternatives.Alternative.{Alternative}
use Rattle.phys_plan.specs.Spaces.{Space, estimate, part_len}
use Rattle.phys_plan.specs.Ways.{fits, ways}
use Rattle.phys_plan.specs.Plans.{Realises}
use Rattle.phys_plan.specs.Inputs.{EndsAt, there, IsRow}
use Rattle.phys_plan.specs.Alternatives.{Meets, state, as_asked, asked_width, asked_rows, weight_of, alternative, meets_by, alternatives}
use Rattle.volcano_best.specs.declared.graph.Root.{Root}
use Rattle.volcano_best.specs.Graphs.{IsNumber, root_of, IsEdgeOf, IsAmong, IsMade, IsOffered, IsGraph, IsFull, over, plan_of, seen_over, seen_of}
use Rattle.phys_plan.proofs.Members.{Among, among-flat, AmongFlat, flat-among}
use Rattle.phys_plan.proofs.RowLemmas.{rows-all, realised-order, realised-rows, none-realised}

-- plans of a set have as many columns as the set
pub record AreWide (space : Space) : Type 0 where
  pub wide : (ask : Ask) (tree : PlanTree) → Realises space (Some ask) tree → plan_width space.info tree ≡ set_width space.info ask.set

realised-width : (space : Space) → AreWide space → (ask : Option Ask) (tree : PlanTree) → Realises space ask tree → plan_width space.info tree ≡ asked_width space ask
realised-width space wide None tree h = rw (none-realised space tree h) refl
realised-width space wide (Some ask) tree h = wide.wide ask tree h

-- ---- alternatives and the ways that they take

abbrev pub below_way : Space → State → Way → Option (List KeyOrder)
below_way space s w = below space.info (asked_width space w.first) w.node s.need

abbrev pub made : Space → State → Way → List KeyOrder → Alternative
made space s w need = record {
  node = w.node;
  rows = estimate space s.ask.set;
  part_rows = part_len space w.node;
  weight = weight_of space s w;
  first = option_map (state need) w.first;
  second = option_map as_asked w.second;
}

-- an alternative of a state, with the way that it takes
pub record Taken (space : Space) (s : State) (alt : Alternative) : Type 0 where
  pub way : Way
  pub at : ℕ
  pub got : slice_get (ways space s.ask.set s.ask.order) at ≡ Some way
  pub fit : fits s.ask.want way.node ≡ true
  pub need : List KeyOrder
  pub below_is : below_way space s way ≡ Some need
  pub is : alt ≡ made space s way need

taken-way : (space : Space) (s : State) (alt : Alternative) (w : Way) (at j : ℕ) → slice_get (ways space s.ask.set s.ask.order) at ≡ Some w
    → slice_get (meets_by space s w) j ≡ Some alt → Taken space s alt
taken-way space s alt w at j got h = at_fit (fits s.ask.want w.node) refl h
  where
    at_one : (rest : List KeyOrder) (j : ℕ) → slice_get (alternative space s w (Some rest)) j ≡ Some alt → fits s.ask.want w.node ≡ true → below_way space s w ≡ Some rest
        → Taken space s alt
    at_one rest zero e fit is = record { way = w; at = at; got = got; fit = fit; need = rest; below_is = is; is = cc }
    at_one rest (suc j) e fit is = absurd cc

    at_below : (p : Option (List KeyOrder)) → below_way space s w ≡ p → slice_get (alternative space s w p) j ≡ Some alt → fits s.ask.want w.node ≡ true → Taken space s alt
    at_below None is e fit = absurd cc
    at_below (Some rest) is e fit = at_one rest j e fit is

    at_fit : (b : Bool) → fits s.ask.want w.node ≡ b → slice_get (alternative space s w (cond b (below_way space s w) None)) j ≡ Some alt → Taken space s alt
    at_fit true fit e = at_below (below_way space s w) refl e fit
    at_fit false fit e = absurd cc

pub taken : (space : Space) (s : State) (alt : Alternative) → IsAmong space s alt → Taken space s alt
taken space s alt among =
    let flat : AmongFlat (meets_by space s) (ways space s.ask.set s.ask.order) alt = flat-among (meets_by space s) (ways space s.ask.set s.ask.order) alt among.at among.got in
    taken-way space s alt flat.item flat.here.at flat.inside.at flat.here.got flat.inside.got

-- the alternative that a way makes
made-by : (space : Space) (s : State) (w : Way) (at : ℕ) (rest : List KeyOrder) → slice_get (ways space s.ask.set s.ask.order) at ≡ Some w → fits s.ask.want w.node ≡ true
    → below_way space s w ≡ Some rest → IsAmong space s (made space s w rest)
made-by space s w at rest got fit is =
    let alt : Alternative = made space s w rest in
    let here : Among (meets_by space s w) alt = rw (fit, is) (record { at = zero; got = refl }) in
    let all : Among (alternatives space s) alt = among-flat (meets_by space s) (ways space s.ask.set s.ask.order) w alt (record { at = at; got = got }) here in
    record { at = all.at; got = all.got }

-- ---- what derivations are worth

-- a plan meets the state of a number
abbrev pub MeetsAt : Space → List State → Option ℕ → PlanTree → Type 0
MeetsAt space states None tree = tree ≡ nothing
MeetsAt space states (Some i) tree = (s : State) → slice_get states i ≡ Some s → Meets space s tree

-- an input's plan
record Input (space : Space) (ask : Option Ask) (need : List KeyOrder) (tree : PlanTree) : Type 0 where
  realised : Realises space ask tree
  ordered : is_prefix need (order_of space.info tree) ≡ true

input-first : (space : Space) (states : List State) (ask : Option Ask) (need : List KeyOrder) (goal : Option ℕ) (tree : PlanTree)
    → IsNumber states (option_map (state need) ask) goal → (ask ≡ None → need ≡ []) → MeetsAt space states goal tree → Input space ask need tree
input-first space states None need None tree n ends meets = record { realised = rw meets refl; ordered = rw (ends refl) refl }
input-first space states None need (Some i) tree n ends meets = absurd n
input-first space states (Some ask) need None tree n ends meets = absurd n
input-first space states (Some ask) need (Some i) tree n ends meets =
    let m : Meets space (state need ask) tree = meets (state need ask) n in record { realised = m.realised; ordered = m.ordered }

input-second : (space : Space) (states : List State) (ask : Option Ask) (goal : Option ℕ) (tree : PlanTree)
    → IsNumber states (option_map as_asked ask) goal → MeetsAt space states goal tree → Realises space ask tree
input-second space states None None tree n meets = rw meets refl
input-second space states None (Some i) tree n meets = absurd n
input-second space states (Some ask) None tree n meets = absurd n
input-second space states (Some ask) (Some i) tree n meets = (meets (as_asked ask) n).realised

ends-none : (space : Space) (w : Way) (need rest : List KeyOrder) → IsRow space w → below space.info (asked_width space w.first) w.node need ≡ Some rest → w.first ≡ None
    → rest ≡ []
ends-none space w need rest row e none =
    let ends : EndsAt space.info None w.node = subst (λ f. EndsAt space.info f w.node) none row.ends in
    let P : Option Ask → Type 0 = λ f. below space.info (asked_width space f) w.node need ≡ Some rest in
    ends need rest (subst P none e)

-- what a derivation's plan is worth: it meets its state, at the derivation's cost, and is what is seen of its plan with a list of inputs
pub record IsWorth (space : Space) (states : List State) (goal : Option ℕ) (tree : PlanTree) (seen : List (Option PlanTree)) (n : ℕ) : Type 0 where
  pub meets : MeetsAt space states goal tree
  pub seen_is : seen ≡ there tree
  pub cost : cost tree ≡ n

cut-cut : (w a b : ℕ) → cut (cut w + a + b) ≡ cut (w + a + b)
cut-cut w a b = omega arith

-- a root over plans of its inputs
root-meets : (space : Space) (s : State) (w : Way) (at : ℕ) (need : List KeyOrder) (a b : PlanTree) → AreWide space → is_prefix s.ask.order s.need ≡ true
    → slice_get (ways space s.ask.set s.ask.order) at ≡ Some w → fits s.ask.want w.node ≡ true → below_way space s w ≡ Some need
    → Input space w.first need a → Realises space w.second b
    → Meets space s (plan w.node (estimate space s.ask.set) (part_len space w.node) a b)
root-meets space s w at need a b wide valid got fit is x y =
    let over_asked : is_prefix s.need (gives space.info (asked_width space w.first) w.node (order_of space.info a)) ≡ true =
    below-down space.info (asked_width space w.first) w.node s.need need (order_of space.info a) is x.ordered in
    let given : is_prefix s.need (gives space.info (plan_width space.info a) w.node (order_of space.info a)) ≡ true =
    subst (λ n. is_prefix s.need (gives space.info n w.node (order_of space.info a)) ≡ true) (sym (realised-width space wide w.first a x.realised)) over_asked in
    record {
      realised = (
        s.ask,
        at,
        w,
        refl,
        got,
        refl,
        fit,
        refl,
        refl,
        prefix-trans s.ask.order s.need (gives space.info (plan_width space.info a) w.node (order_of space.info a)) valid given,
        x.realised,
        y,
      );
      ordered = given;
    }

root-cost : (space : Space) (s : State) (w : Way) (a b : PlanTree) (m n : ℕ) → Realises space w.first a → Realises space w.second b → cost a ≡ m → cost b ≡ n
    → cost (plan w.node (estimate space s.ask.set) (part_len space w.node) a b) ≡ cut (weight_of space s w + m + n)
root-cost space s w a b m n x y p q =
    let e : ℕ = estimate space s.ask.set in
    let part : ℕ = part_len space w.node in
    let W : ℕ → ℕ → ℕ = λ l r. weight w.node e l r part in
    let l : rows_of a ≡ asked_rows space w.first = realised-rows space w.first a x in
    let r : rows_of b ≡ asked_rows space w.second = realised-rows space w.second b y in
    cost-plan w.node e part a b
    ∙ ap (λ z. cut (W z (rows_of b) + cost a + cost b)) l
    ∙ ap (λ z. cut (W (asked_rows space w.first) z + cost a + cost b)) r
    ∙ ap (λ z. cut (W (asked_rows space w.first) (asked_rows space w.second) + z + cost b)) p
    ∙ ap (λ z. cut (W (asked_rows space w.first) (asked_rows space w.second) + m + z)) q
    ∙ sym (cut-cut (W (asked_rows space w.first) (asked_rows space w.second)) m n)

step-worth : (space : Space) (states : List State) (roots : List Root) (edges : List Edge) → AreWide space → IsGraph space states roots edges
    → (e : ℕ) (edge : Edge) (a b : PlanTree) (xs ys : List (Option PlanTree)) (m n : ℕ) → slice_get edges e ≡ Some edge
    → IsWorth space states edge.first a xs m → IsWorth space states edge.second b ys n
    → IsWorth space states (Some edge.target) (over (slice_get roots e) a b) (seen_over (slice_get roots e) (xs ++ ys) ∷ []) (cut (edge.weight + m + n))
step-worth space states roots edges wide graph e edge a b xs ys m n got x y =
    let mk : IsMade space states roots e edge = graph.made e edge got in
    let s : State = mk.state in
    let t : Taken space s mk.alt = taken space s mk.alt mk.among in
    let w : Way = t.way in
    let row : IsRow space w = rows-all space s.ask.set s.ask.order t.at w t.got in
    let linked : IsEdgeOf states roots (made space s w t.need) e edge = subst (λ alt. IsEdgeOf states roots alt e edge) t.is mk.linked in
    let input : Input space w.first t.need a =
    input-first space states w.first t.need edge.first a linked.first (ends-none space w s.need t.need row t.below_is) x.meets in
    let other : Realises space w.second b = input-second space states w.second edge.second b linked.second y.meets in
    let r : Root = root_of (made space s w t.need) in
    let W : ℕ → Type 0 = λ v. IsWorth space states (Some edge.target) (over (slice_get roots e) a b) (seen_over (slice_get roots e) (xs ++ ys) ∷ []) (cut (v + m + n)) in
    let R : Option Root → Type 0 = λ o. IsWorth space states (Some edge.target) (over o a b) (seen_over o (xs ++ ys) ∷ []) (cut (weight_of space s w + m + n)) in
    let inputs : xs ++ ys ≡ there a ++ there b = ap (λ z. z ++ ys) x.seen_is ∙ ap (λ z. there a ++ z) y.seen_is in
    let takes : planned w.node r.rows r.part_rows (there a ++ there b) ≡ Some (plan w.node r.rows r.part_rows a b) =
    row.inputs r.rows r.part_rows a b input.realised other in
    subst W (sym linked.weight) (subst R (sym linked.root) (record {
      meets = λ z is.
          let same : s ≡ z = let e = mk.here in cc in
          let valid : is_prefix s.ask.order s.need ≡ true = graph.valid edge.target s mk.here in
          let P : State → Type 0 = λ z. Meets space z (plan w.node (estimate space s.ask.set) (part_len space w.node) a b) in
          subst P same (root-meets space s w t.at t.need a b wide valid t.got t.fit t.below_is input other);
      seen_is = ap (λ z. z ∷ []) (ap (planned w.node r.rows r.part_rows) inputs ∙ takes);
      cost = root-cost space s w a b m n input.realised other x.cost y.cost;
    }))

pub graph-worth : (space : Space) (states : List State) (roots : List Root) (edges : List Edge) → AreWide space → IsGraph space states roots edges
    → (t : d.Tree) (goal : Option ℕ) → d.Derives edges goal t → IsWorth space states goal (plan_of roots t) (seen_of roots t) (d.cost (2 ^ 100) edges t)
graph-worth space states roots edges wide graph d.none goal h =
    subst (λ g. IsWorth space states g nothing [] 0) (sym h) (record { meets = refl; seen_is = refl; cost = refl })
graph-worth space states roots edges wide graph (d.step e a b) goal h =
    let edge : Edge = h.0 in
    let m : ℕ = d.cost (2 ^ 100) edges a in
    let n : ℕ = d.cost (2 ^ 100) edges b in
    let worth : IsWorth space states (Some edge.target) (plan_of roots (d.step e a b)) (seen_of roots (d.step e a b)) (cut (edge.weight + m + n)) =
    step-worth space states roots edges wide graph e edge (plan_of roots a) (plan_of roots b) (seen_of roots a) (seen_of roots b) m n h.1
    (graph-worth space states roots edges wide graph a edge.first h.3) (graph-worth space states roots edges wide graph b edge.second h.4) in
    let w : d.weight_at edges e ≡ edge.weight = weight-is edges e edge h.1 in
    let P : ℕ → Type 0 = λ v. IsWorth space states (Some edge.target) (plan_of roots (d.step e a b)) (seen_of roots (d.step e a b)) (cut (v + m + n)) in
    subst (λ g. IsWorth space states g (plan_of roots (d.step e a b)) (seen_of roots (d.step e a b)) (d.cost (2 ^ 100) edges (d.step e a b))) (sym h.2) (subst P (sym w) worth)

-- ---- the other way round

abbrev pub MeetsSome : Space → Option State → PlanTree → Type 0
MeetsSome space None tree = tree ≡ nothing
MeetsSome space (Some s) tree = Meets space s tree

pub record IsDerived (edges : List Edge) (goal : Option ℕ) (tree : PlanTree) : Type 0 where
  pub derivation : d.Tree
  pub derives : d.Derives edges goal derivation
  pub cost : d.cost (2 ^ 100) edges derivation ≡ cost tree

some-first : (space : Space) (ask : Option Ask) (need : List KeyOrder) (tree : PlanTree) → Realises space ask tree → is_prefix need (order_of space.info tree) ≡ true
    → MeetsSome space (option_map (state need) ask) tree
some-first space None need tree h o = none-realised space tree h
some-first space (Some ask) need tree h o = record { realised = h; ordered = o }

some-second : (space : Space) (ask : Option Ask) (tree : PlanTree) → Realises space ask tree → MeetsSome space (option_map as_asked ask) tree
some-second space None tree h = none-realised space tree h
some-second space (Some ask) tree h = record { realised = h; ordered = realised-order space (Some ask) tree ask.order h refl }

-- the least order that the root needs from below, which its input gives
found-below : (space : Space) (s : State) (w : Way) (at : ℕ) (a : PlanTree) → AreWide space → slice_get (ways space s.ask.set s.ask.order) at ≡ Some w → Realises space w.first a
    → is_prefix s.need (gives space.info (plan_width space.info a) w.node (order_of space.info a)) ≡ true → Found (below_way space s w) (order_of space.info a)
found-below space s w at a wide got x ordered =
    let row : IsRow space w = rows-all space s.ask.set s.ask.order at w got in
    let width : plan_width space.info a ≡ asked_width space w.first = realised-width space wide w.first a x in
    let asked : is_prefix (asked_order (asked_width space w.first) w.node) (order_of space.info a) ≡ true =
    realised-order space w.first a (asked_order (asked_width space w.first) w.node) x row.order in
    below-up space.info (asked_width space w.first) w.node s.need (order_of space.info a)
    (subst (λ n. is_prefix s.need (gives space.info n w.node (order_of space.info a)) ≡ true) width ordered) asked

pub graph-derived : (space : Space) (states : List State) (roots : List Root) (edges : List Edge) → AreWide space → IsFull space states roots edges
    → (tree : PlanTree) (want : Option State) (goal : Option ℕ) → IsNumber states want goal → MeetsSome space want tree → IsDerived edges goal tree
graph-derived space states roots edges wide full nothing None None n meets = record { derivation = d.none; derives = refl; cost = refl }
graph-derived space states roots edges wide full nothing None (Some i) n meets = absurd n
graph-derived space states roots edges wide full nothing (Some s) None n meets = absurd n
graph-derived space states roots edges wide full nothing (Some s) (Some i) n meets = let e = meets.realised in absurd cc
graph-derived space states roots edges wide full (plan node rows part a b) None goal n meets = absurd cc
graph-derived space states roots edges wide full (plan node rows part a b) (Some s) None n meets = absurd n
graph-derived space states roots edges wide full (plan node rows part a b) (Some s) (Some i) n meets =
    at_ask meets.realised.0 (let e = meets.realised.3 in cc) meets.realised.1 meets.realised.2 meets.realised.4 meets.realised.5 meets.realised.6 meets.realised.7 meets.realised.8
    meets.realised.10 meets.realised.11 meets.ordered (graph-derived space states roots edges wide full a) (graph-derived space states roots edges wide full b)
  where
    at_way : (at : ℕ) (w : Way) → slice_get (ways space s.ask.set s.ask.order) at ≡ Some w → node ≡ w.node
        → fits s.ask.want w.node ≡ true → rows ≡ estimate space s.ask.set → part ≡ part_len space w.node → Realises space w.first a → Realises space w.second b
        → is_prefix s.need (gives space.info (plan_width space.info a) w.node (order_of space.info a)) ≡ true
        → ((want : Option State) (goal : Option ℕ) → IsNumber states want goal → MeetsSome space want a → IsDerived edges goal a)
        → ((want : Option State) (goal : Option ℕ) → IsNumber states want goal → MeetsSome space want b → IsDerived edges goal b)
        → IsDerived edges (Some i) (plan node rows part a b)
    at_way at w got node_is fit rows_is part_is x y ordered first second =
        let found : Found (below_way space s w) (order_of space.info a) = found-below space s w at a wide got x ordered in
        let alt : Alternative = made space s w found.need in
        let offered : IsOffered states roots edges i alt = full.offered i s alt n (made-by space s w at found.need got fit found.is) in
        let edge : Edge = offered.edge in
        let da : IsDerived edges edge.first a = first (option_map (state found.need) w.first) edge.first offered.linked.first (some-first space w.first found.need a x found.ordered) in
        let db : IsDerived edges edge.second b = second (option_map as_asked w.second) edge.second offered.linked.second (some-second space w.second b y) in
        let weighs : d.weight_at edges offered.at ≡ weight_of space s w = weight-is edges offered.at edge offered.got ∙ offered.linked.weight in
        record {
          derivation = d.step offered.at da.derivation db.derivation;
          derives = (edge, offered.got, ap Some (sym offered.target), da.derives, db.derives);
          cost = rw (weighs, da.cost, db.cost, node_is, rows_is, part_is) (sym (root-cost space s w a b (cost a) (cost b) x y refl refl));
        }

    at_ask : (q : Ask) → q ≡ s.ask → (at : ℕ) (w : Way) → slice_get (ways space q.set q.order) at ≡ Some w → node ≡ w.node
        → fits q.want node ≡ true → rows ≡ estimate space q.set → part ≡ part_len space node → Realises space w.first a → Realises space w.second b
        → is_prefix s.need (gives space.info (plan_width space.info a) node (order_of space.info a)) ≡ true
        → ((want : Option State) (goal : Option ℕ) → IsNumber states want goal → MeetsSome space want a → IsDerived edges goal a)
        → ((want : Option State) (goal : Option ℕ) → IsNumber states want goal → MeetsSome space want b → IsDerived edges goal b)
        → IsDerived edges (Some i) (plan node rows part a b)
    at_ask q same at w got node_is fit rows_is part_is x y ordered first second =
        at_way at w (subst (λ (z : Ask). slice_get (ways space z.set z.order) at ≡ Some w) same got) node_is
        (subst (λ (z : Ask). fits z.want w.node ≡ true) same (subst (λ z. fits q.want z ≡ true) node_is fit)) (subst (λ (z : Ask). rows ≡ estimate space z.set) same rows_is)
        (subst (λ z. part ≡ part_len space z) node_is part_is) x y
        (subst (λ z. is_prefix s.need (gives space.info (plan_width space.info a) z (order_of space.info a)) ≡ true) node_is ordered) first second
