-- How the alternatives of the states become edges, one by one.
use Rattle.std.proofs.Common.{◌≡◌, ℕ, zero, suc, ◌+◌, ◌<◌, ◌≤◌, ◌⊎◌, ⊎_elim, List, [], ◌∷◌, ◌++◌, length, get_or, Option, Some, None, refl, sym, ◌∙◌, ap, subst, arith, true}
use Rattle.std.specs.List.{slice_get}
use Rattle.std.specs.Option.{option_map}
use Rattle.std.proofs.lemmas.Option.{slice_get-get_or, slice_get_within}
use Rattle.std.proofs.lemmas.List.{length_push}
use Rattle.std.proofs.lemmas.Bool.{cases_eq}
use Rattle.cal_value.specs.declared.order.KeyOrder.{KeyOrder}
use Rattle.cheapest_derivations.specs.declared.table.Edge.{Edge}
use Rattle.cheapest_derivations.proofs.Sound.{get-last, pushed-get}
use Rattle.plan_nodes.specs.Orders.{is_prefix, below, asked_order}
use Rattle.plan_nodes.proofs.OrderLemmas.{prefix-self, below-asked}
use Rattle.phys_plan.specs.declared.ways.Ask.{Ask}
use Rattle.phys_plan.specs.declared.ways.Way.{Way}
use Rattle.phys_plan.specs.declared.alternatives.State.{State}
use Rattle.phys_plan.specs.declared.alternatives.Alternative.{Alternative}
use Rattle.phys_plan.specs.Spaces.{Space}
use Rattle.phys_plan.specs.Alternatives.{state, as_asked, asked_width, alternatives}
use Rattle.volcano_best.specs.declared.graph.Root.{Root}
use Rattle.volcano_best.specs.Graphs.{IsNumber, root_of, IsEdgeOf, IsAmong, IsMade, IsOffered, IsGraph, IsFull, AreKept, IsExtended, IsPartial}
use Rattle.phys_plan.specs.Inputs.{IsOrderOf, IsRow}
use Rattle.phys_plan.proofs.RowLemmas.{rows-all}
use Rattle.volcano_best.proofs.GraphLemmas.{below_way, made, Taken, taken}
use Rattle.volcano_best.proofs.GraphSteps.{kept-push, number-kept}

-- a state needs at least what is asked of it
abbrev IsValid : State → Type 0
IsValid s = is_prefix s.ask.order s.need ≡ true

first-valid : (space : Space) (s : State) (w : Way) (rest : List KeyOrder) (t : State) → IsRow space w → below_way space s w ≡ Some rest
    → option_map (state rest) w.first ≡ Some t → IsValid t
first-valid space s w rest t row is e = at_first w.first row.order is e
  where
    at_first : (ask : Option Ask) → IsOrderOf ask (asked_order (asked_width space ask) w.node) → below space.info (asked_width space ask) w.node s.need ≡ Some rest
        → option_map (state rest) ask ≡ Some t → IsValid t
    at_first None order is e = absurd cc
    at_first (Some ask) order is e =
        let same : t ≡ state rest ask = cc in
        let asked : is_prefix ask.order rest ≡ true = rw order (below-asked space.info (asked_width space (Some ask)) w.node s.need rest is) in
        subst (λ z. IsValid z) (sym same) asked

second-valid : (ask : Option Ask) (t : State) → option_map as_asked ask ≡ Some t → IsValid t
second-valid None t e = absurd cc
second-valid (Some ask) t e = let same : t ≡ as_asked ask = cc in subst (λ z. IsValid z) (sym same) (prefix-self ask.order)

input-valid : (space : Space) (s : State) (alt : Alternative) (t : State) → IsAmong space s alt → (alt.first ≡ Some t) ⊎ (alt.second ≡ Some t) → IsValid t
input-valid space s alt t among either =
    let k : Taken space s alt = taken space s alt among in
    let row : IsRow space k.way = rows-all space s.ask.set s.ask.order k.at k.way k.got in
    let made_is : alt ≡ made space s k.way k.need = k.is in
    ⊎_elim
    (λ e. first-valid space s k.way k.need t row k.below_is (ap (λ (a : Alternative). a.first) (sym made_is) ∙ e))
    (λ e. second-valid k.way.second t (ap (λ (a : Alternative). a.second) (sym made_is) ∙ e))
    either

edge-kept : (states states' : List State) (roots roots' : List Root) (alt : Alternative) (k : ℕ) (edge : Edge) → AreKept states states' → AreKept roots roots'
    → IsEdgeOf states roots alt k edge → IsEdgeOf states' roots' alt k edge
edge-kept states states' roots roots' alt k edge p q h = record {
  root = q.kept k (root_of alt) h.root;
  weight = h.weight;
  first = number-kept states states' alt.first edge.first p h.first;
  second = number-kept states states' alt.second edge.second p h.second;
}

made-kept : (space : Space) (states states' : List State) (roots roots' : List Root) (k : ℕ) (edge : Edge) → AreKept states states' → AreKept roots roots'
    → IsMade space states roots k edge → IsMade space states' roots' k edge
made-kept space states states' roots roots' k edge p q h = record {
  state = h.state;
  alt = h.alt;
  here = p.kept edge.target h.state h.here;
  among = h.among;
  linked = edge-kept states states' roots roots' h.alt k edge p q h.linked;
}

offered-kept : (states states' : List State) (roots roots' : List Root) (edges edges' : List Edge) (i : ℕ) (alt : Alternative) → AreKept states states' → AreKept roots roots' → AreKept edges edges'
    → IsOffered states roots edges i alt → IsOffered states' roots' edges' i alt
offered-kept states states' roots roots' edges edges' i alt p q r h = record {
  at = h.at;
  edge = h.edge;
  got = r.kept h.at h.edge h.got;
  target = h.target;
  linked = edge-kept states states' roots roots' alt h.at h.edge p q h.linked;
}

kept-back : (old new : List State) (k : ℕ) (x : State) → AreKept old new → k < length old → slice_get new k ≡ Some x → slice_get old k ≡ Some x
kept-back old new k x kept low got =
    let there : slice_get old k ≡ Some (get_or old k x) = slice_get-get_or old k x low in
    let same : slice_get new k ≡ Some (get_or old k x) = kept.kept k (get_or old k x) there in
    let e : get_or old k x ≡ x = cc in
    rw e at there

new-edge : (states' : List State) (roots : List Root) (edges : List Edge) (alt : Alternative) (edge : Edge) → length roots ≡ length edges → edge.weight ≡ alt.weight
    → IsNumber states' alt.first edge.first → IsNumber states' alt.second edge.second → IsEdgeOf states' (roots ++ root_of alt ∷ []) alt (length edges) edge
new-edge states' roots edges alt edge even weight first second = record {
  root = subst (λ n. slice_get (roots ++ root_of alt ∷ []) n ≡ Some (root_of alt)) even (get-last roots (root_of alt));
  weight = weight;
  first = first;
  second = second;
}

-- one alternative more, where the new lists are written out
grown : (space : Space) (states states' : List State) (roots : List Root) (edges : List Edge) (at j : ℕ) (s : State) (alt : Alternative) (edge : Edge)
    → IsPartial space states roots edges at j → slice_get states at ≡ Some s → slice_get (alternatives space s) j ≡ Some alt
    → edge.target ≡ at → edge.weight ≡ alt.weight → IsNumber states' alt.first edge.first → IsNumber states' alt.second edge.second → AreKept states states'
    → ((k : ℕ) (t : State) → slice_get states' k ≡ Some t → (slice_get states k ≡ Some t) ⊎ ((alt.first ≡ Some t) ⊎ (alt.second ≡ Some t)))
    → IsPartial space states' (roots ++ root_of alt ∷ []) (edges ++ edge ∷ []) at (j + 1)
grown space states states' roots edges at j s alt edge p here got target weight first second kept from =
    let roots' : List Root = roots ++ root_of alt ∷ [] in
    let edges' : List Edge = edges ++ edge ∷ [] in
    let q : AreKept roots roots' = kept-push roots (root_of alt) in
    let r : AreKept edges edges' = kept-push edges edge in
    let among : IsAmong space s alt = record { at = j; got = got } in
    let linked : IsEdgeOf states' roots' alt (length edges) edge = new-edge states' roots edges alt edge p.even weight first second in
    let low : at < length states = slice_get_within states at s here in
    record {
      graph = record {
        made = λ k e is. ⊎_elim
            (λ h. made-kept space states states' roots roots' k e kept q (p.graph.made k e h))
            (λ h.
            let made : IsMade space states' roots' (length edges) edge = record {
              state = s;
              alt = alt;
              here = subst (λ n. slice_get states' n ≡ Some s) (sym target) (kept.kept at s here);
              among = among;
              linked = linked;
            } in
            subst (λ n. IsMade space states' roots' n e) (sym h.0) (subst (λ z. IsMade space states' roots' (length edges) z) (sym h.1) made))
            (pushed-get edges edge k e is);
        valid = λ k t is. ⊎_elim (λ h. p.graph.valid k t h) (λ h. input-valid space s alt t among h) (from k t is);
      };
      even = length_push roots (root_of alt) ∙ ap (λ n. n + 1) p.even ∙ sym (length_push edges edge);
      done_of = λ i t other less is among'.
          offered-kept states states' roots roots' edges edges' i other kept q r (p.done_of i t other less (kept-back states states' i t kept (omega arith) is) among');
      some_of = λ t other i is less got'.
          let same : t ≡ s = let there = kept.kept at s here in cc in
          ⊎_elim
          (λ e.
          let mine : slice_get (alternatives space s) j ≡ Some other = subst (λ n. slice_get (alternatives space s) n ≡ Some other) e (subst (λ z. slice_get (alternatives space z) i ≡ Some other) same got') in
          let one : other ≡ alt = cc in
          subst (λ z. IsOffered states' roots' edges' at z) (sym one)
          (record { at = length edges; edge = edge; got = get-last edges edge; target = target; linked = linked }))
          (λ apart. offered-kept states states' roots roots' edges edges' at other kept q r (p.some_of t other i (kept-back states states' at t kept low is) (omega arith) got'))
          (cases_eq i j);
    }

pub partial-link : (space : Space) (states states' : List State) (roots roots' : List Root) (edges edges' : List Edge) (at j : ℕ) (s : State) (alt : Alternative)
    → IsPartial space states roots edges at j → slice_get states at ≡ Some s → slice_get (alternatives space s) j ≡ Some alt
    → IsExtended states roots edges states' roots' edges' at alt → IsPartial space states' roots' edges' at (j + 1)
partial-link space states states' roots roots' edges edges' at j s alt p here got x =
    let P : List Root → List Edge → Type 0 = λ rs es. IsPartial space states' rs es at (j + 1) in
    subst (λ rs. P rs edges') (sym x.roots_is) (subst (λ es. P (roots ++ root_of alt ∷ []) es) (sym x.edges_is)
    (grown space states states' roots edges at j s alt x.edge p here got x.target x.weight x.first x.second x.kept x.from))

-- all alternatives of a state
pub partial-next : (space : Space) (states : List State) (roots : List Root) (edges : List Edge) (at j : ℕ) (s : State) → IsPartial space states roots edges at j
    → slice_get states at ≡ Some s → length (alternatives space s) ≤ j → IsPartial space states roots edges (at + 1) 0
partial-next space states roots edges at j s p here all = record {
  graph = p.graph;
  even = p.even;
  done_of = λ i t alt less is among. ⊎_elim
      (λ e.
      let there : slice_get states at ≡ Some t = subst (λ n. slice_get states n ≡ Some t) e is in
      let same : t ≡ s = cc in
      let low : among.at < length (alternatives space t) = slice_get_within (alternatives space t) among.at alt among.got in
      let low' : among.at < length (alternatives space s) = subst (λ z. among.at < length (alternatives space z)) same low in
      subst (λ n. IsOffered states roots edges n alt) (sym e) (p.some_of t alt among.at there (omega arith) among.got))
      (λ apart. p.done_of i t alt (omega arith) is among)
      (cases_eq i at);
  some_of = λ t alt i is less got. absurd (omega arith);
}

one-valid : (s : State) (k : ℕ) (t : State) → IsValid s → slice_get (s ∷ []) k ≡ Some t → IsValid t
one-valid s zero t h e = let same : t ≡ s = cc in subst (λ z. IsValid z) (sym same) h
one-valid s (suc k) t h e = absurd cc

pub partial-start : (space : Space) (s : State) → is_prefix s.ask.order s.need ≡ true → IsPartial space (s ∷ []) [] [] 0 0
partial-start space s h = record {
  graph = record { made = λ k e is. absurd cc; valid = λ k t is. one-valid s k t h is };
  even = refl;
  done_of = λ i t alt less is among. absurd (omega arith);
  some_of = λ t alt i is less got. absurd (omega arith);
}

pub partial-graph : (space : Space) (states : List State) (roots : List Root) (edges : List Edge) (at : ℕ) → IsPartial space states roots edges at 0 → IsGraph space states roots edges
partial-graph space states roots edges at p = p.graph

pub partial-full : (space : Space) (states : List State) (roots : List Root) (edges : List Edge) (at : ℕ) → IsPartial space states roots edges at 0 → length states ≤ at
    → IsFull space states roots edges
partial-full space states roots edges at p all = record {
  offered = λ i s alt is among. let low : i < length states = slice_get_within states i s is in p.done_of i s alt (omega arith) is among;
}

pub ruleset partial_steps = (partial-start, partial-graph, partial-full)
