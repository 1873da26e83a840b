-- How a graph grows by an edge.
use Rattle.std.proofs.Common.{◌≡◌, ℕ, inl, inr, ⊎_elim, List, [], ◌∷◌, ◌++◌, length, Option, Some, None, refl, sym, ap}
use Rattle.std.specs.List.{slice_get}
use Rattle.cheapest_derivations.specs.declared.table.Edge.{Edge}
use Rattle.cheapest_derivations.proofs.Sound.{get-push, get-last, pushed-get}
use Rattle.phys_plan.specs.declared.alternatives.State.{State}
use Rattle.phys_plan.specs.declared.alternatives.Alternative.{Alternative}
use Rattle.volcano_best.specs.declared.graph.Root.{Root}
use Rattle.volcano_best.specs.Graphs.{IsNumber, root_of, AreKept, IsNumbered, IsInput, IsExtended}

pub kept-same : {A : Type 0} (xs : List A) → AreKept xs xs
kept-same xs = record { kept = λ k x e. e }

pub kept-push : {A : Type 0} (xs : List A) (y : A) → AreKept xs (xs ++ y ∷ [])
kept-push xs y = record { kept = λ k x e. get-push xs y k x e }

pub kept-trans : {A : Type 0} (xs ys zs : List A) → AreKept xs ys → AreKept ys zs → AreKept xs zs
kept-trans xs ys zs p q = record { kept = λ k x e. q.kept k x (p.kept k x e) }

pub numbered-there : (states : List State) (s : State) (i : ℕ) → slice_get states i ≡ Some s → IsNumbered states states s i
numbered-there states s i here = record { kept = kept-same states; here = here; from = λ k t e. inl e }

pub numbered-new : (states : List State) (s : State) → IsNumbered states (states ++ s ∷ []) s (length states)
numbered-new states s = record {
  kept = kept-push states s;
  here = get-last states s;
  from = λ k t e. ⊎_elim (λ h. inl h) (λ h. inr h.1) (pushed-get states s k t e);
}

pub input-none : (states : List State) → IsInput states states None None
input-none states = record { kept = kept-same states; here = tt; from = λ k t e. inl e }

pub input-some : (old new : List State) (s : State) (n : ℕ) → IsNumbered old new s n → IsInput old new (Some s) (Some n)
input-some old new s n h = record {
  kept = h.kept;
  here = h.here;
  from = λ k t e. ⊎_elim (λ h. inl h) (λ h. inr (ap Some (sym h))) (h.from k t e);
}

pub ruleset number_steps = (numbered-there, numbered-new, input-none, input-some)

pub number-kept : (old new : List State) (s : Option State) (n : Option ℕ) → AreKept old new → IsNumber old s n → IsNumber new s n
number-kept old new None None kept h = tt
number-kept old new None (Some k) kept h = absurd h
number-kept old new (Some s) None kept h = absurd h
number-kept old new (Some s) (Some k) kept h = kept.kept k s h

pub extended : (states mid new : List State) (roots : List Root) (edges : List Edge) (at : ℕ) (alt : Alternative) (first second : Option ℕ)
    → IsInput states mid alt.first first → IsInput mid new alt.second second
    → IsExtended states roots edges new (roots ++ root_of alt ∷ []) (edges ++ record { target = at; weight = alt.weight; first = first; second = second } ∷ []) at alt
extended states mid new roots edges at alt first second x y = record {
  edge = record { target = at; weight = alt.weight; first = first; second = second };
  edges_is = refl;
  roots_is = refl;
  target = refl;
  weight = refl;
  first = number-kept mid new alt.first first y.kept x.here;
  second = y.here;
  kept = kept-trans states mid new x.kept y.kept;
  from = λ k t e. ⊎_elim
      (λ h. ⊎_elim (λ g. inl g) (λ g. inr (inl g)) (x.from k t h))
      (λ h. inr (inr h))
      (y.from k t e);
}

pub ruleset link_steps = (extended)
