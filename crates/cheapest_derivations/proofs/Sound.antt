-- A table stays sound when an edge's step is recorded.
use Rattle.std.proofs.Common.{◌≡◌, ℕ, zero, suc, ◌+◌, ◌<◌, ◌⊎◌, inl, inr, ⊎_elim, List, [], ◌∷◌, ◌++◌, map, length, set, Option, Some, None, refl, sym, ◌∙◌, ap, subst, cond, ltb, min, true, false, Bool}
use Rattle.std.specs.List.{slice_get}
use Rattle.std.specs.Option.{option_map}
use Rattle.std.proofs.lemmas.List.{get_or-set_same, get_or-set_other}
use Rattle.std.proofs.lemmas.Bool.{cases_eq}
use Rattle.std.proofs.lemmas.Option.{slice_get_within, slice_get-map, get_or_from_slice_get}
use Rattle.cheapest_derivations.specs.declared.table.Edge.{Edge}
use Rattle.cheapest_derivations.specs.declared.table.Cell.{Cell}
use Rattle.cheapest_derivations.specs.declared.table.Step.{Step}
use Rattle.cheapest_derivations.specs.Derivations.{Tree, none, step, Derives, cost, weight_at}
use Rattle.cheapest_derivations.specs.Offers.{cell_at, value_of, place_of, joined, better, offered, step_for}
use Rattle.cheapest_derivations.specs.Tables.{Spells, Holds, IsBelow, AreOrdered, IsSound}

pub get-push : {A : Type 0} (xs : List A) (x : A) (k : ℕ) (y : A) → slice_get xs k ≡ Some y → slice_get (xs ++ x ∷ []) k ≡ Some y
get-push [] x k y h = absurd cc
get-push (z ∷ xs) x zero y h = h
get-push (z ∷ xs) x (suc k) y h = get-push xs x k y h

pub get-last : {A : Type 0} (xs : List A) (x : A) → slice_get (xs ++ x ∷ []) (length xs) ≡ Some x
get-last [] x = refl
get-last (z ∷ xs) x = get-last xs x

pub pushed-get : {A : Type 0} (xs : List A) (x : A) (k : ℕ) (y : A) → slice_get (xs ++ x ∷ []) k ≡ Some y → (slice_get xs k ≡ Some y) ⊎ ((k ≡ length xs) × (y ≡ x))
pushed-get [] x zero y h = inr (refl, cc)
pushed-get [] x (suc k) y h = absurd cc
pushed-get (z ∷ xs) x zero y h = inl h
pushed-get (z ∷ xs) x (suc k) y h = ⊎_elim (λ e. inl e) (λ e. inr (ap suc e.0, e.1)) (pushed-get xs x k y h)

pub spells-push : (steps : List Step) (x : Step) (place : Option ℕ) (t : Tree) → Spells steps place t → Spells (steps ++ x ∷ []) place t
spells-push steps x place none h = h
spells-push steps x place (step e a b) h =
    (h.0, h.1, h.2, get-push steps x h.0 h.1 h.3, h.4, spells-push steps x h.1.first a h.5, spells-push steps x h.1.second b h.6)

pub holds-push : (limit : ℕ) (edges : List Edge) (steps : List Step) (x : Step) (s : ℕ) (c : Cell) → Holds limit edges steps s c → Holds limit edges (steps ++ x ∷ []) s c
holds-push limit edges steps x s c h =
    record { tree = h.tree; spelled = spells-push steps x (Some c.place) h.tree h.spelled; derives = h.derives; cost = h.cost }

below-tree : (edges : List Edge) (steps : List Step) (s k : ℕ) (t : Tree) → Derives edges (Some s) t → Spells steps (Some k) t → k < length steps
below-tree edges steps s k none d p = absurd cc
below-tree edges steps s k (step e a b) d p =
    let at : k ≡ p.0 = cc in
    subst (λ n. n < length steps) (sym at) (slice_get_within steps p.0 p.1 p.3)

pub holds-below : (limit : ℕ) (edges : List Edge) (steps : List Step) (s : ℕ) (c : Cell) → Holds limit edges steps s c → c.place < length steps
holds-below limit edges steps s c h = below-tree edges steps s c.place h.tree h.derives h.spelled

-- a derivation of an edge's input, from a sound table
record Known (limit : ℕ) (edges : List Edge) (steps : List Step) (input place : Option ℕ) (n : ℕ) : Type 0 where
  tree : Tree
  spelled : Spells steps place tree
  derives : Derives edges input tree
  cost : cost limit edges tree ≡ n

known : (limit : ℕ) (edges : List Edge) (cells : List (Option Cell)) (steps : List Step) → IsSound limit edges cells steps
    → (input : Option ℕ) (n : ℕ) → value_of cells input ≡ Some n → Known limit edges steps input (place_of cells input) n
known limit edges cells steps sound None n h = record { tree = none; spelled = refl; derives = refl; cost = cc }
known limit edges cells steps sound (Some s) n h = at_cell (cell_at cells s) refl h
  where
    at_cell : (there : Option Cell) → cell_at cells s ≡ there → option_map (λ c. c.cost) there ≡ Some n → Known limit edges steps (Some s) (option_map (λ c. c.place) there) n
    at_cell None is got = absurd cc
    at_cell (Some c) is got =
        let held : Holds limit edges steps s c = sound.held s c is in
        record { tree = held.tree; spelled = held.spelled; derives = held.derives; cost = held.cost ∙ cc }

place-below : (limit : ℕ) (edges : List Edge) (cells : List (Option Cell)) (steps : List Step) → IsSound limit edges cells steps
    → (input : Option ℕ) → IsBelow (length steps) (place_of cells input)
place-below limit edges cells steps sound None = tt
place-below limit edges cells steps sound (Some s) = at_cell (cell_at cells s) refl
  where
    at_cell : (there : Option Cell) → cell_at cells s ≡ there → IsBelow (length steps) (option_map (λ c. c.place) there)
    at_cell None is = tt
    at_cell (Some c) is = holds-below limit edges steps s c (sound.held s c is)

pub ordered-record : (limit : ℕ) (edges : List Edge) (cells : List (Option Cell)) (steps : List Step) → IsSound limit edges cells steps
    → (k : ℕ) (edge : Edge) → k < length edges → AreOrdered (steps ++ step_for cells k edge ∷ []) (length edges)
ordered-record limit edges cells steps sound k edge low = record {
  edge = λ j x got. ⊎_elim (sound.ordered.edge j x)
      (λ e. subst (λ y. y.edge < length edges) (sym e.1) low)
      (pushed-get steps (step_for cells k edge) j x got);
  first = λ j x got. ⊎_elim (sound.ordered.first j x)
      (λ e. let P : ℕ → Step → Type 0 = λ m y. IsBelow m y.first in
      subst (λ y. P j y) (sym e.1) (subst (λ m. P m (step_for cells k edge)) (sym e.0) (place-below limit edges cells steps sound edge.first)))
      (pushed-get steps (step_for cells k edge) j x got);
  second = λ j x got. ⊎_elim (sound.ordered.second j x)
      (λ e. let P : ℕ → Step → Type 0 = λ m y. IsBelow m y.second in
      subst (λ y. P j y) (sym e.1) (subst (λ m. P m (step_for cells k edge)) (sym e.0) (place-below limit edges cells steps sound edge.second)))
      (pushed-get steps (step_for cells k edge) j x got);
}

-- what an edge offers, it offers over known inputs
record Joined (limit w n : ℕ) (first second : Option ℕ) : Type 0 where
  a : ℕ
  b : ℕ
  first_is : first ≡ Some a
  second_is : second ≡ Some b
  sum : n ≡ min (w + a + b) limit

joined-parts : (limit w n : ℕ) (va vb : Option ℕ) (there : Option Cell) → better (joined limit w va vb) there ≡ Some n → Joined limit w n va vb
joined-parts limit w n None vb there h = absurd cc
joined-parts limit w n (Some a) None there h = absurd cc
joined-parts limit w n (Some a) (Some b) None h = record { a = a; b = b; first_is = refl; second_is = refl; sum = cc }
joined-parts limit w n (Some a) (Some b) (Some c) h = at_test (ltb (min (w + a + b) limit) c.cost) h
  where
    at_test : (t : Bool) → cond t (Some (min (w + a + b) limit)) None ≡ Some n → Joined limit w n (Some a) (Some b)
    at_test true e = record { a = a; b = b; first_is = refl; second_is = refl; sum = cc }
    at_test false e = absurd cc

pub weight-is : (edges : List Edge) (k : ℕ) (edge : Edge) → slice_get edges k ≡ Some edge → weight_at edges k ≡ edge.weight
weight-is edges k edge got =
    get_or_from_slice_get (map (λ x. x.weight) edges) k edge.weight 0 (slice_get-map (λ x. x.weight) edges k ∙ ap (option_map (λ x. x.weight)) got)

-- the new cell is that of a derivation
holds-new : (limit : ℕ) (edges : List Edge) (cells : List (Option Cell)) (steps : List Step) → IsSound limit edges cells steps
    → (k : ℕ) (edge : Edge) (n : ℕ) → slice_get edges k ≡ Some edge → offered limit cells edge ≡ Some n
    → Holds limit edges (steps ++ step_for cells k edge ∷ []) edge.target (record { cost = n; place = length steps })
holds-new limit edges cells steps sound k edge n got offer =
    let new : Step = step_for cells k edge in
    let parts : Joined limit edge.weight n (value_of cells edge.first) (value_of cells edge.second) = joined-parts limit edge.weight n _ _ (cell_at cells edge.target) offer in
    let x : Known limit edges steps edge.first (place_of cells edge.first) parts.a = known limit edges cells steps sound edge.first parts.a parts.first_is in
    let y : Known limit edges steps edge.second (place_of cells edge.second) parts.b = known limit edges cells steps sound edge.second parts.b parts.second_is in
    record {
      tree = step k x.tree y.tree;
      spelled = (
        length steps,
        new,
        refl,
        get-last steps new,
        refl,
        spells-push steps new (place_of cells edge.first) x.tree x.spelled,
        spells-push steps new (place_of cells edge.second) y.tree y.spelled,
      );
      derives = (edge, got, refl, x.derives, y.derives);
      cost = rw (weight-is edges k edge got, x.cost, y.cost) (sym parts.sum);
    }

pub sound-record : (limit : ℕ) (edges : List Edge) (cells : List (Option Cell)) (steps : List Step) → IsSound limit edges cells steps
    → (k : ℕ) (edge : Edge) (n : ℕ) → slice_get edges k ≡ Some edge → offered limit cells edge ≡ Some n → edge.target < length cells
    → IsSound limit edges (set cells edge.target (Some (record { cost = n; place = length steps }))) (steps ++ step_for cells k edge ∷ [])
sound-record limit edges cells steps sound k edge n got offer within = record {
  held = λ s c is. ⊎_elim
      (λ same.
      let there : cell_at (set cells edge.target (Some new)) s ≡ Some new = rw same (get_or-set_same cells edge.target (Some new) None within) in
      let e : c ≡ new = cc in
      let P : ℕ → Cell → Type 0 = λ t d. Holds limit edges (steps ++ step_for cells k edge ∷ []) t d in
      subst (λ d. P s d) (sym e) (subst (λ t. P t new) (sym same) (holds-new limit edges cells steps sound k edge n got offer)))
      (λ other.
      let there : cell_at cells s ≡ Some c = sym (get_or-set_other cells edge.target s (Some new) None other) ∙ is in
      holds-push limit edges steps (step_for cells k edge) s c (sound.held s c there))
      (cases_eq s edge.target);
  ordered = ordered-record limit edges cells steps sound k edge (slice_get_within edges k edge got);
}
  where
    new : Cell
    new = record { cost = n; place = length steps }
