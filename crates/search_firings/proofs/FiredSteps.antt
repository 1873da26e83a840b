-- Firings in a set that looks them up by hashing.
use Rattle.std.proofs.Common.{◌≡◌, ℕ, ◌+◌, ◌<◌, ◌≤◌, Bool, true, false, cond, ◌||◌, List, [], ◌∷◌, ◌++◌, map, length, get_or, drop, refl, sym, ◌∙◌, ap}
use Rattle.std.specs.Prelude.{◌==◌, ◌&&◌}
use Rattle.std.specs.List.{list_any}
use Rattle.std.proofs.Math.Seq.{drop-cons}
use Rattle.std.proofs.Math.Numerals.{add-one}
use Rattle.std.proofs.lemmas.List.{drop_all, map_push}
use Rattle.indexmap.specs.IndexSet.{insert_key}
use Rattle.memo_model.proofs.TreeLemmas.{rel_eq-tree}
use Rattle.search_model.specs.Firings as plain
use Rattle.search_model.specs.Firings.{renumbered}
use Rattle.search_model.specs.Search.{same_firing, among, joined, gathered}
use Rattle.search_firings.specs.declared.firing.Firing.{Firing}
use Rattle.search_firings.specs.Equal.{firing_eq}
use Rattle.search_firings.specs.EqualLaws.{firing_eq_equiv}
use Rattle.search_firings.specs.Seen.{firing_of}

same-is : (f g : Firing) → same_firing (firing_of g) (firing_of f) ≡ firing_eq f g
same-is f g = ap (λ b. g.rule == f.rule && g.nth == f.nth && g.set == f.set && b) (sym (rel_eq-tree g.binding f.binding)) ∙ firing_eq_equiv.symm g f

or-is : (a b : Bool) → (a || b) ≡ cond a true b
or-is true b = refl
or-is false b = refl

pub any-among : (f : Firing) (keys : List Firing) → list_any (firing_eq f) keys ≡ among (firing_of f) (map firing_of keys)
any-among f [] = refl
any-among f (g ∷ keys) = (λ i. sym (same-is f g) i || any-among f keys i) ∙ or-is (same_firing (firing_of g) (firing_of f)) (among (firing_of f) (map firing_of keys))

insert-by : (b : Bool) (keys : List Firing) (f : Firing) → map firing_of (cond b keys (keys ++ f ∷ [])) ≡ cond b (map firing_of keys) (map firing_of keys ++ firing_of f ∷ [])
insert-by true keys f = refl
insert-by false keys f = map_push firing_of keys f

pub insert-joined : (keys : List Firing) (f : Firing) → map firing_of (insert_key firing_eq keys f) ≡ joined (map firing_of keys) (firing_of f)
insert-joined keys f =
    insert-by (list_any (firing_eq f) keys) keys f ∙ ap (λ b. cond b (map firing_of keys) (map firing_of keys ++ firing_of f ∷ [])) (any-among f keys)

pub gather-next : (m : ℕ → ℕ) (all : List plain.Firing) (firings : List Firing) (i : ℕ) (x : Firing) → i < length firings → x ≡ get_or firings i x
    → gathered m all (map firing_of (drop i firings)) ≡ gathered m (joined all (renumbered m (firing_of x))) (map firing_of (drop (i + 1) firings))
gather-next m all firings i x h e = rw (drop-cons firings i x h, ← e, add-one)

pub gather-end : (m : ℕ → ℕ) (all : List plain.Firing) (firings : List Firing) (i : ℕ) → length firings ≤ i → gathered m all (map firing_of (drop i firings)) ≡ all
gather-end m all firings i h = rw (drop_all i firings h)

pub ruleset gather_steps = (gather-next, gather-end)
