-- How a lock begins and ends.
use Rattle.std.proofs.Common.{◌≡◌, ℕ, zero, suc, ◌^◌, ◌<◌, List, [], ◌∷◌, map, length, sym, refl, ap, ◌∙◌, subst, Some, arith}
use Rattle.std.proofs.lemmas.Bool.{false≢true}
use Rattle.std.proofs.lemmas.List.FromFn.{length-range_with_len}
use Rattle.std.specs.List.{sum_by, range_with_len}
use mathlib.Core.Logic.{dite}
use mathlib.Core.Option.{Option, some, some-injective, some-ne-none}
use native.Mathlib.Decide.{ℕ_discrete}
use lib.ListN.{get_elem?}
use Rattle.atomic_table.specs.Table.{State, opening, Final, Seen}
use Rattle.turn_lock.specs.declared.views.View.{View}
use Rattle.turn_lock.specs.declared.views.Stage.TheVariants.{Idle}
use Rattle.std.specs.List.Sorted.{IsPermutation}
use Rattle.turn_lock.specs.Views.{TicketOf, ActorOf, PlaceOf, share_count, place_count, IsLive, IsInTurn}
use Rattle.turn_lock.specs.Rule.{Someone, Apart, Ruled, first_view}
use Rattle.turn_lock.specs.Rule.IsPlaced.{at_home, out}
use Rattle.turn_lock.proofs.Stages.{not_turn, turn_tickets}
use Rattle.turn_lock.proofs.ActorLists.{range_contains, range_bounds, range_rises, IsPermutation-range_with_len}
use Rattle.turn_lock.proofs.Histories.{goes_nowhere}
use Rattle.turn_lock.proofs.Rows.{sum_two, sum_only, one_entry}
use Rattle.turn_lock.proofs.Facts.{Knows, Facts, facts, ruled}

alone : {A : Type 0} (v w : A) (i : ℕ) → get_elem? (v ∷ []) i ≡ some w → (i ≡ 0) × (v ≡ w)
alone v w zero e = (refl, some-injective v w e)
alone v w (suc i) e = absurd (some-ne-none w (sym e))

-- what is known of the machine that comes back
pub record Closes {M E B : Type 0} (history : M → List E) (base : M → B) (v : View E B) (xs : List M) : Type 0 where
  pub machine : M
  pub found : get_elem? xs 0 ≡ some machine
  pub exact : history machine ≡ v.prefix
  pub from : v.base ≡ Some (base machine)
  pub places : IsPermutation v.places (range_with_len 1 (length (history machine)))

module _ {M E B : Type 0} (history : M → List E) (actor : E → ℕ) (base : M → B) (seats : ℕ) where
  pub opens : (m : M) (ws : List ℕ) (xs : List M) → 0 < seats → seats < 2 ^ 32 → ws ≡ length (history m) ∷ 0 ∷ 0 ∷ [] → xs ≡ m ∷ []
      → Ruled history actor base seats (base m) (opening ws xs (first_view seats (history m) (base m)))
  opens m ws xs some_seat few is has = let v : View E B = first_view seats (history m) (base m) in let log : List E = history m in let places = length-range_with_len 1 (length log) in let shares = length-range_with_len 0 seats in
      let one : (Of : View E B → ℕ → Type 0) → Apart Of (v ∷ []) = λ Of i j u w n e f _ _. (alone v u i e).0 ∙ sym (alone v w j f).0 in ruled history actor base seats (base m) _ record {
        served = 0;
        drawn = 0;
        log = log;
        few = few;
        words = is;
        tickets = refl;
        shares = omega (arith, shares);
        counted = omega (arith, places);
        each = λ i u e. subst (Knows actor seats 0 0 log (base m)) (alone v u i e).1 record {
          ticket = λ n h. absurd h;
          turn = λ h. absurd (false≢true h);
          note = λ h. absurd (false≢true h);
          waits = λ h. absurd (omega (arith, h));
          owns = λ _. omega (arith, shares);
          base = λ _. refl;
          seen = goes_nowhere actor v.actors log;
          rise = range_rises 0 seats;
          below = λ a h. omega (arith, (range_bounds 0 seats a h).1);
          placed = λ p h. let q = range_bounds 1 (length log) p h in (omega (arith, q.0), omega (arith, q.1));
          joined = tt;
        };
        tickets_apart = one TicketOf;
        actors_apart = one ActorOf;
        places_apart = one PlaceOf;
        actors_all = λ a h. (0, v, refl, range_contains 0 seats a (omega arith) (omega arith));
        places_all = λ p h. (0, v, refl, range_contains 1 (length log) p h.0 (omega (arith, h.1)));
        longest = (0, v, refl, (omega (arith, shares), refl));
        place = at_home m (ap (map some) has) refl refl (λ someone. not_turn someone.1.stage Idle (ap (λ (z : View E B). z.stage) (sym (alone v someone.1 someone.0 someone.2).1)) refl someone.3);
      }

  -- where one view has all shares, nobody else has any
  module _ (b : B) (s : State M (View E B)) (r : Facts history actor base seats b s) (id : ℕ) (v : View E B) (at : get_elem? s.views id ≡ some v) (all : share_count v ≡ seats) where
    sole : (P : View E B → Type 0) → ((u : View E B) (i : ℕ) → get_elem? s.views i ≡ some u → P u → IsLive u) → Someone P s.views → P v
    sole P live someone = let i : ℕ = someone.0 in let u : View E B = someone.1 in dite (ℕ_discrete i id)
        (λ same. subst P (one_entry s.views i id u v someone.2 at same) someone.3)
        (λ other. absurd (omega (arith, sum_two share_count s.views i id u v other someone.2 at, r.shares, all, live u i someone.2 someone.3)))

    all_places : sum_by place_count s.views ≡ place_count v
    all_places = sum_only place_count s.views id v at (λ j u other e. let none_left : share_count u ≡ 0 = omega (arith, sum_two share_count s.views j id u v other e at, r.shares, all) in
        dite (ℕ_discrete (place_count u) 0) (λ z. z) (λ some_place. absurd (omega (arith, (r.each j u e).owns (omega arith)))))

  pub closes : (b : B) (id : ℕ) (v : View E B) (ws : List ℕ) (xs : List M) → v.stage ≡ Idle → share_count v ≡ seats → Final (Seen (Ruled history actor base seats b) id v) ws xs → Closes history base v xs
  closes b id v ws xs idle all last = let s : State M (View E B) = last.0 in let r = facts history actor base seats b s last.1.0 in let at = last.1.1 in
      let longest = sole b s r id v at all (λ u. IsLive u × (u.prefix ≡ r.log)) (λ u i e p. p.0) r.longest in
      let places = all_places b s r id v at all in
      elim r.place as (λ _. Closes history base v xs) [
        | at_home m e f h nobody ↦ record {
          machine = m;
          found = last.4 0 m (ap (λ (hs : List (Option M)). get_elem? hs 0) e);
          exact = h ∙ sym longest.1;
          from = (r.each id v at).base longest.0 ∙ ap Some (sym f);
          places = IsPermutation-range_with_len (length (history m)) 1 v.places (omega (arith, places, r.counted, ap length h))
              (λ p low high. sole b s r id v at all (λ u. PlaceOf u p) (λ u i g c. (r.each i u g).owns (omega (arith, c.1))) (r.places_all p (low, omega (arith, high, ap length h))));
        }
        | out e someone ↦ absurd (not_turn v.stage Idle idle refl (sole b s r id v at all IsInTurn (λ u i g q. (r.each i u g).waits (omega (arith, turn_tickets u.stage q))) someone))
      ]
