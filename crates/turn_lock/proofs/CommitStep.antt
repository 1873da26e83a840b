-- A commit keeps the rule, from any state that meets it.
use Rattle.std.proofs.Common.{◌≡◌, ◌≢◌, ℕ, ◌+◌, ◌%◌, ◌^◌, ◌<◌, Some, List, [], ◌∷◌, ◌++◌, length, get_or, set, sym, refl, ap, ◌∙◌, subst, inl, inr, ⊎_elim, arith, length-append}
use Rattle.std.proofs.Math.Nat.{mod-eq_of_lt}
use Rattle.std.proofs.lemmas.List.Elements.{Contains-append_left, Contains-push, Contains-push_cases}
use Rattle.std.specs.List.{Contains}
use mathlib.Core.Logic.{dite}
use mathlib.Core.Option.{some}
use native.Mathlib.Decide.{ℕ_discrete}
use lib.ListN.{get_elem?}
use Rattle.atomic_table.specs.Table.{keeps, Allows}
use Rattle.turn_lock.specs.declared.views.View.{View}
use Rattle.turn_lock.specs.declared.views.Stage.{Stage}
use Rattle.turn_lock.specs.declared.views.Stage.TheVariants.{InTurn, Joining}
use Rattle.turn_lock.specs.History.{GoesOn}
use Rattle.turn_lock.specs.Views.{HasTicket, tickets, ticket_of, noted, TicketOf, ActorOf, PlaceOf, ticket_count, share_count, place_count, IsLive, IsInTurn}
use Rattle.turn_lock.specs.Rule.{IsPlaced, IsJoined, Ruled}
use Rattle.turn_lock.specs.Rule.IsPlaced.{at_home, out}
use Rattle.turn_lock.specs.Steps.{SeatState, Commits}
use Rattle.turn_lock.proofs.Stages.{turn_ticket, turn_tickets}
use Rattle.turn_lock.proofs.ActorLists.{in_merged}
use Rattle.turn_lock.proofs.Histories.{goes_nowhere, goes_more, same_last}
use Rattle.turn_lock.proofs.Rows.{sum_at, each_set, apart_set, in_bounds, some_set, some_one}
use Rattle.turn_lock.proofs.Facts.{Knows, facts, ruled}
use Rattle.turn_lock.proofs.WordSteps.{first_or, only_turn}

-- what a joined view keeps, after an event by none of its actors
joined_more : {E : Type 0} (actor : E → ℕ) (log prefix : List E) (actors : List ℕ) (st : Stage E) (e : E) → ¬ Contains actors (actor e) → IsJoined actor log prefix actors st → IsJoined actor (log ++ e ∷ []) prefix actors st
joined_more {E} actor log prefix actors (Joining xs mine ys theirs) e missing j = let P : List ℕ → Type 0 = λ z. Contains z (actor e) in (
  goes_more actor mine xs log e (λ c. missing (subst P (sym j.3) (in_merged mine theirs (actor e) (inl c)))) j.0,
  goes_more actor theirs ys log e (λ c. missing (subst P (sym j.3) (in_merged mine theirs (actor e) (inr c)))) j.1,
  j.2,
  j.3,
)
joined_more actor log prefix actors _ e missing j = tt

module _ {M E B : Type 0} (history : M → List E) (actor : E → ℕ) (base : M → B) (seats : ℕ) (b : B) where
  abbrev V : Type 0
  V = View E B

  pub commits : (slots id : ℕ) (x : M) (e : E) (me : SeatState M E B) → IsInTurn me.0 → me.1 ≡ (0, x) ∷ [] → history x ≡ noted me.0.stage ++ e ∷ [] → Contains me.0.actors (actor e) → length (history x) < 2 ^ 64
      → Allows (Ruled history actor base seats b) slots id me 0 (λ n. (n + 1) % 2 ^ 64) (Commits history me)
  commits slots id x e me is has one_more own small s rule _ at _ = let r = facts history actor base seats b s rule in let v : V = me.0 in let k = r.each id v at in let l : List V = s.views in let n : ℕ = get_or s.words 0 0 in
      let log : List E = history x in
      let all_noted : noted v.stage ≡ r.log = k.note is in
      let grown : log ≡ r.log ++ e ∷ [] = one_more ∙ ap (λ (z : List E). z ++ e ∷ []) all_noted in
      let found : n ≡ length r.log = ap (λ (ws : List ℕ). get_or ws 0 0) r.words in
      let count : length log ≡ length r.log + 1 = ap length grown ∙ length-append r.log (e ∷ []) in
      let w : V = record v { stage = InTurn (ticket_of v.stage) log (Some e); prefix = log; places = v.places ++ (n + 1) ∷ [] } in
      let one : tickets v.stage ≡ 1 = turn_tickets v.stage is in
      let live : IsLive v = k.waits (omega (arith, one)) in
      let not_theirs : (j : ℕ) (u : V) → j ≢ id → get_elem? l j ≡ some u → ¬ Contains u.actors (actor e) = λ j u other f h. other (r.actors_apart j id u v (actor e) f at h own) in (
        w,
        keeps,
        tt,
        ruled history actor base seats b _ record {
          served = r.served;
          drawn = r.drawn;
          log = log;
          few = r.few;
          words = ap (λ (ws : List ℕ). set ws 0 ((get_or ws 0 0 + 1) % 2 ^ 64)) r.words ∙ ap (λ (z : ℕ). z ∷ r.drawn % 2 ^ 64 ∷ r.served % 2 ^ 64 ∷ []) (ap (λ (z : ℕ). z % 2 ^ 64) (sym count) ∙ mod-eq_of_lt small);
          tickets = omega (arith, sum_at ticket_count l id v w at, r.tickets, one);
          shares = omega (arith, sum_at share_count l id v w at, r.shares);
          counted = omega (arith, sum_at place_count l id v w at, r.counted, count, length-append v.places ((n + 1) ∷ []));
          each = each_set (Knows actor seats r.served r.drawn log b) l id w record {
            ticket = λ m h. k.ticket m (subst (HasTicket v.stage) h (turn_ticket v.stage is));
            turn = λ _. k.turn is;
            note = λ _. refl;
            waits = λ _. live;
            owns = λ _. live;
            base = k.base;
            seen = goes_nowhere actor v.actors log;
            rise = k.rise;
            below = k.below;
            placed = λ p h. ⊎_elim (λ old. let q = k.placed p old in (q.0, omega (arith, q.1, count))) (λ (y : n + 1 ≡ p). (omega arith, omega (arith, count, found))) (Contains-push_cases v.places (n + 1) p h);
            joined = tt;
          } (λ j u other f. let q = r.each j u f in record {
            ticket = q.ticket;
            turn = q.turn;
            note = λ h. absurd (other (only_turn history actor base seats b s r id v at is j u f h));
            waits = q.waits;
            owns = q.owns;
            base = q.base;
            seen = subst (GoesOn actor u.actors u.prefix) (sym grown) (goes_more actor u.actors u.prefix r.log e (not_theirs j u other f) q.seen);
            rise = q.rise;
            below = q.below;
            placed = λ p h. let y = q.placed p h in (y.0, omega (arith, y.1, count));
            joined = subst (λ (z : List E). IsJoined actor z u.prefix u.actors u.stage) (sym grown) (joined_more actor r.log u.prefix u.actors u.stage e (not_theirs j u other f) q.joined);
          });
          tickets_apart = apart_set TicketOf l id v w at r.tickets_apart (λ m h. inl (subst (HasTicket v.stage) h (turn_ticket v.stage is)));
          actors_apart = apart_set ActorOf l id v w at r.actors_apart (λ m c. inl c);
          places_apart = apart_set PlaceOf l id v w at r.places_apart (λ p c. ⊎_elim (λ old. inl old) (λ (y : n + 1 ≡ p). inr (λ j u f h. absurd (omega (arith, ((r.each j u f).placed p h).1, found)))) (Contains-push_cases v.places (n + 1) p c));
          actors_all = λ a h. some_set (λ u. ActorOf u a) l id v w at (λ c. c) (r.actors_all a h);
          places_all = λ p h. dite (ℕ_discrete p (n + 1)) (λ y. some_one (λ u. PlaceOf u p) l id w (in_bounds l id v at) (subst (Contains w.places) (sym y) (Contains-push v.places (n + 1))))
              (λ not_new. some_set (λ u. PlaceOf u p) l id v w at (λ c. Contains-append_left v.places ((n + 1) ∷ []) p c) (r.places_all p (h.0, omega (arith, h.1, count, found))));
          longest = some_one (λ u. IsLive u × (u.prefix ≡ log)) l id w (in_bounds l id v at) (live, refl);
          place = elim r.place as (λ _. IsPlaced history base log b s.homes (set l id w)) [
            | at_home m f g h nobody ↦ absurd (nobody (id, v, at, is))
            | out f someone ↦ out f (some_set IsInTurn l id v w at (λ _. refl) someone)
          ];
        },
        λ x' e' has' more'. let same : x ≡ x' = ap (first_or x) (sym has ∙ has') in
            let one_event : e ≡ e' = same_last (noted v.stage) e e' (sym one_more ∙ ap history same ∙ more') in
            (omega (arith, ap (λ (z : M). length (history z)) same, count, found), λ i. ((record v { stage = InTurn (ticket_of v.stage) (history (same i)) (Some (one_event i)); prefix = history (same i); places = v.places ++ (n + 1) ∷ [] }), me.1)),
      )
