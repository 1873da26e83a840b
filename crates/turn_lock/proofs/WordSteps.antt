-- The steps on a word keep the rule, from any state that meets it: draw, look, hand on, meet and settle.
use Rattle.std.proofs.Common.{◌≡◌, ◌≢◌, ℕ, ◌+◌, ◌%◌, ◌^◌, ◌<◌, Some, None, List, [], ◌∷◌, length, get_or, set, sym, refl, ap, ◌∙◌, subst, ◌⊎◌, inl, inr, ⊎_elim, arith}
use Rattle.std.proofs.Math.Nat.{mod-add-mod}
use Rattle.std.proofs.lemmas.Bool.{false≢true}
use mathlib.Core.Logic.{dite}
use mathlib.Core.Option.{Option, none, some}
use native.Mathlib.Decide.{ℕ_discrete}
use lib.ListN.{get_elem?}
use lib.Seq.{set-get_or}
use Rattle.atomic_table.specs.Table.{State, keeps, takes, gives, put_back, Allows}
use Rattle.atomic_table.proofs.Lists.{set_again, at_set, one_turn}
use Rattle.turn_lock.specs.declared.views.View.{View}
use Rattle.turn_lock.specs.declared.views.Stage.{Stage}
use Rattle.turn_lock.specs.declared.views.Stage.TheVariants.{Idle, Waiting, InTurn, Joining}
use Rattle.turn_lock.specs.History.{GoesOn}
use Rattle.turn_lock.specs.Views.{HasTicket, tickets, ticket_of, noted, TicketOf, ActorOf, PlaceOf, ticket_count, share_count, place_count, IsLive, IsInTurn}
use Rattle.turn_lock.specs.Rule.{IsPlaced, IsJoined, Ruled}
use Rattle.turn_lock.specs.Rule.IsPlaced.{at_home, out}
use Rattle.turn_lock.specs.Steps.{SeatState, Draws, Enters, Looks, HandsOn, Meets, Settles}
use Rattle.turn_lock.proofs.Stages.{turn_ticket, turn_tickets, not_turn}
use Rattle.turn_lock.proofs.Histories.{goes_nowhere, goes_longer}
use Rattle.turn_lock.proofs.Rows.{sum_at, sum_one, each_set, apart_set, in_bounds, one_entry, some_set, some_unset, some_one}
use Rattle.turn_lock.proofs.Facts.{Knows, Facts, facts, ruled, few_out}

has_ticket : {E : Type 0} (st : Stage E) (t : ℕ) → st ≡ Waiting t → HasTicket st t
has_ticket {E} st t e = let P : Stage E → Type 0 = λ z. HasTicket z t in subst P (sym e) refl

-- where the machine comes home
one_home : {M E B : Type 0} (history : M → List E) (base : M → B) (log : List E) (b : B) (homes : List (Option M)) (l : List (View E B)) (x : M) → IsPlaced history base log b homes l → set homes 0 (some x) ≡ some x ∷ []
one_home {M = M} history base log b homes l x (at_home m e _ _ _) = ap (λ (hs : List (Option M)). set hs 0 (some x)) e
one_home {M = M} history base log b homes l x (out e _) = ap (λ (hs : List (Option M)). set hs 0 (some x)) e

-- the machine in the slot that was taken last
abbrev pub first_or : {M : Type 0} → M → List (ℕ × M) → M
first_or d [] = d
first_or d (y ∷ ys) = y.1

-- the two cases of a look
module _ {M E B : Type 0} (history : M → List E) (actor : E → ℕ) (base : M → B) (m : SeatState M E B) where
  looked : (m' : SeatState M E B) (r : ℕ) → r ≡ ticket_of m.0.stage % 2 ^ 64 → Enters history actor base m m' → Looks history actor base m r m'
  looked m' r hit enters = ((λ _. enters), λ miss. absurd (miss hit))

  waits_on : (r : ℕ) → r ≢ ticket_of m.0.stage % 2 ^ 64 → Looks history actor base m r m
  waits_on r miss = ((λ hit. absurd (miss hit)), λ _. refl)

module _ {M E B : Type 0} (history : M → List E) (actor : E → ℕ) (base : M → B) (seats : ℕ) (b : B) where
  abbrev V : Type 0
  V = View E B

  abbrev St : Type 0
  St = State M V

  abbrev Rule : St → Type 0
  Rule = Ruled history actor base seats b

  abbrev F : St → Type 0
  F = Facts history actor base seats b

  abbrev K : ℕ → ℕ → List E → V → Type 0
  K served drawn log v = Knows actor seats served drawn log b v

  -- a change of a view that is not in turn, before and after
  pub place_stays : (log : List E) (homes : List (Option M)) (l : List V) (id : ℕ) (v w : V) → get_elem? l id ≡ some v → ¬ IsInTurn v → ¬ IsInTurn w → IsPlaced history base log b homes l → IsPlaced history base log b homes (set l id w)
  place_stays log homes l id v w at not_v not_w (at_home m e f h nobody) = at_home m e f h (λ s. nobody (some_unset IsInTurn l id w not_w s))
  place_stays log homes l id v w at not_v not_w (out e s) = out e (some_set IsInTurn l id v w at (λ p. absurd (not_v p)) s)

  abbrev changed : V → Stage E → List E → V
  changed v st xs = record v { stage = st; prefix = xs }

  -- a step that changes the stage and the prefix of one view
  changes : (s : St) (r : F s) (served drawn : ℕ) (ws : List ℕ) (homes : List (Option M)) (id : ℕ) (v : V) (st : Stage E) (xs : List E) → get_elem? s.views id ≡ some v
      → ws ≡ length r.log ∷ drawn % 2 ^ 64 ∷ served % 2 ^ 64 ∷ [] → drawn + r.served + tickets v.stage ≡ served + r.drawn + tickets st → K served drawn r.log (changed v st xs)
      → ((j : ℕ) (u : V) → j ≢ id → get_elem? s.views j ≡ some u → K served drawn r.log u) → ((n : ℕ) → HasTicket st n → HasTicket v.stage n ⊎ ((j : ℕ) (u : V) → get_elem? s.views j ≡ some u → ¬ TicketOf u n))
      → (v.prefix ≡ r.log → xs ≡ r.log) → IsPlaced history base r.log b homes (set s.views id (changed v st xs)) → Rule record { words = ws; homes = homes; views = set s.views id (changed v st xs) }
  changes s r served drawn ws homes id v st xs at words tally mine others fresh same place = let w : V = changed v st xs in ruled history actor base seats b record { words = ws; homes = homes; views = set s.views id w } record {
    log = r.log;
    served = served;
    drawn = drawn;
    words = words;
    few = r.few;
    tickets = omega (arith, sum_at ticket_count s.views id v w at, r.tickets, tally);
    shares = omega (arith, sum_at share_count s.views id v w at, r.shares);
    counted = omega (arith, sum_at place_count s.views id v w at, r.counted);
    each = each_set (K served drawn r.log) s.views id w mine others;
    tickets_apart = apart_set TicketOf s.views id v w at r.tickets_apart fresh;
    actors_apart = apart_set ActorOf s.views id v w at r.actors_apart (λ n c. inl c);
    places_apart = apart_set PlaceOf s.views id v w at r.places_apart (λ n c. inl c);
    actors_all = λ a h. some_set (λ u. ActorOf u a) s.views id v w at (λ c. c) (r.actors_all a h);
    places_all = λ p h. some_set (λ u. PlaceOf u p) s.views id v w at (λ c. c) (r.places_all p h);
    longest = some_set (λ u. IsLive u × (u.prefix ≡ r.log)) s.views id v w at (λ c. (c.0, same c.1)) r.longest;
    place = place;
  }

  pub draws : (slots id : ℕ) (me : SeatState M E B) → me.0.stage ≡ Idle → IsLive me.0 → Allows Rule slots id me 1 (λ n. (n + 1) % 2 ^ 64) (Draws me)
  draws slots id me idle live s rule _ at _ = let r = facts history actor base seats b s rule in let v : V = me.0 in let k = r.each id v at in let w : V = changed v (Waiting r.drawn) v.prefix in (
    w,
    keeps,
    tt,
    changes s r r.served (r.drawn + 1) (set s.words 1 ((get_or s.words 1 0 + 1) % 2 ^ 64)) s.homes id v (Waiting r.drawn) v.prefix at
        (ap (λ (ws : List ℕ). set ws 1 ((get_or ws 1 0 + 1) % 2 ^ 64)) r.words ∙ ap (λ (z : ℕ). length r.log ∷ z ∷ r.served % 2 ^ 64 ∷ []) (mod-add-mod r.drawn (2 ^ 64) 1))
        (omega (arith, ap tickets idle))
        record {
          ticket = λ n h. (omega (arith, r.tickets, h), omega (arith, h));
          turn = λ h. absurd (false≢true h);
          note = λ h. absurd (false≢true h);
          waits = λ _. live;
          owns = k.owns;
          base = k.base;
          seen = k.seen;
          rise = k.rise;
          below = k.below;
          placed = k.placed;
          joined = tt;
        }
        (λ j u _ e. let q = r.each j u e in record {
          ticket = λ n h. ((q.ticket n h).0, omega (arith, (q.ticket n h).1));
          turn = q.turn;
          note = q.note;
          waits = q.waits;
          owns = q.owns;
          base = q.base;
          seen = q.seen;
          rise = q.rise;
          below = q.below;
          placed = q.placed;
          joined = q.joined;
        })
        (λ n h. inr (λ j u e c. omega (arith, h, ((r.each j u e).ticket n c).1))) (λ e. e)
        (place_stays r.log s.homes s.views id v w at (not_turn v.stage Idle idle refl) (λ p. false≢true p) r.place),
    (r.drawn, ap (λ (ws : List ℕ). get_or ws 1 0) r.words, refl),
  )

  unmoved : (s : St) (i : ℕ) → set s.words i (get_or s.words i 0) ≡ s.words
  unmoved s i = set-get_or s.words i 0

  -- only one view is in turn
  pub only_turn : (s : St) (r : F s) (id : ℕ) (v : V) → get_elem? s.views id ≡ some v → IsInTurn v → (j : ℕ) (u : V) → get_elem? s.views j ≡ some u → IsInTurn u → j ≡ id
  only_turn s r id v at is j u e us = let a = (r.each id v at).turn is in let c = (r.each j u e).turn us in
      r.tickets_apart j id u v (ticket_of u.stage) e at (turn_ticket u.stage us) (subst (HasTicket v.stage) (a ∙ sym c) (turn_ticket v.stage is))

  -- the machine of a seat whose turn has come
  at_turn : (s : St) (r : F s) (id t : ℕ) (v : V) → get_elem? s.views id ≡ some v → v.stage ≡ Waiting t → t ≡ r.served → (x : M) × (s.homes ≡ some x ∷ []) × (base x ≡ b) × (history x ≡ r.log)
  at_turn s r id t v at is now = elim r.place as (λ _. (x : M) × (s.homes ≡ some x ∷ []) × (base x ≡ b) × (history x ≡ r.log)) [
    | at_home m e f h nobody ↦ (m, e, f, h)
    | out e someone ↦ let i : ℕ = someone.0 in let u : V = someone.1 in let there : ticket_of u.stage ≡ t = (r.each i u someone.2).turn someone.3 ∙ sym now in
        let same : id ≡ i = r.tickets_apart id i v u t at someone.2 (has_ticket v.stage t is) (subst (HasTicket u.stage) there (turn_ticket u.stage someone.3)) in
        let one : v ≡ u = one_entry s.views id i v u at someone.2 same in absurd (not_turn u.stage (Waiting t) (ap (λ (x : V). x.stage) (sym one) ∙ is) refl someone.3)
  ]

  pub looks : (slots id t : ℕ) (me : SeatState M E B) → me.0.stage ≡ Waiting t → Allows Rule slots id me 2 (λ n. n) (Looks history actor base me)
  looks slots id t me is s rule _ at _ = let r = facts history actor base seats b s rule in let v : V = me.0 in let k = r.each id v at in let named : ticket_of v.stage ≡ t = ap ticket_of is in dite (ℕ_discrete (get_or s.words 2 0) (t % 2 ^ 64))
      (λ hit. let found : r.served % 2 ^ 64 ≡ t % 2 ^ 64 = sym (ap (λ (ws : List ℕ). get_or ws 2 0) r.words) ∙ hit in
      let mine = k.ticket t (has_ticket v.stage t is) in
      let near : t < r.served + 2 ^ 64 = omega (arith, few_out history actor base seats b s r, r.few, mine.1) in
      let now : r.served ≡ t = one_turn r.served t (2 ^ 64) mine.0 near found in
      let x = at_turn s r id t v at is (sym now) in
      let st : Stage E = InTurn (ticket_of v.stage) (history x.0) None in
      let w : V = changed v st v.prefix in
      let one : tickets v.stage ≡ 1 = ap tickets is in
      let live : IsLive v = k.waits (omega (arith, one)) in
      let m' : SeatState M E B = (w, (0, x.0) ∷ me.1) in (
        w,
        takes 0 x.0,
        ap (λ (hs : List (Option M)). get_elem? hs 0) x.1,
        changes s r r.served r.drawn (set s.words 2 (get_or s.words 2 0)) (set s.homes 0 none) id v st v.prefix at (unmoved s 2 ∙ r.words) (omega (arith, one))
            record {
              ticket = λ n h. (omega (arith, mine.0, named, h), omega (arith, mine.1, named, h));
              turn = λ _. named ∙ sym now;
              note = λ _. x.3;
              waits = λ _. live;
              owns = k.owns;
              base = k.base;
              seen = k.seen;
              rise = k.rise;
              below = k.below;
              placed = k.placed;
              joined = tt;
            }
            (λ j u _ e. r.each j u e) (λ n h. inl (subst (HasTicket v.stage) (sym named ∙ h) (has_ticket v.stage t is))) (λ e. e)
            (out (ap (λ (hs : List (Option M)). set hs 0 none) x.1) (some_one IsInTurn s.views id w (in_bounds s.views id v at) refl)),
        looked history actor base me m' (get_or s.words 2 0) (hit ∙ ap (λ (z : ℕ). z % 2 ^ 64) (sym named)) (x.0, refl {a = m'}, k.base live ∙ ap Some (sym x.2), subst (GoesOn actor v.actors v.prefix) (sym x.3) k.seen),
      ))
      (λ miss. (
        v,
        keeps,
        tt,
        subst (λ (y : List ℕ × List V). Rule (record { words = y.0; homes = s.homes; views = y.1 })) (λ i. (sym (unmoved s 2) i, sym (set_again s.views id v at) i)) rule,
        waits_on history actor base me (get_or s.words 2 0) (λ hit. miss (hit ∙ ap (λ (z : ℕ). z % 2 ^ 64) named)),
      ))

  pub hands_on : (slots id : ℕ) (x : M) (me : SeatState M E B) → IsInTurn me.0 → me.1 ≡ (0, x) ∷ [] → me.0.base ≡ Some (base x) → history x ≡ noted me.0.stage
      → Allows Rule slots id me 2 (λ n. (n + 1) % 2 ^ 64) (HandsOn me)
  hands_on slots id x me is has from exact s rule _ at _ = let r = facts history actor base seats b s rule in let v : V = me.0 in let k = r.each id v at in let t : ℕ = ticket_of v.stage in let xs : List E = noted v.stage in let w : V = changed v Idle xs in
      let one : tickets v.stage ≡ 1 = turn_tickets v.stage is in
      let now = k.turn is in
      let all_noted : xs ≡ r.log = k.note is in
      let mine = k.ticket t (turn_ticket v.stage is) in
      let live : IsLive v = k.waits (omega (arith, one)) in
      let later : (j n : ℕ) (u : V) → j ≢ id → get_elem? s.views j ≡ some u → HasTicket u.stage n → r.served < n =
      λ j n u other e h. let q = (r.each j u e).ticket n h in dite (ℕ_discrete n t)
      (λ same. absurd (other (r.tickets_apart j id u v n e at h (subst (HasTicket v.stage) (sym same) (turn_ticket v.stage is)))))
      (λ not_same. omega (arith, q.0, now)) in (
        w,
        gives,
        tt,
        changes s r (r.served + 1) r.drawn (set s.words 2 ((get_or s.words 2 0 + 1) % 2 ^ 64)) (put_back s.homes me.1) id v Idle xs at
            (ap (λ (ws : List ℕ). set ws 2 ((get_or ws 2 0 + 1) % 2 ^ 64)) r.words ∙ ap (λ (z : ℕ). length r.log ∷ r.drawn % 2 ^ 64 ∷ z ∷ []) (mod-add-mod r.served (2 ^ 64) 1)) (omega (arith, one))
            record {
              ticket = λ n h. absurd h;
              turn = λ h. absurd (false≢true h);
              note = λ h. absurd (false≢true h);
              waits = λ h. absurd (omega (arith, h));
              owns = k.owns;
              base = k.base;
              seen = subst (GoesOn actor v.actors xs) all_noted (goes_nowhere actor v.actors xs);
              rise = k.rise;
              below = k.below;
              placed = k.placed;
              joined = tt;
            }
            (λ j u other e. let q = r.each j u e in record {
              ticket = λ n h. (omega (arith, later j n u other e h), (q.ticket n h).1);
              turn = λ h. absurd (omega (arith, q.turn h, later j (ticket_of u.stage) u other e (turn_ticket u.stage h)));
              note = q.note;
              waits = q.waits;
              owns = q.owns;
              base = q.base;
              seen = q.seen;
              rise = q.rise;
              below = q.below;
              placed = q.placed;
              joined = q.joined;
            })
            (λ n h. absurd h) (λ _. all_noted)
            (at_home x (ap (put_back s.homes) has ∙ one_home history base r.log b s.homes s.views x r.place) (let f : Some (base x) ≡ Some b = sym from ∙ k.base live in cc (f)) (exact ∙ all_noted)
            (λ someone. let j : ℕ = someone.0 in let u : V = someone.1 in ⊎_elim (λ (y : (j ≡ id) × (w ≡ u)). not_turn u.stage Idle (ap (λ (z : V). z.stage) (sym y.1)) refl someone.3)
            (λ (y : (j ≢ id) × (get_elem? s.views j ≡ some u)). y.0 (only_turn s r id v at is j u y.1 someone.3)) (at_set s.views id j w u someone.2))),
        refl,
      )

  pub meets : (slots id : ℕ) (me : SeatState M E B) → me.0.stage ≡ Idle → Allows Rule slots id me 0 (λ n. n) (Meets actor me)
  meets slots id me idle s rule _ at _ = let r = facts history actor base seats b s rule in let v : V = me.0 in let k = r.each id v at in let w : V = changed v Idle r.log in (
    w,
    keeps,
    tt,
    changes s r r.served r.drawn (set s.words 0 (get_or s.words 0 0)) s.homes id v Idle r.log at (unmoved s 0 ∙ r.words) (omega (arith, ap tickets idle))
        record {
          ticket = λ n h. absurd h;
          turn = λ h. absurd (false≢true h);
          note = λ h. absurd (false≢true h);
          waits = λ h. absurd (omega (arith, h));
          owns = k.owns;
          base = k.base;
          seen = goes_nowhere actor v.actors r.log;
          rise = k.rise;
          below = k.below;
          placed = k.placed;
          joined = tt;
        }
        (λ j u _ e. r.each j u e) (λ n h. absurd h) (λ _. refl) (place_stays r.log s.homes s.views id v w at (not_turn v.stage Idle idle refl) (λ p. false≢true p) r.place),
    (r.log, refl, sym (ap (λ (ws : List ℕ). get_or ws 0 0) r.words), k.seen),
  )

  pub settles : (slots id : ℕ) (me : SeatState M E B) (xs ys : List E) (mine theirs : List ℕ) → me.0.stage ≡ Joining xs mine ys theirs → Allows Rule slots id me 0 (λ n. n) (Settles actor me)
  settles slots id me xs ys mine theirs is s rule _ at _ = let r = facts history actor base seats b s rule in let v : V = me.0 in let k = r.each id v at in let w : V = changed v Idle v.prefix in (
    w,
    keeps,
    tt,
    changes s r r.served r.drawn (set s.words 0 (get_or s.words 0 0)) s.homes id v Idle v.prefix at (unmoved s 0 ∙ r.words) (omega (arith, ap tickets is))
        record {
          ticket = λ n h. absurd h;
          turn = λ h. absurd (false≢true h);
          note = λ h. absurd (false≢true h);
          waits = λ h. absurd (omega (arith, h));
          owns = k.owns;
          base = k.base;
          seen = k.seen;
          rise = k.rise;
          below = k.below;
          placed = k.placed;
          joined = tt;
        }
        (λ j u _ e. r.each j u e) (λ n h. absurd h) (λ e. e) (place_stays r.log s.homes s.views id v w at (not_turn v.stage (Joining xs mine ys theirs) is refl) (λ p. false≢true p) r.place),
    λ xs' ys' mine' theirs' is'. let j : IsJoined actor r.log v.prefix v.actors (Joining xs' mine' ys' theirs') = subst (IsJoined actor r.log v.prefix v.actors) is' k.joined in let g = goes_longer actor mine' theirs' xs' ys' r.log j.0 j.1 in
        (refl, g.0, g.1, k.rise, omega (arith, sum_one share_count s.views id v at, r.shares, r.few)),
  )
