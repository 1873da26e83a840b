-- A seat that is split, and two that are joined, keep the rule, from any state that meets it.
use Rattle.std.proofs.Common.{◌≡◌, ℕ, ◌+◌, ◌-◌, ◌^◌, ◌<◌, List, [], ◌∷◌, ◌++◌, length, set, sym, refl, ap, ◌∙◌, subst, inl, inr, ⊎_elim, arith, length-append, length-take, length-drop}
use Rattle.std.proofs.lemmas.Bool.{false≢true}
use Rattle.std.proofs.lemmas.List.Elements.{Contains-append_left, Contains-append_right, Contains-append_cases}
use Rattle.std.specs.List.{Contains}
use Rattle.std.specs.List.Sorted.{IsStrictlyIncreasing}
use mathlib.Core.Option.{some}
use lib.ListN.{get_elem?}
use Rattle.atomic_table.specs.Table.{State, Splits, Joins}
use Rattle.atomic_table.proofs.Lists.{set_else}
use Rattle.turn_lock.specs.declared.views.View.{View}
use Rattle.turn_lock.specs.declared.views.Stage.TheVariants.{Idle}
use Rattle.turn_lock.specs.Views.{tickets, TicketOf, ActorOf, PlaceOf, ticket_count, share_count, place_count, IsLive, IsInTurn}
use Rattle.turn_lock.specs.Rule.{IsPlaced, Ruled}
use Rattle.turn_lock.specs.Rule.IsPlaced.{at_home, out}
use Rattle.turn_lock.specs.History.{GoesOn}
use Rattle.turn_lock.specs.Steps.{SeatState, Settles, lower_view, upper_view, joint_view, spent_view}
use Rattle.turn_lock.proofs.Stages.{not_turn}
use Rattle.turn_lock.proofs.ActorLists.{lower_in, upper_in, in_parts, lower_rises, upper_rises, parts_differ, length-merged, merged_in, in_merged, merged_rises}
use Rattle.turn_lock.proofs.Histories.{goes_fewer, goes_longer, goes_from_nothing, longer_left, longer_right}
use Rattle.turn_lock.proofs.Rows.{sum_at, sum_snoc, each_set, each_snoc, apart_set, apart_snoc, some_set, some_longer, some_cut, some_unlonger, sum_twice, each_twice, apart_twice, some_twice}
use Rattle.turn_lock.proofs.Facts.{Knows, facts, ruled}
use Rattle.turn_lock.proofs.WordSteps.{place_stays}

module _ {M E B : Type 0} (history : M → List E) (actor : E → ℕ) (base : M → B) (seats : ℕ) (b : B) where
  abbrev V : Type 0
  V = View E B

  abbrev Rule : State M V → Type 0
  Rule = Ruled history actor base seats b

  no_turn : (v : V) → v.stage ≡ Idle → ¬ IsInTurn v
  no_turn v idle = not_turn v.stage Idle idle refl

  no_places : (p : ℕ) → ¬ Contains [] p
  no_places p c = absurd (omega (arith, c.1))

  pub splits : (id n : ℕ) (v : V) → v.stage ≡ Idle → 0 < n → n < share_count v → Splits Rule id v (lower_view n v) (upper_view n v)
  splits id n v idle some_share some_left s rule at = let r = facts history actor base seats b s rule in let k = r.each id v at in let l : List V = s.views in let low : V = lower_view n v in let up : V = upper_view n v in let m : List V = set l id low in
      let cut : ℕ = share_count v - n in
      let lows : share_count low ≡ cut = omega (arith, length-take cut v.actors) in
      let ups : share_count up ≡ n = omega (arith, length-drop cut v.actors) in
      let none_held : tickets v.stage ≡ 0 = ap tickets idle in ruled history actor base seats b _ record {
        served = r.served;
        drawn = r.drawn;
        log = r.log;
        few = r.few;
        words = r.words;
        tickets = omega (arith, sum_at ticket_count l id v low at, sum_snoc ticket_count m up, r.tickets);
        shares = omega (arith, sum_at share_count l id v low at, sum_snoc share_count m up, r.shares, lows, ups);
        counted = omega (arith, sum_at place_count l id v low at, sum_snoc place_count m up, r.counted);
        each = each_snoc (Knows actor seats r.served r.drawn r.log b) m up record {
          ticket = λ t h. absurd h;
          turn = λ h. absurd (false≢true h);
          note = λ h. absurd (false≢true h);
          waits = λ h. omega arith;
          owns = λ h. omega arith;
          base = λ h. k.base (omega arith);
          seen = goes_fewer actor v.actors up.actors v.prefix r.log (upper_in n v.actors) k.seen;
          rise = upper_rises n v.actors k.rise;
          below = λ a h. k.below a (upper_in n v.actors a h);
          placed = λ p h. absurd (no_places p h);
          joined = tt;
        } (each_set (Knows actor seats r.served r.drawn r.log b) l id low record {
          ticket = λ t h. absurd h;
          turn = λ h. absurd (false≢true h);
          note = λ h. absurd (false≢true h);
          waits = λ h. omega arith;
          owns = λ h. omega arith;
          base = λ h. k.base (omega arith);
          seen = goes_fewer actor v.actors low.actors v.prefix r.log (lower_in n v.actors) k.seen;
          rise = lower_rises n v.actors k.rise;
          below = λ a h. k.below a (lower_in n v.actors a h);
          placed = k.placed;
          joined = tt;
        } (λ j u _ e. r.each j u e));
        tickets_apart = apart_snoc TicketOf m up (apart_set TicketOf l id v low at r.tickets_apart (λ t h. absurd h)) (λ t h. absurd h);
        actors_apart = apart_snoc ActorOf m up (apart_set ActorOf l id v low at r.actors_apart (λ a h. inl (lower_in n v.actors a h)))
            (λ a h. each_set (λ u. ¬ ActorOf u a) l id low (λ g. parts_differ n v.actors k.rise a g h) (λ j u other e g. other (r.actors_apart j id u v a e at g (upper_in n v.actors a h))));
        places_apart = apart_snoc PlaceOf m up (apart_set PlaceOf l id v low at r.places_apart (λ p h. inl h)) (λ p h. absurd (no_places p h));
        actors_all = λ a h. some_cut (λ u. ActorOf u a) l id v low up at (in_parts n v.actors a) (r.actors_all a h);
        places_all = λ p h. some_longer (λ u. PlaceOf u p) m (up ∷ []) (some_set (λ u. PlaceOf u p) l id v low at (λ c. c) (r.places_all p h));
        longest = some_longer (λ u. IsLive u × (u.prefix ≡ r.log)) m (up ∷ []) (some_set (λ u. IsLive u × (u.prefix ≡ r.log)) l id v low at (λ c. (omega arith, c.1)) r.longest);
        place = elim (place_stays history actor base seats b r.log s.homes l id v low at (no_turn v idle) (λ p. false≢true p) r.place) as (λ _. IsPlaced history base r.log b s.homes (m ++ up ∷ [])) [
          | at_home x e f h nobody ↦ at_home x e f h (λ y. nobody (some_unlonger IsInTurn m up (λ p. false≢true p) y))
          | out e someone ↦ out e (some_longer IsInTurn m (up ∷ []) someone)
        ];
      }

  pub joins : (id : ℕ) (v : V) (other : ℕ) (w : V) → v.stage ≡ Idle → w.stage ≡ Idle → IsLive v → Joins Rule id v other w (joint_view v w) spent_view
  joins id v other w idle idle' live s rule at apart there' = let r = facts history actor base seats b s rule in let l : List V = s.views in let both : V = joint_view v w in
      let there : get_elem? l other ≡ some w = sym (set_else l id other both apart) ∙ there' in
      let k = r.each id v at in let q = r.each other w there in
      let none_held : tickets v.stage ≡ 0 = ap tickets idle in
      let none_held' : tickets w.stage ≡ 0 = ap tickets idle' in
      let sizes : share_count both ≡ share_count v + share_count w = length-merged v.actors w.actors in
      let sums = sum_twice l id other v w both spent_view at apart there in
      let goes = goes_longer actor v.actors w.actors v.prefix w.prefix r.log k.seen q.seen in
      let disjoint : (a : ℕ) → Contains v.actors a → ¬ Contains w.actors a = λ a h g. apart (r.actors_apart other id w v a there at g h) in ruled history actor base seats b _ record {
        served = r.served;
        drawn = r.drawn;
        log = r.log;
        few = r.few;
        words = r.words;
        tickets = omega (arith, sums ticket_count, r.tickets);
        shares = omega (arith, sums share_count, r.shares, sizes);
        counted = omega (arith, sums place_count, r.counted, length-append v.places w.places);
        each = each_twice l id other v w both spent_view at apart there (Knows actor seats r.served r.drawn r.log b)
            record {
              ticket = λ t h. absurd h;
              turn = λ h. absurd (false≢true h);
              note = λ h. absurd (false≢true h);
              waits = λ h. omega (arith, sizes, live);
              owns = λ h. omega (arith, sizes, live);
              base = λ h. k.base live;
              seen = goes.2;
              rise = merged_rises v.actors w.actors k.rise q.rise disjoint;
              below = λ a h. ⊎_elim (λ x. k.below a x) (λ y. q.below a y) (merged_in v.actors w.actors a h);
              placed = λ p h. ⊎_elim (λ x. k.placed p x) (λ y. q.placed p y) (Contains-append_cases v.places w.places p h);
              joined = (k.seen, q.seen, refl, refl);
            }
            record {
              ticket = λ t h. absurd h;
              turn = λ h. absurd (false≢true h);
              note = λ h. absurd (false≢true h);
              waits = λ h. absurd (omega arith);
              owns = λ h. absurd (omega arith);
              base = λ h. absurd (omega arith);
              seen = goes_from_nothing actor r.log;
              rise = λ i h. absurd (omega (arith, h));
              below = λ a h. absurd (no_places a h);
              placed = λ p h. absurd (no_places p h);
              joined = tt;
            }
            r.each;
        tickets_apart = apart_twice l id other v w both spent_view at apart there TicketOf r.tickets_apart (λ t h. absurd h) (λ t h. h);
        actors_apart = apart_twice l id other v w both spent_view at apart there ActorOf r.actors_apart (merged_in v.actors w.actors) no_places;
        places_apart = apart_twice l id other v w both spent_view at apart there PlaceOf r.places_apart (Contains-append_cases v.places w.places) no_places;
        actors_all = λ a h. some_twice l id other v w both spent_view at apart there (λ u. ActorOf u a) (λ x. in_merged v.actors w.actors a (inl x)) (λ y. in_merged v.actors w.actors a (inr y)) (r.actors_all a h);
        places_all = λ p h. some_twice l id other v w both spent_view at apart there (λ u. PlaceOf u p) (Contains-append_left v.places w.places p) (Contains-append_right v.places w.places p) (r.places_all p h);
        longest = some_twice l id other v w both spent_view at apart there (λ u. IsLive u × (u.prefix ≡ r.log)) (λ c. (omega (arith, sizes, live), longer_left v.prefix w.prefix r.log q.seen.rest c.1 q.seen.whole))
            (λ c. (omega (arith, sizes, live), longer_right v.prefix w.prefix r.log k.seen.rest k.seen.whole c.1)) r.longest;
        place = place_stays history actor base seats b r.log s.homes (set l id both) other w spent_view there' (no_turn w idle') (λ p. false≢true p)
            (place_stays history actor base seats b r.log s.homes l id v both at (no_turn v idle) (λ p. false≢true p) r.place);
      }

-- what a seat has that was joined and has settled
pub record United {M E B : Type 0} (actor : E → ℕ) (v w : View E B) (m' : SeatState M E B) : Type 0 where
  pub joint : m' ≡ (record (joint_view v w) { stage = Idle }, [])
  pub first : GoesOn actor v.actors v.prefix m'.0.prefix
  pub second : GoesOn actor w.actors w.prefix m'.0.prefix
  pub rise : IsStrictlyIncreasing m'.0.actors
  pub shares : share_count m'.0 ≡ share_count v + share_count w
  pub few : share_count m'.0 < 2 ^ 32

pub united : {M E B : Type 0} (actor : E → ℕ) (v w : View E B) (r : ℕ) (l : List (ℕ × M)) (m m' : SeatState M E B) → m ≡ (joint_view v w, l) → l ≡ [] → Settles actor m r m' → United actor v w m'
united {M} {E} {B} actor v w r l m m' is none settled =
    let told = settled v.prefix w.prefix v.actors w.actors (ap (λ (z : SeatState M E B). z.0.stage) is) in
    let after : m' ≡ (record (joint_view v w) { stage = Idle }, []) = told.0 ∙ ap (λ (z : SeatState M E B). (record z.0 { stage = Idle }, z.1)) is ∙ ap (λ (k : List (ℕ × M)). (record (joint_view v w) { stage = Idle }, k)) none in
    let sizes = length-merged v.actors w.actors in
    let same = ap (λ (z : SeatState M E B). z.0.actors) after in
    let was = ap (λ (z : SeatState M E B). z.0.actors) is in record {
      joint = after;
      first = subst (λ (z : SeatState M E B). GoesOn actor v.actors v.prefix z.0.prefix) (sym after) told.1;
      second = subst (λ (z : SeatState M E B). GoesOn actor w.actors w.prefix z.0.prefix) (sym after) told.2;
      rise = subst IsStrictlyIncreasing (was ∙ sym same) told.3;
      shares = omega (arith, ap length same, sizes);
      few = omega (arith, ap length same, ap length was, told.4);
    }
