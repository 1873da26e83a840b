-- A node that is nowhere yet gets a set of its own.
use Rattle.std.proofs.Common.{◌≡◌, ℕ, ◌<◌, ◌≤◌, ◌⊎◌, inl, inr, List, [], ◌∷◌, length, Some, sym, ◌∙◌, ap, subst, arith}
use Rattle.std.specs.Prelude.{Option}
use Rattle.std.proofs.lemmas.Bool.{cases_eq, cases_lt}
use Rattle.std.proofs.lemmas.List.{length_push}
use Rattle.std.proofs.lemmas.List.Elements.{Contains-append_left, Contains-push_cases}
use Rattle.std.proofs.lemmas.Option.{same_Some}
use Rattle.cal_schema.specs.declared.rel_type.RelType.{RelType}
use Rattle.cal_schema.specs.RelType.{IsWithin, kinds_of}
use Rattle.cal_rel.specs.Holes.{EachHole, HasWithin, filled}
use Rattle.cal_rel.specs.Info.{Info, set_at}
use Rattle.cal_rel.specs.Tree.{Tree}
use Rattle.cal_rel.specs.Typing.{type_of}
use Rattle.memo_model.specs.Sets.{Member, Sets, seed_at, became, IsThere}
use Rattle.memo_model.specs.Sound.{over, IsNode, IsTypeOf, IsSeed, IsMember, IsCoherent}
use Rattle.memo_model.specs.Relations.{Extends}
use Rattle.memo_model.specs.Steps.{with_set}
use Rattle.memo_model.proofs.NumberLemmas.{there-below, set_at-push, set_at-push_below, set_at-push_past, seed_at-push, seed_at-push_below, became-push, became-past}
use Rattle.memo_model.proofs.ExtendLemmas.{type-more, member-more}
use Rattle.memo_model.proofs.PlaceLemmas.{closed-over, width-over}
use Rattle.memo_model.proofs.MeansLemmas.{means-refl}
use Rattle.memo_model.proofs.TreeLemmas.{each-weaker, filled-agree}
use Rattle.memo_model.proofs.TypeLemmas.{within-kinds, kinds-length}

module _ (info : Info) (m : Sets) (coherent : IsCoherent info m) (node : Tree) (own t : RelType) (shape : IsNode node) (holes : EachHole (IsThere m.types) node)
    (typed : type_of (over info m.types) node ≡ Some own) (kinds : kinds_of t.columns ≡ kinds_of own.columns) (ordered : IsWithin t t) (is_true : IsTypeOf info t (filled (seed_at m.seeds) node)) where
  narrows : (j : ℕ) (s : RelType) → set_at m.types j ≡ Some s → HasWithin (set_at (with_set node (Some t) m).types j) s
  narrows j s e =
      let l = there-below m.types j (record { found = s; is = e }) in
      record { found = s; is = set_at-push_below m.types (Some t) j l ∙ e; within = (coherent.seeds j s e).ordered }

  after : (j : ℕ) → IsThere m.types j → IsThere (with_set node (Some t) m).types j
  after j h = let x = narrows j h.found h.is in record { found = x.found; is = x.is }

  new_there : IsThere (with_set node (Some t) m).types (length m.types)
  new_there = record { found = t; is = set_at-push m.types (Some t) }

  seed_old : (j : ℕ) → IsThere m.types j → seed_at (with_set node (Some t) m).seeds j ≡ seed_at m.seeds j
  seed_old j h =
      let l = there-below m.types j h in
      let c = coherent.seed_count in
      seed_at-push_below m.seeds (filled (seed_at m.seeds) node) j (omega arith)

  seed_new : seed_at (with_set node (Some t) m).seeds (length m.types) ≡ filled (seed_at m.seeds) node
  seed_new = seed_at-push m.seeds (filled (seed_at m.seeds) node) (length m.types) coherent.seed_count

  new_seed : IsSeed info t (filled (seed_at m.seeds) node)
  new_seed = record {
    closed = closed-over info m coherent node own typed;
    columns = width-over info m coherent node own typed ∙ sym (kinds-length t.columns own.columns kinds);
    true = is_true;
    ordered = ordered;
  }

  -- a set that is there was there, with its type, or is the new one
  before : (j : ℕ) (s : RelType) → set_at (with_set node (Some t) m).types j ≡ Some s → (set_at m.types j ≡ Some s) ⊎ ((j ≡ length m.types) × (s ≡ t))
  before j s e = elim (cases_lt j (length m.types)) [
    | inl l ↦ inl (sym (set_at-push_below m.types (Some t) j l) ∙ e)
    | inr g ↦ elim (cases_eq j (length m.types)) [
      | inl h ↦ inr (h, same_Some s t (sym e ∙ ap (set_at (with_set node (Some t) m).types) h ∙ set_at-push m.types (Some t)))
      | inr n ↦ (let past = set_at-push_past m.types (Some t) j (beyond j g n) in absurd cc)
    ]
  ]
    where
      beyond : (j : ℕ) → length m.types ≤ j → (j ≡ length m.types → ⊥) → length m.types < j
      beyond j g n = grind arith

  number_new : (j : ℕ) → became (with_set node (Some t) m).numbers j ≡ became m.numbers j
  number_new j = became-push m.numbers (length m.types) j coherent.number_count

  new_itself : became m.numbers (length m.types) ≡ length m.types
  new_itself = let c = coherent.number_count in became-past m.numbers (length m.types) (omega arith)

  new_member : IsMember info (with_set node (Some t) m).seeds (with_set node (Some t) m).types (length m.types) node
  new_member =
      let still = type-more info m (with_set node (Some t) m) coherent.valid narrows node own typed in
      let fill = filled-agree (seed_at (with_set node (Some t) m).seeds) (seed_at m.seeds) node
      (each-weaker (IsThere m.types) (λ k. seed_at (with_set node (Some t) m).seeds k ≡ seed_at m.seeds k) seed_old node holes) in
      record {
        there = record { found = t; is = set_at-push m.types (Some t) };
        shape = shape;
        holes = each-weaker (IsThere m.types) (IsThere (with_set node (Some t) m).types) after node holes;
        own = still.found;
        typed = still.is;
        kinds = within-kinds still.found own still.within ∙ sym kinds;
        means = rw (fill, seed_new) (means-refl (over info []) (filled (seed_at m.seeds) node));
      }

  pub with_set-extends : Extends info m (with_set node (Some t) m)
  with_set-extends =
      let types_long = length_push m.types (Some t) in
      let seeds_long = length_push m.seeds (filled (seed_at m.seeds) node) in
      let numbers_long = length_push m.numbers (length m.types) in
      let long = length_push m.members (record { set = length m.types; tree = node }) in
      let seed_count = coherent.seed_count in
      let number_count = coherent.number_count in
      let made = coherent.made in
      record {
        coherent = record {
          valid = coherent.valid;
          seed_count = omega arith;
          number_count = omega arith;
          made = omega arith;
          stays = λ j h. elim (before j h.found h.is) [
            | inl e ↦ number_new j ∙ coherent.stays j (record { found = h.found; is = e })
            | inr e ↦ number_new j ∙ ap (became m.numbers) e.0 ∙ new_itself ∙ sym e.0
          ];
          leads = λ j l. elim (cases_lt j (length m.numbers)) [
            | inl a ↦ rw (number_new j) (after (became m.numbers j) (coherent.leads j a))
            | inr a ↦ (let e : j ≡ length m.types = omega arith in rw (number_new j, e, new_itself) new_there)
          ];
          seeds = λ j s h. elim (before j s h) [
            | inl e ↦ rw (seed_old j (record { found = s; is = e })) (coherent.seeds j s e)
            | inr e ↦ rw (e.1, e.0, seed_new) new_seed
          ];
          members = λ s x h. elim (Contains-push_cases m.members (record { set = length m.types; tree = node }) (record { set = s; tree = x }) h.at) [
            | inl old ↦ member-more info m (with_set node (Some t) m) coherent.valid narrows seed_old s x (coherent.members s x (record { at = old }))
            | inr e ↦ subst (λ (z : Member). IsMember info (with_set node (Some t) m).seeds (with_set node (Some t) m).types z.set z.tree) e new_member
          ];
        };
        members = λ s x h. record { at = Contains-append_left m.members (record { set = length m.types; tree = node } ∷ []) (record { set = s; tree = x }) h.at };
        types = narrows;
        seeds = λ j l. seed_at-push_below m.seeds (filled (seed_at m.seeds) node) j l;
        numbers = number_new;
        longer = omega arith;
        gone = λ j l e. set_at-push_below m.types (Some t) j l ∙ e;
        added = omega arith;
      }
