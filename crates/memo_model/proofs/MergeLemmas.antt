-- One merge of two sets keeps the memo sound.
use Rattle.std.proofs.Common.{◌≡◌, ◌≢◌, ℕ, ◌<◌, inl, inr, List, [], length, Some, None, refl, sym, ◌∙◌, ap, subst, arith}
use Rattle.std.specs.Prelude.{slice_set, Option}
use Rattle.std.proofs.lemmas.Bool.{cases_eq}
use Rattle.std.proofs.lemmas.List.{length-set, length-map}
use Rattle.std.proofs.lemmas.Option.{same_Some}
use Rattle.cal_schema.specs.declared.rel_type.RelType.{RelType}
use Rattle.cal_schema.specs.RelType.{IsWithin, kinds_of, met_rel_type}
use Rattle.cal_rel.specs.Holes.{renumbered, filled, EachHole, HasWithin}
use Rattle.cal_rel.specs.Info.{Info, set_at}
use Rattle.cal_rel.specs.Meaning.{MeansTheSame}
use Rattle.cal_rel.specs.Tree.{Tree, leaf, unary, binary, hole}
use Rattle.cal_rel.proofs.Narrower.{type-narrow}
use Rattle.memo_model.specs.Sets.{Member, Sets, seed_at, became, IsThere, Has}
use Rattle.memo_model.specs.Sound.{over, IsHole, IsNode, AreSame, IsTypeOf, IsSeed, Means, IsMember, IsCoherent, MayMerge}
use Rattle.memo_model.specs.Relations.{Keeps, AddsNone, Settles}
use Rattle.memo_model.specs.Steps.{met, in_place, moved, merged}
use Rattle.memo_model.proofs.ListLemmas.{contains-map, contains-map_back}
use Rattle.memo_model.proofs.MeansLemmas.{means-refl, means-sym, means-trans, means-filled, type-same, type-meet}
use Rattle.memo_model.proofs.NumberLemmas.{in_place-gone, in_place-other, there-below, set_at-set, set_at-set_other, became-map, became-twice}
use Rattle.memo_model.proofs.TreeLemmas.{each-always, each-weaker, each-renumbered, renumbered-agree, filled-renumbered}
use Rattle.memo_model.proofs.TypeLemmas.{within-kinds, within-length, meet-left, meet-right, meet-ordered}

hole-renumbered : (f : ℕ → ℕ) (t : Tree) → IsHole t → IsHole (renumbered f t)
hole-renumbered f (leaf l) h = absurd h
hole-renumbered f (unary u t) h = absurd h
hole-renumbered f (binary b s t) h = absurd h
hole-renumbered f (hole k) h = tt

pub node-renumbered : (f : ℕ → ℕ) (t : Tree) → IsNode t → IsNode (renumbered f t)
node-renumbered f (leaf l) h = tt
node-renumbered f (unary u t) h = hole-renumbered f t h
node-renumbered f (binary b s t) h = (hole-renumbered f s h.0, hole-renumbered f t h.1)
node-renumbered f (hole k) h = absurd h

-- a seed is one of the meet with each type of its rows, too
pub seed-meet : (info : Info) (s t : RelType) (seed : Tree) → kinds_of s.columns ≡ kinds_of t.columns → IsSeed info s seed → IsTypeOf info t seed → IsSeed info (met_rel_type s t) seed
seed-meet info s t seed e h true = record {
  closed = h.closed;
  columns = h.columns ∙ sym (within-length (met_rel_type s t) s (meet-left s t e));
  true = type-meet info s t seed h.true true;
  ordered = meet-ordered s t e;
}

module _ (info : Info) (m : Sets) (coherent : IsCoherent info m) (a b : ℕ) (may : MayMerge info m a b) where
  abbrev both : RelType
  both = met_rel_type may.first.found may.second.found

  -- the types after the merge

  type_gone : set_at (merged a b m).types b ≡ None
  type_gone =
      let types = slice_set m.types a (met (set_at m.types a) (set_at m.types b)) in
      let l : b < length types = rw (length-set m.types a (met (set_at m.types a) (set_at m.types b))) (there-below m.types b may.second) in
      set_at-set types None b l

  type_kept : set_at (merged a b m).types a ≡ Some both
  type_kept =
      let o = met (set_at m.types a) (set_at m.types b) in
      let is : o ≡ Some both = rw (may.first.is, may.second.is) refl in
      set_at-set_other (slice_set m.types a o) None b a may.apart ∙ set_at-set m.types o a (there-below m.types a may.first) ∙ is

  type_other : (k : ℕ) → k ≢ a → k ≢ b → set_at (merged a b m).types k ≡ set_at m.types k
  type_other k na nb =
      let o = met (set_at m.types a) (set_at m.types b) in
      set_at-set_other (slice_set m.types a o) None b k nb ∙ set_at-set_other m.types o a k na

  narrow_at : (k : ℕ) (t : RelType) → set_at m.types k ≡ Some t → HasWithin (set_at (merged a b m).types (in_place a b k)) t
  narrow_at k t e = elim (cases_eq k b) [
    | inl h ↦ (
        let s : may.second.found ≡ t = same_Some may.second.found t (sym may.second.is ∙ ap (set_at m.types) (sym h) ∙ e) in
        record {
          found = both;
          is = ap (set_at (merged a b m).types) (ap (in_place a b) h ∙ in_place-gone a b) ∙ type_kept;
          within = subst (λ z. IsWithin both z) s (meet-right may.first.found may.second.found may.kinds);
        })
    | inr n ↦ other n
  ]
    where
      other : k ≢ b → HasWithin (set_at (merged a b m).types (in_place a b k)) t
      other n = elim (cases_eq k a) [
        | inl h ↦ (
            let s : may.first.found ≡ t = same_Some may.first.found t (sym may.first.is ∙ ap (set_at m.types) (sym h) ∙ e) in
            record {
              found = both;
              is = ap (set_at (merged a b m).types) (in_place-other a b k n ∙ h) ∙ type_kept;
              within = subst (λ z. IsWithin both z) s (meet-left may.first.found may.second.found may.kinds);
            })
        | inr na ↦ record { found = t; is = ap (set_at (merged a b m).types) (in_place-other a b k n) ∙ type_other k na n ∙ e; within = (coherent.seeds k t e).ordered }
      ]

  there_after : (k : ℕ) → IsThere m.types k → IsThere (merged a b m).types (in_place a b k)
  there_after k h = let x = narrow_at k h.found h.is in record { found = x.found; is = x.is }

  not_gone : (k : ℕ) → IsThere (merged a b m).types k → k ≢ b
  not_gone k h e = let gone : set_at (merged a b m).types k ≡ None = ap (set_at (merged a b m).types) e ∙ type_gone in let is = h.is in absurd (cc)

  there_before : (k : ℕ) → IsThere (merged a b m).types k → IsThere m.types k
  there_before k h = elim (cases_eq k a) [
    | inl e ↦ record { found = may.first.found; is = ap (set_at m.types) e ∙ may.first.is }
    | inr n ↦ record { found = h.found; is = sym (type_other k n (not_gone k h)) ∙ h.is }
  ]

  -- seeds mean the same under either number

  seeds_same : (k : ℕ) → AreSame info (seed_at m.seeds (in_place a b k)) (seed_at m.seeds k)
  seeds_same k = elim (cases_eq k b) [
    | inl h ↦ rw (h, in_place-gone a b) may.same
    | inr n ↦ rw (in_place-other a b k n) (means-refl (over info []) (seed_at m.seeds k))
  ]

  means_moved : (s : ℕ) (t : Tree) → Means info m.seeds t s → Means info m.seeds (renumbered (in_place a b) t) (in_place a b s)
  means_moved s t means =
      let i = over info [] in
      let g = seed_at m.seeds in
      let f = in_place a b in
      let each = each-always (λ k. MeansTheSame i (g (f k)) (g k)) seeds_same t in
      let filling = means-filled i (λ k. g (f k)) g t each in
      let last = means-sym i (g (f s)) (g s) (seeds_same s) in
      let first = means-trans i (filled (λ k. g (f k)) t) (filled g t) (g s) filling means in
      rw (filled-renumbered g f t) (means-trans i (filled (λ k. g (f k)) t) (g s) (g (f s)) first last)

  -- each member is one, under its new numbers

  member_moved : (s : ℕ) (t : Tree) → IsMember info m.seeds m.types s t
      → IsMember info m.seeds (merged a b m).types (in_place a b s) (renumbered (in_place a b) t)
  member_moved s t old =
      let at = narrow_at s old.there.found old.there.is in
      let own = type-narrow (in_place a b) (over info m.types) (over info (merged a b m).types) t old.own coherent.valid
      (record { else = record { schema = refl; stars = refl; tiles = refl }; sets = narrow_at }) old.typed in
      record {
        there = record { found = at.found; is = at.is };
        shape = node-renumbered (in_place a b) t old.shape;
        holes = each-renumbered (IsThere (merged a b m).types) (in_place a b) t
            (each-weaker (IsThere m.types) (λ k. IsThere (merged a b m).types (in_place a b k)) there_after t old.holes);
        own = own.found;
        typed = own.is;
        kinds = within-kinds own.found old.own own.within ∙ old.kinds ∙ sym (within-kinds at.found old.there.found at.within);
        means = means_moved s t old.means;
      }

  member_after : (s : ℕ) (node : Tree) → Has (merged a b m).members s node → IsMember info m.seeds (merged a b m).types s node
  member_after s node h =
      let x = contains-map_back (moved a b) m.members (record { set = s; tree = node }) h.at in
      let old = coherent.members x.0.set x.0.tree (record { at = x.1 }) in
      subst (λ (z : Member). IsMember info m.seeds (merged a b m).types z.set z.tree) x.2 (member_moved x.0.set x.0.tree old)

  -- the numbers after the merge

  gone_below : b < length m.numbers
  gone_below = let l = there-below m.types b may.second in let e = coherent.number_count in omega arith

  moves_to : (k : ℕ) → IsThere m.types k → became (merged a b m).numbers k ≡ in_place a b k
  moves_to k h = became-map m.numbers a b k gone_below ∙ ap (in_place a b) (coherent.stays k h)

  types_length : length (merged a b m).types ≡ length m.types
  types_length =
      let o = met (set_at m.types a) (set_at m.types b) in
      length-set (slice_set m.types a o) b None ∙ length-set m.types a o

  -- the seed of the kept set is one of the meet
  seed_kept : IsSeed info both (seed_at m.seeds a)
  seed_kept =
      let first = coherent.seeds a may.first.found may.first.is in
      let second = coherent.seeds b may.second.found may.second.is in
      let on = type-same info may.second.found (seed_at m.seeds b) (seed_at m.seeds a) second.true (means-sym (over info []) (seed_at m.seeds a) (seed_at m.seeds b) may.same) in
      seed-meet info may.first.found may.second.found (seed_at m.seeds a) may.kinds first on

  seed_after : (k : ℕ) (t : RelType) → set_at (merged a b m).types k ≡ Some t → IsSeed info t (seed_at m.seeds k)
  seed_after k t e = elim (cases_eq k a) [
    | inl h ↦ (
        let s : both ≡ t = same_Some both t (sym type_kept ∙ ap (set_at (merged a b m).types) (sym h) ∙ e) in
        rw (h, ← s) seed_kept)
    | inr n ↦ coherent.seeds k t (sym (type_other k n (not_gone k (record { found = t; is = e }))) ∙ e)
  ]

  pub merged-coherent : IsCoherent info (merged a b m)
  merged-coherent = record {
    valid = coherent.valid;
    seed_count = coherent.seed_count ∙ sym types_length;
    number_count = length-map m.numbers (in_place a b) ∙ coherent.number_count ∙ sym types_length;
    made = rw types_length coherent.made;
    stays = λ k h. moves_to k (there_before k h) ∙ in_place-other a b k (not_gone k h);
    leads = λ k l.
        let below : k < length m.numbers = rw (length-map m.numbers (in_place a b)) at l in
        rw (became-map m.numbers a b k gone_below) (there_after (became m.numbers k) (coherent.leads k below));
    seeds = seed_after;
    members = member_after;
  }

  renumbered_to : (t : Tree) → EachHole (IsThere m.types) t → renumbered (became (merged a b m).numbers) t ≡ renumbered (in_place a b) t
  renumbered_to t h =
      renumbered-agree (became (merged a b m).numbers) (in_place a b) t
      (each-weaker (IsThere m.types) (λ k. became (merged a b m).numbers k ≡ in_place a b k) moves_to t h)

  pub merged-keeps : Keeps m (merged a b m)
  merged-keeps = record {
    members = λ s node h.
        let old = coherent.members s node h in
        rw (moves_to s old.there, renumbered_to node old.holes) (record { at = contains-map (moved a b) m.members (record { set = s; tree = node }) h.at });
    types = λ k t e. rw (moves_to k (record { found = t; is = e })) (narrow_at k t e);
    numbers = λ k.
        became-map m.numbers a b (became m.numbers k) gone_below ∙ ap (in_place a b) (became-twice info m coherent k) ∙ sym (became-map m.numbers a b k gone_below);
    longer = let e = length-map m.numbers (in_place a b) in omega arith;
    gone = λ k l e. elim (cases_eq k b) [
      | inl h ↦ ap (set_at (merged a b m).types) h ∙ type_gone
      | inr n ↦ elim (cases_eq k a) [
        | inl h ↦ (let x = may.first.is in let y = ap (set_at m.types) h in absurd cc)
        | inr na ↦ type_other k na n ∙ e
      ]
    ];
  }

  pub merged-adds_none : AddsNone m (merged a b m)
  merged-adds_none = record {
    members = λ s node h.
        let x = contains-map_back (moved a b) m.members (record { set = s; tree = node }) h.at in
        let has : Has m.members x.0.set x.0.tree = record { at = x.1 } in
        let old = coherent.members x.0.set x.0.tree has in
        record {
          set = x.0.set;
          tree = x.0.tree;
          has = has;
          set_is = ap (λ (z : Member). z.set) (sym x.2) ∙ sym (moves_to x.0.set old.there);
          tree_is = ap (λ (z : Member). z.tree) (sym x.2) ∙ sym (renumbered_to x.0.tree old.holes);
        };
  }

  pub merged-settles : Settles info m (merged a b m)
  merged-settles = record { coherent = merged-coherent; keeps = merged-keeps; adds_none = merged-adds_none; added = refl }
