-- One turn of the cascade: of two places with one expression, their sets become one and the later place goes.
use Rattle.std.proofs.Common.{◌≡◌, ◌≢◌, ℕ, ◌<◌, inl, inr, List, [], map, length, get_or, refl, sym, ◌∙◌, ap, arith}
use Rattle.std.proofs.lemmas.Bool.{cases_eq}
use Rattle.std.proofs.lemmas.List.{get_or-map, get_or_default, length-map}
use Rattle.std.proofs.lemmas.Option.{same_Some}
use Rattle.cal_schema.specs.declared.rel_type.RelType.{RelType}
use Rattle.cal_schema.specs.RelType.{kinds_of}
use Rattle.cal_rel.specs.Holes.{renumbered, filled}
use Rattle.cal_rel.specs.Info.{Info, set_at}
use Rattle.cal_rel.specs.Tree.{Tree}
use Rattle.cal_rel.specs.Typing.{type_of}
use Rattle.memo_model.specs.Sets.{Member, Sets, seed_at, Has}
use Rattle.memo_model.specs.Sound.{over, AreSame, IsMember, IsCoherent, MayMerge}
use Rattle.memo_model.specs.Relations.{Settles, IsTwice}
use Rattle.memo_model.specs.Steps.{in_place, moved, merged, without}
use Rattle.memo_model.proofs.MeansLemmas.{means-sym, means-trans}
use Rattle.memo_model.proofs.ListLemmas.{contains-remove, contains-remove_back}
use Rattle.memo_model.proofs.NumberLemmas.{became-twice}
use Rattle.memo_model.proofs.KeepLemmas.{renumbered-there, settles-trans}
use Rattle.memo_model.proofs.MergeLemmas.{merged-settles}

pub may-turned : (info : Info) (m : Sets) (a b : ℕ) → MayMerge info m a b → MayMerge info m b a
may-turned info m a b h = record {
  apart = λ e. h.apart (sym e);
  first = h.second;
  second = h.first;
  kinds = sym h.kinds;
  same = means-sym (over info []) (seed_at m.seeds a) (seed_at m.seeds b) h.same;
}

pub member-same : (x y : Member) → x.set ≡ y.set → x.tree ≡ y.tree → x ≡ y
member-same x y e f =
    let with_set : ℕ → Member = λ s. record { set = s; tree = x.tree } in
    let with_tree : Tree → Member = λ t. record { set = y.set; tree = t } in
    ap with_set e ∙ ap with_tree f

-- a member that stands at another place too may go

module _ (info : Info) (m : Sets) (coherent : IsCoherent info m) (i j : ℕ) (apart : i ≢ j) (within : i < length m.members)
    (twin : (d : Member) → get_or m.members i d ≡ get_or m.members j d) where
  has_without : (s : ℕ) (node : Tree) → Has m.members s node → Has (without j m).members s node
  has_without s node h =
      let x : Member = record { set = s; tree = node } in
      elim (cases_eq h.at.0 j) [
        | inl e ↦ record { at = contains-remove m.members j i x apart within (twin x ∙ ap (λ k. get_or m.members k x) (sym e) ∙ h.at.2) }
        | inr n ↦ record { at = contains-remove m.members j h.at.0 x n h.at.1 h.at.2 }
      ]

  has_before : (s : ℕ) (node : Tree) → Has (without j m).members s node → Has m.members s node
  has_before s node h = record { at = contains-remove_back m.members j (record { set = s; tree = node }) h.at }

  pub without-settles : Settles info m (without j m)
  without-settles = record {
    coherent = record {
      valid = coherent.valid;
      seed_count = coherent.seed_count;
      number_count = coherent.number_count;
      made = coherent.made;
      stays = coherent.stays;
      leads = coherent.leads;
      seeds = coherent.seeds;
      members = λ s node h. coherent.members s node (has_before s node h);
    };
    keeps = record {
      members = λ s node h.
          let old = coherent.members s node h in
          rw (coherent.stays s old.there, renumbered-there info m coherent node old.holes) (has_without s node h);
      types = λ k t e. record { found = t; is = ap (set_at m.types) (coherent.stays k (record { found = t; is = e })) ∙ e; within = (coherent.seeds k t e).ordered };
      numbers = became-twice info m coherent;
      longer = omega arith;
      gone = λ k l e. e;
    };
    adds_none = record {
      members = λ s node h.
          let old = coherent.members s node (has_before s node h) in
          record { set = s; tree = node; has = has_before s node h; set_is = sym (coherent.stays s old.there); tree_is = sym (renumbered-there info m coherent node old.holes) };
    };
    added = refl;
  }

-- the two sets of one expression may become one

module _ (info : Info) (m : Sets) (coherent : IsCoherent info m) (i j : ℕ) (twice : IsTwice m.members i j) where
  first_within : i < length m.members
  first_within = let a = twice.before in let b = twice.within in omega arith

  places_apart : i ≢ j
  places_apart e = let a = twice.before in absurd (omega arith)

  first_member : IsMember info m.seeds m.types twice.first.set twice.first.tree
  first_member = coherent.members twice.first.set twice.first.tree (record { at = (i, first_within, twice.first_is) })

  second_member : IsMember info m.seeds m.types twice.second.set twice.second.tree
  second_member = coherent.members twice.second.set twice.second.tree (record { at = (j, twice.within, twice.second_is) })

  own_same : first_member.own ≡ second_member.own
  own_same = same_Some first_member.own second_member.own (sym first_member.typed ∙ ap (type_of (over info m.types)) twice.same ∙ second_member.typed)

  pub twice-may : twice.first.set ≢ twice.second.set → MayMerge info m twice.first.set twice.second.set
  twice-may n = record {
    apart = n;
    first = first_member.there;
    second = second_member.there;
    kinds = sym first_member.kinds ∙ ap (λ (t : RelType). kinds_of t.columns) own_same ∙ second_member.kinds;
    same =
        let g = seed_at m.seeds in
        let means : AreSame info (filled g twice.first.tree) (g twice.second.set) = rw twice.same second_member.means in
        means-trans (over info []) (g twice.first.set) (filled g twice.first.tree) (g twice.second.set)
        (means-sym (over info []) (filled g twice.first.tree) (g twice.first.set) first_member.means) means;
  }

  -- where both are in one set
  pub join-one : twice.first.set ≡ twice.second.set → Settles info m (without j m)
  join-one e =
      let pair = member-same twice.first twice.second e twice.same in
      let at_first : (d : Member) → get_or m.members i d ≡ twice.first = λ d. get_or_default m.members i d twice.first first_within ∙ twice.first_is in
      let at_second : (d : Member) → get_or m.members j d ≡ twice.second = λ d. get_or_default m.members j d twice.second twice.within ∙ twice.second_is in
      without-settles info m coherent i j places_apart first_within (λ d. at_first d ∙ pair ∙ sym (at_second d))

  -- where they are in two
  pub join-two : (kept gone : ℕ) → MayMerge info m kept gone → in_place kept gone twice.first.set ≡ in_place kept gone twice.second.set
      → Settles info m (without j (merged kept gone m))
  join-two kept gone may e =
      let f = moved kept gone in
      let after = merged-settles info m coherent kept gone may in
      let long = length-map m.members f in
      let both : f twice.first ≡ f twice.second = let s = ap (renumbered (in_place kept gone)) twice.same in cc in
      let at_first : (d : Member) → get_or (map f m.members) i d ≡ f twice.first = λ d. get_or-map f m.members i twice.first d first_within ∙ ap f twice.first_is in
      let at_second : (d : Member) → get_or (map f m.members) j d ≡ f twice.second = λ d. get_or-map f m.members j twice.second d twice.within ∙ ap f twice.second_is in
      let l : i < length (map f m.members) = let w = first_within in omega arith in
      settles-trans info m (merged kept gone m) (without j (merged kept gone m)) after
      (without-settles info (merged kept gone m) after.coherent i j places_apart l (λ d. at_first d ∙ both ∙ sym (at_second d)))
