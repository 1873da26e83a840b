-- A node that is placed: it is found, or pushed into a set, or gets a set of its own.
use Rattle.std.proofs.Common.{◌≡◌, ◌≢◌, ℕ, zero, suc, ◌<◌, inl, inr, Bool, true, false, cond, List, [], ◌∷◌, ◌++◌, length, get_or, Some, None, refl, sym, ◌∙◌, ap, subst, arith, ◌+◌, ◌≤◌}
use Rattle.std.specs.Prelude.{Option, option_map, unwrap_or}
use Rattle.std.proofs.lemmas.Bool.{cases_eq, cases_lt}
use Rattle.std.proofs.lemmas.List.{length-set, length_push, get_or_append_left, get_or_push, get_or_default}
use Rattle.std.proofs.lemmas.List.Elements.{Contains-append_left, Contains-push_cases}
use Rattle.std.proofs.lemmas.Option.{same_Some}
use Rattle.cal_schema.specs.declared.database.Db.{Db}
use Rattle.cal_schema.specs.Fits.{Fits}
use Rattle.cal_schema.specs.declared.rel_type.RelType.{RelType}
use Rattle.cal_schema.specs.RelType.{IsTrueOf, IsWithin, kinds_of, met_rel_type}
use Rattle.cal_rel.specs.Bag.{bag, width, set_width}
use Rattle.cal_rel.specs.Holes.{EachHole, HasWithin, filled}
use Rattle.cal_rel.specs.Info.{Info, set_at}
use Rattle.cal_rel.specs.Meaning.{AreTrueOf}
use Rattle.cal_rel.specs.Operators.{Row}
use Rattle.cal_rel.specs.Tree.{Tree}
use Rattle.cal_rel.specs.Typing.{type_of}
use Rattle.cal_rel.proofs.MoreLaws.{IsTyped, typed-holes}
use Rattle.cal_rel.proofs.Renumbered.{width-filled, bag-filled}
use Rattle.cal_rel.proofs.TrueTypes.{type-width, type-true}
use Rattle.memo_model.specs.Same.{same_tree}
use Rattle.memo_model.specs.Sets.{Member, Sets, seed_at, became, IsThere, Has}
use Rattle.memo_model.specs.Sound.{over, IsTypeOf, IsClosed, IsSeed, IsMember, IsCoherent, IsUnique}
use Rattle.memo_model.specs.Relations.{Extends}
use Rattle.memo_model.specs.Steps.{found, met, narrowed, pushed}
use Rattle.memo_model.proofs.TreeLemmas.{each-weaker, tree-true, tree-itself}
use Rattle.memo_model.proofs.TypeLemmas.{meet-left, meet-right, meet-ordered}
use Rattle.memo_model.proofs.MeansLemmas.{width-closed, bag-closed, closed-filled}
use Rattle.memo_model.proofs.MergeLemmas.{seed-meet}
use Rattle.memo_model.proofs.NumberLemmas.{there-below, set_at-set, set_at-set_other}
use Rattle.memo_model.proofs.CascadeLemmas.{member-same}
use Rattle.memo_model.proofs.ExtendLemmas.{member-more}

-- the search for a node

found_one : (b : Bool) (node : Tree) (x : Member) (more : List Member) (k : ℕ) → same_tree x.tree node ≡ b
    → (found node more ≡ Some k → Has more k node) → cond b (Some x.set) (found node more) ≡ Some k → Has (x ∷ more) k node
found_one true node x more k t h e =
    let both = member-same x (record { set = k; tree = node }) (same_Some x.set k e) (tree-true x.tree node t) in
    record { at = (0, below_length x more, both) }
  where
    below_length : (x : Member) (more : List Member) → 0 < length (x ∷ more)
    below_length x more = omega arith
found_one false node x more k t h e = let c = (h e).at in let l = c.1 in record { at = (suc c.0, omega arith, c.2) }

pub found-has : (node : Tree) (members : List Member) (k : ℕ) → found node members ≡ Some k → Has members k node
found-has node [] k e = absurd cc
found-has node (x ∷ more) k e = found_one (same_tree x.tree node) node x more k refl (found-has node more k) e

cond_none : (b : Bool) (k : ℕ) (o : Option ℕ) → cond b (Some k) o ≡ None → o ≡ None
cond_none true k o e = absurd cc
cond_none false k o e = e

pub found-none_at : (node : Tree) (members : List Member) (i : ℕ) (y : Member) → found node members ≡ None → i < length members → get_or members i y ≡ y → y.tree ≡ node → ⊥
found-none_at node [] i y e l g t = absurd (omega arith)
found-none_at node (x ∷ more) zero y e l g t =
    let same : same_tree x.tree node ≡ true = rw (g, t) (tree-itself node) in
    let no : ◌≡◌ {A = Option ℕ} (Some x.set) None = rw same at e in
    absurd cc
found-none_at node (x ∷ more) (suc i) y e l g t = found-none_at node more i y (cond_none (same_tree x.tree node) x.set (found node more) e) (omega arith) g t

pub found-none : (node : Tree) (members : List Member) → found node members ≡ None → (s : ℕ) → Has members s node → ⊥
found-none node members e s h = found-none_at node members h.at.0 (record { set = s; tree = node }) e h.at.1 h.at.2 refl

-- one more expression, which is nowhere yet
pub unique-push : (members : List Member) (node : Tree) (k : ℕ) → IsUnique members → found node members ≡ None → IsUnique (members ++ record { set = k; tree = node } ∷ [])
unique-push members node k unique none = record {
  once = λ i j d li lj e.
      let long = length_push members (record { set = k; tree = node }) in
      elim (cases_lt i (length members)) [
        | inl a ↦ elim (cases_lt j (length members)) [
          | inl b ↦ unique.once i j d a b (sym (ap (λ (z : Member). z.tree) (inside i d a)) ∙ e ∙ ap (λ (z : Member). z.tree) (inside j d b))
          | inr b ↦ (
              let at_end : length members ≡ j = omega arith in
              absurd (clash i d a (sym (ap (λ (z : Member). z.tree) (inside i d a)) ∙ e ∙ ap (λ (z : Member). z.tree) (get_or_push members (record { set = k; tree = node }) d j at_end))))
        ]
        | inr a ↦ elim (cases_lt j (length members)) [
          | inl b ↦ (
              let at_end : length members ≡ i = omega arith in
              absurd (clash j d b (sym (ap (λ (z : Member). z.tree) (inside j d b)) ∙ sym e ∙ ap (λ (z : Member). z.tree) (get_or_push members (record { set = k; tree = node }) d i at_end))))
          | inr b ↦ omega arith
        ]
      ];
}
  where
    inside : (i : ℕ) (d : Member) → i < length members → get_or (members ++ record { set = k; tree = node } ∷ []) i d ≡ get_or members i d
    inside i d l = get_or_append_left members (record { set = k; tree = node } ∷ []) d i l

    clash : (i : ℕ) (d : Member) → i < length members → (get_or members i d).tree ≡ node → ⊥
    clash i d l t = let y = get_or members i d in found-none_at node members i y none l (get_or_default members i y d l) t

-- one more fact on the type of a set

module _ (info : Info) (m : Sets) (coherent : IsCoherent info m) (k : ℕ) (t : RelType) (at : IsThere m.types k) (kinds : kinds_of t.columns ≡ kinds_of at.found.columns)
    (is_true : IsTypeOf info t (seed_at m.seeds k)) where
  abbrev both : RelType
  both = met_rel_type at.found t

  type_there : set_at (narrowed k (Some t) m).types k ≡ Some both
  type_there =
      let is : met (set_at m.types k) (Some t) ≡ Some both = rw at.is refl in
      set_at-set m.types (met (set_at m.types k) (Some t)) k (there-below m.types k at) ∙ is

  type_elsewhere : (j : ℕ) → j ≢ k → set_at (narrowed k (Some t) m).types j ≡ set_at m.types j
  type_elsewhere j n = set_at-set_other m.types (met (set_at m.types k) (Some t)) k j n

  narrows : (j : ℕ) (s : RelType) → set_at m.types j ≡ Some s → HasWithin (set_at (narrowed k (Some t) m).types j) s
  narrows j s e = elim (cases_eq j k) [
    | inl h ↦ (
        let same : at.found ≡ s = same_Some at.found s (sym at.is ∙ ap (set_at m.types) (sym h) ∙ e) in
        record {
          found = both;
          is = ap (set_at (narrowed k (Some t) m).types) h ∙ type_there;
          within = subst (λ z. IsWithin both z) same (meet-left at.found t (sym kinds));
        })
    | inr n ↦ record { found = s; is = type_elsewhere j n ∙ e; within = (coherent.seeds j s e).ordered }
  ]

  before : (j : ℕ) → IsThere (narrowed k (Some t) m).types j → IsThere m.types j
  before j h = elim (cases_eq j k) [
    | inl e ↦ record { found = at.found; is = ap (set_at m.types) e ∙ at.is }
    | inr n ↦ record { found = h.found; is = sym (type_elsewhere j n) ∙ h.is }
  ]

  seed_there : (j : ℕ) (s : RelType) → set_at (narrowed k (Some t) m).types j ≡ Some s → IsSeed info s (seed_at m.seeds j)
  seed_there j s e = elim (cases_eq j k) [
    | inl h ↦ (
        let same : both ≡ s = same_Some both s (sym type_there ∙ ap (set_at (narrowed k (Some t) m).types) (sym h) ∙ e) in
        rw (h, ← same) (seed-meet info at.found t (seed_at m.seeds k) (sym kinds) (coherent.seeds k at.found at.is) is_true))
    | inr n ↦ coherent.seeds j s (sym (type_elsewhere j n) ∙ e)
  ]

  pub narrowed-extends : Extends info m (narrowed k (Some t) m)
  narrowed-extends =
      let long = length-set m.types k (met (set_at m.types k) (Some t)) in
      record {
        coherent = record {
          valid = coherent.valid;
          seed_count = coherent.seed_count ∙ sym long;
          number_count = coherent.number_count ∙ sym long;
          made = rw long coherent.made;
          stays = λ j h. coherent.stays j (before j h);
          leads = λ j l. let h = coherent.leads j l in let x = narrows (became m.numbers j) h.found h.is in record { found = x.found; is = x.is };
          seeds = seed_there;
          members = λ s node h. member-more info m (narrowed k (Some t) m) coherent.valid narrows (λ j h. refl) s node (coherent.members s node h);
        };
        members = λ s node h. h;
        types = narrows;
        seeds = λ j l. refl;
        numbers = λ j. refl;
        longer = omega arith;
        gone = λ j l e. elim (cases_eq j k) [
          | inl h ↦ (let x = at.is in let y = ap (set_at m.types) h in absurd cc)
          | inr n ↦ type_elsewhere j n ∙ e
        ];
        added = refl;
      }

  pub narrowed-type : HasWithin (set_at (narrowed k (Some t) m).types k) t
  narrowed-type = record { found = both; is = type_there; within = meet-right at.found t (sym kinds) }

more : (n k : ℕ) → k ≤ n → k ≤ n + 1
more n k h = omega arith

-- one more member of a set that is there

pub pushed-extends : (info : Info) (m : Sets) → IsCoherent info m → (k : ℕ) (node : Tree) → IsMember info m.seeds m.types k node → Extends info m (pushed k node m)
pushed-extends info m coherent k node new =
    let long = length_push m.members (record { set = k; tree = node }) in
    record {
      coherent = record {
        valid = coherent.valid;
        seed_count = coherent.seed_count;
        number_count = coherent.number_count;
        made = more m.added (length m.types) coherent.made;
        stays = coherent.stays;
        leads = coherent.leads;
        seeds = coherent.seeds;
        members = λ s x h. elim (Contains-push_cases m.members (record { set = k; tree = node }) (record { set = s; tree = x }) h.at) [
          | inl old ↦ coherent.members s x (record { at = old })
          | inr e ↦ subst (λ (z : Member). IsMember info m.seeds m.types z.set z.tree) e new
        ];
      };
      members = λ s x h. record { at = Contains-append_left m.members (record { set = k; tree = node } ∷ []) (record { set = s; tree = x }) h.at };
      types = λ j t e. record { found = t; is = e; within = (coherent.seeds j t e).ordered };
      seeds = λ j l. refl;
      numbers = λ j. refl;
      longer = omega arith;
      gone = λ j l e. e;
      added = omega arith;
    }

-- ---- a tree over sets, with their seeds in its holes

-- the rows of the seed of each set
abbrev pub seed_rows : Info → Sets → Db → (ℕ → List Row) → ℕ → List Row
seed_rows info m db holes k = bag (over info m.types) db holes (seed_at m.seeds k)

pub seeds-true : (info : Info) (m : Sets) → IsCoherent info m → (db : Db) (holes : ℕ → List Row) → Fits db info.schema → AreTrueOf m.types (seed_rows info m db holes)
seeds-true info m coherent db holes fits = record {
  each = λ k s e.
      let seed = coherent.seeds k s e in
      subst (λ r. IsTrueOf s r) (sym (bag-closed info m.types db holes holes (seed_at m.seeds k) seed.closed)) (seed.true db holes fits);
}

module _ (info : Info) (m : Sets) (coherent : IsCoherent info m) (x : Tree) (t : RelType) (typed : type_of (over info m.types) x ≡ Some t) where
  abbrev here : Info
  here = over info m.types

  abbrev g : ℕ → Tree
  g = seed_at m.seeds

  holes_there : EachHole (IsTyped here) x
  holes_there = typed-holes here x t typed

  closed_each : EachHole (λ k. IsClosed info (g k)) x
  closed_each = each-weaker (IsTyped here) (λ k. IsClosed info (g k)) (λ k h. (coherent.seeds k h.0 h.1).closed) x holes_there

  pub closed-over : IsClosed info (filled g x)
  closed-over = closed-filled info m.types g x t typed closed_each

  width_at : (k : ℕ) → IsTyped here k → width here (g k) ≡ set_width here k
  width_at k h =
      let seed = coherent.seeds k h.0 h.1 in
      let is : set_width here k ≡ length h.0.columns = ap (λ o. unwrap_or (option_map (λ (s : RelType). length s.columns) o) 0) h.1 in
      width-closed info m.types (g k) seed.closed ∙ seed.columns ∙ sym is

  widths : EachHole (λ k. width here (g k) ≡ set_width here k) x
  widths = each-weaker (IsTyped here) (λ k. width here (g k) ≡ set_width here k) width_at x holes_there

  pub width-over : width (over info []) (filled g x) ≡ length t.columns
  width-over = sym (width-closed info m.types (filled g x) closed-over) ∙ width-filled here g x widths ∙ sym (type-width here x t typed)

  -- it means what the tree means over the rows of the seeds
  pub rows-over : (db : Db) (holes : ℕ → List Row) → bag (over info []) db holes (filled g x) ≡ bag here db (seed_rows info m db holes) x
  rows-over db holes = sym (bag-closed info m.types db holes holes (filled g x) closed-over) ∙ bag-filled here db holes g x widths

  -- its type is true of its rows
  pub type-over : IsTypeOf info t (filled g x)
  type-over = λ db holes fits.
      let rows = seed_rows info m db holes in
      let is : IsTrueOf t (bag here db rows x) = type-true here db rows x t fits (seeds-true info m coherent db holes fits) typed in
      subst (λ r. IsTrueOf t r) (sym (rows-over db holes)) is
