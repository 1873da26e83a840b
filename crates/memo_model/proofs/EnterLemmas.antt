-- A tree that is entered: it stands in the answered set, and nothing else but its parts is new.
use Rattle.std.proofs.Common.{◌≡◌, ℕ, ◌⊎◌, inl, inr, List, [], length, Some, None, refl, sym, ◌∙◌, ap, subst, arith}
use Rattle.std.specs.Prelude.{Option, ⊤}
use Rattle.std.proofs.lemmas.List.Elements.{Contains-push, Contains-push_cases}
use Rattle.std.proofs.lemmas.Option.{same_Some}
use Rattle.cal_schema.specs.declared.rel_type.RelType.{RelType}
use Rattle.cal_schema.specs.RelType.{IsWithin, kinds_of, met_rel_type}
use Rattle.cal_rel.specs.Holes.{filled, EachHole, HasWithin}
use Rattle.cal_rel.specs.Info.{Info, set_at}
use Rattle.cal_rel.specs.Tree.{Tree}
use Rattle.cal_rel.specs.Typing.{type_of}
use Rattle.cal_rel.proofs.MoreLaws.{IsTyped, typed-holes}
use Rattle.memo_model.specs.Sets.{Member, Sets, seed_at, IsThere, Has, Stands}
use Rattle.memo_model.specs.Sound.{over, IsNode, AreSame, IsTypeOf, Means, IsMember, IsCoherent, IsUnique, MayStand}
use Rattle.memo_model.specs.Relations.{Extends, IsPart, StandsBy, ComesFrom}
use Rattle.memo_model.specs.Steps.{found, met, joint_type, pushed, narrowed, Placed, place, placed}
use Rattle.memo_model.proofs.NumberLemmas.{there-below, set_at-push}
use Rattle.memo_model.proofs.TreeLemmas.{each-weaker, filled-agree}
use Rattle.memo_model.proofs.TypeLemmas.{within-trans, within-kinds, meet-right, meet-kinds, meet-ordered}
use Rattle.memo_model.proofs.MeansLemmas.{means-sym, means-trans, type-same, type-meet}
use Rattle.memo_model.proofs.StandLemmas.{stands-means, stands_by-more}
use Rattle.memo_model.proofs.ExtendLemmas.{extends-trans, type-more}
use Rattle.memo_model.proofs.PlaceLemmas.{found-has, unique-push, narrowed-extends, narrowed-type, pushed-extends, type-over}
use Rattle.memo_model.proofs.NewSetLemmas.{with_set-extends}

-- where the node goes if it is nowhere yet
abbrev pub IsTarget : Info → Sets → Tree → RelType → Option ℕ → Type 0
IsTarget info m x t None = ⊤
IsTarget info m x t (Some s) = MayStand info m x t s

pub record IsPlaced (info : Info) (m : Sets) (node : Tree) (t : RelType) (r : Placed) : Type 0 where
  pub extends : Extends info m r.sets
  pub has : Has r.sets.members r.set node
  pub type : HasWithin (set_at r.sets.types r.set) t
  pub back : (s : ℕ) (x : Tree) → Has r.sets.members s x → Has m.members s x ⊎ ((s ≡ r.set) × (x ≡ node))
  pub unique : IsUnique m.members → IsUnique r.sets.members

-- `own` is the type of the node over the sets, `t` what is known of its rows
module _ (info : Info) (m : Sets) (coherent : IsCoherent info m) (node : Tree) (own t : RelType) (shape : IsNode node) (holes : EachHole (IsThere m.types) node)
    (typed : type_of (over info m.types) node ≡ Some own) (kinds : kinds_of t.columns ≡ kinds_of own.columns) (ordered : IsWithin t t) (is_true : IsTypeOf info t (filled (seed_at m.seeds) node)) where
  -- it is true of each set that means what the node does
  true_of : (s : ℕ) → Means info m.seeds node s → IsTypeOf info t (seed_at m.seeds s)
  true_of s means = type-same info t (filled (seed_at m.seeds) node) (seed_at m.seeds s) is_true means

  place-found : (target : Option ℕ) (k : ℕ) → found node m.members ≡ Some k → IsPlaced info m node t (place node (Some t) target (Some k) m)
  place-found target k e =
      let has = found-has node m.members k e in
      let old = coherent.members k node has in
      let same : own ≡ old.own = same_Some own old.own (sym typed ∙ old.typed) in
      let at_kinds = kinds ∙ ap (λ (z : RelType). kinds_of z.columns) same ∙ old.kinds in
      record {
        extends = narrowed-extends info m coherent k t old.there at_kinds (true_of k old.means);
        has = has;
        type = narrowed-type info m coherent k t old.there at_kinds (true_of k old.means);
        back = λ s x h. inl h;
        unique = λ u. u;
      }

  place-into : (s : ℕ) → MayStand info m node own s → found node m.members ≡ None → IsPlaced info m node t (place node (Some t) (Some s) None m)
  place-into s may none =
      let new : IsMember info m.seeds m.types s node =
      record { there = may.there; shape = shape; holes = holes; own = own; typed = typed; kinds = may.kinds; means = may.means } in
      let first = pushed-extends info m coherent s node new in
      let is = true_of s may.means in
      record {
        extends = extends-trans info m (pushed s node m) (narrowed s (Some t) (pushed s node m)) coherent first
            (narrowed-extends info (pushed s node m) first.coherent s t may.there (kinds ∙ may.kinds) is);
        has = record { at = Contains-push m.members (record { set = s; tree = node }) };
        type = narrowed-type info (pushed s node m) first.coherent s t may.there (kinds ∙ may.kinds) is;
        back = λ r x h. elim (Contains-push_cases m.members (record { set = s; tree = node }) (record { set = r; tree = x }) h.at) [
          | inl old ↦ inl (record { at = old })
          | inr e ↦ inr (ap (λ (z : Member). z.set) (sym e), ap (λ (z : Member). z.tree) (sym e))
        ];
        unique = λ u. unique-push m.members node s u none;
      }

  place-new : found node m.members ≡ None → IsPlaced info m node t (place node (Some t) None None m)
  place-new none = record {
    extends = with_set-extends info m coherent node own t shape holes typed kinds ordered is_true;
    has = record { at = Contains-push m.members (record { set = length m.types; tree = node }) };
    type = record { found = t; is = set_at-push m.types (Some t); within = ordered };
    back = λ r x h. elim (Contains-push_cases m.members (record { set = length m.types; tree = node }) (record { set = r; tree = x }) h.at) [
      | inl old ↦ inl (record { at = old })
      | inr e ↦ inr (ap (λ (z : Member). z.set) (sym e), ap (λ (z : Member). z.tree) (sym e))
    ];
    unique = λ u. unique-push m.members node (length m.types) u none;
  }

  pub place-is : (target o : Option ℕ) → found node m.members ≡ o → IsTarget info m node own target → IsPlaced info m node t (place node (Some t) target o m)
  place-is target (Some k) e may = place-found target k e
  place-is (Some s) None e may = place-into s may e
  place-is None None e may = place-new e

pub record IsEntered (info : Info) (m : Sets) (x : Tree) (t : RelType) (r : Placed) : Type 0 where
  pub extends : Extends info m r.sets
  pub stands : Stands r.sets.members r.set x
  pub type : HasWithin (set_at r.sets.types r.set) t
  pub back : (s : ℕ) (node : Tree) → Has r.sets.members s node → Has m.members s node ⊎ ComesFrom r.sets.members x s node
  pub unique : IsUnique m.members → IsUnique r.sets.members

-- what the inputs have left: all but the root is in `mid`, where the root is `node`
pub record IsReady (info : Info) (m mid : Sets) (x node : Tree) (t own : RelType) : Type 0 where
  pub extends : Extends info m mid
  pub shape : IsNode node
  pub holes : EachHole (IsThere mid.types) node
  pub typed : type_of (over info mid.types) node ≡ Some own
  pub kinds : kinds_of own.columns ≡ kinds_of t.columns
  pub same : AreSame info (filled (seed_at mid.seeds) node) (filled (seed_at m.seeds) x)
  pub back : (s : ℕ) (y : Tree) → Has mid.members s y → Has m.members s y ⊎ ComesFrom mid.members x s y
  pub unique : IsUnique m.members → IsUnique mid.members
  pub by : (members : List Member) → ((s : ℕ) (y : Tree) → Has mid.members s y → Has members s y) → (s : ℕ) → Has members s node → Stands members s x × StandsBy members s node x
  pub itself : IsPart x x

pub comes-more : (xs ys : List Member) → ((s : ℕ) (node : Tree) → Has xs s node → Has ys s node) → (x : Tree) (s : ℕ) (node : Tree) → ComesFrom xs x s node → ComesFrom ys x s node
comes-more xs ys h x s node c = record { part = c.part; is = c.is; stands = stands_by-more xs ys h s node c.part c.stands }

-- a tree over sets has the same seeds in its holes afterwards
pub filled-on : (info : Info) (old new : Sets) (x : Tree) (t : RelType) → IsCoherent info old → Extends info old new → type_of (over info old.types) x ≡ Some t
    → filled (seed_at new.seeds) x ≡ filled (seed_at old.seeds) x
filled-on info old new x t coherent ext typed =
    filled-agree (seed_at new.seeds) (seed_at old.seeds) x
    (each-weaker (IsTyped (over info old.types)) (λ j. seed_at new.seeds j ≡ seed_at old.seeds j)
    (λ j h. let l = there-below old.types j (record { found = h.0; is = h.1 }) in let c = coherent.seed_count in ext.seeds j (omega arith)) x (typed-holes (over info old.types) x t typed))

target-on : (info : Info) (m mid : Sets) (x node : Tree) (t own : RelType) → IsCoherent info m → IsReady info m mid x node t own
    → (target : Option ℕ) → IsTarget info m x t target → IsTarget info mid node own target
target-on info m mid x node t own coherent ready None may = tt
target-on info m mid x node t own coherent ready (Some s) may =
    let at = ready.extends.types s may.there.found may.there.is in
    let l = there-below m.types s may.there in
    let c = coherent.seed_count in
    let seed : seed_at mid.seeds s ≡ seed_at m.seeds s = ready.extends.seeds s (omega arith) in
    record {
      there = record { found = at.found; is = at.is };
      kinds = ready.kinds ∙ may.kinds ∙ sym (within-kinds at.found may.there.found at.within);
      means = rw seed (means-trans (over info []) (filled (seed_at mid.seeds) node) (filled (seed_at m.seeds) x) (seed_at m.seeds s) ready.same may.means);
    }

module _ (info : Info) (m mid : Sets) (x node : Tree) (t own : RelType) (coherent : IsCoherent info m) (typed : type_of (over info m.types) x ≡ Some t) (ready : IsReady info m mid x node t own) where
  -- the type of the tree over the sets as they are now
  now_typed : HasWithin (type_of (over info mid.types) x) t
  now_typed = type-more info m mid coherent.valid ready.extends.types x t typed

  abbrev joint : RelType
  joint = met_rel_type own now_typed.found

  like : kinds_of own.columns ≡ kinds_of now_typed.found.columns
  like = ready.kinds ∙ sym (within-kinds now_typed.found t now_typed.within)

  joint_is : joint_type info mid.types x node ≡ Some joint
  joint_is = rw (ready.typed, now_typed.is) refl

  joint_within : IsWithin joint t
  joint_within = within-trans joint now_typed.found t (meet-right own now_typed.found like) now_typed.within

  joint_true : IsTypeOf info joint (filled (seed_at mid.seeds) node)
  joint_true =
      let i = over info [] in
      let f = filled (seed_at mid.seeds) node in
      let whole = filled (seed_at mid.seeds) x in
      let e : whole ≡ filled (seed_at m.seeds) x = filled-on info m mid x t coherent ready.extends typed in
      let same : AreSame info f whole = rw e ready.same in
      let of_tree = type-over info mid ready.extends.coherent x now_typed.found now_typed.is in
      type-meet info own now_typed.found f (type-over info mid ready.extends.coherent node own ready.typed)
      (type-same info now_typed.found whole f of_tree (means-sym i f whole same))

  pub ready-placed : (target : Option ℕ) → IsTarget info m x t target → IsEntered info m x t (placed info target x node mid)
  ready-placed target may =
      let r = placed info target x node mid in
      let is : IsPlaced info mid node joint r = rw joint_is (
      place-is info mid ready.extends.coherent node own joint ready.shape ready.holes ready.typed (meet-kinds own now_typed.found like) (meet-ordered own now_typed.found like) joint_true
      target (found node mid.members) refl (target-on info m mid x node t own coherent ready target may)) in
      let by = ready.by r.sets.members is.extends.members in
      record {
        extends = extends-trans info m mid r.sets coherent ready.extends is.extends;
        stands = (by r.set is.has).0;
        type = record { found = is.type.found; is = is.type.is; within = within-trans is.type.found joint t is.type.within joint_within };
        back = λ s y h. elim (is.back s y h) [
          | inl old ↦ elim (ready.back s y old) [ inl e ↦ inl e | inr e ↦ inr (comes-more mid.members r.sets.members is.extends.members x s y e) ]
          | inr e ↦ (
              let has : Has r.sets.members s node = subst (λ z. Has r.sets.members s z) e.1 h in
              let from : ComesFrom r.sets.members x s node = record { part = x; is = ready.itself; stands = (by s has).1 } in
              inr (subst (λ z. ComesFrom r.sets.members x s z) (sym e.1) from))
        ];
        unique = λ u. is.unique (ready.unique u);
      }

-- an input's set means what the input means over the seeds from before
pub input-same : (info : Info) (old new : Sets) (x : Tree) (t : RelType) (k : ℕ) → IsCoherent info old → Extends info old new
    → type_of (over info old.types) x ≡ Some t → Stands new.members k x → AreSame info (seed_at new.seeds k) (filled (seed_at old.seeds) x)
input-same info old new x t k coherent ext typed stands =
    let fill = filled-on info old new x t coherent ext typed in
    let means : AreSame info (filled (seed_at old.seeds) x) (seed_at new.seeds k) = rw fill at (stands-means info new ext.coherent k x stands) in
    means-sym (over info []) (filled (seed_at old.seeds) x) (seed_at new.seeds k) means
