-- What a turn of a search keeps, and what a round without firing tells.
use Rattle.std.proofs.Common.{◌≡◌, ℕ, ◌<◌, ◌≤◌, inl, inr, List, Some, refl, sym, ◌∙◌, ap, subst, arith}
use Rattle.std.specs.Prelude.{Contains, slice_get}
use Rattle.std.proofs.lemmas.Bool.{cases_lt}
use Rattle.std.proofs.lemmas.Option.{same_Some}
use Rattle.cal_schema.specs.declared.rel_type.RelType.{RelType}
use Rattle.cal_schema.specs.Valid.{IsValidSchema}
use Rattle.cal_rel.specs.Holes as trees
use Rattle.cal_rel.specs.Info.{Info}
use Rattle.cal_rel.specs.Tree.{Tree}
use Rattle.rule_hep.specs.Meaning.{Meaning}
use Rattle.memo_model.specs.declared.TheConstants.{MEMBER_LIMIT}
use Rattle.memo_model.specs.Sets.{Sets, became, IsThere, Stands}
use Rattle.memo_model.specs.Sound.{over, IsSound, MayRegister}
use Rattle.memo_model.specs.Relations.{Keeps, Registers}
use Rattle.memo_model.specs.Steps.{entered}
use Rattle.memo_model.proofs.KeepLemmas.{renumbered-there, stands-kept}
use Rattle.memo_model.proofs.ExactLemmas.{exact}
use Rattle.memo_model.proofs.MayLemmas.{image-may}
use Rattle.search_model.specs.Firings.{Firing, renumbered, IsFired, IsComplete, IsClosed}
use Rattle.search_model.specs.Search.{IsTriple, IsDone}
use Rattle.search_model.proofs.BindLemmas.{binds-kept, binds-there, binds-stands}

-- ---- a round without firing is complete

pub quiet-complete : (info : Info) (rules : List Meaning) (m : Sets) (firings : List Firing)
    → ((f : Firing) → IsTriple info rules m.members f → IsDone info rules m firings f) → IsComplete info rules m firings
quiet-complete info rules m firings h = record {
  has = λ i law rule s b binds n out image.
      let f : Firing = record { rule = i; nth = n; binding = b; set = s } in
      elim (cases_lt n (law.width info)) [
        | inl l ↦ (h f (record { law = law; rule = rule; below = l; binds = binds })).done law rule out image
        | inr g ↦ (
            let wide : law.width (over info m.types) ≡ law.width info = law.lawful.fixed_width info (over info m.types) (record { schema = refl; stars = refl; tiles = refl }) in
            let none = law.lawful.below_width (over info m.types) b n (rw wide g) in
            absurd cc)
      ];
}

pub complete-closed : (info : Info) (rules : List Meaning) (m : Sets) (firings : List Firing) → ((f : Firing) → Contains firings f → IsFired info rules m f)
    → IsComplete info rules m firings → IsClosed info rules m
complete-closed info rules m firings fired complete = record {
  stands = λ i law rule s b binds n out image.
      let f : Firing = record { rule = i; nth = n; binding = b; set = s } in
      let is = fired f (complete.has i law rule s b binds n out image) in
      let same_law : is.law ≡ law = same_Some is.law law (sym is.rule ∙ rule) in
      let again : is.law.image (over info m.types) b n ≡ Some out = rw same_law image in
      let same_out : is.out ≡ out = same_Some is.out out (sym is.image ∙ again) in
      subst (λ z. Stands m.members s z) same_out is.stands;
}

-- ---- what stays

-- triples stay triples
pub triple-kept : (info : Info) (rules : List Meaning) (a b : Sets) → Keeps a b → (f : Firing) → IsTriple info rules a.members f
    → IsTriple info rules b.members (renumbered (became b.numbers) f)
triple-kept info rules a b h f is = record {
  law = is.law;
  rule = is.rule;
  below = is.below;
  binds = binds-kept a b h is.law.reach f.set f.binding is.binds;
}

-- an image stays the image, with sets renumbered and types narrower
pub image-kept : (info : Info) (a b : Sets) → IsValidSchema info.schema → Keeps a b → (law : Meaning) (rel out : Tree) (n : ℕ) → law.image (over info a.types) rel n ≡ Some out
    → law.image (over info b.types) (trees.renumbered (became b.numbers) rel) n ≡ Some (trees.renumbered (became b.numbers) out)
image-kept info a b valid h law rel out n e =
    law.lawful.steady (became b.numbers) (over info a.types) (over info b.types) rel out n valid
    (record { else = record { schema = refl; stars = refl; tiles = refl }; sets = h.types }) e

-- firings stay firings
pub fired-kept : (info : Info) (rules : List Meaning) (a b : Sets) → IsValidSchema info.schema → Keeps a b → (f : Firing) → IsFired info rules a f
    → IsFired info rules b (renumbered (became b.numbers) f)
fired-kept info rules a b valid h f is = record {
  law = is.law;
  rule = is.rule;
  binds = binds-kept a b h is.law.reach f.set f.binding is.binds;
  out = trees.renumbered (became b.numbers) is.out;
  image = image-kept info a b valid h is.law f.binding is.out f.nth is.image;
  stands = stands-kept a b h f.set is.out is.stands;
}

-- a triple whose image was registered is fired
pub fired-new : (info : Info) (rules : List Meaning) (a mid b : Sets) → IsValidSchema info.schema → (f : Firing) (is : IsTriple info rules a.members f) (out : Tree) (t : RelType)
    → is.law.image (over info a.types) f.binding f.nth ≡ Some out → Registers info a mid b out t f.set → IsFired info rules b (renumbered (became b.numbers) f)
fired-new info rules a mid b valid f is out t image did = record {
  law = is.law;
  rule = is.rule;
  binds = binds-kept a b did.keeps is.law.reach f.set f.binding is.binds;
  out = trees.renumbered (became b.numbers) out;
  image = image-kept info a b valid did.keeps is.law f.binding out f.nth image;
  stands = did.stands;
}

-- ---- triples of a sound memo

-- whose sets are there and have kept their numbers, it stays as it is
pub firing-itself : (m : ℕ → ℕ) (f : Firing) → m f.set ≡ f.set → trees.renumbered m f.binding ≡ f.binding → renumbered m f ≡ f
firing-itself m f set binding =
    ap (λ s. record { rule = f.rule; nth = f.nth; binding = trees.renumbered m f.binding; set = s }) set
    ∙ ap (λ t. record { rule = f.rule; nth = f.nth; binding = t; set = f.set }) binding

module _ (info : Info) (m : Sets) (sound : IsSound info m) (rules : List Meaning) (f : Firing) (is : IsTriple info rules m.members f) where
  -- over the memo in which it stands, a triple has the numbers that it has
  pub triple-itself : renumbered (became m.numbers) f ≡ f
  triple-itself =
      let there = binds-there info m sound.coherent is.law.reach f.set f.binding is.binds in
      firing-itself (became m.numbers) f (sound.coherent.stays f.set there.0) (renumbered-there info m sound.coherent f.binding there.1)

  -- its image may be registered
  pub triple-may : (out : Tree) → is.law.image (over info m.types) f.binding f.nth ≡ Some out → MayRegister info m out f.set
  triple-may out image =
      let for = is.law.lawful.stands (over info m.types) f.binding out f.nth image in
      let stands = binds-stands info m sound.coherent is.law.reach f.set f.binding is.binds in
      image-may info m sound f.set f.binding for.other stands for.over out for.own for.well_formed for.kinds for.means

-- what would pass the limit doesn't stand in its set
pub past-absent : (info : Info) (m : Sets) → IsSound info m → (s : ℕ) (x : Tree) → MayRegister info m x s → MEMBER_LIMIT < (entered info (Some s) x m).sets.added
    → Stands m.members s x → ⊥
past-absent info m sound s x may past stands = elim (exact info s x m may.own sound.coherent sound.unique may.typed) [
  | inl known ↦ (let e = known.added in let l = sound.full in omega arith)
  | inr new ↦ new.0.nowhere s stands
]
