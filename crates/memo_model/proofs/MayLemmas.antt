-- What means the same as a tree that stands in a set may be registered in that set.
use Rattle.std.proofs.Common.{◌≡◌, ℕ, List, [], Some, None, inl, inr, sym, ◌∙◌, ap, subst}
use Rattle.std.proofs.lemmas.Option.{same_Some}
use Rattle.cal_value.specs.Order.{SameBag}
use Rattle.cal_schema.specs.declared.rel_type.RelType.{RelType}
use Rattle.cal_schema.specs.RelType.{kinds_of}
use Rattle.cal_rel.specs.Bag.{bag}
use Rattle.cal_rel.specs.Holes.{filled, HasWithin}
use Rattle.cal_rel.specs.Info.{Info, set_at}
use Rattle.cal_rel.specs.Meaning.{MeansTheSame}
use Rattle.cal_rel.specs.Tree.{Tree, leaf, unary, binary, hole}
use Rattle.cal_rel.specs.Typing.{type_of}
use Rattle.cal_rel.proofs.TrueTypes.{type-width}
use Rattle.memo_model.specs.Sets.{Sets, seed_at, IsThere, Stands}
use Rattle.memo_model.specs.Sound.{over, AreSame, IsCoherent, IsSound, MayRegister}
use Rattle.memo_model.specs.Steps.{entered}
use Rattle.memo_model.proofs.EnteredLemmas.{entered-is}
use Rattle.memo_model.proofs.ExactLemmas.{told}
use Rattle.memo_model.proofs.MeansLemmas.{means-trans}
use Rattle.memo_model.proofs.PlaceLemmas.{seed_rows, seeds-true, width-over, rows-over}
use Rattle.memo_model.proofs.StandLemmas.{stands-means, stands-once}
use Rattle.memo_model.proofs.TypeLemmas.{within-kinds}

stands-there : (info : Info) (m : Sets) → IsCoherent info m → (s : ℕ) (x : Tree) (t : RelType) → Stands m.members s x → type_of (over info m.types) x ≡ Some t → IsThere m.types s
stands-there info m coherent s (leaf l) t h e = (coherent.members s (leaf l) h).there
stands-there info m coherent s (unary u x) t h e = (coherent.members s (unary u (hole h.0)) h.1).there
stands-there info m coherent s (binary n x y) t h e = (coherent.members s (binary n (hole h.0) (hole h.1)) h.2).there
stands-there info m coherent s (hole k) t h e = subst (IsThere m.types) h (record { found = t; is = e })

-- trees over sets that mean the same do so over the seeds
pub means-over : (info : Info) (m : Sets) → IsCoherent info m → (a b : Tree) (t u : RelType) → type_of (over info m.types) a ≡ Some t → type_of (over info m.types) b ≡ Some u
    → MeansTheSame (over info m.types) a b → AreSame info (filled (seed_at m.seeds) a) (filled (seed_at m.seeds) b)
means-over info m coherent a b t u e f h =
    let here = over info m.types in
    record {
      columns = width-over info m coherent a t e ∙ type-width here a t e ∙ h.columns ∙ sym (type-width here b u f) ∙ sym (width-over info m coherent b u f);
      rows = λ db holes fits true_of.
          let rows = seed_rows info m db holes in
          let same : SameBag (bag here db rows a) (bag here db rows b) = h.rows db rows fits (seeds-true info m coherent db holes fits) in
          subst (λ r. SameBag r (bag (over info []) db holes (filled (seed_at m.seeds) b))) (sym (rows-over info m coherent a t e db holes))
          (subst (λ r. SameBag (bag here db rows a) r) (sym (rows-over info m coherent b u f db holes)) same);
    }

module _ (info : Info) (m : Sets) (sound : IsSound info m) (s : ℕ) (x : Tree) (t : RelType) (stands : Stands m.members s x) (typed : type_of (over info m.types) x ≡ Some t) where
  pub there : IsThere m.types s
  there = stands-there info m sound.coherent s x t stands typed

  -- a set has the column kinds of each well-formed tree that stands in it
  pub stands-kinds : kinds_of t.columns ≡ kinds_of there.found.columns
  stands-kinds =
      let r = entered info None x m in
      let is = entered-is info x None m t sound.coherent typed tt in
      elim (told info x m t sound.coherent sound.unique typed).cases [
        | inl known ↦ (
            let at : r.set ≡ s = stands-once m.members sound.unique r.set s x known.stood stands in
            let now : HasWithin (set_at r.sets.types s) t = subst (λ k. HasWithin (set_at r.sets.types k) t) at is.type in
            let on = is.extends.types s there.found there.is in
            let same : now.found ≡ on.found = same_Some now.found on.found (sym now.is ∙ on.is) in
            sym (within-kinds now.found t now.within) ∙ ap (λ (z : RelType). kinds_of z.columns) same ∙ within-kinds on.found there.found on.within)
        | inr last ↦ absurd (last.nowhere s stands)
      ]

  pub image-may : (out : Tree) (u : RelType) → type_of (over info m.types) out ≡ Some u → kinds_of u.columns ≡ kinds_of t.columns → MeansTheSame (over info m.types) out x
      → MayRegister info m out s
  image-may out u is kinds same = record {
    own = u;
    typed = is;
    stand = record {
      there = there;
      kinds = kinds ∙ stands-kinds;
      means = means-trans (over info []) (filled (seed_at m.seeds) out) (filled (seed_at m.seeds) x) (seed_at m.seeds s)
          (means-over info m sound.coherent out x u t is typed same) (stands-means info m sound.coherent s x stands);
    };
  }
