-- One triple of a round, by what is found of it.
use Rattle.std.proofs.Common.{◌≡◌, ℕ, ◌<◌, ◌≤◌, inl, inr, true, false, List, [], ◌∷◌, ◌++◌, length, Some, None, refl, sym, ◌∙◌, ap, subst, arith}
use Rattle.std.specs.Prelude.{Contains}
use Rattle.std.proofs.lemmas.Option.{same_Some}
use Rattle.cal_schema.specs.declared.rel_type.RelType.{RelType}
use Rattle.cal_rel.specs.Info.{Info}
use Rattle.cal_rel.specs.Tree.{Tree}
use Rattle.cal_rel.specs.Typing.{type_of}
use Rattle.rule_hep.specs.Meaning.{Meaning}
use Rattle.memo_model.specs.declared.TheConstants.{MEMBER_LIMIT}
use Rattle.memo_model.specs.Sets.{Sets, became, IsThere}
use Rattle.memo_model.specs.Sound.{over, MayRegister}
use Rattle.memo_model.specs.Relations.{Registers}
use Rattle.memo_model.specs.Steps.{entered}
use Rattle.memo_model.proofs.KeepLemmas.{keeps-refl}
use Rattle.memo_sets.specs.declared.memo.MemoFault.{MemoFault}
use Rattle.memo_sets.specs.declared.memo.MemoFault.TheVariants.{MemoFull}
use Rattle.memo_sets.specs.declared.register.Registered.{Registered}
use Rattle.memo_sets.specs.declared.register.Registered.TheVariants.{Added, Known, Merged}
use Rattle.memo_sets.specs.Answers.{IsRegistered, IsPlacedUnlessMerged}
use Rattle.memo_sets.specs.Faults.{IsFaultOf}
use Rattle.search_model.specs.Firings.{Firing}
use Rattle.search_model.specs.Search.{among, IsTriple, IsDone, IsSearch, gathered}
use Rattle.search_model.proofs.AmongLemmas.{none, cons-cases, among-true, among-false}
use Rattle.search_model.proofs.FallLemmas.{entered-stays, gathered-stays, turn-falls}
use Rattle.search_model.proofs.GatherLemmas.{fire-search}
use Rattle.search_model.proofs.GrownLemmas.{turn-grown}
use Rattle.search_model.proofs.SearchLemmas.{triple-may, past-absent}
use Rattle.volcano_search.specs.declared.search.Went.TheVariants.{Quiet, Fired, Stopped}
use Rattle.volcano_search.specs.Went.{noted, IsStep}

pub full-past : (s : Sets) (e : MemoFault) (limit : ℕ) → e ≡ MemoFull limit → IsFaultOf s e → MEMBER_LIMIT < s.added
full-past s e limit q h = let on : IsFaultOf s (MemoFull limit) = subst (IsFaultOf s) q h in on.1

only : (f g : Firing) → Contains (f ∷ []) g → f ≡ g
only f g h = elim (cons-cases f [] g h) [ inl e ↦ e | inr n ↦ absurd (none g n) ]

module _ (info : Info) (rules : List Meaning) (budget : ℕ) (m : Sets) (firings : List Firing) (f : Firing) (search : IsSearch info rules budget m firings)
    (is : IsTriple info rules m.members f) where
  quiet : IsDone info rules m firings f → IsStep info rules budget m m firings firings f Quiet
  quiet done = record {
    search = search;
    keeps = keeps-refl info m search.sound.coherent;
    grown = record { grown = λ trees whole grown. grown };
    went_by = record { sets = refl; firings = refl; done = λ g h. subst (IsDone info rules m firings) (only f g h) done };
  }

  pub step-none : is.law.image (over info m.types) f.binding f.nth ≡ None → IsStep info rules budget m m firings firings f Quiet
  step-none none = quiet (record {
    done = λ law rule out image.
        let same : is.law ≡ law = same_Some is.law law (sym is.rule ∙ rule) in
        let again : is.law.image (over info m.types) f.binding f.nth ≡ Some out = rw same image in
        absurd cc;
  })

  pub step-among : among f firings ≡ true → IsStep info rules budget m m firings firings f Quiet
  step-among e = quiet (record { done = λ law rule out image. among-true f firings e })

  pub step-full : budget ≤ length firings → IsStep info rules budget m m firings firings f Stopped
  step-full full = record {
    search = search;
    keeps = keeps-refl info m search.sound.coherent;
    grown = record { grown = λ trees whole grown. grown };
    went_by = inl (let few = search.few in omega arith);
  }

  module _ (out : Tree) (image : is.law.image (over info m.types) f.binding f.nth ≡ Some out) where
    pub step-may : MayRegister info m out f.set
    step-may = triple-may info m search.sound rules f is out image

    pub step-past : (new : Sets) → new ≡ m → MEMBER_LIMIT < (entered info (Some f.set) out m).sets.added → IsStep info rules budget m new firings firings f Stopped
    step-past new e past = subst (λ (z : Sets). IsStep info rules budget m z firings firings f Stopped) (sym e) (record {
      search = search;
      keeps = keeps-refl info m search.sound.coherent;
      grown = record { grown = λ trees whole grown. grown };
      went_by = inr (record {
        triple = f;
        is = is;
        out = out;
        image = image;
        absent = past-absent info m search.sound f.set out step-may past;
        past = past;
      });
    })

    module _ (new : Sets) (after : List Firing) (apart : among f firings ≡ false) where
      -- where no sets became one, no firing gets another number
      stays : new ≡ (entered info (Some f.set) out m).sets → gathered (became new.numbers) [] (firings ++ f ∷ []) ≡ firings ++ f ∷ []
      stays placed =
          gathered-stays info rules budget m firings f search is (among-false f firings apart) (became new.numbers)
          (λ k there. ap (λ (z : Sets). became z.numbers k) placed ∙ entered-stays info m search.sound f.set out step-may k there)

      noted-gathered : (answer : Registered) → IsPlacedUnlessMerged (entered info (Some f.set) out m) new answer
          → noted answer (became new.numbers) (firings ++ f ∷ []) ≡ gathered (became new.numbers) [] (firings ++ f ∷ [])
      noted-gathered (Added k) placed = sym (stays placed)
      noted-gathered (Known k) placed = sym (stays placed)
      noted-gathered (Merged kept gone) placed = refl

      pub step-fired : length firings < budget → IsRegistered info m new out f.set → (answer : Registered) → IsPlacedUnlessMerged (entered info (Some f.set) out m) new answer
          → after ≡ noted answer (became new.numbers) (firings ++ f ∷ []) → IsStep info rules budget m new firings after f Fired
      step-fired room done answer placed e =
          let for = is.law.lawful.stands (over info m.types) f.binding out f.nth image in
          let did = done for.own for.well_formed in
          let mid = (entered info (Some f.set) out m).sets in
          let all : after ≡ gathered (became new.numbers) [] (firings ++ f ∷ []) = e ∙ noted-gathered answer placed in
          record {
            search = rw all (fire-search info rules budget m mid new firings f out for.own search room is image did);
            keeps = did.keeps;
            grown = record {
              grown = λ trees whole grown. rw all (turn-grown info rules trees whole m new search.sound.coherent.valid did.keeps firings f grown is mid out for.own image did);
            };
            went_by = turn-falls info m new search.sound did.sound did.keeps rules budget firings f search is (among-false f firings apart) room after all;
          }
