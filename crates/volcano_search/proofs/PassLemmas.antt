-- The triples of a round, one after the other.
use Rattle.std.proofs.Common.{◌≡◌, ℕ, ◌+◌, ◌<◌, ◌≤◌, inl, inr, Bool, true, false, List, [], length, get_or, refl, sym, ◌∙◌, ap, subst, arith}
use Rattle.std.proofs.lemmas.Bool.{cases_lt}
use Rattle.cal_rel.specs.Info.{Info}
use Rattle.memo_model.specs.Sets.{Sets, became}
use Rattle.memo_model.proofs.KeepLemmas.{keeps-refl, keeps-trans}
use Rattle.rule_hep.specs.Meaning.{Meaning}
use Rattle.search_model.specs.Firings.{Firing, renumbered}
use Rattle.search_model.specs.Grown.{StaysGrown}
use Rattle.search_model.specs.Search.{IsTriple, IsDone, IsSearch}
use Rattle.search_model.specs.Measure.{search_left}
use Rattle.search_model.proofs.SearchLemmas.{triple-itself}
use Rattle.search_model.proofs.AmongLemmas.{contains-head}
use Rattle.volcano_search.specs.declared.search.Went.{Went}
use Rattle.volcano_search.specs.declared.search.Went.TheVariants.{Quiet, Fired, Stopped}
use Rattle.volcano_search.specs.Went.{IsStep, IsPass, IsSoFar, stops, also}

equal-less : (x y z : ℕ) → x ≡ y → y < z → x < z
equal-less x y z e l = omega arith

equal-most : (x y : ℕ) → x ≡ y → x ≤ y
equal-most x y e = omega arith

less-most : (x y : ℕ) → x < y → x ≤ y
less-most x y l = omega arith

less-then : (x y z : ℕ) → x < y → y ≤ z → x < z
less-then x y z l m = omega arith

module _ (info : Info) (rules : List Meaning) (budget : ℕ) (old : Sets) (before : List Firing) (triples : List Firing) (start : IsSearch info rules budget old before) where
  pub so_far-start : IsSoFar info rules budget old old before before triples 0 false
  so_far-start = record {
    search = start;
    keeps = keeps-refl info old start.sound.coherent;
    grown = record { grown = λ trees whole grown. grown };
    fallen = λ e. absurd cc;
    sets = λ e. refl;
    firings = λ e. refl;
    done = λ e k f l b at. absurd (omega arith);
  }

  left-so_far : (cur : Sets) (mid : List Firing) (i : ℕ) (fired : Bool) → IsSoFar info rules budget old cur before mid triples i fired → search_left budget cur mid ≤ search_left budget old before
  left-so_far cur mid i true far = less-most (search_left budget cur mid) (search_left budget old before) (far.fallen refl)
  left-so_far cur mid i false far =
      let g : search_left budget cur mid ≡ search_left budget old before = ap (λ (z : Sets). search_left budget z mid) (far.sets refl) ∙ ap (search_left budget old) (far.firings refl) in
      equal-most (search_left budget cur mid) (search_left budget old before) g

  -- where nothing has happened yet, the triple has its numbers
  done-here : (cur : Sets) (mid : List Firing) (f : Firing) → cur ≡ old → mid ≡ before → IsTriple info rules old.members f → IsDone info rules cur mid (renumbered (became cur.numbers) f)
      → IsDone info rules old before f
  done-here cur mid f e q is h =
      let first : IsDone info rules old mid (renumbered (became old.numbers) f) = subst (λ (z : Sets). IsDone info rules z mid (renumbered (became z.numbers) f)) e h in
      let second : IsDone info rules old before (renumbered (became old.numbers) f) = subst (λ z. IsDone info rules old z (renumbered (became old.numbers) f)) q first in
      subst (IsDone info rules old before) (triple-itself info old start.sound rules f is) second

  module _ (cur new : Sets) (mid after : List Firing) (i : ℕ) (fired : Bool) (f : Firing) (far : IsSoFar info rules budget old cur before mid triples i fired)
      (is : IsTriple info rules old.members f) (at : (d : Firing) → get_or triples i d ≡ f) where
    grown-on : StaysGrown info rules cur new mid after → StaysGrown info rules old new before after
    grown-on step = record { grown = λ trees whole grown. step.grown trees whole (far.grown.grown trees whole grown) }

    pub so_far-quiet : IsStep info rules budget cur new mid after (renumbered (became cur.numbers) f) Quiet → IsSoFar info rules budget old new before after triples (i + 1) fired
    so_far-quiet step = record {
      search = step.search;
      keeps = keeps-trans old cur new far.keeps step.keeps;
      grown = grown-on step.grown;
      fallen = λ e.
          let f = far.fallen e in
          let g : search_left budget new after ≡ search_left budget cur mid = ap (λ (z : Sets). search_left budget z after) step.went_by.sets ∙ ap (search_left budget cur) step.went_by.firings in
          equal-less (search_left budget new after) (search_left budget cur mid) (search_left budget old before) g f;
      sets = λ e. step.went_by.sets ∙ far.sets e;
      firings = λ e. step.went_by.firings ∙ far.firings e;
      done = λ e k g l b here. elim (cases_lt k i) [
        | inl h ↦ far.done e k g h b here
        | inr h ↦ (
            let same : k ≡ i = omega arith in
            let is_f : f ≡ g = sym (at g) ∙ ap (λ j. get_or triples j g) (sym same) ∙ here in
            subst (IsDone info rules old before) is_f
            (done-here cur mid f (far.sets e) (far.firings e) is (step.went_by.done (renumbered (became cur.numbers) f) (contains-head (renumbered (became cur.numbers) f) []))))
      ];
    }

    pub so_far-fired : IsStep info rules budget cur new mid after (renumbered (became cur.numbers) f) Fired → IsSoFar info rules budget old new before after triples (i + 1) true
    so_far-fired step = record {
      search = step.search;
      keeps = keeps-trans old cur new far.keeps step.keeps;
      grown = grown-on step.grown;
      fallen = λ e. less-then (search_left budget new after) (search_left budget cur mid) (search_left budget old before) step.went_by (left-so_far cur mid i fired far);
      sets = λ e. absurd cc;
      firings = λ e. absurd cc;
      done = λ e k g l b here. absurd cc;
    }

    pub so_far-stopped : IsStep info rules budget cur new mid after (renumbered (became cur.numbers) f) Stopped → IsPass info rules budget old new before after triples Stopped
    so_far-stopped step = record { search = step.search; keeps = keeps-trans old cur new far.keeps step.keeps; grown = grown-on step.grown; went_by = step.went_by }

    pub so_far-next : (went : Went) → IsStep info rules budget cur new mid after (renumbered (became cur.numbers) f) went → stops went ≡ false
        → IsSoFar info rules budget old new before after triples (i + 1) (also fired went)
    so_far-next Quiet step e = so_far-quiet step
    so_far-next Fired step e = so_far-fired step
    so_far-next Stopped step e = absurd cc

    pub so_far-stops : (went : Went) → IsStep info rules budget cur new mid after (renumbered (became cur.numbers) f) went → stops went ≡ true
        → IsPass info rules budget old new before after triples went
    so_far-stops Quiet step e = absurd cc
    so_far-stops Fired step e = absurd cc
    so_far-stops Stopped step e = so_far-stopped step

  module _ (new : Sets) (after : List Firing) (i : ℕ) (fired : Bool) (far : IsSoFar info rules budget old new before after triples i fired) where
    pub so_far-all : fired ≡ false → length triples ≤ i → IsPass info rules budget old new before after triples Quiet
    so_far-all e long = record {
      search = far.search;
      keeps = far.keeps;
      grown = far.grown;
      went_by = record { sets = far.sets e; firings = far.firings e; done = λ f h. let l = h.1 in far.done e h.0 f (omega arith) h.1 h.2 };
    }

    pub so_far-some : fired ≡ true → IsPass info rules budget old new before after triples Fired
    so_far-some e = record { search = far.search; keeps = far.keeps; grown = far.grown; went_by = far.fallen e }
