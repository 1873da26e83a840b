use Rattle.std.proofs.Common.{◌≡◌, ◌<◌, ◌≤◌, ℕ, List, Some, length, refl, ◌∙◌, ap, subst, get_or}
use Rattle.std.specs.List.{slice_get}
use Rattle.std.proofs.lemmas.Option.{slice_get_read}
use Rattle.phys_plan.specs.declared.alternatives.State.{State}
use Rattle.phys_plan.specs.declared.alternatives.Alternative.{Alternative}
use Rattle.phys_plan.specs.Alternatives.{alternatives}
use Rattle.phys_plan.specs.Seen.{space_of}
use Rattle.volcano_best.specs.Graphs.{IsExtended}
use Rattle.volcano_best.proofs.GraphSteps.{kept-trans}
use Rattle.volcano_best.proofs.PartialSteps.{partial-link, partial-next}
use Rattle.volcano_best.proofs.graph.expand.Goals as goal

read : {A : Type 0} (xs ys : List A) (i : ℕ) (x : A) → xs ≡ ys → i < length ys → x ≡ get_or xs i x → slice_get ys i ≡ Some x
read xs ys i x e low is = slice_get_read ys (length ys) i x refl low (is ∙ ap (λ zs. get_or zs i x) e)

pub loop-alternative-preserved : goal.loop-alternative-preserved
loop-alternative-preserved c =
    let old = c.args.graph.now in
    let now = c.loop-alternative.graph in
    let new = c.link.new.graph in
    let s : State = c.index-as_slice-at.result in
    let alt : Alternative = c.alternative-item.result in
    let j = c.loop-alternative.alternative-index in
    let here : slice_get old.states c.args.at ≡ Some s = read c.as_slice.result.now old.states c.args.at s c.as_slice.ensures c.requires.within c.index-as_slice-at.is in
    let items : c.as_slice-alternative-items.result.now ≡ alternatives (space_of c.args.space.now) s = c.as_slice-alternative-items.ensures ∙ c.in_ok-alternatives.ensures in
    let low : j < length (alternatives (space_of c.args.space.now) s) = subst (λ xs. j < length xs) items c.loop-alternative-test.true in
    let got : slice_get (alternatives (space_of c.args.space.now) s) j ≡ Some alt = read c.as_slice-alternative-items.result.now (alternatives (space_of c.args.space.now) s) j alt items low c.alternative-item.is in
    let x : IsExtended now.states now.roots now.edges new.states new.roots new.edges c.args.at alt = c.in_ok-link.ensures in
    record {
      kept = kept-trans old.states now.states new.states c.loop-alternative.invariant.kept x.kept;
      partial = partial-link (space_of c.args.space.now) now.states new.states now.roots new.roots now.edges new.edges c.args.at j s alt
          c.loop-alternative.invariant.partial (c.loop-alternative.invariant.kept.kept c.args.at s here) got x;
    }

pub returns-clause-partial : goal.returns-clause-partial
returns-clause-partial c =
    let old = c.args.graph.now in
    let now = c.loop-alternative.graph in
    let s : State = c.index-as_slice-at.result in
    let j = c.loop-alternative.alternative-index in
    let here : slice_get old.states c.args.at ≡ Some s = read c.as_slice.result.now old.states c.args.at s c.as_slice.ensures c.requires.within c.index-as_slice-at.is in
    let items : c.as_slice-alternative-items.result.now ≡ alternatives (space_of c.args.space.now) s = c.as_slice-alternative-items.ensures ∙ c.in_ok-alternatives.ensures in
    let all : length (alternatives (space_of c.args.space.now) s) ≤ j = subst (λ xs. length xs ≤ j) items c.loop-alternative-test.false in
    partial-next (space_of c.args.space.now) now.states now.roots now.edges c.args.at j s c.loop-alternative.invariant.partial (c.loop-alternative.invariant.kept.kept c.args.at s here) all
