use Rattle.std.proofs.Common.{◌≡◌, ◌+◌, ◌-◌, ◌<◌, ℕ, length, Some, None, get_or, subst, arith}
use Rattle.std.specs.List.{slice_get}
use Rattle.std.proofs.lemmas.Option.{slice_get-get_or}
use Rattle.cheapest_derivations.specs.declared.table.Edge.{Edge}
use Rattle.cheapest_derivations.specs.Offers.{offered}
use Rattle.cheapest_derivations.proofs.RoundSteps.{Goes, goes-start, goes-offer, goes-none, goes-end}
use Rattle.cheapest_derivations.proofs.rounds.round.Goals as goal

pub edges-init : goal.edges-init
edges-init c = record {
  goes = goes-start c.args.limit c.args.edges.now c.args.cells.now c.args.steps.now c.requires.sound;
  within = omega arith;
}

pub edges-preserved : goal.edges-preserved
edges-preserved c =
    let edges = c.args.edges.now in
    let n : ℕ = c.edges.left - 1 in
    let h = c.edges.invariant.within in
    let test = c.edges-test.true in
    let low : n < length edges = omega arith in
    let next : c.edges.left ≡ n + 1 = omega arith in
    let edge : Edge = get_or edges n (record { target = 0; weight = 0; first = None; second = None }) in
    let got : slice_get edges n ≡ Some edge = slice_get-get_or edges n _ low in
    let offer : offered c.args.limit c.edges.cells edge ≡ Some c.in-Some.cost = cc in
    let P : ℕ → Type 0 = λ m. Goes c.args.limit edges (length c.args.cells.now) (length c.args.steps.now) c.edges.cells c.edges.steps m in
    record {
      goes = rw (c.in_ok-record_step.ensures.cells, c.in_ok-record_step.ensures.steps)
          (goes-offer c.args.limit edges (length c.args.cells.now) (length c.args.steps.now) c.edges.cells c.edges.steps n edge c.in-Some.cost
          (subst P next c.edges.invariant.goes) got offer (c.requires.within.target n edge got));
      within = omega arith;
    }

pub edges-preserved-in_default : goal.edges-preserved-in_default
edges-preserved-in_default c =
    let edges = c.args.edges.now in
    let n : ℕ = c.edges.left - 1 in
    let h = c.edges.invariant.within in
    let test = c.edges-test.true in
    let low : n < length edges = omega arith in
    let next : c.edges.left ≡ n + 1 = omega arith in
    let edge : Edge = get_or edges n (record { target = 0; weight = 0; first = None; second = None }) in
    let got : slice_get edges n ≡ Some edge = slice_get-get_or edges n _ low in
    let none : offered c.args.limit c.edges.cells edge ≡ None = cc in
    let P : ℕ → Type 0 = λ m. Goes c.args.limit edges (length c.args.cells.now) (length c.args.steps.now) c.edges.cells c.edges.steps m in
    record {
      goes = goes-none c.args.limit edges (length c.args.cells.now) (length c.args.steps.now) c.edges.cells c.edges.steps n edge
          (subst P next c.edges.invariant.goes) got none;
      within = omega arith;
    }

pub returns-clause-settled : goal.returns-clause-settled
returns-clause-settled c = λ same.
    goes-end c.args.limit c.args.edges.now (length c.args.cells.now) (length c.args.steps.now) c.edges.cells c.edges.steps c.edges.left c.edges.invariant.goes c.edges-test.false same
