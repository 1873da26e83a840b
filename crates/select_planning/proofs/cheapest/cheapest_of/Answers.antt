use Rattle.std.proofs.Common.{rules, ◌≡◌, sym, subst, ap}
use Rattle.memo_sets.specs.Seen.{sets_of}
use Rattle.phys_plan.specs.Grounded.{HoldsTree}
use Rattle.phys_plan.specs.Seen as seen
use Rattle.phys_plan.specs.Spaces.{Space, HasWidths}
use Rattle.plan_spaces.specs.Made.{made}
use Rattle.volcano_best.specs.Solved.{IsCheapest}
use Rattle.plan_scans.specs.Scans.{info_over}
use Rattle.select_planning.proofs.cheapest.cheapest_of.Goals as goal

pub best-requires-clause-widths : goal.best-requires-clause-widths
best-requires-clause-widths c =
    let is : seen.space_of c.in_ok-space.space ≡ made (info_over c.args.schema.now c.args.snapshot.now) (sets_of c.args.memo.now) c.args.snapshot.now = search rules in
    subst HasWidths (sym is) c.requires.widths

pub best-requires-clause-tree : goal.best-requires-clause-tree
best-requires-clause-tree c =
    let is : seen.space_of c.in_ok-space.space ≡ made (info_over c.args.schema.now c.args.snapshot.now) (sets_of c.args.memo.now) c.args.snapshot.now = search rules in
    subst (λ (s : Space). HoldsTree s c.args.root) (sym is) c.requires.tree

pub returns-clause-plan : goal.returns-clause-plan
returns-clause-plan c =
    let is : seen.space_of c.in_ok-space.space ≡ made (info_over c.args.schema.now c.args.snapshot.now) (sets_of c.args.memo.now) c.args.snapshot.now = search rules in
    subst (λ (s : Space). IsCheapest s c.args.root c.args.order.now c.in_ok-plan.plan) is c.in_ok-plan.ensures

pub returns-clause-estimates : goal.returns-clause-estimates
returns-clause-estimates c =
    let is : seen.space_of c.in_ok-space.space ≡ made (info_over c.args.schema.now c.args.snapshot.now) (sets_of c.args.memo.now) c.args.snapshot.now = search rules in
    ap (λ (s : Space). s.estimates) is
