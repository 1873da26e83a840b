use Rattle.std.proofs.Common.{◌≡◌, ◌+◌, List, [], ◌∷◌, drop, ap, subst, sym, ◌∙◌, rules, arith}
use Rattle.std.proofs.lemmas.Result.{IfOk-weaker, on_ok_weaker}
use Rattle.cal_rel.specs.Operators.{Row}
use Rattle.cal_snapshot.specs.Parts.{rows_in}
use Rattle.plan_nodes.specs.declared.plan.Plan.{out-Plan}
use Rattle.plan_nodes.proofs.PlanLemmas.{inputs-none, inputs-one, inputs-two}
use Rattle.plan_scans.specs.Scans.{AreScanned}
use Rattle.row_exec.specs.Nodes.{IsMade}
use Rattle.row_exec.specs.Passes.{passed}
use Rattle.row_exec.specs.Run.{IsRun}
use Rattle.row_exec.proofs.Runs.{can-scan, reads-none, run-none, runs-one, runs-two, scanned-run}
use Rattle.row_exec.proofs.Sizes.{below-first, below-second}
use Rattle.row_exec.proofs.Typed.{ok-always}
use Rattle.row_exec.proofs.run.+execute.Goals as goal

-- ---- a scan

pub scan_rows-requires-clause-plan : goal.scan_rows-requires-clause-plan
scan_rows-requires-clause-plan g t c =
    can-scan c.args.schema.now c.args.snapshot.now c.args.plan.now c.requires.plan (sym c.is_enumerable.ensures ∙ c.if-not-is_enumerable.true)

pub returns-then-not-is_enumerable-clause-rows : goal.returns-then-not-is_enumerable-clause-rows
returns-then-not-is_enumerable-clause-rows g t c =
    IfOk-weaker c.scan_rows.result (AreScanned c.args.schema.now c.args.snapshot.now c.args.plan.now) (IsRun c.args.schema.now c.args.snapshot.now c.args.plan.now)
    (λ rows s. scanned-run c.args.schema.now c.args.snapshot.now c.args.plan.now rows c.requires.plan (sym c.is_enumerable.ensures ∙ c.if-not-is_enumerable.true) s) c.scan_rows.ensures.rows

-- ---- a pass over a table

pub pass_rows-requires : goal.pass_rows-requires
pass_rows-requires g t c = c.in-Some.ensures.can c.args.schema.now c.args.snapshot.now c.requires.plan

pub returns-in-Some-clause-rows : goal.returns-in-Some-clause-rows
returns-in-Some-clause-rows g t c =
    IfOk-weaker c.pass_rows.result (λ (rows : List Row). rows ≡ passed c.in-Some.pass (rows_in c.args.snapshot.now c.in-Some.pass.table)) (IsRun c.args.schema.now c.args.snapshot.now c.args.plan.now)
    (λ rows e. subst (IsRun c.args.schema.now c.args.snapshot.now c.args.plan.now) (sym e) (c.in-Some.ensures.makes c.args.schema.now c.args.snapshot.now c.requires.plan)) c.pass_rows.ensures.rows

pub returns-in-Some-clause-all : goal.returns-in-Some-clause-all
returns-in-Some-clause-all g t c =
    let counts = c.in-Some.ensures.counts c.args.schema.now c.args.snapshot.now c.requires.plan in
    on_ok_weaker c.pass_rows.result (λ e. e ∙ ap (λ n. c.args.steps.now + n) (sym counts)) c.pass_rows.ensures.all

pub returns-in-Some-clause-most : goal.returns-in-Some-clause-most
returns-in-Some-clause-most g t c =
    let counts = c.in-Some.ensures.counts c.args.schema.now c.args.snapshot.now c.requires.plan in
    omega (arith, counts, c.pass_rows.ensures.most)

-- ---- no input

pub returns-in-empty-clause-rows : goal.returns-in-empty-clause-rows
returns-in-empty-clause-rows g t c =
    let none = inputs-none c.args.plan.now c.as_slice.result.now c.as_slice.ensures c.in-empty.len_below in
    subst (IsRun c.args.schema.now c.args.snapshot.now c.args.plan.now) (sym c.new.ensures) (run-none c.args.schema.now c.args.snapshot.now c.args.plan.now c.requires.plan (sym c.is_enumerable.ensures ∙ c.if-not-is_enumerable.false) none)

pub returns-in-empty-clause-all : goal.returns-in-empty-clause-all
returns-in-empty-clause-all g t c =
    let none = inputs-none c.args.plan.now c.as_slice.result.now c.as_slice.ensures c.in-empty.len_below in
    let counts = reads-none c.args.schema.now c.args.snapshot.now c.args.plan.now c.requires.plan (sym c.is_enumerable.ensures ∙ c.if-not-is_enumerable.false) none in
    omega (arith, counts)

-- ---- one input

pub execute-requires : goal.execute-requires
execute-requires g t c κs within =
    let one = inputs-one c.args.plan.now c.a-item.result c.as_slice.result.now c.as_slice.ensures c.in-len1.len_at_least c.in-len1.len_below c.a-item.is in
    let run = runs-one c.args.schema.now c.args.snapshot.now c.args.plan.now c.a-item.result c.requires.plan (sym c.is_enumerable.ensures ∙ c.if-not-is_enumerable.false) one in
    let less = below-first c.args.plan.now c.a-item.result [] one in
    (omega arith, (search rules, (c.requires.tiles, run.input)))

pub returns-in_err-rows-in-len1-clause-most : goal.returns-in_err-rows-in-len1-clause-most
returns-in_err-rows-in-len1-clause-most g t c =
    let one = inputs-one c.args.plan.now c.a-item.result c.as_slice.result.now c.as_slice.ensures c.in-len1.len_at_least c.in-len1.len_below c.a-item.is in
    let run = runs-one c.args.schema.now c.args.snapshot.now c.args.plan.now c.a-item.result c.requires.plan (sym c.is_enumerable.ensures ∙ c.if-not-is_enumerable.false) one in
    let counts = run.counts in
    let most = c.execute.ensures.most in
    omega arith

pub one_input-requires : goal.one_input-requires
one_input-requires g t c =
    let one = inputs-one c.args.plan.now c.a-item.result c.as_slice.result.now c.as_slice.ensures c.in-len1.len_at_least c.in-len1.len_below c.a-item.is in
    let run = runs-one c.args.schema.now c.args.snapshot.now c.args.plan.now c.a-item.result c.requires.plan (sym c.is_enumerable.ensures ∙ c.if-not-is_enumerable.false) one in
    run.ready c.in_ok-rows-in-len1.rows c.in_ok-rows-in-len1.ensures.rows

pub returns-in_ok-rows-in-len1-clause-rows : goal.returns-in_ok-rows-in-len1-clause-rows
returns-in_ok-rows-in-len1-clause-rows g t c =
    let one = inputs-one c.args.plan.now c.a-item.result c.as_slice.result.now c.as_slice.ensures c.in-len1.len_at_least c.in-len1.len_below c.a-item.is in
    let run = runs-one c.args.schema.now c.args.snapshot.now c.args.plan.now c.a-item.result c.requires.plan (sym c.is_enumerable.ensures ∙ c.if-not-is_enumerable.false) one in
    IfOk-weaker c.one_input.result (IsMade (out-Plan c.args.plan.now).node 0 c.in_ok-rows-in-len1.rows []) (IsRun c.args.schema.now c.args.snapshot.now c.args.plan.now)
    (λ made is. run.made c.in_ok-rows-in-len1.rows made c.in_ok-rows-in-len1.ensures.rows is) c.one_input.ensures

pub returns-in_ok-rows-in-len1-clause-all : goal.returns-in_ok-rows-in-len1-clause-all
returns-in_ok-rows-in-len1-clause-all g t c =
    let one = inputs-one c.args.plan.now c.a-item.result c.as_slice.result.now c.as_slice.ensures c.in-len1.len_at_least c.in-len1.len_below c.a-item.is in
    let run = runs-one c.args.schema.now c.args.snapshot.now c.args.plan.now c.a-item.result c.requires.plan (sym c.is_enumerable.ensures ∙ c.if-not-is_enumerable.false) one in
    let counts = run.counts in
    let all = c.in_ok-rows-in-len1.ensures.all in
    ok-always c.one_input.result (omega arith)

pub returns-in_ok-rows-in-len1-clause-most : goal.returns-in_ok-rows-in-len1-clause-most
returns-in_ok-rows-in-len1-clause-most g t c =
    let one = inputs-one c.args.plan.now c.a-item.result c.as_slice.result.now c.as_slice.ensures c.in-len1.len_at_least c.in-len1.len_below c.a-item.is in
    let run = runs-one c.args.schema.now c.args.snapshot.now c.args.plan.now c.a-item.result c.requires.plan (sym c.is_enumerable.ensures ∙ c.if-not-is_enumerable.false) one in
    let counts = run.counts in
    let most = c.execute.ensures.most in
    omega arith

-- ---- two inputs

pub execute-requires-in-len2-up : goal.execute-requires-in-len2-up
execute-requires-in-len2-up g t c κs within =
    let two = inputs-two c.args.plan.now c.a-item-2.result c.b-item.result c.as_slice.result.now c.as_slice.ensures c.in-len2-up.len_at_least c.a-item-2.is c.b-item.is in
    let run = runs-two c.args.schema.now c.args.snapshot.now c.args.plan.now c.a-item-2.result c.b-item.result (drop 2 c.as_slice.result.now) c.requires.plan (sym c.is_enumerable.ensures ∙ c.if-not-is_enumerable.false) two in
    let less = below-first c.args.plan.now c.a-item-2.result (c.b-item.result ∷ drop 2 c.as_slice.result.now) two in
    (omega arith, (search rules, (c.requires.tiles, run.first)))

pub returns-in_err-left-in-len2-up-clause-most : goal.returns-in_err-left-in-len2-up-clause-most
returns-in_err-left-in-len2-up-clause-most g t c =
    let two = inputs-two c.args.plan.now c.a-item-2.result c.b-item.result c.as_slice.result.now c.as_slice.ensures c.in-len2-up.len_at_least c.a-item-2.is c.b-item.is in
    let run = runs-two c.args.schema.now c.args.snapshot.now c.args.plan.now c.a-item-2.result c.b-item.result (drop 2 c.as_slice.result.now) c.requires.plan (sym c.is_enumerable.ensures ∙ c.if-not-is_enumerable.false) two in
    let counts = run.counts in
    let most = c.execute-in-len2-up.ensures.most in
    omega arith

pub execute-requires-in-len2-up-2 : goal.execute-requires-in-len2-up-2
execute-requires-in-len2-up-2 g t c κs within =
    let two = inputs-two c.args.plan.now c.a-item-2.result c.b-item.result c.as_slice.result.now c.as_slice.ensures c.in-len2-up.len_at_least c.a-item-2.is c.b-item.is in
    let run = runs-two c.args.schema.now c.args.snapshot.now c.args.plan.now c.a-item-2.result c.b-item.result (drop 2 c.as_slice.result.now) c.requires.plan (sym c.is_enumerable.ensures ∙ c.if-not-is_enumerable.false) two in
    let less = below-second c.args.plan.now c.a-item-2.result c.b-item.result (drop 2 c.as_slice.result.now) two in
    (omega arith, (search rules, (c.requires.tiles, run.second)))

pub returns-in_err-right-in-len2-up-clause-most : goal.returns-in_err-right-in-len2-up-clause-most
returns-in_err-right-in-len2-up-clause-most g t c =
    let two = inputs-two c.args.plan.now c.a-item-2.result c.b-item.result c.as_slice.result.now c.as_slice.ensures c.in-len2-up.len_at_least c.a-item-2.is c.b-item.is in
    let run = runs-two c.args.schema.now c.args.snapshot.now c.args.plan.now c.a-item-2.result c.b-item.result (drop 2 c.as_slice.result.now) c.requires.plan (sym c.is_enumerable.ensures ∙ c.if-not-is_enumerable.false) two in
    let counts = run.counts in
    let left = c.in_ok-left-in-len2-up.ensures.all in
    let most = c.execute-in-len2-up-2.ensures.most in
    omega arith

pub two_inputs-requires : goal.two_inputs-requires
two_inputs-requires g t c =
    let two = inputs-two c.args.plan.now c.a-item-2.result c.b-item.result c.as_slice.result.now c.as_slice.ensures c.in-len2-up.len_at_least c.a-item-2.is c.b-item.is in
    let run = runs-two c.args.schema.now c.args.snapshot.now c.args.plan.now c.a-item-2.result c.b-item.result (drop 2 c.as_slice.result.now) c.requires.plan (sym c.is_enumerable.ensures ∙ c.if-not-is_enumerable.false) two in
    run.ready c.in_ok-widths-in-len2-up.widths.0 c.in_ok-left-in-len2-up.left c.in_ok-right-in-len2-up.right c.in_ok-widths-in-len2-up.ensures.left c.in_ok-left-in-len2-up.ensures.rows c.in_ok-right-in-len2-up.ensures.rows

pub returns-in_ok-right-in-len2-up-clause-rows : goal.returns-in_ok-right-in-len2-up-clause-rows
returns-in_ok-right-in-len2-up-clause-rows g t c =
    let two = inputs-two c.args.plan.now c.a-item-2.result c.b-item.result c.as_slice.result.now c.as_slice.ensures c.in-len2-up.len_at_least c.a-item-2.is c.b-item.is in
    let run = runs-two c.args.schema.now c.args.snapshot.now c.args.plan.now c.a-item-2.result c.b-item.result (drop 2 c.as_slice.result.now) c.requires.plan (sym c.is_enumerable.ensures ∙ c.if-not-is_enumerable.false) two in
    IfOk-weaker c.two_inputs.result (IsMade (out-Plan c.args.plan.now).node c.in_ok-widths-in-len2-up.widths.1 c.in_ok-left-in-len2-up.left c.in_ok-right-in-len2-up.right) (IsRun c.args.schema.now c.args.snapshot.now c.args.plan.now)
    (λ made is. run.made c.in_ok-widths-in-len2-up.widths.1 c.in_ok-left-in-len2-up.left c.in_ok-right-in-len2-up.right made c.in_ok-widths-in-len2-up.ensures.right c.in_ok-left-in-len2-up.ensures.rows c.in_ok-right-in-len2-up.ensures.rows is) c.two_inputs.ensures

pub returns-in_ok-right-in-len2-up-clause-all : goal.returns-in_ok-right-in-len2-up-clause-all
returns-in_ok-right-in-len2-up-clause-all g t c =
    let two = inputs-two c.args.plan.now c.a-item-2.result c.b-item.result c.as_slice.result.now c.as_slice.ensures c.in-len2-up.len_at_least c.a-item-2.is c.b-item.is in
    let run = runs-two c.args.schema.now c.args.snapshot.now c.args.plan.now c.a-item-2.result c.b-item.result (drop 2 c.as_slice.result.now) c.requires.plan (sym c.is_enumerable.ensures ∙ c.if-not-is_enumerable.false) two in
    let counts = run.counts in
    let left = c.in_ok-left-in-len2-up.ensures.all in
    let right = c.in_ok-right-in-len2-up.ensures.all in
    ok-always c.two_inputs.result (omega arith)

pub returns-in_ok-right-in-len2-up-clause-most : goal.returns-in_ok-right-in-len2-up-clause-most
returns-in_ok-right-in-len2-up-clause-most g t c =
    let two = inputs-two c.args.plan.now c.a-item-2.result c.b-item.result c.as_slice.result.now c.as_slice.ensures c.in-len2-up.len_at_least c.a-item-2.is c.b-item.is in
    let run = runs-two c.args.schema.now c.args.snapshot.now c.args.plan.now c.a-item-2.result c.b-item.result (drop 2 c.as_slice.result.now) c.requires.plan (sym c.is_enumerable.ensures ∙ c.if-not-is_enumerable.false) two in
    let counts = run.counts in
    let left = c.in_ok-left-in-len2-up.ensures.all in
    let most = c.execute-in-len2-up-2.ensures.most in
    omega arith
