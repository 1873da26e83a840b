use Rattle.std.proofs.Common.{ℕ}
use Rattle.std.proofs.lemmas.Option.{IfSome_then}
use Rattle.plan_nodes.proofs.PlanLemmas.{inputs-one}
use Rattle.row_exec.specs.Passes.{whole}
use Rattle.row_exec.proofs.Passes.{pass-ToEnumerable}
use Rattle.row_exec.proofs.pass.whole_table.Goals as goal

pub returns-in-len1 : goal.returns-in-len1
returns-in-len1 c =
    let one = inputs-one c.args.plan.now c.input-item.result c.as_slice.result.now c.as_slice.ensures c.in-len1.len_at_least c.in-len1.len_below c.input-item.is in
    IfSome_then c.scan_of.result c.scan_of.ensures (λ (table : ℕ). pass-ToEnumerable c.args.plan.now c.input-item.result (whole table) c.in-ToEnumerable.is one)
