use Rattle.std.proofs.Common.{◌∙◌, ap, sym, Some}
use Rattle.cal_schema.specs.declared.refusal.Refusal.{Refusal}
use Rattle.sql_names.proofs.FromTables.{known-turn, numbers-turn, unknown-first}
use Rattle.sql_names.proofs.tables.table_numbers.Goals as goal

pub returns-in-Err-clause-refused : goal.returns-in-Err-clause-refused
returns-in-Err-clause-refused c = λ other.
    let told = c.in-Err.ensures.refused other in
    unknown-first c.args.schema.now c.args.from.now c.loop-entry.entry-index c.entry-item.result c.entry-item.is c.loop-entry-test.true c.loop-entry.invariant.known told.0
    ∙ ap (λ (r : Refusal). Some r) (sym told.1)

pub loop-entry-preserved : goal.loop-entry-preserved
loop-entry-preserved c = record {
  numbers = numbers-turn c.args.schema.now c.args.from.now c.loop-entry.entry-index c.entry-item.result c.in-Ok.number c.loop-entry.numbers c.push.new.self c.entry-item.is c.loop-entry-test.true c.loop-entry.invariant.numbers c.in-Ok.ensures.known c.in_ok-push-in-Ok.ensures.ok;
  known = known-turn c.args.schema.now c.args.from.now c.loop-entry.entry-index c.entry-item.result c.in-Ok.number c.entry-item.is c.loop-entry-test.true c.loop-entry.invariant.known c.in-Ok.ensures.known;
}
