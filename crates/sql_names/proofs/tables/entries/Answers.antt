use Rattle.std.proofs.Common.{◌≡◌, ◌∙◌, ap, sym, subst, ◌<◌, length, ℕ, List, Some, get_or, slice_index_or}
use Rattle.cal_schema.specs.declared.table.TableDef.{TableDef}
use Rattle.sql_names.specs.Tables.{AreNumbered}
use Rattle.sql_names.proofs.FromTables.{entry-turn, number-within, numbered-at}
use Rattle.sql_names.proofs.tables.entries.Goals as goal

pub bounds-tables-numbers : goal.bounds-tables-numbers
bounds-tables-numbers c =
    let are : AreNumbered c.args.schema.now c.args.from.now c.as_slice-numbers.result.now = subst (AreNumbered c.args.schema.now c.args.from.now) (sym c.as_slice-numbers.ensures) c.requires in
    let P : List TableDef → Type 0 = λ ts. slice_index_or c.as_slice-numbers.result.now c.loop-at.at 0 < length ts in
    subst P (sym c.as_slice-tables.ensures)
    (number-within c.args.schema.now c.index-from-at.result (slice_index_or c.as_slice-numbers.result.now c.loop-at.at 0)
    (numbered-at c.args.schema.now c.args.from.now c.as_slice-numbers.result.now c.loop-at.at c.index-from-at.result are c.index-from-at.is c.loop-at-test.true))

pub loop-at-preserved : goal.loop-at-preserved
loop-at-preserved c =
    let are : AreNumbered c.args.schema.now c.args.from.now c.as_slice-numbers.result.now = subst (AreNumbered c.args.schema.now c.args.from.now) (sym c.as_slice-numbers.ensures) c.requires in
    entry-turn c.args.schema.now c.args.from.now c.as_slice-numbers.result.now c.loop-at.at c.index-from-at.result c.index-tables-numbers.result c.new.result c.loop-at.scope c.push.new.self
    are c.index-from-at.is c.loop-at-test.true
    (c.index-tables-numbers.is ∙ ap (λ (ts : List TableDef). get_or ts (slice_index_or c.as_slice-numbers.result.now c.loop-at.at 0) c.index-tables-numbers.result) c.as_slice-tables.ensures)
    c.new.ensures c.loop-at.invariant c.in_ok-push.ensures.ok
