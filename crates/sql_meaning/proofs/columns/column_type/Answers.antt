use Rattle.std.proofs.Common.{sym, ap, ◌∙◌, List, Some, get_or}
use Rattle.cal_schema.specs.declared.column.ColumnDef.{ColumnDef}
use Rattle.sql_meaning.specs.Scope.{type_in, type_of_column}
use Rattle.sql_meaning.proofs.Places.{type-here, type-next}
use Rattle.sql_meaning.proofs.columns.column_type.Goals as goal

pub returns-in-Some : goal.returns-in-Some
returns-in-Some c =
    ap Some c.type_of.ensures
    ∙ ap (λ (d : ColumnDef). Some (type_of_column c.entry-item.result d)) c.index-columns-at.is
    ∙ sym (type-here c.args.scope.now c.loop-entry.entry-index c.entry-item.result c.args.name.now c.in-Some.at c.index-columns-at.result (type_in c.args.scope.now c.args.name.now)
    c.entry-item.is c.loop-entry-test.true (sym c.in-Some.ensures.place) c.loop-entry.invariant
    ∙ ap (λ (cs : List ColumnDef). Some (type_of_column c.entry-item.result (get_or cs c.in-Some.at c.index-columns-at.result))) (sym c.columns.ensures))

pub loop-entry-preserved : goal.loop-entry-preserved
loop-entry-preserved c =
    type-next c.args.scope.now c.loop-entry.entry-index c.entry-item.result c.args.name.now (type_in c.args.scope.now c.args.name.now)
    c.entry-item.is c.loop-entry-test.true (sym c.place.ensures.place ∙ c.in_default.is) c.loop-entry.invariant
