use Rattle.std.proofs.Common.{List, ap, ◌∙◌, ◌++◌}
use Rattle.cal_schema.specs.declared.column.ColumnDef.{ColumnDef}
use Rattle.sql_names.proofs.Named.{shown-turn, shown-all, shown_in}
use Rattle.sql_meaning.specs.Scope.{hidden_by}
use Rattle.sql_names.proofs.names.add_shown.Goals as goal

pub loop-column-preserved : goal.loop-column-preserved
loop-column-preserved c =
    shown-turn (hidden_by c.args.entry.now.entry.how) c.columns-columns.result.now c.loop-column.column-index c.column-item.result c.args.names.now c.loop-column.names c.add_name.new.names
    c.column-item.is c.loop-column-test.true c.loop-column.invariant c.in_ok-add_name.ensures

pub returns : goal.returns
returns c =
    shown-all (hidden_by c.args.entry.now.entry.how) c.columns-columns.result.now c.loop-column.column-index c.args.names.now c.loop-column.names c.loop-column-test.false c.loop-column.invariant
    ∙ ap (λ (cs : List ColumnDef). c.args.names.now ++ shown_in (hidden_by c.args.entry.now.entry.how) cs) c.columns-columns.ensures
