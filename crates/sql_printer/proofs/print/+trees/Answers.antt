use Rattle.sql_printer.specs.Writer.{state}
use Rattle.sql_printer.proofs.Writes.{binary_written}
use Rattle.sql_printer.proofs.print.+trees.Goals as goal

pub expression-returns-in_ok-operator-in-Binary : goal.expression-returns-in_ok-operator-in-Binary
expression-returns-in_ok-operator-in-Binary t c =
    binary_written c.operand-in-Binary-2.result (state c.args.writer.now) (state c.operand-in-Binary.new.writer) (state c.operator.new.writer) (state c.operand-in-Binary-2.new.writer)
    c.args.tree.now c.get-in-Binary.result.now c.get-in-Binary-2.result.now c.in-Binary.place c.in-Binary.op c.left_level.result c.op_level.result
    (cc (c.in-Binary.is, c.get-in-Binary.ensures, c.get-in-Binary-2.ensures)) c.left_level.ensures c.op_level.ensures c.in_ok-operand-in-Binary.ensures c.in_ok-operator-in-Binary.ensures c.operand-in-Binary-2.ensures
