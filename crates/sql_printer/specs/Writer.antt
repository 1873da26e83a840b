-- What a writer has written.
use Rattle.sql_printer.specs.declared.writer.Writer.{Writer}
use Rattle.sql_printer.specs.Writing.{Written}

abbrev pub state : Writer → Written
state w = (w.text.items, w.edge)
