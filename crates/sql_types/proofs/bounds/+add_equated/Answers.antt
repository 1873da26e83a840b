use Rattle.sql_types.proofs.Bounded.{keys-Equal}
use Rattle.sql_types.proofs.bounds.+add_equated.Goals as goal

pub returns-in-Equal : goal.returns-in-Equal
returns-in-Equal t c =
    rw (keys-Equal c.args.scope.now c.args.width c.in-Binary.place c.in-Binary.op c.in-Binary.left c.in-Binary.right c.args.tree.now c.get-in-Equal.result.now c.get-in-Equal-2.result.now c.column_of-a.result c.column_of-b.result c.key_of.result
    c.in-Binary.is c.in-Equal.is c.get-in-Equal.ensures c.get-in-Equal-2.ensures (c.column_of-a.ensures c.args.width) (c.column_of-b.ensures c.args.width) c.key_of.ensures)
    c.add_key.ensures
