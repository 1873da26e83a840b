use Rattle.std.proofs.Common.{◌≡◌, ap, arith}
use Rattle.sql_expressions.specs.Reading.{reads_part}
use Rattle.sql_expressions.proofs.Turns.{deeper}
use Rattle.sql_expressions.proofs.expression.+read_part.Goals as goal

pub returns-then-depth-eq0 : goal.returns-then-depth-eq0
unfolding reads_part
returns-then-depth-eq0 t c = let none : c.args.depth ≡ 0 = omega arith in ap (λ n. reads_part n c.args.part c.args.cursor.now) none

pub returns : goal.returns
unfolding reads_part
returns t c =
    rw (deeper (λ n. reads_part n c.args.part c.args.cursor.now) c.args.depth (omega arith)) c.part.ensures
