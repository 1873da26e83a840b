use Rattle.session_lane.proofs.Spelled.{statement-formed}
use Rattle.session_lane.proofs.statement.reply_to.Goals as goal

pub reply_to_statement-requires-clause-formed : goal.reply_to_statement-requires-clause-formed
reply_to_statement-requires-clause-formed g c = statement-formed _ c.in-Ok.statement c.in-Ok.ensures.statement
