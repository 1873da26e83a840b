use Rattle.std.proofs.Common.{◌∙◌, sym}
use Rattle.sql_types.proofs.Bounded.{has_key-some}
use Rattle.sql_types.proofs.bounds.has_key.Goals as goal

pub returns-in-len1-up : goal.returns-in-len1-up
returns-in-len1-up c = c.are_among.ensures ∙ sym (has_key-some c.args.columns.now c.args.key.now c.in-len1-up.len_at_least)
