use Rattle.std.proofs.Common.{rules}
use Rattle.turn_lock.proofs.WordSteps.{draws}
use Rattle.turn_lock.proofs.lock.Turn.draw.Goals as goal

pub fetch_add-requires : goal.fetch_add-requires
fetch_add-requires g c = (search rules, search rules, draws _ _ _ _ _ _ _ _ c.requires.2 c.requires.3)
