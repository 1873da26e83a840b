use Rattle.std.proofs.Common.{rules, ◌∷◌, ◌∙◌, ap, sym, Some}
use Rattle.turn_lock.proofs.InHand.{and_there, in_hand}
use Rattle.turn_lock.proofs.WordSteps.{hands_on}
use Rattle.turn_lock.proofs.lock.Held.leave.Goals as goal

pub fetch_add-requires : goal.fetch_add-requires
fetch_add-requires g c = let s = and_there _ _ c.requires.settled in let x = s.0 in let held = c.requires.held.0 in
    (search rules, search rules, hands_on _ _ _ _ _ _ _ x _ held.turn (in_hand _ x s.1 ∙ ap (λ l. (0, x) ∷ l) held.one) (held.base ∙ ap Some (sym s.2.0)) s.2.1)
