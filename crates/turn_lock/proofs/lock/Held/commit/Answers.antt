use Rattle.std.proofs.Common.{rules, arith, ◌<◌, ◌^◌, ◌∷◌, ap, length}
use Rattle.turn_lock.proofs.InHand.{and_fact}
use Rattle.turn_lock.proofs.CommitStep.{commits}
use Rattle.turn_lock.proofs.lock.Held.commit.Goals as goal

pub fetch_add-requires : goal.fetch_add-requires
fetch_add-requires g c = let x = c.machine.result.now in let adds = and_fact _ _ x c.requires.adds c.machine.ensures.value in
    let small : length (g.M.Machine.history x) < 2 ^ 64 = omega (arith, c.count-place.ensures, c.count-place.type_inv) in
    (search rules, search rules, commits _ _ _ _ _ _ _ x adds.1.0 _ c.requires.held.0.turn (ap (λ l. (0, x) ∷ l) c.requires.held.0.one) adds.1.1 adds.1.2 small)
