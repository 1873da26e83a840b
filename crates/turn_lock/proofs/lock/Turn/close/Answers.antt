use Rattle.std.proofs.Common.{◌∙◌, ap, sym, subst, length}
use Rattle.std.specs.List.{range_with_len}
use Rattle.std.specs.List.Sorted.{IsPermutation}
use mathlib.Core.Option.{some-injective}
use Rattle.turn_lock.proofs.Ends.{closes}
use Rattle.turn_lock.proofs.InHand.{value_is}
use Rattle.turn_lock.proofs.Stages.{is_idle}
use Rattle.turn_lock.proofs.lock.Turn.close.Goals as goal

pub returns : goal.returns
returns g c = let p = closes _ _ _ _ _ _ _ _ _ (is_idle _ c.pass.invariant.idle) (ap (λ k. length k.actors) c.pass.view_is ∙ c.requires.all ∙ sym (ap (λ k. k.seats) c.self.view_is) ∙ c.self.invariant.all) c.close_with-closed.ensures.values.2 in
    let same = some-injective _ _ (sym p.found ∙ c.take-machine.ensures.value) in record {
      base = ap g.M.Machine.base (sym same) ∙ sym (value_is _ c.pass.inside.based _ p.from) ∙ ap (λ k. k.base) c.pass.view_is;
      history = ap g.M.Machine.history (sym same) ∙ p.exact ∙ ap (λ k. k.prefix) c.pass.view_is;
      commits = subst (λ k. IsPermutation k.commits (range_with_len 1 (length (g.M.Machine.history c.take-machine.result)))) c.pass.view_is (subst (λ x. IsPermutation c.pass.inside.seat.me.0.places (range_with_len 1 (length (g.M.Machine.history x)))) same p.places);
    }
