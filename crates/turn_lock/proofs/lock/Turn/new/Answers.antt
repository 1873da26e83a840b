use Rattle.std.proofs.Common.{rules, ◌≡◌, ◌∷◌, [], ◌∙◌, ap, sym, subst, length}
use Rattle.std.specs.List.Sorted.{IsStrictlyIncreasing}
use Rattle.std.proofs.lemmas.List.FromFn.{length-range_with_len}
use Rattle.turn_lock.specs.Views.{busy}
use Rattle.turn_lock.proofs.ActorLists.{range_rises}
use Rattle.turn_lock.proofs.Ends.{opens}
use Rattle.turn_lock.proofs.lock.Turn.new.Goals as goal

pub new-requires : goal.new-requires
new-requires g c = let has : c.push.new.self.items ≡ c.of.result.value ∷ [] = search rules in
    opens _ _ _ _ c.of.result.value _ _ (search rules) c.ranges.seats.fits (λ i. (c.count-count.ensures ∙ ap (λ x. length (g.M.Machine.history x)) (sym c.of.ensures)) i ∷ 0 ∷ 0 ∷ []) has

pub invariant_of-pass : goal.invariant_of-pass
invariant_of-pass g c = let e = c.in-Ok.ensures.ok.4 in record {
  empty = ap (λ m. length m.1) e;
  idle = ap (λ m. busy m.0.stage) e;
  rise = subst (λ m. IsStrictlyIncreasing m.0.actors) (sym e) (range_rises 0 c.args.seats);
  counted = sym (ap (λ m. length m.0.actors) e ∙ length-range_with_len 0 c.args.seats);
  some = search rules;
}
