-- `firing_eq` decides `≡`. For proofs alone.
use Rattle.std.specs.Prelude.{◌≡◌, ◌==◌, ◌&&◌, refl}
use Rattle.std.specs.Bool.{Decides}
use Rattle.std.specs.Cmp.{IsEquivalence}
use Rattle.std.specs.Hash as fed
use Rattle.std.specs.Hash.{Alike, same_Alike}
use Rattle.std.proofs.Common.{ap}
use Rattle.std.proofs.lemmas.Bool.Decides.{Decides-eqb, Decides-like, Decides-and}
use Rattle.cal_value.specs.EqualLaws.{equivalence_from_Decides}
use Rattle.cal_rel.specs.Equal.{rel_eq}
use Rattle.cal_rel.specs.EqualLaws.{rel_eq-Decides}
use Rattle.search_firings.specs.declared.firing.Firing.{Firing}
use Rattle.search_firings.specs.Digest.{digest}
use Rattle.search_firings.specs.Equal.{firing_eq}

pub firing_eq-Decides : (f g : Firing) → Decides (firing_eq f g) (f ≡ g)
firing_eq-Decides f g =
    Decides-like (firing_eq f g)
    (λ h i. record { rule = h.0.0.0 i; nth = h.0.0.1 i; binding = h.1 i; set = h.0.1 i })
    (λ e. (((ap (λ (x : Firing). x.rule) e, ap (λ (x : Firing). x.nth) e), ap (λ (x : Firing). x.set) e), ap (λ (x : Firing). x.binding) e))
    (Decides-and _ _ (Decides-and _ _ (Decides-and _ _ (Decides-eqb f.rule g.rule) (Decides-eqb f.nth g.nth)) (Decides-eqb f.set g.set)) (rel_eq-Decides f.binding g.binding))

pub firing_eq_equiv : IsEquivalence firing_eq
firing_eq_equiv = equivalence_from_Decides firing_eq firing_eq-Decides

pub firing_Alike : Alike firing_eq (λ f. fed.u64 (digest f))
firing_Alike = same_Alike (λ f. fed.u64 (digest f)) firing_eq-Decides
