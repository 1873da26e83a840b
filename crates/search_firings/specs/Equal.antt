-- Equality of firings, as a test that decides `≡`.
use Rattle.std.specs.Prelude.{Bool, ◌==◌, ◌&&◌}
use Rattle.cal_rel.specs.Equal.{rel_eq}
use Rattle.search_firings.specs.declared.firing.Firing.{Firing}

abbrev pub firing_eq : Firing → Firing → Bool
firing_eq f g = f.rule == g.rule && f.nth == g.nth && f.set == g.set && rel_eq f.binding g.binding
