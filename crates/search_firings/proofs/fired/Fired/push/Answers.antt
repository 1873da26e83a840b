use Rattle.std.proofs.Common.{map, ap, ◌∙◌}
use Rattle.search_firings.specs.Seen.{firing_of}
use Rattle.search_firings.proofs.FiredSteps.{insert-joined}
use Rattle.search_firings.proofs.fired.Fired.push.Goals as goal

pub returns-clause-joined : goal.returns-clause-joined
returns-clause-joined c = ap (map firing_of) c.in_ok-insert.ensures.keys ∙ insert-joined c.args.self.now.firings.keys c.args.firing
