use Rattle.std.proofs.Common.{◌∙◌}
use Rattle.search_firings.proofs.FiredSteps.{any-among}
use Rattle.search_firings.proofs.fired.Fired.has.Goals as goal

pub returns : goal.returns
returns c = c.contains.ensures ∙ any-among c.args.firing.now c.args.self.now.firings.keys
