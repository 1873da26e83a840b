use Rattle.phys_plan.proofs.Bridge.{from-realised, to-realised}
use Rattle.phys_plan.proofs.laws.realised_law.Goals as goal

pub returns : goal.returns
returns c = record { by_rules = to-realised; by_tree = from-realised }
