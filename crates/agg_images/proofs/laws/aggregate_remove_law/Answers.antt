use Rattle.agg_images.specs.Meanings.{aggregate_remove}
use Rattle.agg_images.proofs.laws.aggregate_remove_law.Goals as goal

pub returns-clause-stands : goal.returns-clause-stands
returns-clause-stands c = aggregate_remove.lawful.stands

pub returns-clause-steady : goal.returns-clause-steady
returns-clause-steady c = aggregate_remove.lawful.steady
