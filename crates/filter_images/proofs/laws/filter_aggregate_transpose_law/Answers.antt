use Rattle.filter_images.specs.Meanings.{filter_aggregate_transpose}
use Rattle.filter_images.proofs.laws.filter_aggregate_transpose_law.Goals as goal

pub returns-clause-stands : goal.returns-clause-stands
returns-clause-stands c = filter_aggregate_transpose.lawful.stands

pub returns-clause-steady : goal.returns-clause-steady
returns-clause-steady c = filter_aggregate_transpose.lawful.steady
