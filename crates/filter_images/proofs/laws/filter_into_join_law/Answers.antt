use Rattle.filter_images.specs.Meanings.{filter_into_join}
use Rattle.filter_images.proofs.laws.filter_into_join_law.Goals as goal

pub returns-clause-stands : goal.returns-clause-stands
returns-clause-stands c = filter_into_join.lawful.stands

pub returns-clause-steady : goal.returns-clause-steady
returns-clause-steady c = filter_into_join.lawful.steady
