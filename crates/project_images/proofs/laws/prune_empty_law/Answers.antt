use Rattle.project_images.specs.Meanings.{prune_empty}
use Rattle.project_images.proofs.laws.prune_empty_law.Goals as goal

pub returns-clause-stands : goal.returns-clause-stands
returns-clause-stands c = prune_empty.lawful.stands

pub returns-clause-steady : goal.returns-clause-steady
returns-clause-steady c = prune_empty.lawful.steady
