use Rattle.filter_images.specs.Meanings.{filter_project_transpose}
use Rattle.filter_images.proofs.laws.filter_project_transpose_law.Goals as goal

pub returns-clause-stands : goal.returns-clause-stands
returns-clause-stands c = filter_project_transpose.lawful.stands

pub returns-clause-steady : goal.returns-clause-steady
returns-clause-steady c = filter_project_transpose.lawful.steady
