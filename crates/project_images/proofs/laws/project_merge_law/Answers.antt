use Rattle.project_images.specs.Meanings.{project_merge}
use Rattle.project_images.proofs.laws.project_merge_law.Goals as goal

pub returns-clause-stands : goal.returns-clause-stands
returns-clause-stands c = project_merge.lawful.stands

pub returns-clause-steady : goal.returns-clause-steady
returns-clause-steady c = project_merge.lawful.steady
