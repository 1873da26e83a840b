use Rattle.project_images.specs.Meanings.{reduce_expressions}
use Rattle.project_images.proofs.laws.reduce_expressions_law.Goals as goal

pub returns-clause-stands : goal.returns-clause-stands
returns-clause-stands c = reduce_expressions.lawful.stands

pub returns-clause-steady : goal.returns-clause-steady
returns-clause-steady c = reduce_expressions.lawful.steady
