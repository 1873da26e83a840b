use Rattle.join_images.specs.JoinAssociateLawful.{associated-means}
use Rattle.join_images.specs.Meanings.{join_associate}
use Rattle.join_images.proofs.laws.join_associate_law.Goals as goal

pub returns-clause-stands : goal.returns-clause-stands
returns-clause-stands c = join_associate.lawful.stands

pub returns-clause-steady : goal.returns-clause-steady
returns-clause-steady c = join_associate.lawful.steady

pub returns-clause-rows : goal.returns-clause-rows
returns-clause-rows c info rel out t db holes typed made fits true_of = associated-means info db holes rel out t fits true_of typed made
