use Rattle.join_images.specs.JoinCommuteLawful.{column-exchanged}
use Rattle.join_images.specs.Meanings.{join_commute}
use Rattle.join_images.proofs.laws.join_commute_law.Goals as goal

pub returns-clause-stands : goal.returns-clause-stands
returns-clause-stands c = join_commute.lawful.stands

pub returns-clause-steady : goal.returns-clause-steady
returns-clause-steady c = join_commute.lawful.steady

pub returns-clause-columns : goal.returns-clause-columns
returns-clause-columns c = column-exchanged
