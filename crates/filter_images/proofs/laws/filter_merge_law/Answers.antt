use Rattle.filter_images.specs.Meanings.{filter_merge}
use Rattle.filter_images.proofs.laws.filter_merge_law.Goals as goal

pub returns-clause-stands : goal.returns-clause-stands
returns-clause-stands c = filter_merge.lawful.stands

pub returns-clause-steady : goal.returns-clause-steady
returns-clause-steady c = filter_merge.lawful.steady
