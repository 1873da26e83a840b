use Rattle.agg_images.specs.Meanings.{aggregate_project_merge}
use Rattle.agg_images.proofs.laws.aggregate_project_merge_law.Goals as goal

pub returns-clause-stands : goal.returns-clause-stands
returns-clause-stands c = aggregate_project_merge.lawful.stands

pub returns-clause-steady : goal.returns-clause-steady
returns-clause-steady c = aggregate_project_merge.lawful.steady
