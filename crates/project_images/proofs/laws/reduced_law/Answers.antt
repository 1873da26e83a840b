use Rattle.project_images.specs.ReducedMeaning.{reduced-means}
use Rattle.project_images.proofs.laws.reduced_law.Goals as goal

pub returns : goal.returns
returns c = reduced-means
