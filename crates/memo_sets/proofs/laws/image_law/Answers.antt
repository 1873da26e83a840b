use Rattle.memo_model.proofs.MayLemmas.{image-may}
use Rattle.memo_sets.proofs.laws.image_law.Goals as goal

pub returns : goal.returns
returns c = λ info m s x out t u sound stands typed is kinds same. image-may info m sound s x t stands typed out u is kinds same
