use Rattle.std.proofs.Common.{refl}
use Rattle.cal_rel.proofs.laws.examples_law.Goals as goal

pub returns : goal.returns
returns c = λ info on. record { groups = refl; one_group = refl; no_group = refl; alone = refl; no_partner = refl; tile = refl; no_tile = refl }
