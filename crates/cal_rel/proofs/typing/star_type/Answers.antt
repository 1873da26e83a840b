use Rattle.std.proofs.Common.{◌≡◌, None, sym, subst}
use Rattle.cal_rel.specs.Tree.{star_scan}
use Rattle.cal_rel.specs.Typing.{leaf_type}
use Rattle.cal_rel.proofs.Stars.{star-none}
use Rattle.cal_rel.proofs.typing.star_type.Goals as goal

pub returns : goal.returns
returns c = subst (λ i. None ≡ leaf_type i (star_scan c.args.lattice)) c.info.view_is (sym (star-none c.info.inside.schema.now c.info.inside.tiles.now c.info.inside.sets.now c.args.lattice))
