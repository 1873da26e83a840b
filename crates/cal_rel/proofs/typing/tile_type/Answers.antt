use Rattle.std.proofs.Common.{◌≡◌, None, sym, subst}
use Rattle.cal_rel.specs.Tree.{tile_scan}
use Rattle.cal_rel.specs.Typing.{leaf_type}
use Rattle.cal_rel.proofs.Stars.{tile-none}
use Rattle.cal_rel.proofs.typing.tile_type.Goals as goal

pub returns : goal.returns
returns c = subst (λ i. None ≡ leaf_type i (tile_scan c.args.at)) c.info.view_is (sym (tile-none c.info.inside.schema.now c.info.inside.tiles.now c.info.inside.sets.now c.args.at))
