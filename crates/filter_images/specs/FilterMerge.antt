-- Two filters become one, of the conjuncts of the lower one and then those of the upper one.
use Rattle.std.specs.Prelude.{◌++◌, Option, Some, None}
use Rattle.expr_parts.specs.Conjuncts.{conjuncts_of}
use Rattle.cal_rel.specs.Tree.{Tree, filter_by, unary}
use Rattle.filter_images.specs.Filtered.{filtered}

abbrev pub merged_filters : Tree → Option Tree
merged_filters (unary (filter_by upper) (unary (filter_by lower) t)) = Some (filtered (conjuncts_of lower ++ conjuncts_of upper) t)
merged_filters t = None
