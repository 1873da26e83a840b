-- What has no rows since an input has none is empty.
use Rattle.std.specs.Prelude.{Bool, true, false, ◌||◌, [], Option, None, if◌then◌else◌}
use Rattle.cal_schema.specs.declared.join_kind.JoinKind.TheVariants.{Inner, Left}
use Rattle.cal_rel.specs.Info.{Info}
use Rattle.cal_rel.specs.Tree.{empty_of, Unary, aggregate_by, Binary, join_on, Tree, leaf, unary, binary}
use Rattle.project_images.specs.Empties.{empty_for}

abbrev pub is_empty : Tree → Bool
is_empty (leaf (empty_of types)) = true
is_empty t = false

-- without groups an aggregate has a row also over none
abbrev pub is_empty_over : Unary → Bool → Bool
is_empty_over (aggregate_by [] calls) empty = false
is_empty_over u empty = empty

abbrev pub is_empty_join : Binary → Bool → Bool → Bool
is_empty_join (join_on Inner on) left right = left || right
is_empty_join (join_on Left on) left right = left

abbrev pub is_pruned : Tree → Bool
is_pruned (unary u t) = is_empty_over u (is_empty t)
is_pruned (binary b s t) = is_empty_join b (is_empty s) (is_empty t)
is_pruned t = false

abbrev pub pruned : Info → Tree → Option Tree
pruned info rel = if is_pruned rel then empty_for info rel else None
