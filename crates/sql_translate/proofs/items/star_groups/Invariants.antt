use Rattle.std.proofs.Common.{◌≡◌, ◌++◌, map, drop}
use Rattle.sql_algebra.specs.Algebra.{group_at}
use Rattle.sql_translate.proofs.items.star_groups.Given as goal

abbrev pub invariant-loop-at : goal.invariant-loop-at
invariant-loop-at l = l.items ++ map (group_at l.layout) (drop l.at-index l.at-items) ≡ map (group_at l.layout) l.at-items
