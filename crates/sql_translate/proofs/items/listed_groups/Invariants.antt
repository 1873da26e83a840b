use Rattle.std.proofs.Common.{◌≡◌, ◌++◌, map, drop}
use Rattle.sql_algebra.specs.Algebra.{placed}
use Rattle.sql_translate.proofs.items.listed_groups.Given as goal

abbrev pub invariant-loop-item : goal.invariant-loop-item
invariant-loop-item l = l.all ++ map (λ item. (placed l.scope item.tree).group l.layout) (drop l.item-index l.items) ≡ map (λ item. (placed l.scope item.tree).group l.layout) l.items
