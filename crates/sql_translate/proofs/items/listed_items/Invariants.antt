use Rattle.std.proofs.Common.{◌≡◌, ◌++◌, map, drop}
use Rattle.sql_to_rel.specs.Numbered.{numbered}
use Rattle.sql_translate.proofs.items.listed_items.Given as goal

abbrev pub invariant-loop-item : goal.invariant-loop-item
invariant-loop-item l = l.all ++ map (λ item. numbered l.scope item.tree) (drop l.item-index l.items) ≡ map (λ item. numbered l.scope item.tree) l.items
