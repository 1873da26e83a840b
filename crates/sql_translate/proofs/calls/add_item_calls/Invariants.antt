use Rattle.std.proofs.Common.{◌≡◌, drop}
use Rattle.std.specs.List.{flat_map}
use Rattle.sql_algebra.specs.Algebra.{placed, same_call}
use Rattle.sql_translate.specs.Once.{with_each}
use Rattle.sql_translate.proofs.calls.add_item_calls.Given as goal

abbrev pub invariant-loop-item : goal.invariant-loop-item
invariant-loop-item l = with_each same_call l.calls (flat_map (λ item. (placed l.scope item.tree).calls) (drop l.item-index l.items))
    ≡ with_each same_call l.initial.calls (flat_map (λ item. (placed l.scope item.tree).calls) l.items)
