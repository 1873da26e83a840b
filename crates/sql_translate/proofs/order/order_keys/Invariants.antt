use Rattle.std.proofs.Common.{◌≡◌, ◌++◌, drop}
use Rattle.std.specs.List.{filter_map}
use Rattle.sql_meaning.specs.Order.{key_order}
use Rattle.sql_translate.proofs.order.order_keys.Given as goal

abbrev pub invariant-loop-key : goal.invariant-loop-key
invariant-loop-key l = l.keys ++ filter_map (key_order l.scope l.select.items) (drop l.key-index l.key-items) ≡ filter_map (key_order l.scope l.select.items) l.key-items
