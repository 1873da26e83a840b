use Rattle.std.proofs.Common.{◌≡◌, ◌++◌, map, drop}
use Rattle.sql_to_rel.specs.Numbered.{numbered}
use Rattle.sql_translate.proofs.from.all_numbered.Given as goal

abbrev pub invariant-loop-condition : goal.invariant-loop-condition
invariant-loop-condition l = l.all ++ map (numbered l.scope) (drop l.condition-index l.conditions) ≡ map (numbered l.scope) l.conditions
