use Rattle.std.proofs.Common.{◌≡◌, ◌++◌, map, take}
use Rattle.sql_tree.specs.declared.select.UsingName.{UsingName}
use Rattle.sql_meaning.specs.Mentions.{using_mention}
use Rattle.sql_names.proofs.mentions.add_using.Given as goal

abbrev pub invariant-loop-used : goal.invariant-loop-used
invariant-loop-used l = l.all ≡ l.initial.all ++ map (λ (n : UsingName). using_mention l.before l.entry n.name) (take l.used-index l.names)
