use Rattle.std.proofs.Common.{◌≡◌, ◌++◌, map}
use Rattle.sql_meaning.specs.Parts.{part}
use Rattle.sql_meaning.proofs.parts.add_trees.Given as goal

abbrev pub invariant-loop-tree : goal.invariant-loop-tree
invariant-loop-tree l = l.parts ≡ l.initial.parts ++ map (part l.entries l.role) l.yielded
