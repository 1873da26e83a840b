-- A function value that reads parts to a depth.
use Rattle.std.specs.Prelude.{ℕ, Result}
use Rattle.std.specs.declared.alloc.Global.{Global}
use denote.Ref.{MutBor}
use Rattle.sql_tree.specs.declared.tree.Tree.{Tree}
use Rattle.sql_expressions.specs.declared.fault.ParseFault.{ParseFault}
use Rattle.sql_expressions.specs.declared.expression.Part.{Part}
use Rattle.sql_expressions.specs.Input.{Input, Reads}
use Rattle.sql_expressions.specs.Reading.{reads_part}

pub record Nests (depth : ℕ) (pre : Global → MutBor Input → ℕ → Part → Type 0)
    (post : Global → MutBor Input → ℕ → Part → Result Tree ParseFault → MutBor Input → Type 0) : Type 0 where
  pub callable : (alloc : Global) (old : MutBor Input) (part : Part) → pre alloc old depth part
  pub reads : (alloc : Global) (old new : MutBor Input) (part : Part) (r : Result Tree ParseFault) → post alloc old depth part r new
      → Reads (reads_part depth part old.now) r new.now
