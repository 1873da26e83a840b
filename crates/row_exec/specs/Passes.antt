-- Plans that are one pass over the rows of a table.
use Rattle.std.specs.Prelude.{◌≡◌, ℕ, Bool, true, IsTrue, List, length, map, filter, All, IfSome, IsSome, Option, Some, None}
use Rattle.cal_expr.specs.declared.expr.Expr.{Expr}
use Rattle.cal_expr.specs.WellFormed.{IsWellFormed}
use Rattle.cal_schema.specs.declared.schema.Schema.{Schema}
use Rattle.cal_rel.specs.Operators.{Row, holds, projected}
use Rattle.cal_snapshot.specs.declared.part.Part.TheVariants.{Table}
use Rattle.cal_snapshot.specs.Parts.{Parts, rows_of, rows_in}
use Rattle.plan_nodes.specs.declared.plan.Plan.{Plan}
use Rattle.plan_nodes.specs.Seen.{reads}
use Rattle.row_exec.specs.Run.{CanRun, IsRun}

-- ---- passes

-- which rows of which table are kept, and which items are made of each
pub record Pass : Type 0 where
  pub table : ℕ
  pub condition : Option Expr
  pub items : Option (List Expr)

-- all rows, as they are
abbrev pub whole : ℕ → Pass
whole table = record { table = table; condition = None; items = None }

-- the condition is TRUE of the row, or there is none
abbrev pub keeps : Option Expr → Row → Bool
keeps None row = true
keeps (Some condition) row = holds condition row

-- the values of the items, or the row itself
abbrev pub made_of : Option (List Expr) → Row → Row
made_of None row = row
made_of (Some items) row = projected items row

abbrev pub passed : Pass → List Row → List Row
passed pass rows = map (made_of pass.items) (filter (keeps pass.condition) rows)

-- ---- what a pass asks

-- the condition has a value over the row, and where it is kept the items have
pub record CanPass (pass : Pass) (row : Row) : Type 0 where
  pub tested : IfSome pass.condition (λ e. IsWellFormed e row)
  pub computed : IsTrue (keeps pass.condition row) → IfSome pass.items (λ es. All (λ e. IsWellFormed e row) es)

-- the table is there, and each of its rows can pass
pub record CanGoOver (parts : Parts) (pass : Pass) : Type 0 where
  pub there : IsSome (rows_of parts (Table pass.table))
  pub ready : All (CanPass pass) (rows_in parts pass.table)

-- ---- as plans

-- wherever the plan can be run, the pass can go over its table, it makes the rows of the plan, and they read as many rows
pub record IsPass (p : Plan) (pass : Pass) : Type 0 where
  pub can : (schema : Schema) (parts : Parts) → CanRun schema parts p → CanGoOver parts pass
  pub makes : (schema : Schema) (parts : Parts) → CanRun schema parts p → IsRun schema parts p (passed pass (rows_in parts pass.table))
  pub counts : (schema : Schema) (parts : Parts) → CanRun schema parts p → reads p ≡ length (rows_in parts pass.table)
