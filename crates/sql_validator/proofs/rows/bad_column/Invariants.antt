use Rattle.std.proofs.Common.{◌≡◌, ◌+◌, drop, map}
use Rattle.cal_schema.specs.declared.column.ColumnDef.{ColumnDef}
use Rattle.sql_validator.specs.Refusal.{bad_column}
use Rattle.sql_validator.proofs.rows.bad_column.Given as goal

abbrev pub invariant-loop-at : goal.invariant-loop-at
invariant-loop-at l = bad_column 1 (map (λ (c : ColumnDef). c.kind) l.columns) l.row ≡ bad_column (l.at + 1) (map (λ (c : ColumnDef). c.kind) (drop l.at l.columns)) (drop l.at l.row)
