use Rattle.std.proofs.Common.{◌≡◌, ◌+◌, drop, map}
use Rattle.cal_schema.specs.declared.column.ColumnDef.{ColumnDef}
use Rattle.sql_validator.specs.Refusal.{bad_row}
use Rattle.sql_validator.proofs.rows.bad_row.Given as goal

abbrev pub invariant-loop-at : goal.invariant-loop-at
invariant-loop-at l = bad_row 1 (map (λ (c : ColumnDef). c.kind) l.columns) l.rows ≡ bad_row (l.at + 1) (map (λ (c : ColumnDef). c.kind) l.columns) (drop l.at l.rows)
