-- Which operator a token is, beside the operators that bind equally tightly.
use Rattle.std.specs.Prelude.{Option, Some, None}
use Rattle.cal_value.specs.declared.operator.Op.{Op}
use Rattle.cal_value.specs.declared.operator.Op.TheVariants as op
use Rattle.cal_value.specs.declared.operator.Agg.{Agg}
use Rattle.cal_value.specs.declared.operator.Agg.TheVariants as agg
use Rattle.sql_text.specs.declared.token.Symbol.{Symbol as Sign}
use Rattle.sql_text.specs.declared.token.Symbol.TheVariants as s
use Rattle.sql_text.specs.declared.token.Reserved.{Reserved}
use Rattle.sql_text.specs.declared.token.Reserved.TheVariants as w

abbrev pub compares : Sign → Option Op
compares s.Equal = Some op.Equal
compares s.NotEqual = Some op.NotEqual
compares s.Less = Some op.Less
compares s.LessEqual = Some op.LessEqual
compares s.Greater = Some op.Greater
compares s.GreaterEqual = Some op.GreaterEqual
compares _ = None

abbrev pub adds : Sign → Option Op
adds s.Plus = Some op.Add
adds s.Minus = Some op.Subtract
adds _ = None

abbrev pub multiplies : Sign → Option Op
multiplies s.Star = Some op.Multiply
multiplies s.Slash = Some op.Divide
multiplies _ = None

abbrev pub aggregates : Reserved → Option Agg
aggregates w.Count = Some agg.Count
aggregates w.Sum = Some agg.Sum
aggregates w.Min = Some agg.Min
aggregates w.Max = Some agg.Max
aggregates _ = None
