-- What a scan answers: the request's columns of the rows that meet all its tests, in order.
use Rattle.std.specs.Prelude.{◌≡◌, ℕ, ◌&&◌, Bool, true, false, not, List, [], map, filter, ⊤}
use Rattle.std.specs.List.{list_all}
use Rattle.cal_value.specs.declared.operator.Op.{Op}
use Rattle.cal_value.specs.declared.operator.Op.TheVariants.{Equal, NotEqual, Less, LessEqual, Greater, GreaterEqual}
use Rattle.cal_value.specs.declared.value.Value.{Value}
use Rattle.cal_value.specs.Logic.{is_null}
use Rattle.cal_value.specs.Order.{column_of, columns_of, value_cmp}
use Rattle.cal_expr.specs.declared.expr.Expr.{Expr}
use Rattle.cal_expr.specs.declared.expr.Expr.TheVariants.{Binary, Column, Literal}
use Rattle.cal_expr.specs.Meaning.{passes as holds}
use Rattle.adapters.specs.declared.request.ColumnTest.{ColumnTest}
use Rattle.adapters.specs.declared.request.ScanRequest.{ScanRequest}
use Rattle.adapters.specs.declared.adapter.AnyAdapter.{AnyAdapter}
use Rattle.adapters.specs.declared.adapter.AnyAdapter.TheVariants.{Csv, Mem}

-- one of the six comparisons
abbrev pub is_comparison : Op → Bool
is_comparison Equal = true
is_comparison NotEqual = true
is_comparison Less = true
is_comparison LessEqual = true
is_comparison Greater = true
is_comparison GreaterEqual = true
is_comparison op = false

-- the comparison is true: it is unknown where one of the two is NULL
abbrev pub is_met : Op → Value → Value → Bool
is_met op a b = not (is_null a) && (not (is_null b) && holds op (value_cmp a b))

abbrev pub meets : List Value → ColumnTest → Bool
meets row test = is_met test.op (column_of row test.column) test.literal

-- the test as an expression over the row
abbrev pub expression_of : ColumnTest → Expr
expression_of test = Binary test.op (Column test.column) (Literal test.literal)

abbrev pub meets_all : List ColumnTest → List Value → Bool
meets_all tests row = list_all (meets row) tests

abbrev pub scanned : ScanRequest → List (List Value) → List (List Value)
scanned request rows = map (λ row. columns_of row request.columns) (filter (meets_all request.tests) rows)

-- files are read without tests
abbrev pub HasNoTests : ScanRequest → Type 0
HasNoTests request = request.tests ≡ []

abbrev pub TakesAny : AnyAdapter → ScanRequest → Type 0
TakesAny (Csv a) request = HasNoTests request
TakesAny (Mem a) request = ⊤
