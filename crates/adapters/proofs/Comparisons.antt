-- A column test is a comparison.
use Rattle.std.proofs.Common.{◌≡◌, ◌∙◌, sym, ap, refl, ℕ, Bool, true, ◌&&◌, not, List, IsTrue}
use Rattle.std.specs.declared.cmp.Ordering.{Ordering}
use Rattle.cal_value.specs.declared.operator.Op.{Op}
use Rattle.cal_value.specs.declared.operator.Op.TheVariants.{Add, Subtract, Multiply, Divide, Equal, NotEqual, Less, LessEqual, Greater, GreaterEqual, And, Or}
use Rattle.cal_value.specs.declared.value.Value.{Value}
use Rattle.cal_value.specs.declared.value.Value.TheVariants.{Null, Bool as BoolValue, Int, Text}
use Rattle.cal_value.specs.Logic.{is_null, is_true}
use Rattle.cal_value.specs.Order.{column_of, value_cmp}
use Rattle.cal_expr.specs.declared.expr.Expr.{Expr}
use Rattle.cal_expr.specs.declared.expr.Expr.TheFolds.{fold-Expr, fold-roll-Expr}
use Rattle.cal_expr.specs.declared.expr.Expr.TheOpen.{Expr-F}
use Rattle.cal_expr.specs.declared.expr.Expr.TheVariants.{Binary, Column, Literal, rolls-Binary, rolls-Column, rolls-Literal}
use Rattle.cal_expr.specs.Meaning.{applied, compared, meaning_of, meaning_step, passes as holds}
use Rattle.adapters.specs.declared.request.ColumnTest.{ColumnTest}
use Rattle.adapters.specs.Scan.{expression_of, is_comparison, is_met, meets}

met-compared : (test : Ordering → Bool) (a b : Value) → (not (is_null a) && (not (is_null b) && test (value_cmp a b))) ≡ is_true (compared test a b)
met-compared test Null b = refl
met-compared test (BoolValue x) Null = refl
met-compared test (Int x) Null = refl
met-compared test (Text x) Null = refl
met-compared test (BoolValue x) (BoolValue y) = refl
met-compared test (BoolValue x) (Int y) = refl
met-compared test (BoolValue x) (Text y) = refl
met-compared test (Int x) (BoolValue y) = refl
met-compared test (Int x) (Int y) = refl
met-compared test (Int x) (Text y) = refl
met-compared test (Text x) (BoolValue y) = refl
met-compared test (Text x) (Int y) = refl
met-compared test (Text x) (Text y) = refl

met-applied : (op : Op) (a b : Value) → IsTrue (is_comparison op) → is_met op a b ≡ is_true (applied op a b)
met-applied Add a b is = absurd (cc)
met-applied Subtract a b is = absurd (cc)
met-applied Multiply a b is = absurd (cc)
met-applied Divide a b is = absurd (cc)
met-applied Equal a b is = met-compared (holds Equal) a b
met-applied NotEqual a b is = met-compared (holds NotEqual) a b
met-applied Less a b is = met-compared (holds Less) a b
met-applied LessEqual a b is = met-compared (holds LessEqual) a b
met-applied Greater a b is = met-compared (holds Greater) a b
met-applied GreaterEqual a b is = met-compared (holds GreaterEqual) a b
met-applied And a b is = absurd (cc)
met-applied Or a b is = absurd (cc)

meaning-Column : (row : List Value) (at : ℕ) → meaning_of (Column at) row ≡ column_of row at
meaning-Column row at = ap (λ e. meaning_of e row) (sym (rolls-Column at)) ∙ fold-roll-Expr Value (meaning_step row) (Expr-F.Column at)

meaning-Literal : (row : List Value) (v : Value) → meaning_of (Literal v) row ≡ v
meaning-Literal row v = ap (λ e. meaning_of e row) (sym (rolls-Literal v)) ∙ fold-roll-Expr Value (meaning_step row) (Expr-F.Literal v)

meaning-Binary : (row : List Value) (op : Op) (l r : Expr) → meaning_of (Binary op l r) row ≡ applied op (meaning_of l row) (meaning_of r row)
meaning-Binary row op l r = ap (λ e. meaning_of e row) (sym (rolls-Binary op l r)) ∙ fold-roll-Expr Value (meaning_step row) (Expr-F.Binary op l r)

pub meets_means : (test : ColumnTest) (row : List Value) → IsTrue (is_comparison test.op) → meets row test ≡ is_true (meaning_of (expression_of test) row)
meets_means test row is =
    met-applied test.op (column_of row test.column) test.literal is
    ∙ ap is_true (sym (
    meaning-Binary row test.op (Column test.column) (Literal test.literal)
    ∙ ap (λ v. applied test.op v (meaning_of (Literal test.literal) row)) (meaning-Column row test.column)
    ∙ ap (applied test.op (column_of row test.column)) (meaning-Literal row test.literal)))
