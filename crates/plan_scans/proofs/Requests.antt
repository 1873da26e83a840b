-- What is asked of an adapter answers what a chain makes of rows.
use Rattle.std.proofs.Common.{◌≡◌, ℕ, zero, suc, ◌+◌, ◌&&◌, Bool, true, false, IsTrue, List, [], ◌∷◌, ◌++◌, length, map, filter, Option, Some, None, refl, sym, ◌∙◌, ap, ap₂, subst, arith}
use Rattle.std.specs.Prelude.{filter_map, IfSome}
use Rattle.std.specs.List.{range_with_len, cons_option}
use Rattle.std.proofs.lemmas.List.Elements.{All-filter, All-head, All-tail, filter_agree}
use Rattle.std.proofs.lemmas.List.Folds.{list_all-append}
use Rattle.std.proofs.lemmas.Option.{same_Some}
use Rattle.cal_value.specs.declared.operator.Op.{Op}
use Rattle.cal_value.specs.declared.operator.Op.TheVariants.{Add, Subtract, Multiply, Divide, Equal, NotEqual, Less, LessEqual, Greater, GreaterEqual, And, Or}
use Rattle.cal_value.specs.declared.value.Value.{Value}
use Rattle.cal_value.specs.Logic.{is_true}
use Rattle.cal_value.specs.Order.{column_of, columns_of}
use Rattle.cal_expr.specs.declared.expr.Expr.{Expr}
use Rattle.cal_expr.specs.declared.expr.Expr.TheFolds.{fold-Expr, fold-roll-Expr}
use Rattle.cal_expr.specs.declared.expr.Expr.TheOpen.{Expr-F}
use Rattle.cal_expr.specs.declared.expr.Expr.TheVariants.{Column, Literal, Negate, Binary, Not, IsNull, rolls-Column, rolls-Literal, rolls-Negate, rolls-Binary, rolls-Not, rolls-IsNull}
use Rattle.cal_expr.specs.Meaning.{meaning_of}
use Rattle.cal_rel.specs.Operators.{Row, holds, projected}
use Rattle.expr_parts.proofs.ConjunctLaws.{and-true}
use Rattle.expr_parts.proofs.ExprSteps.{each_expr, meaning-Binary, meaning-Column}
use Rattle.adapters.specs.declared.request.ColumnTest.{ColumnTest}
use Rattle.adapters.specs.declared.request.ScanRequest.{ScanRequest}
use Rattle.adapters.specs.Scan.{is_comparison, meets, meets_all}
use Rattle.adapters.proofs.Comparisons.{meets_means}
use Rattle.plan_nodes.specs.Orders.{item_column, column_step}
use Rattle.phys_plan.specs.Ways.{Form, form_of, form_step, form_of_operator, is_tests, is_new, are_different}
use Rattle.plan_scans.specs.Chains.{Chain, tested_rows, made_rows, AreWide, AddsTests, AreTests, AreColumns, IsRequest}

-- ---- forms

pub tests-Binary : (op : Op) (l r : Expr) → is_tests (Binary op l r) ≡ form_of_operator op (form_of l) (form_of r)
tests-Binary op l r = ap is_tests (sym (rolls-Binary op l r)) ∙ ap (λ (f : Form). f.is_tests) (fold-roll-Expr Form form_step (Expr-F.Binary op l r))

both : (a b : Bool) → IsTrue (a && b) → IsTrue a × IsTrue b
both true b h = (refl, h)
both false b h = absurd (cc)

-- a comparison of a column with a literal
pub record IsCompared (op : Op) (l r : Expr) : Type 0 where
  pub op_is : IsTrue (is_comparison op)
  pub column : IsTrue (form_of l).is_column
  pub literal : IsTrue (form_of r).is_literal

pub record AreBoth (l r : Expr) : Type 0 where
  pub first : IsTrue (is_tests l)
  pub second : IsTrue (is_tests r)

pub and-parts : (l r : Expr) → IsTrue (is_tests (Binary And l r)) → AreBoth l r
and-parts l r h = let p = both (is_tests l) (is_tests r) (sym (tests-Binary And l r) ∙ h) in record { first = p.0; second = p.1 }

compared : (op : Op) (l r : Expr) → IsTrue (is_comparison op && ((form_of l).is_column && (form_of r).is_literal)) → IsCompared op l r
compared op l r h =
    let p = both (is_comparison op) ((form_of l).is_column && (form_of r).is_literal) h in
    let q = both (form_of l).is_column (form_of r).is_literal p.1 in
    record { op_is = p.0; column = q.0; literal = q.1 }

pub compared-parts : (op : Op) (l r : Expr) → (op ≡ And → ⊥) → IsTrue (is_tests (Binary op l r)) → IsCompared op l r
compared-parts op l r other h = by op other (sym (tests-Binary op l r) ∙ h)
  where
    by : (o : Op) → (o ≡ And → ⊥) → IsTrue (form_of_operator o (form_of l) (form_of r)) → IsCompared o l r
    by And other h = absurd (other refl)
    by Add other h = compared Add l r h
    by Subtract other h = compared Subtract l r h
    by Multiply other h = compared Multiply l r h
    by Divide other h = compared Divide l r h
    by Equal other h = compared Equal l r h
    by NotEqual other h = compared NotEqual l r h
    by Less other h = compared Less l r h
    by LessEqual other h = compared LessEqual l r h
    by Greater other h = compared Greater l r h
    by GreaterEqual other h = compared GreaterEqual l r h
    by Or other h = compared Or l r h

-- ---- tests

and-true-end : (b : Bool) → (b && true) ≡ b
and-true-end true = refl
and-true-end false = refl

and-assoc : (a b c : Bool) → ((a && b) && c) ≡ (a && (b && c))
and-assoc true b c = refl
and-assoc false b c = refl

pub adds-comparison : (test : ColumnTest) (before after : List ColumnTest) → IsTrue (is_comparison test.op) → after ≡ before ++ test ∷ []
    → AddsTests (Binary test.op (Column test.column) (Literal test.literal)) before after
adds-comparison test before after is added = record {
  met = λ row.
      ap (λ (ts : List ColumnTest). meets_all ts row) added ∙ list_all-append (meets row) before (test ∷ [])
      ∙ ap (λ b. meets_all before row && b) (and-true-end (meets row test) ∙ meets_means test row is);
}

holds-And : (l r : Expr) (row : Row) → holds (Binary And l r) row ≡ (holds l row && holds r row)
holds-And l r row = ap is_true (meaning-Binary And l r row) ∙ and-true (meaning_of l row) (meaning_of r row)

pub adds-both : (l r : Expr) (before between after : List ColumnTest) → AddsTests l before between → AddsTests r between after → AddsTests (Binary And l r) before after
adds-both l r before between after first second = record {
  met = λ row.
      second.met row ∙ ap (λ b. b && holds r row) (first.met row) ∙ and-assoc (meets_all before row) (holds l row) (holds r row)
      ∙ ap (λ b. meets_all before row && b) (sym (holds-And l r row));
}

filter-all : (rows : List Row) → filter (meets_all []) rows ≡ rows
filter-all [] = refl
filter-all (row ∷ rows) = ap (λ rs. row ∷ rs) (filter-all rows)

pub tests-none : (o : Option Expr) (tests : List ColumnTest) → o ≡ None → tests ≡ [] → AreTests o tests
tests-none o tests is e = record { rows = λ rows. ap (λ ts. filter (meets_all ts) rows) e ∙ filter-all rows ∙ ap (λ x. tested_rows x rows) (sym is); none = λ _. e }

pub tests-some : (predicate : Expr) (before tests : List ColumnTest) → before ≡ [] → AddsTests predicate before tests → AreTests (Some predicate) tests
tests-some predicate before tests e added = record {
  rows = λ rows. filter_agree (meets_all tests) (holds predicate) (λ row. added.met row ∙ ap (λ ts. meets_all ts row && holds predicate row) e) rows;
  none = λ h. absurd (cc);
}

-- ---- columns

shifted : (v : Value) (row : Row) (from n : ℕ) → columns_of (v ∷ row) (range_with_len (suc from) n) ≡ columns_of row (range_with_len from n)
shifted v row from zero = refl
shifted v row from (suc n) =
    let next : suc from + 1 ≡ suc (from + 1) = omega arith in
    ap (λ vs. column_of row from ∷ vs) (ap (λ k. columns_of (v ∷ row) (range_with_len k n)) next ∙ shifted v row (from + 1) n)

own-columns : (row : Row) → columns_of row (range_with_len 0 (length row)) ≡ row
own-columns [] = refl
own-columns (v ∷ row) = ap (λ vs. v ∷ vs) (shifted v row 0 (length row) ∙ own-columns row)

pub columns-all : (o : Option (List Expr)) (width : ℕ) (columns : List ℕ) → o ≡ None → columns ≡ range_with_len 0 width → AreColumns width o columns
columns-all o width columns is e = subst (λ x. AreColumns width x columns) (sym is) (record { rows = each })
  where
    one : (row : Row) → length row ≡ width → columns_of row columns ≡ row
    one row wide = ap (columns_of row) (e ∙ ap (range_with_len 0) (sym wide)) ∙ own-columns row

    each : (rows : List Row) → AreWide width rows → map (λ row. columns_of row columns) rows ≡ rows
    each [] wide = refl
    each (row ∷ rows) wide = ap₂ (λ r rs. r ∷ rs) (one row (All-head (λ (r : Row). length r ≡ width) row rows wide)) (each rows (All-tail (λ (r : Row). length r ≡ width) row rows wide))

-- an item that is a column means its value
abbrev IsColumn : Expr → Type 0
IsColumn e = (row : Row) (column : ℕ) → item_column e ≡ Some column → meaning_of e row ≡ column_of row column

item-means : (e : Expr) → IsColumn e
item-means = each_expr IsColumn (record {
  column = λ at row column h.
      let is : Some at ≡ Some column = sym (ap item_column (sym (rolls-Column at)) ∙ fold-roll-Expr (Option ℕ) column_step (Expr-F.Column at)) ∙ h in
      meaning-Column at row ∙ ap (column_of row) (same_Some at column is);
  literal = λ v row column h.
      let is : item_column (Literal v) ≡ None = ap item_column (sym (rolls-Literal v)) ∙ fold-roll-Expr (Option ℕ) column_step (Expr-F.Literal v) in
      absurd (cc);
  negate = λ e below row column h.
      let is : item_column (Negate e) ≡ None = ap item_column (sym (rolls-Negate e)) ∙ fold-roll-Expr (Option ℕ) column_step (Expr-F.Negate e) in
      absurd (cc);
  binary = λ op a b left right row column h.
      let is : item_column (Binary op a b) ≡ None = ap item_column (sym (rolls-Binary op a b)) ∙ fold-roll-Expr (Option ℕ) column_step (Expr-F.Binary op a b) in
      absurd (cc);
  not = λ e below row column h.
      let is : item_column (Not e) ≡ None = ap item_column (sym (rolls-Not e)) ∙ fold-roll-Expr (Option ℕ) column_step (Expr-F.Not e) in
      absurd (cc);
  is_null = λ e below row column h.
      let is : item_column (IsNull e) ≡ None = ap item_column (sym (rolls-IsNull e)) ∙ fold-roll-Expr (Option ℕ) column_step (Expr-F.IsNull e) in
      absurd (cc);
})

items-mean : (row : Row) (items : List Expr) → IsTrue (are_different items) → columns_of row (filter_map item_column items) ≡ projected items row
items-mean row [] h = refl
items-mean row (item ∷ items) h =
    let p = both (is_new (item_column item) items) (are_different items) h in
    by (item_column item) refl p.0 (items-mean row items p.1)
  where
    by : (o : Option ℕ) → item_column item ≡ o → IsTrue (is_new o items) → columns_of row (filter_map item_column items) ≡ projected items row
        → columns_of row (cons_option o (filter_map item_column items)) ≡ projected (item ∷ items) row
    by None is new rest = absurd (cc)
    by (Some column) is new rest = ap₂ (λ v vs. v ∷ vs) (sym (item-means item row column is)) rest

column-items : (width : ℕ) (items : List Expr) (columns : List ℕ) → IsTrue (are_different items) → columns ≡ filter_map item_column items → AreColumns width (Some items) columns
column-items width items columns different e = record { rows = λ rows wide. each rows }
  where
    each : (rows : List Row) → map (λ row. columns_of row columns) rows ≡ map (projected items) rows
    each [] = refl
    each (row ∷ rows) = ap₂ (λ r rs. r ∷ rs) (ap (columns_of row) e ∙ items-mean row items different) (each rows)

pub columns-some : (o : Option (List Expr)) (width : ℕ) (items : List Expr) (columns : List ℕ) → o ≡ Some items → IfSome o (λ es. IsTrue (are_different es))
    → columns ≡ filter_map item_column items → AreColumns width o columns
columns-some o width items columns is asked e =
    by (subst (λ x. IfSome x (λ es. IsTrue (are_different es))) is asked)
  where
    by : IsTrue (are_different items) → AreColumns width o columns
    by different = subst (λ x. AreColumns width x columns) (sym is) (column-items width items columns different e)

-- ---- requests

pub request-is : (width : ℕ) (chain : Chain) (request : ScanRequest) → AreTests chain.predicate request.tests → AreColumns width chain.items request.columns → IsRequest width chain request
request-is width chain request tests columns = record {
  rows = λ rows wide.
      columns.rows (filter (meets_all request.tests) rows) (All-filter (meets_all request.tests) (λ (row : Row). length row ≡ width) rows wide)
      ∙ ap (made_rows chain.items) (tests.rows rows);
  none = tests.none;
}

pub request-at : (width : ℕ) (chain : Chain) (o : Option Expr) (is : Option (List Expr)) (request : ScanRequest) → o ≡ chain.predicate → is ≡ chain.items
    → AreTests o request.tests → AreColumns width is request.columns → IsRequest width chain request
request-at width chain o is request same also tests columns =
    request-is width chain request (subst (λ x. AreTests x request.tests) same tests) (subst (λ x. AreColumns width x request.columns) also columns)

-- ---- by what the walk over tests goes down

abbrev size_step : Expr-F ℕ → ℕ
size_step (Expr-F.Column at) = 1
size_step (Expr-F.Literal v) = 1
size_step (Expr-F.Negate a) = a + 1
size_step (Expr-F.Binary op a b) = a + b + 1
size_step (Expr-F.Not a) = a + 1
size_step (Expr-F.IsNull a) = a + 1

abbrev pub size_of : Expr → ℕ
size_of e = fold-Expr ℕ size_step e

pub size-at : (e l r first second : Expr) (op : Op) → e ≡ Binary op l r → first ≡ l → second ≡ r → size_of e ≡ size_of first + size_of second + 1
size-at e l r first second op is left right =
    ap size_of (is ∙ sym (rolls-Binary op l r)) ∙ fold-roll-Expr ℕ size_step (Expr-F.Binary op l r)
    ∙ ap (λ x. size_of x + size_of r + 1) (sym left) ∙ ap (λ x. size_of first + size_of x + 1) (sym right)

-- ---- along equations

pub tests-at : (e l r first second : Expr) (op : Op) → e ≡ Binary op l r → op ≡ And → first ≡ l → second ≡ r → IsTrue (is_tests e) → AreBoth first second
tests-at e l r first second op is and left right h =
    let k : IsTrue (is_tests (Binary And l r)) = ap is_tests (ap (λ o. Binary o l r) (sym and) ∙ sym is) ∙ h in
    let p = and-parts l r k in
    record { first = ap is_tests left ∙ p.first; second = ap is_tests right ∙ p.second }

pub compared-at : (e l r first second : Expr) (op : Op) → e ≡ Binary op l r → (op ≡ And → ⊥) → first ≡ l → second ≡ r → IsTrue (is_tests e) → IsCompared op first second
compared-at e l r first second op is other left right h =
    let p = compared-parts op l r other (sym (ap is_tests is) ∙ h) in
    record {
      op_is = p.op_is;
      column = ap (λ x. (form_of x).is_column) left ∙ p.column;
      literal = ap (λ x. (form_of x).is_literal) right ∙ p.literal;
    }

pub adds-at : (e l r first second : Expr) (op : Op) (before between after : List ColumnTest) → e ≡ Binary op l r → op ≡ And → first ≡ l → second ≡ r
    → AddsTests first before between → AddsTests second between after → AddsTests e before after
adds-at e l r first second op before between after is and left right h k =
    let e_is : e ≡ Binary And first second = is ∙ ap (λ o. Binary o l r) and ∙ ap (λ x. Binary And x r) (sym left) ∙ ap (Binary And first) (sym right) in
    subst (λ x. AddsTests x before after) (sym e_is) (adds-both first second before between after h k)
