-- Projected rows are in the order that goes through the items.
use Rattle.std.proofs.Common.{◌≡◌, ◌<◌, ℕ, zero, suc, get_or, true, false, List, [], ◌∷◌, length, map, Option, Some, None, refl, sym, ◌∙◌, ap, subst, arith}
use Rattle.std.specs.Prelude.{◌==◌}
use Rattle.std.specs.Ordering.{is_lt, ordering_then}
use Rattle.std.proofs.lemmas.List.Quantifiers.{position-Some}
use Rattle.cal_value.specs.declared.order.KeyOrder.{KeyOrder}
use Rattle.cal_value.specs.declared.value.Value.{Value}
use Rattle.cal_value.specs.declared.value.Value.TheVariants.{Null, Bool as BoolValue, Int, Text}
use Rattle.cal_value.specs.Order.{key_cmp, row_cmp, column_of, IsInOrder}
use Rattle.cal_expr.specs.declared.expr.Expr.{Expr}
use Rattle.cal_expr.specs.declared.expr.Expr.TheFolds.{fold-roll-Expr}
use Rattle.cal_expr.specs.declared.expr.Expr.TheOpen.{Expr-F}
use Rattle.cal_expr.specs.declared.expr.Expr.TheVariants.{Column, Literal, Negate, Binary, Not, IsNull, rolls-Column, rolls-Literal, rolls-Negate, rolls-Binary, rolls-Not, rolls-IsNull}
use Rattle.cal_expr.specs.Meaning.{meaning_of}
use Rattle.cal_rel.specs.Operators.{Row, projected}
use Rattle.expr_parts.proofs.ExprSteps.{each_expr, meaning-Column}
use Rattle.plan_nodes.specs.Orders.{column_step, item_column, is_at, first_place, moved, and_then, through}
use Rattle.plan_orders.proofs.Rising.{Rises-map}
use Rattle.plan_orders.proofs.UpTo.{IsUpTo, rises-from, order-from, then-up}

-- ---- an item that is a column

ColumnItem : Expr → Type 0
ColumnItem e = (column : ℕ) → item_column e ≡ Some column → (row : Row) → meaning_of e row ≡ column_of row column

none-item : (e : Expr) → item_column e ≡ None → ColumnItem e
unfolding ColumnItem
none-item e none column some row = absurd (Prim.cc)

column-item : (at : ℕ) → ColumnItem (Column at)
unfolding ColumnItem
column-item at column some row =
    let is : item_column (Column at) ≡ Some at = ap item_column (sym (rolls-Column at)) ∙ fold-roll-Expr (Option ℕ) column_step (Expr-F.Column at) in
    let same : at ≡ column = cc in
    meaning-Column at row ∙ ap (column_of row) same

each-item : (e : Expr) → ColumnItem e
each-item = each_expr ColumnItem (record {
  column = column-item;
  literal = λ v. none-item (Literal v) (ap item_column (sym (rolls-Literal v)) ∙ fold-roll-Expr (Option ℕ) column_step (Expr-F.Literal v));
  negate = λ e _. none-item (Negate e) (ap item_column (sym (rolls-Negate e)) ∙ fold-roll-Expr (Option ℕ) column_step (Expr-F.Negate e));
  binary = λ op a b _ _. none-item (Binary op a b) (ap item_column (sym (rolls-Binary op a b)) ∙ fold-roll-Expr (Option ℕ) column_step (Expr-F.Binary op a b));
  not = λ e _. none-item (Not e) (ap item_column (sym (rolls-Not e)) ∙ fold-roll-Expr (Option ℕ) column_step (Expr-F.Not e));
  is_null = λ e _. none-item (IsNull e) (ap item_column (sym (rolls-IsNull e)) ∙ fold-roll-Expr (Option ℕ) column_step (Expr-F.IsNull e));
})

item-is : (e : Expr) (column : ℕ) → item_column e ≡ Some column → (row : Row) → meaning_of e row ≡ column_of row column
unfolding ColumnItem
item-is e = each-item e

-- ---- the place of a column

same-from : (m n : ℕ) → (m == n) ≡ true → m ≡ n
same-from m n h = grind (arith, h)

at-true : (k : ℕ) (p : Option ℕ) → is_at k p ≡ true → p ≡ Some k
at-true k None h = absurd (Prim.cc)
at-true k (Some j) h = ap Some (sym (same-from k j h))

column-map : (f : Expr → Value) (items : List Expr) (k : ℕ) (d : Expr) → k < length items → column_of (map f items) k ≡ f (get_or items k d)
column-map f [] k d l = absurd (omega arith)
column-map f (item ∷ items) zero d l = refl
column-map f (item ∷ items) (suc k) d l = column-map f items k d (omega arith)

pub place-within : (column : ℕ) (items : List Expr) (k : ℕ) → first_place column items ≡ Some k → k < length items
place-within column items k h = (position-Some (λ item. is_at column (item_column item)) items k (Column 0) h).0

projected-at : (column : ℕ) (items : List Expr) (k : ℕ) (row : Row) → first_place column items ≡ Some k → column_of (projected items row) k ≡ column_of row column
projected-at column items k row h =
    let d : Expr = Column 0 in
    let found = position-Some (λ item. is_at column (item_column item)) items k d h in
    column-map (λ item. meaning_of item row) items k d found.0
    ∙ item-is (get_or items k d) column (at-true column (item_column (get_or items k d)) found.1) row

moved-is : (key : KeyOrder) (column : ℕ) (a b : Value) → key_cmp (moved key column) a b ≡ key_cmp key a b
moved-is key column Null Null = refl
moved-is key column Null (BoolValue y) = refl
moved-is key column Null (Int y) = refl
moved-is key column Null (Text y) = refl
moved-is key column (BoolValue x) Null = refl
moved-is key column (BoolValue x) (BoolValue y) = refl
moved-is key column (BoolValue x) (Int y) = refl
moved-is key column (BoolValue x) (Text y) = refl
moved-is key column (Int x) Null = refl
moved-is key column (Int x) (BoolValue y) = refl
moved-is key column (Int x) (Int y) = refl
moved-is key column (Int x) (Text y) = refl
moved-is key column (Text x) Null = refl
moved-is key column (Text x) (BoolValue y) = refl
moved-is key column (Text x) (Int y) = refl
moved-is key column (Text x) (Text y) = refl

-- ---- the order

key-through : (items : List Expr) (key : KeyOrder) (k : ℕ) (a b : Row) → first_place key.column items ≡ Some k
    → key_cmp (moved key k) (column_of (projected items a) k) (column_of (projected items b) k) ≡ key_cmp key (column_of a key.column) (column_of b key.column)
key-through items key k a b h =
    moved-is key k (column_of (projected items a) k) (column_of (projected items b) k)
    ∙ ap (λ v. key_cmp key v (column_of (projected items b) k)) (projected-at key.column items k a h)
    ∙ ap (λ v. key_cmp key (column_of a key.column) v) (projected-at key.column items k b h)

through-up : (items : List Expr) (order : List KeyOrder) (a b : Row) → IsUpTo order a b → IsUpTo (through items order) (projected items a) (projected items b)
through-up items [] a b h = refl
through-up items (key ∷ order) a b h = at_place (first_place key.column items) refl (through-up items order a b)
  where
    at_place : (p : Option ℕ) → first_place key.column items ≡ p → (IsUpTo order a b → IsUpTo (through items order) (projected items a) (projected items b))
        → IsUpTo (and_then key p (through items order)) (projected items a) (projected items b)
    at_place None is more = refl
    at_place (Some k) is more =
        subst (λ o. is_lt (ordering_then o (row_cmp (through items order) (projected items b) (projected items a))) ≡ false) (sym (key-through items key k b a is))
        (then-up (key_cmp key (column_of b key.column) (column_of a key.column)) (row_cmp (through items order) (projected items b) (projected items a)) (row_cmp order b a) h more)

pub project-order : (items : List Expr) (order : List KeyOrder) (rows : List Row) → IsInOrder order rows → IsInOrder (through items order) (map (projected items) rows)
project-order items order rows h =
    order-from (through items order) (map (projected items) rows)
    (Rises-map (IsUpTo order) (IsUpTo (through items order)) (projected items) (λ a b. through-up items order a b) rows (rises-from order rows h))
