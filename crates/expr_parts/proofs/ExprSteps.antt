-- Expressions by cases, and what their definitions are at each variant.
use Rattle.std.proofs.Common.{◌≡◌, ℕ, false, List, [], ◌∷◌, ◌++◌, Option, sym, ◌∙◌, ap, subst, slice_get}
use Rattle.std.specs.Option.{option_and_then, option_map}
use Rattle.cal_value.specs.declared.kind.SqlType.{SqlType}
use Rattle.cal_value.specs.declared.operator.Op.{Op}
use Rattle.cal_value.specs.declared.value.Value.{Value}
use Rattle.cal_value.specs.declared.value.Value.TheVariants.{Bool as BoolValue}
use Rattle.cal_value.specs.Logic.{not3, truth_of, value_of, is_null}
use Rattle.cal_value.specs.Order.{column_of}
use Rattle.cal_value.specs.Types.{boolean_type}
use Rattle.cal_expr.specs.declared.expr.Expr.{Expr}
use Rattle.cal_expr.specs.declared.expr.Expr.TheFolds.{fold-Expr, fold-roll-Expr, ind-Expr, map-Expr}
use Rattle.cal_expr.specs.declared.expr.Expr.TheOpen.{Expr-F}
use Rattle.cal_expr.specs.declared.expr.Expr.TheVariants.{Column, Literal, Negate, Binary, Not, IsNull, rolls-Column, rolls-Literal, rolls-Negate, rolls-Binary, rolls-Not, rolls-IsNull}
use Rattle.cal_expr.specs.declared.expr.Expr.TheViews.{roll-Expr}
use Rattle.cal_expr.specs.Meaning.{meaning_of, meaning_step, applied, negated}
use Rattle.cal_expr.specs.Typing.{type_of, type_step, column_type, literal_type, negation_type, not_type, op_type, of_both}
use Rattle.expr_parts.specs.Columns.{columns_read, columns_step, with_columns, with_step}
use Rattle.expr_parts.specs.Conjuncts.{Split, split_step, alone, of_literal, of_operator}

-- ---- by cases

-- what holds at each variant, given that it holds of the parts
pub record AtEach (P : Expr → Type 0) : Type 0 where
  pub column : (at : ℕ) → P (Column at)
  pub literal : (v : Value) → P (Literal v)
  pub negate : (e : Expr) → P e → P (Negate e)
  pub binary : (op : Op) (a b : Expr) → P a → P b → P (Binary op a b)
  pub not : (e : Expr) → P e → P (Not e)
  pub is_null : (e : Expr) → P e → P (IsNull e)

level : (P : Expr → Type 0) → AtEach P → (y : Expr-F ((e : Expr) × P e)) → P (roll-Expr (map-Expr ((e : Expr) × P e) Expr (λ e. e.0) y))
level P each (Expr-F.Column at) = subst P (sym (rolls-Column at)) (each.column at)
level P each (Expr-F.Literal v) = subst P (sym (rolls-Literal v)) (each.literal v)
level P each (Expr-F.Negate e) = subst P (sym (rolls-Negate e.0)) (each.negate e.0 e.1)
level P each (Expr-F.Binary op a b) = subst P (sym (rolls-Binary op a.0 b.0)) (each.binary op a.0 b.0 a.1 b.1)
level P each (Expr-F.Not e) = subst P (sym (rolls-Not e.0)) (each.not e.0 e.1)
level P each (Expr-F.IsNull e) = subst P (sym (rolls-IsNull e.0)) (each.is_null e.0 e.1)

-- it then holds of each expression
pub each_expr : (P : Expr → Type 0) → AtEach P → (e : Expr) → P e
each_expr P each = ind-Expr P (λ x y is. subst (λ z. P (roll-Expr z)) is (level P each y))

-- ---- values

pub meaning-Column : (at : ℕ) (row : List Value) → meaning_of (Column at) row ≡ column_of row at
meaning-Column at row = ap (λ e. meaning_of e row) (sym (rolls-Column at)) ∙ fold-roll-Expr Value (meaning_step row) (Expr-F.Column at)

pub meaning-Literal : (v : Value) (row : List Value) → meaning_of (Literal v) row ≡ v
meaning-Literal v row = ap (λ e. meaning_of e row) (sym (rolls-Literal v)) ∙ fold-roll-Expr Value (meaning_step row) (Expr-F.Literal v)

pub meaning-Negate : (e : Expr) (row : List Value) → meaning_of (Negate e) row ≡ negated (meaning_of e row)
meaning-Negate e row = ap (λ e. meaning_of e row) (sym (rolls-Negate e)) ∙ fold-roll-Expr Value (meaning_step row) (Expr-F.Negate e)

pub meaning-Binary : (op : Op) (a b : Expr) (row : List Value) → meaning_of (Binary op a b) row ≡ applied op (meaning_of a row) (meaning_of b row)
meaning-Binary op a b row = ap (λ e. meaning_of e row) (sym (rolls-Binary op a b)) ∙ fold-roll-Expr Value (meaning_step row) (Expr-F.Binary op a b)

pub meaning-Not : (e : Expr) (row : List Value) → meaning_of (Not e) row ≡ value_of (not3 (truth_of (meaning_of e row)))
meaning-Not e row = ap (λ e. meaning_of e row) (sym (rolls-Not e)) ∙ fold-roll-Expr Value (meaning_step row) (Expr-F.Not e)

pub meaning-IsNull : (e : Expr) (row : List Value) → meaning_of (IsNull e) row ≡ BoolValue (is_null (meaning_of e row))
meaning-IsNull e row = ap (λ e. meaning_of e row) (sym (rolls-IsNull e)) ∙ fold-roll-Expr Value (meaning_step row) (Expr-F.IsNull e)

-- ---- types

pub type-Column : (at : ℕ) (ts : List SqlType) → type_of (Column at) ts ≡ option_and_then column_type (slice_get ts at)
type-Column at ts = ap (λ e. type_of e ts) (sym (rolls-Column at)) ∙ fold-roll-Expr (Option SqlType) (type_step ts) (Expr-F.Column at)

pub type-Literal : (v : Value) (ts : List SqlType) → type_of (Literal v) ts ≡ literal_type v
type-Literal v ts = ap (λ e. type_of e ts) (sym (rolls-Literal v)) ∙ fold-roll-Expr (Option SqlType) (type_step ts) (Expr-F.Literal v)

pub type-Negate : (e : Expr) (ts : List SqlType) → type_of (Negate e) ts ≡ option_and_then negation_type (type_of e ts)
type-Negate e ts = ap (λ e. type_of e ts) (sym (rolls-Negate e)) ∙ fold-roll-Expr (Option SqlType) (type_step ts) (Expr-F.Negate e)

pub type-Binary : (op : Op) (a b : Expr) (ts : List SqlType) → type_of (Binary op a b) ts ≡ of_both (op_type op) (type_of a ts) (type_of b ts)
type-Binary op a b ts = ap (λ e. type_of e ts) (sym (rolls-Binary op a b)) ∙ fold-roll-Expr (Option SqlType) (type_step ts) (Expr-F.Binary op a b)

pub type-Not : (e : Expr) (ts : List SqlType) → type_of (Not e) ts ≡ option_and_then not_type (type_of e ts)
type-Not e ts = ap (λ e. type_of e ts) (sym (rolls-Not e)) ∙ fold-roll-Expr (Option SqlType) (type_step ts) (Expr-F.Not e)

pub type-IsNull : (e : Expr) (ts : List SqlType) → type_of (IsNull e) ts ≡ option_map (λ _. boolean_type false) (type_of e ts)
type-IsNull e ts = ap (λ e. type_of e ts) (sym (rolls-IsNull e)) ∙ fold-roll-Expr (Option SqlType) (type_step ts) (Expr-F.IsNull e)

-- ---- columns

pub columns-Column : (at : ℕ) → columns_read (Column at) ≡ at ∷ []
columns-Column at = ap columns_read (sym (rolls-Column at)) ∙ fold-roll-Expr (List ℕ) columns_step (Expr-F.Column at)

pub columns-Literal : (v : Value) → columns_read (Literal v) ≡ []
columns-Literal v = ap columns_read (sym (rolls-Literal v)) ∙ fold-roll-Expr (List ℕ) columns_step (Expr-F.Literal v)

pub columns-Negate : (e : Expr) → columns_read (Negate e) ≡ columns_read e
columns-Negate e = ap columns_read (sym (rolls-Negate e)) ∙ fold-roll-Expr (List ℕ) columns_step (Expr-F.Negate e)

pub columns-Binary : (op : Op) (a b : Expr) → columns_read (Binary op a b) ≡ columns_read a ++ columns_read b
columns-Binary op a b = ap columns_read (sym (rolls-Binary op a b)) ∙ fold-roll-Expr (List ℕ) columns_step (Expr-F.Binary op a b)

pub columns-Not : (e : Expr) → columns_read (Not e) ≡ columns_read e
columns-Not e = ap columns_read (sym (rolls-Not e)) ∙ fold-roll-Expr (List ℕ) columns_step (Expr-F.Not e)

pub columns-IsNull : (e : Expr) → columns_read (IsNull e) ≡ columns_read e
columns-IsNull e = ap columns_read (sym (rolls-IsNull e)) ∙ fold-roll-Expr (List ℕ) columns_step (Expr-F.IsNull e)

-- ---- other expressions in the place of columns

pub with-Column : (f : ℕ → Expr) (at : ℕ) → with_columns f (Column at) ≡ f at
with-Column f at = ap (with_columns f) (sym (rolls-Column at)) ∙ fold-roll-Expr Expr (with_step f) (Expr-F.Column at)

pub with-Literal : (f : ℕ → Expr) (v : Value) → with_columns f (Literal v) ≡ Literal v
with-Literal f v = ap (with_columns f) (sym (rolls-Literal v)) ∙ fold-roll-Expr Expr (with_step f) (Expr-F.Literal v)

pub with-Negate : (f : ℕ → Expr) (e : Expr) → with_columns f (Negate e) ≡ Negate (with_columns f e)
with-Negate f e = ap (with_columns f) (sym (rolls-Negate e)) ∙ fold-roll-Expr Expr (with_step f) (Expr-F.Negate e)

pub with-Binary : (f : ℕ → Expr) (op : Op) (a b : Expr) → with_columns f (Binary op a b) ≡ Binary op (with_columns f a) (with_columns f b)
with-Binary f op a b = ap (with_columns f) (sym (rolls-Binary op a b)) ∙ fold-roll-Expr Expr (with_step f) (Expr-F.Binary op a b)

pub with-Not : (f : ℕ → Expr) (e : Expr) → with_columns f (Not e) ≡ Not (with_columns f e)
with-Not f e = ap (with_columns f) (sym (rolls-Not e)) ∙ fold-roll-Expr Expr (with_step f) (Expr-F.Not e)

pub with-IsNull : (f : ℕ → Expr) (e : Expr) → with_columns f (IsNull e) ≡ IsNull (with_columns f e)
with-IsNull f e = ap (with_columns f) (sym (rolls-IsNull e)) ∙ fold-roll-Expr Expr (with_step f) (Expr-F.IsNull e)

-- ---- conjuncts

abbrev pub split_of : Expr → Split
split_of e = fold-Expr Split split_step e

pub split-Column : (at : ℕ) → split_of (Column at) ≡ alone (Column at)
split-Column at = ap split_of (sym (rolls-Column at)) ∙ fold-roll-Expr Split split_step (Expr-F.Column at)

pub split-Literal : (v : Value) → split_of (Literal v) ≡ record { whole = Literal v; conjuncts = of_literal v }
split-Literal v = ap split_of (sym (rolls-Literal v)) ∙ fold-roll-Expr Split split_step (Expr-F.Literal v)

pub split-Negate : (e : Expr) → split_of (Negate e) ≡ alone (Negate (split_of e).whole)
split-Negate e = ap split_of (sym (rolls-Negate e)) ∙ fold-roll-Expr Split split_step (Expr-F.Negate e)

pub split-Binary : (op : Op) (a b : Expr) → split_of (Binary op a b)
    ≡ record { whole = Binary op (split_of a).whole (split_of b).whole; conjuncts = of_operator op (split_of a) (split_of b) }
split-Binary op a b = ap split_of (sym (rolls-Binary op a b)) ∙ fold-roll-Expr Split split_step (Expr-F.Binary op a b)

pub split-Not : (e : Expr) → split_of (Not e) ≡ alone (Not (split_of e).whole)
split-Not e = ap split_of (sym (rolls-Not e)) ∙ fold-roll-Expr Split split_step (Expr-F.Not e)

pub split-IsNull : (e : Expr) → split_of (IsNull e) ≡ alone (IsNull (split_of e).whole)
split-IsNull e = ap split_of (sym (rolls-IsNull e)) ∙ fold-roll-Expr Split split_step (Expr-F.IsNull e)
