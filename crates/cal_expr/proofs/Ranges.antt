-- The interval of a well-formed expression is in range, and its ends stand in order.
use Rattle.std.proofs.Common.{◌≡◌, ℕ, zero, suc, Bool, true, false, cond, ◌&&◌, refl, ap, ◌∙◌, sym, subst, ℤ, ◌+ℤ◌, ◌-ℤ◌, ◌*ℤ◌, List, [], ◌∷◌, All, Option, Some, None, slice_get}
use Rattle.std.specs.Int.RustNames.{int_div}
use Rattle.std.specs.Int.Signed.{≤ℤ_refl}
use Rattle.std.specs.Option.{option_and_then, option_map}
use Rattle.std.proofs.lemmas.List.Elements.{All-head, All-tail}
use Rattle.cal_value.specs.declared.interval.Interval.{Interval}
use Rattle.cal_value.specs.declared.interval.Interval.TheVariants.{Range}
use Rattle.cal_value.specs.declared.kind.Kind.TheVariants.{Integer}
use Rattle.cal_value.specs.declared.kind.SqlType.{SqlType}
use Rattle.cal_value.specs.declared.operator.Op.{Op}
use Rattle.cal_value.specs.declared.operator.Op.TheVariants.{Add, Subtract, Multiply, Divide, Equal, NotEqual, Less, LessEqual, Greater, GreaterEqual, And, Or}
use Rattle.cal_value.specs.declared.value.Value.{Value}
use Rattle.cal_value.specs.declared.value.Value.TheVariants.{Null, Bool as BoolValue, Int, Text}
use Rattle.cal_value.specs.Interval.{IsProper, is_in_range, at_ends, excludes_zero, negated as negated_interval}
use Rattle.cal_value.specs.Types.{IsProperType, boolean_type, text_type, number_type, same_kind, is_integer, is_boolean}
use Rattle.cal_value.proofs.IntervalLaws.{proper-at_ends, proper-negated}
use Rattle.cal_value.proofs.TypeLemmas.{some_is, number_type-is, same_kind-is}
use Rattle.cal_expr.specs.declared.expr.Expr.{Expr}
use Rattle.cal_expr.specs.declared.expr.Expr.TheFolds.{fold-roll-Expr, ind-Expr, map-Expr}
use Rattle.cal_expr.specs.declared.expr.Expr.TheOpen.{Expr-F}
use Rattle.cal_expr.specs.declared.expr.Expr.TheViews.{roll-Expr}
use Rattle.cal_expr.specs.Typing.{type_of, type_step, literal_type, column_type, negation_type, not_type, arithmetic_type, comparison_type, connective_type, op_type, of_both, either_nullable}

module _ (Q : Interval → Type 0) (ends : (f : ℤ → ℤ → ℤ) (i j : Interval) → Q (at_ends f i j)) (negation : (i : Interval) → Q i → Q (negated_interval i)) (one : (n : ℤ) → Q (Range n n)) where
  -- a type of numbers has it
  abbrev IsKept : SqlType → Type 0
  IsKept t = t.kind ≡ Integer → Q t.interval

  -- in range, and with a property that arithmetic gives and negation keeps
  record IsRanged (t : SqlType) : Type 0 where
    range : is_in_range t.interval ≡ true
    kept : Q t.interval

  -- of numbers alone
  abbrev Ranged : SqlType → Type 0
  Ranged t = t.kind ≡ Integer → IsRanged t

  abbrev SomeRanged : Option SqlType → Type 0
  SomeRanged o = (t : SqlType) → o ≡ Some t → Ranged t

  number-ranged : (nullable : Bool) (i : Interval) → Q i → SomeRanged (number_type nullable i)
  number-ranged nullable i p t e k =
      let is = number_type-is nullable i t e in
      subst IsRanged is.1 (record { range = is.0; kept = p })

  boolean-ranged : (nullable : Bool) → SomeRanged (Some (boolean_type nullable))
  boolean-ranged nullable t e k = absurd (let is = some_is (boolean_type nullable) t e in cc)

  text-ranged : (nullable : Bool) → SomeRanged (Some (text_type nullable))
  text-ranged nullable t e k = absurd (let is = some_is (text_type nullable) t e in cc)

  if-ranged : (b : Bool) (o : Option SqlType) → (b ≡ true → SomeRanged o) → SomeRanged (cond b o None)
  if-ranged true o h t e k = h refl t e k
  if-ranged false o h t e k = absurd (cc)

  op-ranged : (op : Op) (s t : SqlType) → SomeRanged (op_type op s t)
  op-ranged op s t = by op
    where
      numbers : (f : ℤ → ℤ → ℤ) → SomeRanged (arithmetic_type f s t)
      numbers f = if-ranged (is_integer s && is_integer t) (number_type (either_nullable s t) (at_ends f s.interval t.interval)) (λ h. number-ranged (either_nullable s t) (at_ends f s.interval t.interval) (ends f s.interval t.interval))

      comparison : SomeRanged (comparison_type s t)
      comparison = if-ranged (same_kind s.kind t.kind) (Some (boolean_type (either_nullable s t))) (λ h. boolean-ranged (either_nullable s t))

      connective : SomeRanged (connective_type s t)
      connective = if-ranged (is_boolean s && is_boolean t) (Some (boolean_type (either_nullable s t))) (λ h. boolean-ranged (either_nullable s t))

      by : (op : Op) → SomeRanged (op_type op s t)
      by Add = numbers ◌+ℤ◌
      by Subtract = numbers ◌-ℤ◌
      by Multiply = numbers ◌*ℤ◌
      by Divide = if-ranged (excludes_zero t.interval) (arithmetic_type int_div s t) (λ h. numbers int_div)
      by Equal = comparison
      by NotEqual = comparison
      by Less = comparison
      by LessEqual = comparison
      by Greater = comparison
      by GreaterEqual = comparison
      by And = connective
      by Or = connective

  both-ranged : (op : Op) (o p : Option SqlType) → SomeRanged (of_both (op_type op) o p)
  both-ranged op None p t e k = absurd (cc)
  both-ranged op (Some s) None t e k = absurd (cc)
  both-ranged op (Some s) (Some u) t e k = op-ranged op s u t e k

  negation-ranged : (o : Option SqlType) → SomeRanged o → SomeRanged (option_and_then negation_type o)
  negation-ranged None h t e k = absurd (cc)
  negation-ranged (Some s) h t e k = if-ranged (is_integer s) (number_type s.nullable (negated_interval s.interval)) (λ i. number-ranged s.nullable (negated_interval s.interval) (negation s.interval (h s refl (same_kind-is s.kind Integer i)).kept)) t e k

  not-ranged : (o : Option SqlType) → SomeRanged (option_and_then not_type o)
  not-ranged None t e k = absurd (cc)
  not-ranged (Some s) t e k = if-ranged (is_boolean s) (Some (boolean_type s.nullable)) (λ i. boolean-ranged s.nullable) t e k

  null-ranged : (o : Option SqlType) → SomeRanged (option_map (λ _. boolean_type false) o)
  null-ranged None t e k = absurd (cc)
  null-ranged (Some s) t e k = boolean-ranged false t e k

  literal-ranged : (v : Value) → SomeRanged (literal_type v)
  literal-ranged Null t e k = absurd (cc)
  literal-ranged (BoolValue b) t e k = boolean-ranged false t e k
  literal-ranged (Int n) t e k = number-ranged false (Range n n) (one n) t e k
  literal-ranged (Text s) t e k = text-ranged false t e k

  column-ranged : (s : SqlType) → IsKept s → SomeRanged (column_type s)
  column-ranged s p t e k = by (is_integer s) refl e
    where
      by : (b : Bool) → is_integer s ≡ b → cond b (number_type s.nullable s.interval) (Some s) ≡ Some t → IsRanged t
      by true i f = number-ranged s.nullable s.interval (p (same_kind-is s.kind Integer i)) t f k
      by false i f = absurd (let no : false ≡ true = sym i ∙ ap is_integer (some_is s t f) ∙ ap (λ z. same_kind z Integer) k in cc)

  columns-ranged : (ts : List SqlType) (at : ℕ) → All IsKept ts → SomeRanged (option_and_then column_type (slice_get ts at))
  columns-ranged [] at all t e k = absurd (cc)
  columns-ranged (s ∷ ts) zero all t e k = column-ranged s (All-head IsKept s ts all) t e k
  columns-ranged (s ∷ ts) (suc at) all t e k = columns-ranged ts at (All-tail IsKept s ts all) t e k

  -- ---- a whole expression

  abbrev IsRangedIn : List SqlType → Expr → Type 0
  IsRangedIn ts e = SomeRanged (type_of e ts)

  level : (ts : List SqlType) → All IsKept ts → (y : Expr-F ((e : Expr) × IsRangedIn ts e)) → SomeRanged (type_step ts (map-Expr Expr (Option SqlType) (λ e. type_of e ts) (map-Expr ((e : Expr) × IsRangedIn ts e) Expr (λ e. e.0) y)))
  level ts all (Expr-F.Column at) = columns-ranged ts at all
  level ts all (Expr-F.Literal v) = literal-ranged v
  level ts all (Expr-F.Negate e) = negation-ranged (type_of e.0 ts) e.1
  level ts all (Expr-F.Binary op l r) = both-ranged op (type_of l.0 ts) (type_of r.0 ts)
  level ts all (Expr-F.Not e) = not-ranged (type_of e.0 ts)
  level ts all (Expr-F.IsNull e) = null-ranged (type_of e.0 ts)

  at_roll : (ts : List SqlType) (x : Expr-F Expr) → SomeRanged (type_step ts (map-Expr Expr (Option SqlType) (λ e. type_of e ts) x)) → IsRangedIn ts (roll-Expr x)
  at_roll ts x l = rw (fold-roll-Expr (Option SqlType) (type_step ts) x) l

  ranged : (ts : List SqlType) → All IsKept ts → (e : Expr) → IsRangedIn ts e
  ranged ts all = ind-Expr (IsRangedIn ts) (λ x y is. subst (λ z. IsRangedIn ts (roll-Expr z)) is (at_roll ts _ (level ts all y)))

-- of any columns
abbrev IsAny : Interval → Type 0
IsAny i = Unit {0}

pub in_range : (ts : List SqlType) (e : Expr) (t : SqlType) → type_of e ts ≡ Some t → t.kind ≡ Integer → is_in_range t.interval ≡ true
in_range ts e t is k = (ranged IsAny (λ f i j. tt) (λ i h. tt) (λ n. tt) ts (λ i d l k. tt) e t is k).range

-- of columns whose ends stand in order
pub proper_type : (ts : List SqlType) (e : Expr) (t : SqlType) → All IsProperType ts → type_of e ts ≡ Some t → IsProperType t
proper_type ts e t all is k = (ranged IsProper proper-at_ends (λ i p. proper-negated i) ≤ℤ_refl ts all e t is k).kept
