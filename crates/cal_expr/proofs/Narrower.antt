-- Narrower types of the columns keep an expression well formed, with a type at most as wide.
use Rattle.std.proofs.Common.{◌≡◌, ℕ, zero, suc, Bool, true, false, cond, ◌&&◌, ◌||◌, refl, ap, ◌∙◌, sym, subst, ℤ, ◌+ℤ◌, ◌-ℤ◌, ◌*ℤ◌, List, [], ◌∷◌, Option, Some, None, slice_get}
use Rattle.std.specs.Int.RustNames.{int_div}
use Rattle.std.specs.Int.Signed.{≤ℤ_refl}
use Rattle.std.specs.Option.{option_and_then, option_map}
use Rattle.cal_value.specs.declared.kind.Kind.{Kind}
use Rattle.cal_value.specs.declared.kind.Kind.TheVariants.{Boolean, Integer}
use Rattle.cal_value.specs.declared.kind.SqlType.{SqlType}
use Rattle.cal_value.specs.declared.interval.Interval.TheVariants.{Range}
use Rattle.cal_value.specs.declared.operator.Op.{Op}
use Rattle.cal_value.specs.declared.operator.Op.TheVariants.{Add, Subtract, Multiply, Divide, Equal, NotEqual, Less, LessEqual, Greater, GreaterEqual, And, Or}
use Rattle.cal_value.specs.declared.value.Value.{Value}
use Rattle.cal_value.specs.declared.value.Value.TheVariants.{Null, Bool as BoolValue, Int, Text}
use Rattle.cal_value.specs.Interval.{IsWithin, at_ends, excludes_zero, negated as negated_interval}
use Rattle.cal_value.specs.Narrower.{StillTyped}
use Rattle.cal_value.specs.Types.{IsAtMostAsWide, AreAtMostAsWide, boolean_type, text_type, number_type, same_kind, is_integer, is_boolean}
use Rattle.cal_value.proofs.IntervalLaws.{within-sum, within-difference, within-product, within-quotient, within-excludes_zero, within-negation}
use Rattle.cal_value.proofs.TypeLaws.{number_type-narrower}
use Rattle.cal_value.proofs.TypeLemmas.{and-both, or-left, or-right, same_kind-is}
use Rattle.cal_expr.specs.declared.expr.Expr.{Expr}
use Rattle.cal_expr.specs.declared.expr.Expr.TheFolds.{fold-roll-Expr, ind-Expr, map-Expr}
use Rattle.cal_expr.specs.declared.expr.Expr.TheOpen.{Expr-F}
use Rattle.cal_expr.specs.declared.expr.Expr.TheViews.{roll-Expr}
use Rattle.cal_expr.specs.Typing.{type_of, type_step, literal_type, column_type, negation_type, not_type, arithmetic_type, quotient_type, comparison_type, connective_type, op_type, of_both, either_nullable}

-- ---- choices

-- a choice that still holds, of types that are still types
still-if : (p q : Bool) (o u : Option SqlType) → (q ≡ true → p ≡ true) → (q ≡ true → StillTyped o u) → StillTyped (cond p o None) (cond q u None)
still-if p false o u h k = tt
still-if true true o u h k = k refl
still-if false true o u h k = absurd (cc (h refl))

kinds-back : (s t : SqlType) (k : Kind) → IsAtMostAsWide s t → same_kind t.kind k ≡ true → same_kind s.kind k ≡ true
kinds-back s t k w e = ap (λ z. same_kind z k) w.kind ∙ e

both-true : (p q : Bool) → p ≡ true → q ≡ true → (p && q) ≡ true
both-true p q e f = cc

both-back : (s s' t t' : SqlType) (k : Kind) → IsAtMostAsWide s s' → IsAtMostAsWide t t' → (same_kind s'.kind k && same_kind t'.kind k) ≡ true → (same_kind s.kind k && same_kind t.kind k) ≡ true
both-back s s' t t' k w x e =
    let p = and-both (same_kind s'.kind k) (same_kind t'.kind k) e in
    both-true (same_kind s.kind k) (same_kind t.kind k) (kinds-back s s' k w p.0) (kinds-back t t' k x p.1)

-- one of two is NULL
either : (p q p' q' : Bool) → (p ≡ true → p' ≡ true) → (q ≡ true → q' ≡ true) → (p || q) ≡ true → (p' || q') ≡ true
either true q p' q' h k e = or-left p' q' (h refl)
either false true p' q' h k e = or-right p' q' (k refl)
either false false p' q' h k e = absurd (cc)

either-narrower : (s s' t t' : SqlType) → IsAtMostAsWide s s' → IsAtMostAsWide t t' → either_nullable s t ≡ true → either_nullable s' t' ≡ true
either-narrower s s' t t' w x = either s.nullable t.nullable s'.nullable t'.nullable w.nullable x.nullable

boolean-narrower : (m n : Bool) → (m ≡ true → n ≡ true) → IsAtMostAsWide (boolean_type m) (boolean_type n)
boolean-narrower m n h = record { kind = refl; nullable = h; interval = λ k. absurd (cc) }

text-narrower : (m n : Bool) → (m ≡ true → n ≡ true) → IsAtMostAsWide (text_type m) (text_type n)
text-narrower m n h = record { kind = refl; nullable = h; interval = λ k. absurd (cc) }

-- ---- one operation

-- where both operands are numbers, their intervals are narrower
intervals : (s s' t t' : SqlType) → IsAtMostAsWide s s' → IsAtMostAsWide t t' → (is_integer s' && is_integer t') ≡ true → IsWithin s.interval s'.interval × IsWithin t.interval t'.interval
intervals s s' t t' w x e =
    let p = and-both (is_integer s') (is_integer t') e in
    (w.interval (w.kind ∙ same_kind-is s'.kind Integer p.0), x.interval (x.kind ∙ same_kind-is t'.kind Integer p.1))

module _ (s s' t t' : SqlType) (w : IsAtMostAsWide s s') (x : IsAtMostAsWide t t') where
  arithmetic-narrower : (f : ℤ → ℤ → ℤ) → (IsWithin s.interval s'.interval → IsWithin t.interval t'.interval → IsWithin (at_ends f s.interval t.interval) (at_ends f s'.interval t'.interval))
      → StillTyped (arithmetic_type f s t) (arithmetic_type f s' t')
  arithmetic-narrower f within =
      still-if (is_integer s && is_integer t) (is_integer s' && is_integer t')
      (number_type (either_nullable s t) (at_ends f s.interval t.interval)) (number_type (either_nullable s' t') (at_ends f s'.interval t'.interval))
      (both-back s s' t t' Integer w x)
      (λ e. let i = intervals s s' t t' w x e in
      number_type-narrower (either_nullable s t) (either_nullable s' t') (at_ends f s.interval t.interval) (at_ends f s'.interval t'.interval) (either-narrower s s' t t' w x) (within i.0 i.1))

  quotient-narrower : StillTyped (quotient_type s t) (quotient_type s' t')
  quotient-narrower = by (excludes_zero t'.interval) refl (is_integer s' && is_integer t') refl
    where
      wide : Option SqlType
      wide = number_type (either_nullable s' t') (at_ends int_div s'.interval t'.interval)

      by : (p : Bool) → excludes_zero t'.interval ≡ p → (q : Bool) → (is_integer s' && is_integer t') ≡ q → StillTyped (quotient_type s t) (cond p (cond q wide None) None)
      by false e q g = tt
      by true e false g = tt
      by true e true g =
          let i = intervals s s' t t' w x g in
          let apart = within-excludes_zero t.interval t'.interval i.1 e in
          let still = arithmetic-narrower int_div (within-quotient s.interval t.interval s'.interval t'.interval e) in
          subst (λ b. StillTyped (cond b (arithmetic_type int_div s t) None) (cond true wide None)) (sym apart)
          (subst (λ b. StillTyped (arithmetic_type int_div s t) (cond b wide None)) g still)

  comparison-narrower : StillTyped (comparison_type s t) (comparison_type s' t')
  comparison-narrower =
      still-if (same_kind s.kind t.kind) (same_kind s'.kind t'.kind) (Some (boolean_type (either_nullable s t))) (Some (boolean_type (either_nullable s' t')))
      (λ e. ap (λ z. same_kind z t.kind) w.kind ∙ ap (same_kind s'.kind) x.kind ∙ e)
      (λ e. boolean-narrower (either_nullable s t) (either_nullable s' t') (either-narrower s s' t t' w x))

  connective-narrower : StillTyped (connective_type s t) (connective_type s' t')
  connective-narrower =
      still-if (is_boolean s && is_boolean t) (is_boolean s' && is_boolean t') (Some (boolean_type (either_nullable s t))) (Some (boolean_type (either_nullable s' t')))
      (both-back s s' t t' Boolean w x)
      (λ e. boolean-narrower (either_nullable s t) (either_nullable s' t') (either-narrower s s' t t' w x))

  op-narrower : (op : Op) → StillTyped (op_type op s t) (op_type op s' t')
  op-narrower Add = arithmetic-narrower ◌+ℤ◌ (within-sum s.interval t.interval s'.interval t'.interval)
  op-narrower Subtract = arithmetic-narrower ◌-ℤ◌ (within-difference s.interval t.interval s'.interval t'.interval)
  op-narrower Multiply = arithmetic-narrower ◌*ℤ◌ (within-product s.interval t.interval s'.interval t'.interval)
  op-narrower Divide = quotient-narrower
  op-narrower Equal = comparison-narrower
  op-narrower NotEqual = comparison-narrower
  op-narrower Less = comparison-narrower
  op-narrower LessEqual = comparison-narrower
  op-narrower Greater = comparison-narrower
  op-narrower GreaterEqual = comparison-narrower
  op-narrower And = connective-narrower
  op-narrower Or = connective-narrower

negation-narrower : (s t : SqlType) → IsAtMostAsWide s t → StillTyped (negation_type s) (negation_type t)
negation-narrower s t w =
    still-if (is_integer s) (is_integer t) (number_type s.nullable (negated_interval s.interval)) (number_type t.nullable (negated_interval t.interval))
    (kinds-back s t Integer w)
    (λ e. number_type-narrower s.nullable t.nullable (negated_interval s.interval) (negated_interval t.interval) w.nullable
    (within-negation s.interval t.interval (w.interval (w.kind ∙ same_kind-is t.kind Integer e))))

not-narrower : (s t : SqlType) → IsAtMostAsWide s t → StillTyped (not_type s) (not_type t)
not-narrower s t w =
    still-if (is_boolean s) (is_boolean t) (Some (boolean_type s.nullable)) (Some (boolean_type t.nullable))
    (kinds-back s t Boolean w) (λ e. boolean-narrower s.nullable t.nullable w.nullable)

column-narrower : (s t : SqlType) → IsAtMostAsWide s t → StillTyped (column_type s) (column_type t)
column-narrower s t w = by (is_integer t) refl (is_integer s) (ap (λ z. same_kind z Integer) w.kind)
  where
    by : (q : Bool) → is_integer t ≡ q → (p : Bool) → p ≡ is_integer t
        → StillTyped (cond p (number_type s.nullable s.interval) (Some s)) (cond q (number_type t.nullable t.interval) (Some t))
    by true e true f = number_type-narrower s.nullable t.nullable s.interval t.interval w.nullable (w.interval (w.kind ∙ same_kind-is t.kind Integer e))
    by true e false f = absurd (cc)
    by false e true f = absurd (cc)
    by false e false f = w

literal-narrower : (v : Value) → StillTyped (literal_type v) (literal_type v)
literal-narrower Null = tt
literal-narrower (BoolValue b) = boolean-narrower false false (λ h. h)
literal-narrower (Int n) = number_type-narrower false false (Range n n) (Range n n) (λ h. h) ((≤ℤ_refl n, ≤ℤ_refl n), (≤ℤ_refl n, ≤ℤ_refl n))
literal-narrower (Text t) = text-narrower false false (λ h. h)

-- ---- parts that are still types

still-both : (op : Op) (o p o' p' : Option SqlType) → StillTyped o o' → StillTyped p p' → StillTyped (of_both (op_type op) o p) (of_both (op_type op) o' p')
still-both op o p None p' h k = tt
still-both op o p (Some s') None h k = tt
still-both op None p (Some s') (Some t') h k = absurd h
still-both op (Some s) None (Some s') (Some t') h k = absurd k
still-both op (Some s) (Some t) (Some s') (Some t') h k = op-narrower s s' t t' h k op

still-one : (g : SqlType → Option SqlType) → ((s t : SqlType) → IsAtMostAsWide s t → StillTyped (g s) (g t)) → (o o' : Option SqlType) → StillTyped o o' → StillTyped (option_and_then g o) (option_and_then g o')
still-one g step o None h = tt
still-one g step None (Some t) h = absurd h
still-one g step (Some s) (Some t) h = step s t h

still-null : (o o' : Option SqlType) → StillTyped o o' → StillTyped (option_map (λ _. boolean_type false) o) (option_map (λ _. boolean_type false) o')
still-null o None h = tt
still-null None (Some t) h = absurd h
still-null (Some s) (Some t) h = boolean-narrower false false (λ e. e)

still-column : (ss ts : List SqlType) (at : ℕ) → AreAtMostAsWide ss ts → StillTyped (option_and_then column_type (slice_get ss at)) (option_and_then column_type (slice_get ts at))
still-column [] [] at w = tt
still-column [] (t ∷ ts) at w = absurd w
still-column (s ∷ ss) [] at w = absurd w
still-column (s ∷ ss) (t ∷ ts) zero w = column-narrower s t w.0
still-column (s ∷ ss) (t ∷ ts) (suc at) w = still-column ss ts at w.1

-- ---- a whole expression

abbrev IsStill : List SqlType → List SqlType → Expr → Type 0
IsStill ss ts e = StillTyped (type_of e ss) (type_of e ts)

-- one level, whose parts are still typed
abbrev IsStillLevel : List SqlType → List SqlType → Expr-F Expr → Type 0
IsStillLevel ss ts x = StillTyped (type_step ss (map-Expr Expr (Option SqlType) (λ e. type_of e ss) x)) (type_step ts (map-Expr Expr (Option SqlType) (λ e. type_of e ts) x))

level : (ss ts : List SqlType) → AreAtMostAsWide ss ts → (y : Expr-F ((e : Expr) × IsStill ss ts e)) → IsStillLevel ss ts (map-Expr ((e : Expr) × IsStill ss ts e) Expr (λ e. e.0) y)
level ss ts w (Expr-F.Column at) = still-column ss ts at w
level ss ts w (Expr-F.Literal v) = literal-narrower v
level ss ts w (Expr-F.Negate e) = still-one negation_type negation-narrower (type_of e.0 ss) (type_of e.0 ts) e.1
level ss ts w (Expr-F.Binary op l r) = still-both op (type_of l.0 ss) (type_of r.0 ss) (type_of l.0 ts) (type_of r.0 ts) l.1 r.1
level ss ts w (Expr-F.Not e) = still-one not_type not-narrower (type_of e.0 ss) (type_of e.0 ts) e.1
level ss ts w (Expr-F.IsNull e) = still-null (type_of e.0 ss) (type_of e.0 ts) e.1

at_roll : (ss ts : List SqlType) (x : Expr-F Expr) → IsStillLevel ss ts x → IsStill ss ts (roll-Expr x)
at_roll ss ts x l = rw (fold-roll-Expr (Option SqlType) (type_step ss) x, fold-roll-Expr (Option SqlType) (type_step ts) x) l

pub type_of-narrower : (ss ts : List SqlType) → AreAtMostAsWide ss ts → (e : Expr) → StillTyped (type_of e ss) (type_of e ts)
type_of-narrower ss ts w = ind-Expr (IsStill ss ts) (λ x y is. subst (λ z. IsStill ss ts (roll-Expr z)) is (at_roll ss ts _ (level ss ts w y)))
