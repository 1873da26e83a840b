-- The value of a well-formed expression is of its type.
use Rattle.std.proofs.Common.{◌≡◌, ℕ, zero, suc, Bool, true, false, cond, ◌&&◌, refl, ap, ◌∙◌, sym, subst, ℤ, pos, ◌+ℤ◌, ◌-ℤ◌, ◌*ℤ◌, List, [], ◌∷◌, Option, Some, None, ◌⊎◌, inl, inr, slice_get, IsSome}
use Rattle.std.specs.Int.RustNames.{int_div}
use Rattle.std.specs.Option.{option_and_then, option_map}
use Rattle.std.specs.Int.Signed.{≤ℤ_refl}
use Rattle.std.specs.declared.cmp.Ordering.{Ordering}
use Rattle.cal_value.specs.declared.kind.Kind.TheVariants.{Boolean, Integer, Text as TextKind}
use Rattle.cal_value.specs.declared.kind.SqlType.{SqlType}
use Rattle.cal_value.specs.declared.interval.Interval.{Interval}
use Rattle.cal_value.specs.declared.interval.Interval.TheVariants.{Range}
use Rattle.cal_value.specs.declared.operator.Op.{Op}
use Rattle.cal_value.specs.declared.operator.Op.TheVariants.{Add, Subtract, Multiply, Divide, Equal, NotEqual, Less, LessEqual, Greater, GreaterEqual, And, Or}
use Rattle.cal_value.specs.declared.value.Value.{Value}
use Rattle.cal_value.specs.declared.value.Value.TheVariants.{Null, Bool as BoolValue, Int, Text}
use Rattle.cal_value.specs.Held.{IsHeld}
use Rattle.cal_value.specs.Interval.{HoldsResults, at_ends, excludes_zero, negated as negated_interval}
use Rattle.cal_value.specs.Logic.{and3, or3, not3, truth_of, value_of, is_null}
use Rattle.cal_value.specs.Order.{column_of}
use Rattle.cal_value.specs.Types.{IsOfType, HasTypes, boolean_type, integer_type, text_type, number_type, same_kind, is_integer, is_boolean}
use Rattle.cal_value.proofs.IntervalLaws.{sum-holds, difference-holds, product-holds, quotient-holds, negation-holds, divisor_not_zero}
use Rattle.cal_value.proofs.TypeLemmas.{split_if, and-both, or-left, or-right, same_kind-is, some_is, number_type-is, along, typed-held}
use Rattle.cal_expr.specs.declared.expr.Expr.{Expr}
use Rattle.cal_expr.specs.declared.expr.Expr.TheFolds.{fold-roll-Expr, ind-Expr, map-Expr}
use Rattle.cal_expr.specs.declared.expr.Expr.TheOpen.{Expr-F}
use Rattle.cal_expr.specs.declared.expr.Expr.TheVariants.{Binary, Negate, rolls-Binary, rolls-Negate}
use Rattle.cal_expr.specs.declared.expr.Expr.TheViews.{roll-Expr}
use Rattle.cal_expr.specs.Meaning.{meaning_of, meaning_step, of_numbers, quotient, compared, passes, applied, negated}
use Rattle.cal_expr.specs.Typing.{type_of, type_step, literal_type, column_type, negation_type, not_type, arithmetic_type, quotient_type, comparison_type, connective_type, op_type, of_both, either_nullable}
use Rattle.cal_expr.specs.Held.{CanApply}
use Rattle.cal_expr.specs.WellFormed.{IsWellFormed, IsWellTyped}

-- ---- what an answer of a type function says

record OfNumbers (f : ℤ → ℤ → ℤ) (s t u : SqlType) : Type 0 where
  first : s.kind ≡ Integer
  second : t.kind ≡ Integer
  typed : number_type (either_nullable s t) (at_ends f s.interval t.interval) ≡ Some u
  is : integer_type (either_nullable s t) (at_ends f s.interval t.interval) ≡ u

arithmetic_type-is : (f : ℤ → ℤ → ℤ) (s t u : SqlType) → arithmetic_type f s t ≡ Some u → OfNumbers f s t u
arithmetic_type-is f s t u e =
    let p = split_if (is_integer s && is_integer t) (number_type (either_nullable s t) (at_ends f s.interval t.interval)) u e in
    let q = and-both (is_integer s) (is_integer t) p.0 in
    record {
      first = same_kind-is s.kind Integer q.0;
      second = same_kind-is t.kind Integer q.1;
      typed = p.1;
      is = (number_type-is (either_nullable s t) (at_ends f s.interval t.interval) u p.1).1;
    }

quotient_type-is : (s t u : SqlType) → quotient_type s t ≡ Some u → (excludes_zero t.interval ≡ true) × OfNumbers int_div s t u
quotient_type-is s t u e =
    let p = split_if (excludes_zero t.interval) (arithmetic_type int_div s t) u e in
    (p.0, arithmetic_type-is int_div s t u p.1)

-- ---- arithmetic

-- the value of one kind isn't of another
boolean_integer : (t : SqlType) → t.kind ≡ Boolean → t.kind ≡ Integer → ⊥
boolean_integer t e f = absurd (cc)

text_integer : (t : SqlType) → t.kind ≡ TextKind → t.kind ≡ Integer → ⊥
text_integer t e f = absurd (cc)

text_boolean : (t : SqlType) → t.kind ≡ TextKind → t.kind ≡ Boolean → ⊥
text_boolean t e f = absurd (cc)

-- of two numbers, or of NULL and a number
arithmetic_typed : (f : ℤ → ℤ → ℤ) (g : ℤ → ℤ → Value) (s t u : SqlType) → OfNumbers f s t u
    → ((x y : ℤ) → IsOfType (Int x) s → IsOfType (Int y) t → IsOfType (g x y) u)
    → (a b : Value) → IsOfType a s → IsOfType b t → IsOfType (of_numbers g a b) u
arithmetic_typed f g s t u n step = by
  where
    whole : SqlType
    whole = integer_type (either_nullable s t) (at_ends f s.interval t.interval)

    null : (either_nullable s t) ≡ true → IsOfType Null u
    null e = along Null whole u n.is e

    by : (a b : Value) → IsOfType a s → IsOfType b t → IsOfType (of_numbers g a b) u
    by Null b h k = null (or-left s.nullable t.nullable h)
    by (BoolValue x) b h k = absurd (boolean_integer s h n.first)
    by (Int x) Null h k = null (or-right s.nullable t.nullable k)
    by (Int x) (BoolValue y) h k = absurd (boolean_integer t k n.second)
    by (Int x) (Int y) h k = step x y h k
    by (Int x) (Text y) h k = absurd (text_integer t k n.second)
    by (Text x) b h k = absurd (text_integer s h n.first)

arithmetic-typed : (f : ℤ → ℤ → ℤ) → ((i j : Interval) → HoldsResults f i j (at_ends f i j)) → (a b : Value) (s t u : SqlType) → IsOfType a s → IsOfType b t → arithmetic_type f s t ≡ Some u
    → IsOfType (of_numbers (λ x y. Int (f x y)) a b) u
arithmetic-typed f holds a b s t u h k e =
    let n = arithmetic_type-is f s t u e in
    arithmetic_typed f (λ x y. Int (f x y)) s t u n
    (λ x y p q. along (Int (f x y)) (integer_type (either_nullable s t) (at_ends f s.interval t.interval)) u n.is (refl, holds s.interval t.interval x y p.1 q.1))
    a b h k

quotient-typed : (a b : Value) (s t u : SqlType) → IsOfType a s → IsOfType b t → quotient_type s t ≡ Some u → IsOfType (of_numbers quotient a b) u
quotient-typed a b s t u h k e =
    let n = quotient_type-is s t u e in
    arithmetic_typed int_div quotient s t u n.1
    (λ x y p q. rw (divisor_not_zero t.interval y n.0 q.1)
    (along (Int (int_div x y)) (integer_type (either_nullable s t) (at_ends int_div s.interval t.interval)) u n.1.is (refl, quotient-holds s.interval t.interval n.0 x y p.1 q.1)))
    a b h k

negation-typed : (a : Value) (s u : SqlType) → IsOfType a s → negation_type s ≡ Some u → IsOfType (negated a) u
negation-typed a s u h e =
    let p = split_if (is_integer s) (number_type s.nullable (negated_interval s.interval)) u e in
    by a h (same_kind-is s.kind Integer p.0) (number_type-is s.nullable (negated_interval s.interval) u p.1).1
  where
    whole : SqlType
    whole = integer_type s.nullable (negated_interval s.interval)

    by : (a : Value) → IsOfType a s → s.kind ≡ Integer → whole ≡ u → IsOfType (negated a) u
    by Null h k n = along Null whole u n h
    by (BoolValue b) h k n = absurd (boolean_integer s h k)
    by (Int x) h k n = along (Int (pos 0 -ℤ x)) whole u n (refl, negation-holds s.interval x h.1)
    by (Text b) h k n = absurd (text_integer s h k)

-- ---- truth values

comparison-typed : (test : Ordering → Bool) (a b : Value) (s t u : SqlType) → IsOfType a s → IsOfType b t → comparison_type s t ≡ Some u → IsOfType (compared test a b) u
comparison-typed test a b s t u h k e =
    let p = split_if (same_kind s.kind t.kind) (Some whole) u e in
    along (compared test a b) whole u (some_is whole u p.1) (by a b h k)
  where
    whole : SqlType
    whole = boolean_type (either_nullable s t)

    by : (a b : Value) → IsOfType a s → IsOfType b t → IsOfType (compared test a b) (boolean_type (either_nullable s t))
    by Null b h k = or-left s.nullable t.nullable h
    by (BoolValue x) Null h k = or-right s.nullable t.nullable k
    by (BoolValue x) (BoolValue y) h k = refl
    by (BoolValue x) (Int y) h k = refl
    by (BoolValue x) (Text y) h k = refl
    by (Int x) Null h k = or-right s.nullable t.nullable k
    by (Int x) (BoolValue y) h k = refl
    by (Int x) (Int y) h k = refl
    by (Int x) (Text y) h k = refl
    by (Text x) Null h k = or-right s.nullable t.nullable k
    by (Text x) (BoolValue y) h k = refl
    by (Text x) (Int y) h k = refl
    by (Text x) (Text y) h k = refl

-- a truth value is known, or NULL is allowed
known : (a : Value) (s : SqlType) → IsOfType a s → s.kind ≡ Boolean → ((b : Bool) × (truth_of a ≡ Some b)) ⊎ ((truth_of a ≡ None) × (s.nullable ≡ true))
known Null s h k = inr (refl, h)
known (BoolValue b) s h k = inl (b, refl)
known (Int x) s h k = absurd (boolean_integer s k h.0)
known (Text x) s h k = absurd (text_boolean s h k)

of_truth : (o : Option Bool) (n : Bool) → (o ≡ None → n ≡ true) → IsOfType (value_of o) (boolean_type n)
of_truth None n h = h refl
of_truth (Some b) n h = refl

-- of a connective that is known where both its operands are
connective-typed : (f : Option Bool → Option Bool → Option Bool) → ((p q : Bool) → f (Some p) (Some q) ≡ None → ⊥) → (a b : Value) (s t u : SqlType) → IsOfType a s → IsOfType b t
    → connective_type s t ≡ Some u → IsOfType (value_of (f (truth_of a) (truth_of b))) u
connective-typed f sure a b s t u h k e =
    let p = split_if (is_boolean s && is_boolean t) (Some whole) u e in
    let q = and-both (is_boolean s) (is_boolean t) p.0 in
    along (value_of (f (truth_of a) (truth_of b))) whole u (some_is whole u p.1)
    (of_truth (f (truth_of a) (truth_of b)) (either_nullable s t) (by (known a s h (same_kind-is s.kind Boolean q.0)) (known b t k (same_kind-is t.kind Boolean q.1))))
  where
    whole : SqlType
    whole = boolean_type (either_nullable s t)

    by : ((x : Bool) × (truth_of a ≡ Some x)) ⊎ ((truth_of a ≡ None) × (s.nullable ≡ true)) → ((x : Bool) × (truth_of b ≡ Some x)) ⊎ ((truth_of b ≡ None) × (t.nullable ≡ true))
        → f (truth_of a) (truth_of b) ≡ None → either_nullable s t ≡ true
    by (inl x) (inl y) e = absurd (sure x.0 y.0 (sym (ap (λ z. f z (truth_of b)) x.1 ∙ ap (f (Some x.0)) y.1) ∙ e))
    by (inl x) (inr y) e = or-right s.nullable t.nullable y.1
    by (inr x) y e = or-left s.nullable t.nullable x.1

and3-sure : (p q : Bool) → and3 (Some p) (Some q) ≡ None → ⊥
and3-sure false q e = absurd (cc)
and3-sure true q e = absurd (cc)

or3-sure : (p q : Bool) → or3 (Some p) (Some q) ≡ None → ⊥
or3-sure false q e = absurd (cc)
or3-sure true q e = absurd (cc)

not-typed : (a : Value) (s u : SqlType) → IsOfType a s → not_type s ≡ Some u → IsOfType (value_of (not3 (truth_of a))) u
not-typed a s u h e =
    let p = split_if (is_boolean s) (Some (boolean_type s.nullable)) u e in
    along (value_of (not3 (truth_of a))) (boolean_type s.nullable) u (some_is (boolean_type s.nullable) u p.1) (by a h (same_kind-is s.kind Boolean p.0))
  where
    by : (a : Value) → IsOfType a s → s.kind ≡ Boolean → IsOfType (value_of (not3 (truth_of a))) (boolean_type s.nullable)
    by Null h k = h
    by (BoolValue true) h k = refl
    by (BoolValue false) h k = refl
    by (Int x) h k = absurd (boolean_integer s k h.0)
    by (Text x) h k = absurd (text_boolean s h k)

-- ---- one operation

pub applied-typed : (op : Op) (a b : Value) (s t u : SqlType) → IsOfType a s → IsOfType b t → op_type op s t ≡ Some u → IsOfType (applied op a b) u
applied-typed Add = arithmetic-typed ◌+ℤ◌ sum-holds
applied-typed Subtract = arithmetic-typed ◌-ℤ◌ difference-holds
applied-typed Multiply = arithmetic-typed ◌*ℤ◌ product-holds
applied-typed Divide = quotient-typed
applied-typed Equal = comparison-typed (passes Equal)
applied-typed NotEqual = comparison-typed (passes NotEqual)
applied-typed Less = comparison-typed (passes Less)
applied-typed LessEqual = comparison-typed (passes LessEqual)
applied-typed Greater = comparison-typed (passes Greater)
applied-typed GreaterEqual = comparison-typed (passes GreaterEqual)
applied-typed And = connective-typed and3 and3-sure
applied-typed Or = connective-typed or3 or3-sure

-- ---- a whole expression

-- a value is of its type, where it has one
abbrev pub Typed : Value → Option SqlType → Type 0
Typed v o = (t : SqlType) → o ≡ Some t → IsOfType v t

binary-typed : (op : Op) (a b : Value) (o p : Option SqlType) → Typed a o → Typed b p → Typed (applied op a b) (of_both (op_type op) o p)
binary-typed op a b None p h k u e = absurd (cc)
binary-typed op a b (Some s) None h k u e = absurd (cc)
binary-typed op a b (Some s) (Some t) h k u e = applied-typed op a b s t u (h s refl) (k t refl) e

unary-typed : (f : Value → Value) (g : SqlType → Option SqlType) → ((a : Value) (s u : SqlType) → IsOfType a s → g s ≡ Some u → IsOfType (f a) u)
    → (a : Value) (o : Option SqlType) → Typed a o → Typed (f a) (option_and_then g o)
unary-typed f g step a None h u e = absurd (cc)
unary-typed f g step a (Some s) h u e = step a s u (h s refl) e

null-typed : (a : Value) (o : Option SqlType) → Typed (BoolValue (is_null a)) (option_map (λ _. boolean_type false) o)
null-typed a None u e = absurd (cc)
null-typed a (Some s) u e = along (BoolValue (is_null a)) (boolean_type false) u (some_is (boolean_type false) u e) refl

literal-typed : (v : Value) → Typed v (literal_type v)
literal-typed Null u e = absurd (cc)
literal-typed (BoolValue b) u e = along (BoolValue b) (boolean_type false) u (some_is (boolean_type false) u e) refl
literal-typed (Int n) u e = along (Int n) (integer_type false (Range n n)) u (number_type-is false (Range n n) u e).1 (refl, (≤ℤ_refl n, ≤ℤ_refl n))
literal-typed (Text t) u e = along (Text t) (text_type false) u (some_is (text_type false) u e) refl

-- a type of numbers is the type of its interval
as_integer : (v : Value) (t : SqlType) → t.kind ≡ Integer → IsOfType v t → IsOfType v (integer_type t.nullable t.interval)
as_integer Null t k h = h
as_integer (BoolValue b) t k h = absurd (boolean_integer t h k)
as_integer (Int n) t k h = (refl, h.1)
as_integer (Text x) t k h = absurd (text_integer t h k)

column_type-typed : (v : Value) (t u : SqlType) → IsOfType v t → column_type t ≡ Some u → IsOfType v u
column_type-typed v t u h e = by (is_integer t) refl e
  where
    by : (b : Bool) → is_integer t ≡ b → cond b (number_type t.nullable t.interval) (Some t) ≡ Some u → IsOfType v u
    by true k e = along v (integer_type t.nullable t.interval) u (number_type-is t.nullable t.interval u e).1 (as_integer v t (same_kind-is t.kind Integer k) h)
    by false k e = along v t u (some_is t u e) h

column-typed : (row : List Value) (ts : List SqlType) (at : ℕ) → HasTypes row ts → Typed (column_of row at) (option_and_then column_type (slice_get ts at))
column-typed [] [] at h u e = absurd (cc)
column-typed [] (t ∷ ts) at h u e = absurd h
column-typed (v ∷ row) [] at h u e = absurd h
column-typed (v ∷ row) (t ∷ ts) zero h u e = column_type-typed v t u h.0 e
column-typed (v ∷ row) (t ∷ ts) (suc at) h u e = column-typed row ts at h.1 u e

abbrev pub IsTyped : List Value → List SqlType → Expr → Type 0
IsTyped row ts e = Typed (meaning_of e row) (type_of e ts)

-- one level, whose parts have these values and types
abbrev IsTypedLevel : List Value → List SqlType → Expr-F Expr → Type 0
IsTypedLevel row ts x = Typed (meaning_step row (map-Expr Expr Value (λ e. meaning_of e row) x)) (type_step ts (map-Expr Expr (Option SqlType) (λ e. type_of e ts) x))

level : (row : List Value) (ts : List SqlType) → HasTypes row ts → (y : Expr-F ((e : Expr) × IsTyped row ts e)) → IsTypedLevel row ts (map-Expr ((e : Expr) × IsTyped row ts e) Expr (λ e. e.0) y)
level row ts h (Expr-F.Column at) = column-typed row ts at h
level row ts h (Expr-F.Literal v) = literal-typed v
level row ts h (Expr-F.Negate e) = unary-typed negated negation_type negation-typed (meaning_of e.0 row) (type_of e.0 ts) e.1
level row ts h (Expr-F.Binary op l r) = binary-typed op (meaning_of l.0 row) (meaning_of r.0 row) (type_of l.0 ts) (type_of r.0 ts) l.1 r.1
level row ts h (Expr-F.Not e) = unary-typed (λ a. value_of (not3 (truth_of a))) not_type not-typed (meaning_of e.0 row) (type_of e.0 ts) e.1
level row ts h (Expr-F.IsNull e) = null-typed (meaning_of e.0 row) (type_of e.0 ts)

at_roll : (row : List Value) (ts : List SqlType) (x : Expr-F Expr) → IsTypedLevel row ts x → IsTyped row ts (roll-Expr x)
at_roll row ts x l = rw (fold-roll-Expr Value (meaning_step row) x, fold-roll-Expr (Option SqlType) (type_step ts) x) l

pub meaning-typed : (row : List Value) (ts : List SqlType) → HasTypes row ts → (e : Expr) → IsTyped row ts e
meaning-typed row ts h = ind-Expr (IsTyped row ts) (λ x y is. subst (λ z. IsTyped row ts (roll-Expr z)) is (at_roll row ts _ (level row ts h y)))

-- ---- what the operations ask

arithmetic-held : (f : ℤ → ℤ → ℤ) (s t u : SqlType) (v : Value) → OfNumbers f s t u → IsOfType v u → IsHeld v
arithmetic-held f s t u v n h = typed-held v (either_nullable s t) (at_ends f s.interval t.interval) u n.typed h

can_apply_to : (op : Op) (a b : Value) (s t u : SqlType) → IsOfType a s → IsOfType b t → op_type op s t ≡ Some u → CanApply op a b
can_apply_to Add a b s t u h k e = arithmetic-held ◌+ℤ◌ s t u (applied Add a b) (arithmetic_type-is ◌+ℤ◌ s t u e) (applied-typed Add a b s t u h k e)
can_apply_to Subtract a b s t u h k e = arithmetic-held ◌-ℤ◌ s t u (applied Subtract a b) (arithmetic_type-is ◌-ℤ◌ s t u e) (applied-typed Subtract a b s t u h k e)
can_apply_to Multiply a b s t u h k e = arithmetic-held ◌*ℤ◌ s t u (applied Multiply a b) (arithmetic_type-is ◌*ℤ◌ s t u e) (applied-typed Multiply a b s t u h k e)
can_apply_to Divide a b s t u h k e = arithmetic-held int_div s t u (applied Divide a b) (quotient_type-is s t u e).1 (applied-typed Divide a b s t u h k e)
can_apply_to Equal a b s t u h k e = tt
can_apply_to NotEqual a b s t u h k e = tt
can_apply_to Less a b s t u h k e = tt
can_apply_to LessEqual a b s t u h k e = tt
can_apply_to Greater a b s t u h k e = tt
can_apply_to GreaterEqual a b s t u h k e = tt
can_apply_to And a b s t u h k e = tt
can_apply_to Or a b s t u h k e = tt

type_of-Binary : (op : Op) (l r : Expr) (ts : List SqlType) → type_of (Binary op l r) ts ≡ of_both (op_type op) (type_of l ts) (type_of r ts)
type_of-Binary op l r ts = ap (λ e. type_of e ts) (sym (rolls-Binary op l r)) ∙ fold-roll-Expr (Option SqlType) (type_step ts) (Expr-F.Binary op l r)

type_of-Negate : (e : Expr) (ts : List SqlType) → type_of (Negate e) ts ≡ option_and_then negation_type (type_of e ts)
type_of-Negate e ts = ap (λ e. type_of e ts) (sym (rolls-Negate e)) ∙ fold-roll-Expr (Option SqlType) (type_step ts) (Expr-F.Negate e)

pub can_apply : (op : Op) (l r : Expr) (row : List Value) → IsWellFormed (Binary op l r) row → CanApply op (meaning_of l row) (meaning_of r row)
can_apply op l r row w = by (type_of l w.types) (type_of r w.types) (meaning-typed row w.types w.has_types l) (meaning-typed row w.types w.has_types r) (subst IsSome (type_of-Binary op l r w.types) w.typed)
  where
    by : (o p : Option SqlType) → Typed (meaning_of l row) o → Typed (meaning_of r row) p → IsSome (of_both (op_type op) o p) → CanApply op (meaning_of l row) (meaning_of r row)
    by None p h k s = absurd (cc)
    by (Some s) None h k e = absurd (cc)
    by (Some s) (Some t) h k e = at (op_type op s t) refl e
      where
        at : (q : Option SqlType) → op_type op s t ≡ q → IsSome q → CanApply op (meaning_of l row) (meaning_of r row)
        at None is e = absurd (cc)
        at (Some u) is e = can_apply_to op (meaning_of l row) (meaning_of r row) s t u (h s refl) (k t refl) is

pub can_negate : (e : Expr) (row : List Value) → IsWellFormed (Negate e) row → IsHeld (negated (meaning_of e row))
can_negate e row w = by (type_of e w.types) (meaning-typed row w.types w.has_types e) (subst IsSome (type_of-Negate e w.types) w.typed)
  where
    by : (o : Option SqlType) → Typed (meaning_of e row) o → IsSome (option_and_then negation_type o) → IsHeld (negated (meaning_of e row))
    by None h s = absurd (cc)
    by (Some s) h i = at (negation_type s) refl i
      where
        at : (q : Option SqlType) → negation_type s ≡ q → IsSome q → IsHeld (negated (meaning_of e row))
        at None is i = absurd (cc)
        at (Some u) is i =
            let p = split_if (is_integer s) (number_type s.nullable (negated_interval s.interval)) u is in
            typed-held (negated (meaning_of e row)) s.nullable (negated_interval s.interval) u p.1 (negation-typed (meaning_of e row) s u (h s refl) is)

-- ---- the value of a call

pub well_typed : (e : Expr) (row : List Value) (v : Value) → v ≡ meaning_of e row → IsWellTyped e row v
well_typed e row v is ts t h o = subst (λ z. IsOfType z t) (sym is) (meaning-typed row ts h e t o)
