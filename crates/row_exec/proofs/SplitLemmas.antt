-- The condition of a join is its pairs and its rest.
use Rattle.std.proofs.Common.{◌≡◌, ◌≢◌, ℕ, zero, suc, ◌-◌, ◌<◌, ◌≤◌, nat_lt, nat_le, Bool, true, false, cond, ◌&&◌, List, [], ◌∷◌, ◌++◌, length, Option, Some, None, IfSome, refl, sym, ◌∙◌, ap, subst, arith}
use Rattle.std.specs.Prelude.{option_map, unwrap_or}
use Rattle.std.specs.Ordering.{is_eq, ordering_reverse}
use Rattle.std.specs.declared.cmp.Ordering.{Ordering}
use Rattle.std.specs.declared.cmp.Ordering.TheVariants as order
use Rattle.std.proofs.lemmas.Bool.Decides.{nat_tests}
use Rattle.std.proofs.lemmas.Option.{same_Some}
use Rattle.std.proofs.lemmas.List.Folds.{list_all-append}
use Rattle.cal_value.specs.declared.kind.SqlType.{SqlType}
use Rattle.cal_value.specs.declared.operator.Op.TheVariants as op
use Rattle.cal_value.specs.declared.value.Value.{Value}
use Rattle.cal_value.specs.declared.value.Value.TheVariants.{Null, Bool as BoolValue, Int, Text}
use Rattle.cal_value.specs.Equal.{value_eq}
use Rattle.cal_value.specs.EqualLaws.{value_eq-Decides}
use Rattle.cal_value.specs.Logic.{is_true}
use Rattle.cal_value.specs.Order.{value_cmp, column_of}
use Rattle.cal_value.specs.Types.{boolean_type, is_boolean}
use Rattle.cal_value.proofs.OrderLemmas.{value_cmp-IsAntisymmetric, value_cmp_total}
use Rattle.cal_value.proofs.TypeLemmas.{and-both}
use Rattle.cal_expr.specs.declared.expr.Expr.{Expr}
use Rattle.cal_expr.specs.declared.expr.Expr.TheFolds.{fold-roll-Expr, map-Expr}
use Rattle.cal_expr.specs.declared.expr.Expr.TheOpen.{Expr-F}
use Rattle.cal_expr.specs.declared.expr.Expr.TheVariants.{Binary, rolls-Binary}
use Rattle.cal_expr.specs.declared.expr.Expr.TheViews.{out-Expr, roll-Expr, roll-out-Expr}
use Rattle.cal_expr.specs.Meaning.{meaning_of, meaning_step, applied}
use Rattle.cal_expr.specs.Typing as expressions
use Rattle.cal_schema.specs.declared.star_pair.StarPair.{StarPair}
use Rattle.cal_rel.specs.Operators.{Row, holds}
use Rattle.cal_rel.specs.Typing.{Equated, equated, equated_step, pair_of, pairs_of, is_condition}
use Rattle.exec_ops.specs.Join.{are_equal, pairs_match, passes}
use Rattle.row_exec.specs.Split.{conjunction, IsRest}

-- ---- one level of an operator

pub meaning-binary : (o : _) (a b : Expr) (row : Row) → meaning_of (Binary o a b) row ≡ applied o (meaning_of a row) (meaning_of b row)
meaning-binary o a b row = ap (λ e. meaning_of e row) (sym (rolls-Binary o a b)) ∙ fold-roll-Expr Value (meaning_step row) (Expr-F.Binary o a b)

type-binary : (o : _) (a b : Expr) (types : List SqlType) → expressions.type_of (Binary o a b) types ≡ expressions.of_both (expressions.op_type o) (expressions.type_of a types) (expressions.type_of b types)
type-binary o a b types = ap (λ e. expressions.type_of e types) (sym (rolls-Binary o a b)) ∙ fold-roll-Expr (Option SqlType) (expressions.type_step types) (Expr-F.Binary o a b)

equated-binary : (w : ℕ) (o : _) (a b : Expr) → pairs_of w (Binary o a b) ≡ (equated_step w (Expr-F.Binary o (equated w a) (equated w b))).pairs
equated-binary w o a b = ap (pairs_of w) (sym (rolls-Binary o a b)) ∙ ap (λ e. e.pairs) (fold-roll-Expr Equated (equated_step w) (Expr-F.Binary o a b))

-- ---- AND

and-true : (v u : Value) → is_true (applied op.And v u) ≡ (is_true v && is_true u)
and-true Null Null = refl
and-true Null (BoolValue true) = refl
and-true Null (BoolValue false) = refl
and-true Null (Int n) = refl
and-true Null (Text t) = refl
and-true (BoolValue true) Null = refl
and-true (BoolValue true) (BoolValue b) = refl
and-true (BoolValue true) (Int n) = refl
and-true (BoolValue true) (Text t) = refl
and-true (BoolValue false) u = refl
and-true (Int m) Null = refl
and-true (Int m) (BoolValue true) = refl
and-true (Int m) (BoolValue false) = refl
and-true (Int m) (Int n) = refl
and-true (Int m) (Text t) = refl
and-true (Text s) Null = refl
and-true (Text s) (BoolValue true) = refl
and-true (Text s) (BoolValue false) = refl
and-true (Text s) (Int n) = refl
and-true (Text s) (Text t) = refl

pub holds-and : (a b : Expr) (row : Row) → holds (Binary op.And a b) row ≡ (holds a row && holds b row)
holds-and a b row = ap is_true (meaning-binary op.And a b row) ∙ and-true (meaning_of a row) (meaning_of b row)

passes-both : (first second : Option Expr) (row : Row) → passes (conjunction first second) row ≡ (passes first row && passes second row)
passes-both None second row = refl
passes-both (Some a) None row = by (holds a row)
  where
    by : (p : Bool) → p ≡ (p && true)
    by true = refl
    by false = refl
passes-both (Some a) (Some b) row = holds-and a b row

shuffled : (p q r s : Bool) → ((p && q) && (r && s)) ≡ ((p && r) && (q && s))
shuffled true true r s = by r
  where
    by : (r : Bool) → (r && s) ≡ ((true && r) && (true && s))
    by true = refl
    by false = refl
shuffled true false true s = refl
shuffled true false false s = refl
shuffled false q r s = refl

tests-both : (s t : Option SqlType) → unwrap_or (option_map is_boolean (expressions.of_both expressions.connective_type s t)) false
    ≡ (unwrap_or (option_map is_boolean s) false && unwrap_or (option_map is_boolean t) false)
tests-both None None = refl
tests-both None (Some t) = refl
tests-both (Some s) None = by (is_boolean s)
  where
    by : (p : Bool) → false ≡ (p && false)
    by true = refl
    by false = refl
tests-both (Some s) (Some t) = by (is_boolean s && is_boolean t)
  where
    by : (p : Bool) → unwrap_or (option_map is_boolean (cond p (Some (boolean_type (expressions.either_nullable s t))) None)) false ≡ p
    by true = refl
    by false = refl

and-condition : (a b : Expr) (types : List SqlType) → is_condition (Binary op.And a b) types ≡ (is_condition a types && is_condition b types)
and-condition a b types =
    ap (λ (o : Option SqlType). unwrap_or (option_map is_boolean o) false) (type-binary op.And a b types) ∙ tests-both (expressions.type_of a types) (expressions.type_of b types)

both-true : (p q : Bool) → p ≡ true → q ≡ true → (p && q) ≡ true
both-true true q e f = f
both-true false q e f = absurd (cc)

typed-both : (first second : Option Expr) (types : List SqlType) → IfSome first (λ e. is_condition e types ≡ true) → IfSome second (λ e. is_condition e types ≡ true)
    → IfSome (conjunction first second) (λ e. is_condition e types ≡ true)
typed-both None second types h k = k
typed-both (Some a) None types h k = h
typed-both (Some a) (Some b) types h k = and-condition a b types ∙ both-true (is_condition a types) (is_condition b types) h k

pub rest-and : (w : ℕ) (on a b : Expr) (first second both : Option Expr) → on ≡ Binary op.And a b → IsRest w a first → IsRest w b second → both ≡ conjunction first second → IsRest w on both
rest-and w on a b first second both is h k e =
    subst (λ o. IsRest w o both) (sym is) (subst (IsRest w (Binary op.And a b)) (sym e) (record {
      same = λ x y l.
          ap (λ (ps : List StarPair). pairs_match ps x y && passes (conjunction first second) (x ++ y)) (equated-binary w op.And a b)
          ∙ ap (λ p. p && passes (conjunction first second) (x ++ y)) (list_all-append (λ (p : StarPair). are_equal (column_of x p.left) (column_of y p.right)) (pairs_of w a) (pairs_of w b))
          ∙ ap (λ q. (pairs_match (pairs_of w a) x y && pairs_match (pairs_of w b) x y) && q) (passes-both first second (x ++ y))
          ∙ shuffled (pairs_match (pairs_of w a) x y) (pairs_match (pairs_of w b) x y) (passes first (x ++ y)) (passes second (x ++ y))
          ∙ ap (λ p. p && (pairs_match (pairs_of w b) x y && passes second (x ++ y))) (h.same x y l)
          ∙ ap (λ q. holds a (x ++ y) && q) (k.same x y l)
          ∙ sym (holds-and a b (x ++ y));
      typed = λ types c.
          let p = and-both (is_condition a types) (is_condition b types) (sym (and-condition a b types) ∙ c) in
          typed-both first second types (h.typed types p.0) (k.typed types p.1);
    }))

-- ---- a conjunct that equates nothing

pub rest-whole : (w : ℕ) (on : Expr) → pairs_of w on ≡ [] → IsRest w on (Some on)
rest-whole w on e = record {
  same = λ x y l. ap (λ (ps : List StarPair). pairs_match ps x y && holds on (x ++ y)) e;
  typed = λ types c. c;
}

-- ---- a conjunct that equates a column of each side

column-left : (x y : Row) (c : ℕ) → c < length x → column_of (x ++ y) c ≡ column_of x c
column-left [] y c l = absurd (omega arith)
column-left (v ∷ x) y zero l = refl
column-left (v ∷ x) y (suc c) l = column-left x y c (omega arith)

column-right : (x y : Row) (c : ℕ) → length x ≤ c → column_of (x ++ y) c ≡ column_of y (c - length x)
column-right [] y c l = let e : c - 0 ≡ c = omega arith in sym (ap (column_of y) e)
column-right (v ∷ x) y zero l = absurd (omega arith)
column-right (v ∷ x) y (suc c) l =
    let e : suc c - length (v ∷ x) ≡ c - length x = omega arith in
    column-right x y c (omega arith) ∙ sym (ap (column_of y) e)

-- an equation is TRUE of equal values that aren't NULL
both-same : (p q : Bool) → (p ≡ true → q ≡ true) → (q ≡ true → p ≡ true) → p ≡ q
both-same true true f g = refl
both-same true false f g = sym (f refl)
both-same false true f g = g refl
both-same false false f g = refl

ties-itself : (v : Value) → is_eq (value_cmp v v) ≡ true
ties-itself v = by (value_cmp v v) (value_cmp_total.antisymm v v)
  where
    by : (o : Ordering) → o ≡ ordering_reverse o → is_eq o ≡ true
    by order.Less e = absurd (cc)
    by order.Equal e = refl
    by order.Greater e = absurd (cc)

ties-equal : (v u : Value) → is_eq (value_cmp v u) ≡ true → v ≡ u
ties-equal v u e = by (value_cmp v u) refl e
  where
    by : (o : Ordering) → value_cmp v u ≡ o → is_eq o ≡ true → v ≡ u
    by order.Less f e = absurd (cc)
    by order.Equal f e = value_cmp-IsAntisymmetric v u f
    by order.Greater f e = absurd (cc)

order-same : (v u : Value) → is_eq (value_cmp v u) ≡ value_eq v u
order-same v u =
    both-same (is_eq (value_cmp v u)) (value_eq v u) (λ e. (value_eq-Decides v u).1 (ties-equal v u e))
    (λ e. subst (λ z. is_eq (value_cmp v z) ≡ true) ((value_eq-Decides v u).0 e) (ties-itself v))

equation-true : (v u : Value) → is_true (applied op.Equal v u) ≡ are_equal v u
equation-true Null u = refl
equation-true (BoolValue b) Null = refl
equation-true (BoolValue b) (BoolValue c) = order-same (BoolValue b) (BoolValue c)
equation-true (BoolValue b) (Int n) = refl
equation-true (BoolValue b) (Text t) = refl
equation-true (Int n) Null = refl
equation-true (Int n) (BoolValue c) = refl
equation-true (Int n) (Int m) = order-same (Int n) (Int m)
equation-true (Int n) (Text t) = refl
equation-true (Text s) Null = refl
equation-true (Text s) (BoolValue c) = refl
equation-true (Text s) (Int n) = refl
equation-true (Text s) (Text t) = order-same (Text s) (Text t)

value_eq-turned : (v u : Value) → value_eq v u ≡ value_eq u v
value_eq-turned v u =
    both-same (value_eq v u) (value_eq u v) (λ e. (value_eq-Decides u v).1 (sym ((value_eq-Decides v u).0 e)))
    (λ e. (value_eq-Decides v u).1 (sym ((value_eq-Decides u v).0 e)))

equal-turned : (v u : Value) → are_equal v u ≡ are_equal u v
equal-turned Null Null = refl
equal-turned Null (BoolValue c) = refl
equal-turned Null (Int m) = refl
equal-turned Null (Text t) = refl
equal-turned (BoolValue b) Null = refl
equal-turned (BoolValue b) (BoolValue c) = value_eq-turned (BoolValue b) (BoolValue c)
equal-turned (BoolValue b) (Int m) = refl
equal-turned (BoolValue b) (Text t) = refl
equal-turned (Int n) Null = refl
equal-turned (Int n) (BoolValue c) = refl
equal-turned (Int n) (Int m) = value_eq-turned (Int n) (Int m)
equal-turned (Int n) (Text t) = refl
equal-turned (Text s) Null = refl
equal-turned (Text s) (BoolValue c) = refl
equal-turned (Text s) (Int m) = refl
equal-turned (Text s) (Text t) = value_eq-turned (Text s) (Text t)

-- what an expression's column says of a row
abbrev IsColumn : ℕ → Row → Expr → Type 0
IsColumn w row e = (c : ℕ) → (equated w e).column ≡ Some c → meaning_of e row ≡ column_of row c

abbrev IsColumnLevel : ℕ → Row → Expr-F Expr → Type 0
IsColumnLevel w row e = (c : ℕ) → (equated_step w (map-Expr Expr Equated (equated w) e)).column ≡ Some c → meaning_step row (map-Expr Expr Value (λ d. meaning_of d row) e) ≡ column_of row c

column-level : (w : ℕ) (row : Row) (e : Expr-F Expr) → IsColumnLevel w row e
column-level w row (Expr-F.Column at) c e = ap (column_of row) (same_Some at c e)
column-level w row (Expr-F.Literal v) c e = absurd (cc)
column-level w row (Expr-F.Negate a) c e = absurd (cc)
column-level w row (Expr-F.Binary o a b) c e = absurd (cc)
column-level w row (Expr-F.Not a) c e = absurd (cc)
column-level w row (Expr-F.IsNull a) c e = absurd (cc)

column-roll : (w : ℕ) (row : Row) (e : Expr-F Expr) → IsColumn w row (roll-Expr e)
column-roll w row e c h =
    fold-roll-Expr Value (meaning_step row) e ∙ column-level w row e c (sym (ap (λ x. x.column) (fold-roll-Expr Equated (equated_step w) e)) ∙ h)

is_column : (w : ℕ) (row : Row) (e : Expr) → IsColumn w row e
is_column w row e = subst (IsColumn w row) (roll-out-Expr e) (column-roll w row (out-Expr e))

abbrev pair : ℕ → ℕ → StarPair
pair c d = record { left = c; right = d }

tests-within : (w c d : ℕ) → (nat_lt c w && nat_le w d) ≡ true → (c < w) × (w ≤ d)
tests-within w c d e = let p = and-both (nat_lt c w) (nat_le w d) e in (grind (arith, nat_tests), grind (arith, nat_tests))

match-of : (w : ℕ) (x y : Row) → length x ≡ w → (c d : ℕ) → pair_of w (Some c) (Some d) ≢ [] → pairs_match (pair_of w (Some c) (Some d)) x y ≡ are_equal (column_of (x ++ y) c) (column_of (x ++ y) d)
match-of w x y l c d = by (nat_lt c w && nat_le w d) refl (nat_lt d w && nat_le w c) refl
  where
    one : (p : Bool) → (p && true) ≡ p
    one true = refl
    one false = refl

    right : (e : ℕ) → w ≤ e → column_of (x ++ y) e ≡ column_of y (e - w)
    right e h = column-right x y e (omega arith) ∙ ap (λ n. column_of y (e - n)) l

    by : (s : Bool) → (nat_lt c w && nat_le w d) ≡ s → (t : Bool) → (nat_lt d w && nat_le w c) ≡ t
        → cond s (pair c (d - w) ∷ []) (cond t (pair d (c - w) ∷ []) []) ≢ []
        → pairs_match (cond s (pair c (d - w) ∷ []) (cond t (pair d (c - w) ∷ []) [])) x y ≡ are_equal (column_of (x ++ y) c) (column_of (x ++ y) d)
    by true e t f n =
        let h = tests-within w c d e in
        one (are_equal (column_of x c) (column_of y (d - w)))
        ∙ ap (λ v. are_equal v (column_of y (d - w))) (sym (column-left x y c (omega arith))) ∙ ap (are_equal (column_of (x ++ y) c)) (sym (right d h.1))
    by false e true f n =
        let h = tests-within w d c f in
        one (are_equal (column_of x d) (column_of y (c - w)))
        ∙ ap (λ v. are_equal v (column_of y (c - w))) (sym (column-left x y d (omega arith))) ∙ ap (are_equal (column_of (x ++ y) d)) (sym (right c h.1))
        ∙ equal-turned (column_of (x ++ y) d) (column_of (x ++ y) c)
    by false e false f n = absurd (n refl)

sides : (w : ℕ) (x y : Row) → length x ≡ w → (s t : Option ℕ) (v u : Value) → ((c : ℕ) → s ≡ Some c → v ≡ column_of (x ++ y) c) → ((c : ℕ) → t ≡ Some c → u ≡ column_of (x ++ y) c)
    → pair_of w s t ≢ [] → pairs_match (pair_of w s t) x y ≡ are_equal v u
sides w x y l None t v u h k n = absurd (n refl)
sides w x y l (Some c) None v u h k n = absurd (n refl)
sides w x y l (Some c) (Some d) v u h k n = match-of w x y l c d n ∙ ap (λ z. are_equal z (column_of (x ++ y) d)) (sym (h c refl)) ∙ ap (are_equal v) (sym (k d refl))

and-one : (p : Bool) → (p && true) ≡ p
and-one true = refl
and-one false = refl

pub rest-equation : (w : ℕ) (on a b : Expr) → on ≡ Binary op.Equal a b → pairs_of w on ≢ [] → IsRest w on None
rest-equation w on a b is n =
    let m = subst (λ o. pairs_of w o ≢ []) is n in
    subst (λ o. IsRest w o None) (sym is) (record {
      same = λ x y l.
          and-one (pairs_match (pairs_of w (Binary op.Equal a b)) x y)
          ∙ ap (λ (ps : List StarPair). pairs_match ps x y) (equated-binary w op.Equal a b)
          ∙ sides w x y l (equated w a).column (equated w b).column (meaning_of a (x ++ y)) (meaning_of b (x ++ y)) (is_column w (x ++ y) a) (is_column w (x ++ y) b) (λ e. m (equated-binary w op.Equal a b ∙ e))
          ∙ sym (equation-true (meaning_of a (x ++ y)) (meaning_of b (x ++ y)))
          ∙ sym (ap is_true (meaning-binary op.Equal a b (x ++ y)));
      typed = λ types c. tt;
    })

-- ---- for the search

pub ruleset whole_rests = (rest-whole)
