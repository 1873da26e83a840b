-- The columns that a condition equates, and those of groups, are columns of its sides.
use Rattle.std.proofs.Common.{◌≡◌, ℕ, ◌+◌, ◌-◌, ◌<◌, ◌≤◌, Bool, true, false, cond, ◌&&◌, List, [], ◌∷◌, ◌++◌, map, length, All, Option, Some, None, slice_get, refl, sym, ◌∙◌, ap, subst, arith}
use Rattle.std.specs.Prelude.{nat_lt, nat_le, option_map, unwrap_or}
use Rattle.std.proofs.lemmas.List.{length-append}
use Rattle.std.proofs.lemmas.List.Elements.{All-nil, All-cons, All-append, All-map, All-weaker}
use Rattle.std.proofs.lemmas.Bool.Decides.{nat_tests}
use Rattle.std.proofs.lemmas.Option.{slice_get_within, same_Some}
use Rattle.cal_value.specs.declared.kind.SqlType.{SqlType}
use Rattle.cal_value.specs.declared.operator.Op.{Op}
use Rattle.cal_value.specs.declared.operator.Op.TheVariants as op
use Rattle.cal_value.specs.declared.order.KeyOrder.{KeyOrder}
use Rattle.cal_value.specs.Types.{is_boolean}
use Rattle.cal_value.proofs.TypeLemmas.{and-both}
use Rattle.cal_expr.specs.declared.expr.Expr.{Expr}
use Rattle.cal_expr.specs.declared.expr.Expr.TheOpen.{Expr-F}
use Rattle.cal_expr.specs.declared.expr.Expr.TheFolds.{fold-roll-Expr}
use Rattle.cal_expr.specs.declared.expr.Expr.TheVariants.{Column, Literal, Negate, Binary, Not, IsNull, rolls-Column, rolls-Literal, rolls-Negate, rolls-Binary, rolls-Not, rolls-IsNull}
use Rattle.cal_expr.specs.Typing as expressions
use Rattle.cal_schema.specs.declared.star_pair.StarPair.{StarPair}
use Rattle.cal_rel.specs.Typing.{types_by, is_condition, Equated, pair_of, equated_op, equated_step, equated, pairs_of}
use Rattle.cal_rel.proofs.RowLemmas.{of_both-some}
use Rattle.expr_parts.specs.Columns.{columns_read}
use Rattle.expr_parts.proofs.ColumnLaws.{reads-column, reads-left, reads-right, well_formed-reads}
use Rattle.expr_parts.proofs.ExprSteps.{each_expr}
use Rattle.plan_nodes.specs.Orders.{ascending_key, ascending_by, left_order, right_order}
use Rattle.plan_meaning.specs.WellFormed.{HasKeysWithin}

-- ---- pairs

-- a column of left rows, which have so many, and one of right rows, where all columns are below n
pub record IsPairWithin (width n : ℕ) (p : StarPair) : Type 0 where
  pub left : p.left < width
  pub right : width + p.right < n

tests-within : (width c d : ℕ) → (nat_lt c width && nat_le width d) ≡ true → (c < width) × (width ≤ d)
tests-within width c d e = let p = and-both (nat_lt c width) (nat_le width d) e in (grind (arith, nat_tests), grind (arith, nat_tests))

one-within : (width n : ℕ) (p : StarPair) → p.left < width → width + p.right < n → All (IsPairWithin width n) (p ∷ [])
one-within width n p l r = All-cons (IsPairWithin width n) p [] (record { left = l; right = r }) (All-nil (IsPairWithin width n))

some-within : (width n c d : ℕ) → c < n → d < n → All (IsPairWithin width n) (pair_of width (Some c) (Some d))
some-within width n c d h k = by (nat_lt c width && nat_le width d) refl (nat_lt d width && nat_le width c) refl
  where
    by : (a : Bool) → (nat_lt c width && nat_le width d) ≡ a → (b : Bool) → (nat_lt d width && nat_le width c) ≡ b
        → All (IsPairWithin width n) (cond a (record { left = c; right = d - width } ∷ []) (cond b (record { left = d; right = c - width } ∷ []) []))
    by true e b f =
        let t = tests-within width c d e in
        one-within width n (record { left = c; right = d - width }) t.0 (let least = t.1 in omega arith)
    by false e true f =
        let t = tests-within width d c f in
        one-within width n (record { left = d; right = c - width }) t.0 (let least = t.1 in omega arith)
    by false e false f = All-nil (IsPairWithin width n)

-- what an expression's column and pairs are, where the columns that it reads are below n
pub record LiesWithin (width n : ℕ) (columns : List ℕ) (e : Equated) : Type 0 where
  pub column : All (λ at. at < n) columns → (c : ℕ) → e.column ≡ Some c → c < n
  pub pairs : All (λ at. at < n) columns → All (IsPairWithin width n) e.pairs

plain : (width n : ℕ) (columns : List ℕ) → LiesWithin width n columns (record { column = None; pairs = [] })
plain width n columns = record { column = λ all c e. absurd (cc); pairs = λ all. All-nil (IsPairWithin width n) }

pair-within : (width n : ℕ) (a b : Option ℕ) → ((c : ℕ) → a ≡ Some c → c < n) → ((c : ℕ) → b ≡ Some c → c < n) → All (IsPairWithin width n) (pair_of width a b)
pair-within width n None b h k = All-nil (IsPairWithin width n)
pair-within width n (Some c) None h k = All-nil (IsPairWithin width n)
pair-within width n (Some c) (Some d) h k = some-within width n c d (h c refl) (k d refl)

module _ (width n : ℕ) where
  abbrev Fine : Equated → Type 0
  Fine e = ((c : ℕ) → e.column ≡ Some c → c < n) × All (IsPairWithin width n) e.pairs

  op-within : (o : Op) (a b : Equated) → Fine a → Fine b → All (IsPairWithin width n) (equated_op width o a b)
  op-within op.Add a b h k = All-nil (IsPairWithin width n)
  op-within op.Subtract a b h k = All-nil (IsPairWithin width n)
  op-within op.Multiply a b h k = All-nil (IsPairWithin width n)
  op-within op.Divide a b h k = All-nil (IsPairWithin width n)
  op-within op.Equal a b h k = pair-within width n a.column b.column h.0 k.0
  op-within op.NotEqual a b h k = All-nil (IsPairWithin width n)
  op-within op.Less a b h k = All-nil (IsPairWithin width n)
  op-within op.LessEqual a b h k = All-nil (IsPairWithin width n)
  op-within op.Greater a b h k = All-nil (IsPairWithin width n)
  op-within op.GreaterEqual a b h k = All-nil (IsPairWithin width n)
  op-within op.And a b h k = All-append (IsPairWithin width n) a.pairs b.pairs h.1 k.1
  op-within op.Or a b h k = All-nil (IsPairWithin width n)

  abbrev LiesIn : Expr → Type 0
  LiesIn e = LiesWithin width n (columns_read e) (equated width e)

  at-step : (e : Expr) (step : Equated) → equated width e ≡ step → LiesWithin width n (columns_read e) step → LiesIn e
  at-step e step is h = subst (LiesWithin width n (columns_read e)) (sym is) h

  lies-column : (at : ℕ) → LiesIn (Column at)
  lies-column at =
      at-step (Column at) (equated_step width (Expr-F.Column at)) (ap (equated width) (sym (rolls-Column at)) ∙ fold-roll-Expr Equated (equated_step width) (Expr-F.Column at))
      (record {
        column = λ all c e. subst (λ k. k < n) (same_Some at c e) (reads-column (λ k. k < n) at all);
        pairs = λ all. All-nil (IsPairWithin width n);
      })

  lies-binary : (o : Op) (a b : Expr) → LiesIn a → LiesIn b → LiesIn (Binary o a b)
  lies-binary o a b h k =
      at-step (Binary o a b) (record { column = None; pairs = equated_op width o (equated width a) (equated width b) })
      (ap (equated width) (sym (rolls-Binary o a b)) ∙ fold-roll-Expr Equated (equated_step width) (Expr-F.Binary o a b))
      (record {
        column = λ all c e. absurd (cc);
        pairs = λ all.
            let left = reads-left (λ at. at < n) o a b all in
            let right = reads-right (λ at. at < n) o a b all in
            op-within o (equated width a) (equated width b) (h.column left, h.pairs left) (k.column right, k.pairs right);
      })

  lies : (e : Expr) → LiesIn e
  lies = each_expr LiesIn (record {
    column = lies-column;
    literal = λ v. at-step (Literal v) (record { column = None; pairs = [] }) (ap (equated width) (sym (rolls-Literal v)) ∙ fold-roll-Expr Equated (equated_step width) (Expr-F.Literal v)) (plain width n (columns_read (Literal v)));
    negate = λ e h. at-step (Negate e) (record { column = None; pairs = [] }) (ap (equated width) (sym (rolls-Negate e)) ∙ fold-roll-Expr Equated (equated_step width) (Expr-F.Negate e)) (plain width n (columns_read (Negate e)));
    binary = lies-binary;
    not = λ e h. at-step (Not e) (record { column = None; pairs = [] }) (ap (equated width) (sym (rolls-Not e)) ∙ fold-roll-Expr Equated (equated_step width) (Expr-F.Not e)) (plain width n (columns_read (Not e)));
    is_null = λ e h. at-step (IsNull e) (record { column = None; pairs = [] }) (ap (equated width) (sym (rolls-IsNull e)) ∙ fold-roll-Expr Equated (equated_step width) (Expr-F.IsNull e)) (plain width n (columns_read (IsNull e)));
  })

condition-typed : (o : Option SqlType) → unwrap_or (option_map is_boolean o) false ≡ true → (t : SqlType) × (o ≡ Some t)
condition-typed None e = absurd (cc)
condition-typed (Some t) e = (t, refl)

-- the pairs of a well-formed condition
pub pairs-within : (on : Expr) (left right : List SqlType) → is_condition on (left ++ right) ≡ true → All (IsPairWithin (length left) (length left + length right)) (pairs_of (length left) on)
pairs-within on left right e =
    let typed = condition-typed (expressions.type_of on (left ++ right)) e in
    let read = well_formed-reads on (left ++ right) typed.0 typed.1 in
    let n = length (left ++ right) in
    subst (λ n. All (IsPairWithin (length left) n) (pairs_of (length left) on)) (length-append left right) ((lies (length left) n on).pairs read)

-- ---- orders

pub no-keys : (width : ℕ) → HasKeysWithin width []
no-keys width = record { within = All-nil (λ key. key.column < width) }

pub left-within : (width n : ℕ) (on : Expr) → All (IsPairWithin width n) (pairs_of width on) → HasKeysWithin width (left_order width on)
left-within width n on all = record {
  within = All-map (λ (key : KeyOrder). key.column < width) ascending_key (map (λ (p : StarPair). p.left) (pairs_of width on))
      (All-map (λ column. column < width) (λ (p : StarPair). p.left) (pairs_of width on) (All-weaker (IsPairWithin width n) (λ p. p.left < width) (λ p h. h.left) (pairs_of width on) all));
}

pub right-within : (width other : ℕ) (on : Expr) → All (IsPairWithin width (width + other)) (pairs_of width on) → HasKeysWithin other (right_order width on)
right-within width other on all = record {
  within = All-map (λ (key : KeyOrder). key.column < other) ascending_key (map (λ (p : StarPair). p.right) (pairs_of width on))
      (All-map (λ column. column < other) (λ (p : StarPair). p.right) (pairs_of width on)
      (All-weaker (IsPairWithin width (width + other)) (λ p. p.right < other) (λ p h. let r = h.right in omega arith) (pairs_of width on) all));
}

-- ---- groups

columns-within : (columns : List SqlType) (groups : List ℕ) (keys : List SqlType) → types_by (slice_get columns) groups ≡ Some keys → All (λ column. column < length columns) groups
columns-within columns [] keys e = All-nil (λ column. column < length columns)
columns-within columns (g ∷ groups) keys e =
    let b = of_both-some (λ t ts. Some (t ∷ ts)) (slice_get columns g) (types_by (slice_get columns) groups) keys e in
    All-cons (λ column. column < length columns) g groups (slice_get_within columns g b.first b.first_is) (columns-within columns groups b.second b.second_is)

pub groups-within : (columns : List SqlType) (groups : List ℕ) (keys : List SqlType) → types_by (slice_get columns) groups ≡ Some keys → HasKeysWithin (length columns) (ascending_by groups)
groups-within columns groups keys e =
    record { within = All-map (λ (key : KeyOrder). key.column < length columns) ascending_key groups (columns-within columns groups keys e) }
