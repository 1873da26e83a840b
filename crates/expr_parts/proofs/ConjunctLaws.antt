-- Conjuncts hold where their whole does, and read no other columns.
use Rattle.std.proofs.Common.{◌≡◌, ℕ, Bool, true, false, ◌&&◌, List, [], ◌∷◌, ◌++◌, All, None, refl, sym, ◌∙◌, ap}
use Rattle.std.specs.List.{list_all}
use Rattle.std.proofs.lemmas.List.Elements.{All-nil, All-cons, All-head, All-tail, All-append, All-same}
use Rattle.std.proofs.lemmas.List.Folds.{list_all-append}
use Rattle.cal_value.specs.declared.operator.Op.{Op}
use Rattle.cal_value.specs.declared.operator.Op.TheVariants.{Add, Subtract, Multiply, Divide, Equal, NotEqual, Less, LessEqual, Greater, GreaterEqual, And, Or}
use Rattle.cal_value.specs.declared.value.Value.{Value}
use Rattle.cal_value.specs.declared.value.Value.TheVariants.{Null, Bool as BoolValue, Int, Text}
use Rattle.cal_value.specs.Logic.{is_true, and3, truth_of, value_of}
use Rattle.cal_expr.specs.declared.expr.Expr.{Expr}
use Rattle.cal_expr.specs.declared.expr.Expr.TheVariants.{Column, Literal, Negate, Binary, Not, IsNull}
use Rattle.cal_expr.specs.Meaning.{meaning_of, applied}
use Rattle.expr_parts.specs.Columns.{columns_read}
use Rattle.expr_parts.specs.Conjuncts.{Split, of_literal, of_operator, conjuncts_of, and_all, conjunction}
use Rattle.expr_parts.proofs.ColumnLaws.{reads-left, reads-right}
use Rattle.expr_parts.proofs.ExprSteps.{AtEach, each_expr, meaning-Literal, meaning-Binary, columns-Literal, columns-Binary, split_of, split-Column, split-Literal, split-Negate, split-Binary, split-Not, split-IsNull}

abbrev Whole : Expr → Type 0
Whole e = (split_of e).whole ≡ e

-- a split keeps the expression
pub split-whole : (e : Expr) → (split_of e).whole ≡ e
split-whole = each_expr Whole each
  where
    each : AtEach Whole
    each = record {
      column = λ at. ap (λ (s : Split). s.whole) (split-Column at);
      literal = λ v. ap (λ (s : Split). s.whole) (split-Literal v);
      negate = λ e h. ap (λ (s : Split). s.whole) (split-Negate e) ∙ ap Negate h;
      binary = λ op a b h k. ap (λ (s : Split). s.whole) (split-Binary op a b) ∙ ap (λ e. Binary op e (split_of b).whole) h ∙ ap (Binary op a) k;
      not = λ e h. ap (λ (s : Split). s.whole) (split-Not e) ∙ ap Not h;
      is_null = λ e h. ap (λ (s : Split). s.whole) (split-IsNull e) ∙ ap IsNull h;
    }

-- ---- the conjuncts of each variant

pub conjuncts-Column : (at : ℕ) → conjuncts_of (Column at) ≡ Column at ∷ []
conjuncts-Column at = ap (λ (s : Split). s.conjuncts) (split-Column at)

pub conjuncts-Literal : (v : Value) → conjuncts_of (Literal v) ≡ of_literal v
conjuncts-Literal v = ap (λ (s : Split). s.conjuncts) (split-Literal v)

pub conjuncts-Negate : (e : Expr) → conjuncts_of (Negate e) ≡ Negate e ∷ []
conjuncts-Negate e = ap (λ (s : Split). s.conjuncts) (split-Negate e) ∙ ap (λ e. Negate e ∷ []) (split-whole e)

pub conjuncts-Binary : (op : Op) (a b : Expr) → conjuncts_of (Binary op a b) ≡ of_operator op (split_of a) (split_of b)
conjuncts-Binary op a b = ap (λ (s : Split). s.conjuncts) (split-Binary op a b)

pub conjuncts-Not : (e : Expr) → conjuncts_of (Not e) ≡ Not e ∷ []
conjuncts-Not e = ap (λ (s : Split). s.conjuncts) (split-Not e) ∙ ap (λ e. Not e ∷ []) (split-whole e)

pub conjuncts-IsNull : (e : Expr) → conjuncts_of (IsNull e) ≡ IsNull e ∷ []
conjuncts-IsNull e = ap (λ (s : Split). s.conjuncts) (split-IsNull e) ∙ ap (λ e. IsNull e ∷ []) (split-whole e)

-- of an operator that isn't AND
pub alone-is : (op : Op) (a b : Expr) → Binary op (split_of a).whole (split_of b).whole ∷ [] ≡ Binary op a b ∷ []
alone-is op a b = ap (λ e. Binary op e (split_of b).whole ∷ []) (split-whole a) ∙ ap (λ e. Binary op a e ∷ []) (split-whole b)

-- ---- where they hold

true-alone : (v : Value) → is_true v ≡ (is_true v && true)
true-alone Null = refl
true-alone (BoolValue true) = refl
true-alone (BoolValue false) = refl
true-alone (Int n) = refl
true-alone (Text t) = refl

true-unknown : (v : Value) → is_true (value_of (and3 None (truth_of v))) ≡ false
true-unknown Null = refl
true-unknown (BoolValue true) = refl
true-unknown (BoolValue false) = refl
true-unknown (Int n) = refl
true-unknown (Text t) = refl

true-value : (v : Value) → is_true (value_of (truth_of v)) ≡ is_true v
true-value Null = refl
true-value (BoolValue b) = refl
true-value (Int n) = refl
true-value (Text t) = refl

-- AND is TRUE where both its operands are
pub and-true : (v w : Value) → is_true (applied And v w) ≡ (is_true v && is_true w)
and-true Null w = true-unknown w
and-true (BoolValue true) w = true-value w
and-true (BoolValue false) w = refl
and-true (Int n) w = true-unknown w
and-true (Text t) w = true-unknown w

abbrev pub are_true : List Value → List Expr → Bool
are_true row es = list_all (λ c. is_true (meaning_of c row)) es

one-true : (e : Expr) (row : List Value) → is_true (meaning_of e row) ≡ are_true row (e ∷ [])
one-true e row = true-alone (meaning_of e row)

literal-true : (v : Value) (row : List Value) → is_true v ≡ are_true row (of_literal v)
literal-true Null row = ap is_true (sym (meaning-Literal Null row)) ∙ one-true (Literal Null) row
literal-true (BoolValue true) row = refl
literal-true (BoolValue false) row = ap is_true (sym (meaning-Literal (BoolValue false) row)) ∙ one-true (Literal (BoolValue false)) row
literal-true (Int n) row = ap is_true (sym (meaning-Literal (Int n) row)) ∙ one-true (Literal (Int n)) row
literal-true (Text t) row = ap is_true (sym (meaning-Literal (Text t) row)) ∙ one-true (Literal (Text t)) row

abbrev Holds : List Value → Expr → Type 0
Holds row e = is_true (meaning_of e row) ≡ are_true row (conjuncts_of e)

and-holds : (row : List Value) (a b : Expr) → Holds row a → Holds row b → Holds row (Binary And a b)
and-holds row a b h k =
    ap is_true (meaning-Binary And a b row) ∙ and-true (meaning_of a row) (meaning_of b row)
    ∙ ap (λ p. p && is_true (meaning_of b row)) h ∙ ap (λ q. are_true row (conjuncts_of a) && q) k
    ∙ sym (list_all-append (λ c. is_true (meaning_of c row)) (conjuncts_of a) (conjuncts_of b)) ∙ ap (are_true row) (sym (conjuncts-Binary And a b))

alone-holds : (row : List Value) (op : Op) (a b : Expr) → of_operator op (split_of a) (split_of b) ≡ Binary op (split_of a).whole (split_of b).whole ∷ [] → Holds row (Binary op a b)
alone-holds row op a b is = one-true (Binary op a b) row ∙ ap (are_true row) (sym (conjuncts-Binary op a b ∙ is ∙ alone-is op a b))

binary-holds : (row : List Value) (op : Op) (a b : Expr) → Holds row a → Holds row b → Holds row (Binary op a b)
binary-holds row Add a b h k = alone-holds row Add a b refl
binary-holds row Subtract a b h k = alone-holds row Subtract a b refl
binary-holds row Multiply a b h k = alone-holds row Multiply a b refl
binary-holds row Divide a b h k = alone-holds row Divide a b refl
binary-holds row Equal a b h k = alone-holds row Equal a b refl
binary-holds row NotEqual a b h k = alone-holds row NotEqual a b refl
binary-holds row Less a b h k = alone-holds row Less a b refl
binary-holds row LessEqual a b h k = alone-holds row LessEqual a b refl
binary-holds row Greater a b h k = alone-holds row Greater a b refl
binary-holds row GreaterEqual a b h k = alone-holds row GreaterEqual a b refl
binary-holds row And a b h k = and-holds row a b h k
binary-holds row Or a b h k = alone-holds row Or a b refl

-- an expression is TRUE of a row where each of its conjuncts is
pub conjuncts-true : (e : Expr) (row : List Value) → is_true (meaning_of e row) ≡ list_all (λ c. is_true (meaning_of c row)) (conjuncts_of e)
conjuncts-true e row = each_expr (Holds row) each e
  where
    each : AtEach (Holds row)
    each = record {
      column = λ at. one-true (Column at) row ∙ ap (are_true row) (sym (conjuncts-Column at));
      literal = λ v. ap is_true (meaning-Literal v row) ∙ literal-true v row ∙ ap (are_true row) (sym (conjuncts-Literal v));
      negate = λ e h. one-true (Negate e) row ∙ ap (are_true row) (sym (conjuncts-Negate e));
      binary = λ op a b h k. binary-holds row op a b h k;
      not = λ e h. one-true (Not e) row ∙ ap (are_true row) (sym (conjuncts-Not e));
      is_null = λ e h. one-true (IsNull e) row ∙ ap (are_true row) (sym (conjuncts-IsNull e));
    }

and_assoc : (p q r : Bool) → ((p && q) && r) ≡ (p && (q && r))
and_assoc true q r = refl
and_assoc false q r = refl

and_all-true : (before : Expr) (cs : List Expr) (row : List Value) → is_true (meaning_of (and_all before cs) row) ≡ (is_true (meaning_of before row) && are_true row cs)
and_all-true before [] row = true-alone (meaning_of before row)
and_all-true before (c ∷ cs) row =
    and_all-true (Binary And before c) cs row
    ∙ ap (λ v. is_true v && are_true row cs) (meaning-Binary And before c row)
    ∙ ap (λ p. p && are_true row cs) (and-true (meaning_of before row) (meaning_of c row))
    ∙ and_assoc (is_true (meaning_of before row)) (is_true (meaning_of c row)) (are_true row cs)

-- a conjunction is TRUE of a row where each conjunct is
pub conjunction-true : (cs : List Expr) (row : List Value) → is_true (meaning_of (conjunction cs) row) ≡ list_all (λ c. is_true (meaning_of c row)) cs
conjunction-true [] row = ap is_true (meaning-Literal (BoolValue true) row)
conjunction-true (c ∷ cs) row = and_all-true c cs row

-- ---- the columns that they read

abbrev ReadsOf : (ℕ → Type 0) → Expr → Type 0
ReadsOf P e = All P (columns_read e)

abbrev EachReads : (ℕ → Type 0) → Expr → Type 0
EachReads P e = All P (columns_read e) → All (ReadsOf P) (conjuncts_of e)

one-reads : (P : ℕ → Type 0) (e : Expr) → All P (columns_read e) → All (ReadsOf P) (e ∷ [])
one-reads P e all = All-cons (ReadsOf P) e [] all (All-nil (ReadsOf P))

literal-reads : (P : ℕ → Type 0) (v : Value) → All P (columns_read (Literal v)) → All (ReadsOf P) (of_literal v)
literal-reads P Null all = one-reads P (Literal Null) all
literal-reads P (BoolValue true) all = All-nil (ReadsOf P)
literal-reads P (BoolValue false) all = one-reads P (Literal (BoolValue false)) all
literal-reads P (Int n) all = one-reads P (Literal (Int n)) all
literal-reads P (Text t) all = one-reads P (Literal (Text t)) all

alone-reads : (P : ℕ → Type 0) (op : Op) (a b : Expr) → of_operator op (split_of a) (split_of b) ≡ Binary op (split_of a).whole (split_of b).whole ∷ [] → EachReads P (Binary op a b)
alone-reads P op a b is all = All-same (ReadsOf P) (conjuncts_of (Binary op a b)) (Binary op a b ∷ []) (conjuncts-Binary op a b ∙ is ∙ alone-is op a b) (one-reads P (Binary op a b) all)

binary-reads : (P : ℕ → Type 0) (op : Op) (a b : Expr) → EachReads P a → EachReads P b → EachReads P (Binary op a b)
binary-reads P Add a b h k = alone-reads P Add a b refl
binary-reads P Subtract a b h k = alone-reads P Subtract a b refl
binary-reads P Multiply a b h k = alone-reads P Multiply a b refl
binary-reads P Divide a b h k = alone-reads P Divide a b refl
binary-reads P Equal a b h k = alone-reads P Equal a b refl
binary-reads P NotEqual a b h k = alone-reads P NotEqual a b refl
binary-reads P Less a b h k = alone-reads P Less a b refl
binary-reads P LessEqual a b h k = alone-reads P LessEqual a b refl
binary-reads P Greater a b h k = alone-reads P Greater a b refl
binary-reads P GreaterEqual a b h k = alone-reads P GreaterEqual a b refl
binary-reads P And a b h k = λ all.
    All-same (ReadsOf P) (conjuncts_of (Binary And a b)) (conjuncts_of a ++ conjuncts_of b) (conjuncts-Binary And a b)
    (All-append (ReadsOf P) (conjuncts_of a) (conjuncts_of b) (h (reads-left P And a b all)) (k (reads-right P And a b all)))
binary-reads P Or a b h k = alone-reads P Or a b refl

-- each column that a conjunct reads is read by the whole
pub conjuncts-read : (P : ℕ → Type 0) (e : Expr) → All P (columns_read e) → All (λ c. All P (columns_read c)) (conjuncts_of e)
conjuncts-read P = each_expr (EachReads P) each
  where
    each : AtEach (EachReads P)
    each = record {
      column = λ at all. All-same (ReadsOf P) (conjuncts_of (Column at)) (Column at ∷ []) (conjuncts-Column at) (one-reads P (Column at) all);
      literal = λ v all. All-same (ReadsOf P) (conjuncts_of (Literal v)) (of_literal v) (conjuncts-Literal v) (literal-reads P v all);
      negate = λ e h all. All-same (ReadsOf P) (conjuncts_of (Negate e)) (Negate e ∷ []) (conjuncts-Negate e) (one-reads P (Negate e) all);
      binary = λ op a b h k. binary-reads P op a b h k;
      not = λ e h all. All-same (ReadsOf P) (conjuncts_of (Not e)) (Not e ∷ []) (conjuncts-Not e) (one-reads P (Not e) all);
      is_null = λ e h all. All-same (ReadsOf P) (conjuncts_of (IsNull e)) (IsNull e ∷ []) (conjuncts-IsNull e) (one-reads P (IsNull e) all);
    }

and_all-read : (P : ℕ → Type 0) (before : Expr) (cs : List Expr) → All P (columns_read before) → All (ReadsOf P) cs → All P (columns_read (and_all before cs))
and_all-read P before [] here all = here
and_all-read P before (c ∷ cs) here all =
    and_all-read P (Binary And before c) cs
    (All-same P (columns_read (Binary And before c)) (columns_read before ++ columns_read c) (columns-Binary And before c)
    (All-append P (columns_read before) (columns_read c) here (All-head (ReadsOf P) c cs all)))
    (All-tail (ReadsOf P) c cs all)

-- a conjunction reads the columns that its conjuncts read
pub conjunction-reads : (P : ℕ → Type 0) (cs : List Expr) → All (λ c. All P (columns_read c)) cs → All P (columns_read (conjunction cs))
conjunction-reads P [] all = All-same P (columns_read (Literal (BoolValue true))) [] (columns-Literal (BoolValue true)) (All-nil P)
conjunction-reads P (c ∷ cs) all = and_all-read P c cs (All-head (ReadsOf P) c cs all) (All-tail (ReadsOf P) c cs all)
