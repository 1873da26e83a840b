-- What the columns that an expression reads settle, and other expressions in their places.
use Rattle.std.proofs.Common.{◌≡◌, ℕ, zero, suc, ◌-◌, ◌<◌, ◌≤◌, Bool, true, false, ◌&&◌, List, [], ◌∷◌, ◌++◌, map, length, All, Option, Some, None, refl, sym, ◌∙◌, ap, slice_get, unwrap_or, arith, append-nil}
use Rattle.std.specs.Prelude.{nat_lt, nat_le}
use Rattle.std.specs.List.{list_all}
use Rattle.std.specs.Option.{option_and_then, option_map}
use Rattle.std.proofs.lemmas.List.Elements.{All-nil, All-cons, All-head, All-tail, All-append, All-same, All-weaker}
use Rattle.std.proofs.lemmas.Bool.Decides.{nat_tests}
use Rattle.std.proofs.lemmas.Option.{slice_get_within}
use Rattle.cal_value.specs.declared.kind.SqlType.{SqlType}
use Rattle.cal_value.specs.declared.operator.Op.{Op}
use Rattle.cal_value.specs.declared.value.Value.{Value}
use Rattle.cal_value.specs.declared.value.Value.TheVariants.{Bool as BoolValue}
use Rattle.cal_value.specs.Logic.{not3, truth_of, value_of, is_null}
use Rattle.cal_value.specs.Order.{column_of, columns_of}
use Rattle.cal_value.specs.Types.{boolean_type}
use Rattle.cal_value.proofs.TypeLemmas.{and-both}
use Rattle.cal_expr.specs.declared.expr.Expr.{Expr}
use Rattle.cal_expr.specs.declared.expr.Expr.TheVariants.{Column, Literal, Negate, Binary, Not, IsNull}
use Rattle.cal_expr.specs.Meaning.{meaning_of, applied, negated}
use Rattle.cal_expr.specs.Typing.{type_of, column_type, negation_type, not_type, op_type, of_both}
use Rattle.expr_parts.specs.Columns.{columns_read, is_none, is_constant, with_columns, over_items, over_columns, shifted_down}
use Rattle.expr_parts.proofs.ExprSteps.{AtEach, each_expr, meaning-Column, meaning-Literal, meaning-Negate, meaning-Binary, meaning-Not, meaning-IsNull, type-Column, type-Literal, type-Negate, type-Binary, type-Not, type-IsNull, columns-Column, columns-Literal, columns-Negate, columns-Binary, columns-Not, columns-IsNull, with-Column, with-Literal, with-Negate, with-Binary, with-Not, with-IsNull}

-- ---- what holds of each element of two lists

pub All-left : {A : Type 0} (P : A → Type 0) (xs ys : List A) → All P (xs ++ ys) → All P xs
All-left P [] ys all = All-nil P
All-left P (x ∷ xs) ys all = All-cons P x xs (All-head P x (xs ++ ys) all) (All-left P xs ys (All-tail P x (xs ++ ys) all))

pub All-right : {A : Type 0} (P : A → Type 0) (xs ys : List A) → All P (xs ++ ys) → All P ys
All-right P [] ys all = all
All-right P (x ∷ xs) ys all = All-right P xs ys (All-tail P x (xs ++ ys) all)

-- ---- what holds of each column that an expression reads

pub reads-column : (P : ℕ → Type 0) (at : ℕ) → All P (columns_read (Column at)) → P at
reads-column P at all = All-head P at [] (All-same P (at ∷ []) (columns_read (Column at)) (sym (columns-Column at)) all)

pub reads-negated : (P : ℕ → Type 0) (e : Expr) → All P (columns_read (Negate e)) → All P (columns_read e)
reads-negated P e all = All-same P (columns_read e) (columns_read (Negate e)) (sym (columns-Negate e)) all

pub reads-left : (P : ℕ → Type 0) (op : Op) (a b : Expr) → All P (columns_read (Binary op a b)) → All P (columns_read a)
reads-left P op a b all = All-left P (columns_read a) (columns_read b) (All-same P (columns_read a ++ columns_read b) (columns_read (Binary op a b)) (sym (columns-Binary op a b)) all)

pub reads-right : (P : ℕ → Type 0) (op : Op) (a b : Expr) → All P (columns_read (Binary op a b)) → All P (columns_read b)
reads-right P op a b all = All-right P (columns_read a) (columns_read b) (All-same P (columns_read a ++ columns_read b) (columns_read (Binary op a b)) (sym (columns-Binary op a b)) all)

pub reads-not : (P : ℕ → Type 0) (e : Expr) → All P (columns_read (Not e)) → All P (columns_read e)
reads-not P e all = All-same P (columns_read e) (columns_read (Not e)) (sym (columns-Not e)) all

pub reads-is_null : (P : ℕ → Type 0) (e : Expr) → All P (columns_read (IsNull e)) → All P (columns_read e)
reads-is_null P e all = All-same P (columns_read e) (columns_read (IsNull e)) (sym (columns-IsNull e)) all

-- ---- values

abbrev Agree : List Value → List Value → ℕ → Type 0
Agree r s at = column_of r at ≡ column_of s at

abbrev SameOver : List Value → List Value → Expr → Type 0
SameOver r s e = All (Agree r s) (columns_read e) → meaning_of e r ≡ meaning_of e s

-- rows with the same value in each column that is read
pub same_columns-mean : (e : Expr) (r s : List Value) → All (λ at. column_of r at ≡ column_of s at) (columns_read e) → meaning_of e r ≡ meaning_of e s
same_columns-mean e r s = each_expr (SameOver r s) each e
  where
    each : AtEach (SameOver r s)
    each = record {
      column = λ at all. meaning-Column at r ∙ reads-column (Agree r s) at all ∙ sym (meaning-Column at s);
      literal = λ v all. meaning-Literal v r ∙ sym (meaning-Literal v s);
      negate = λ e h all. meaning-Negate e r ∙ ap negated (h (reads-negated (Agree r s) e all)) ∙ sym (meaning-Negate e s);
      binary = λ op a b h k all.
          meaning-Binary op a b r
          ∙ ap (λ v. applied op v (meaning_of b r)) (h (reads-left (Agree r s) op a b all))
          ∙ ap (applied op (meaning_of a s)) (k (reads-right (Agree r s) op a b all))
          ∙ sym (meaning-Binary op a b s);
      not = λ e h all. meaning-Not e r ∙ ap (λ v. value_of (not3 (truth_of v))) (h (reads-not (Agree r s) e all)) ∙ sym (meaning-Not e s);
      is_null = λ e h all. meaning-IsNull e r ∙ ap (λ v. BoolValue (is_null v)) (h (reads-is_null (Agree r s) e all)) ∙ sym (meaning-IsNull e s);
    }

abbrev Gives : (ℕ → Expr) → List Value → List Value → ℕ → Type 0
Gives f row other at = meaning_of (f at) row ≡ column_of other at

abbrev Replaces : (ℕ → Expr) → List Value → List Value → Expr → Type 0
Replaces f row other e = All (Gives f row other) (columns_read e) → meaning_of (with_columns f e) row ≡ meaning_of e other

-- an expression in the place of each column that is read, with the value of that column of another row
pub replaced_columns-mean : (f : ℕ → Expr) (e : Expr) (row other : List Value) → All (λ at. meaning_of (f at) row ≡ column_of other at) (columns_read e)
    → meaning_of (with_columns f e) row ≡ meaning_of e other
replaced_columns-mean f e row other = each_expr (Replaces f row other) each e
  where
    each : AtEach (Replaces f row other)
    each = record {
      column = λ at all. ap (λ e. meaning_of e row) (with-Column f at) ∙ reads-column (Gives f row other) at all ∙ sym (meaning-Column at other);
      literal = λ v all. ap (λ e. meaning_of e row) (with-Literal f v) ∙ meaning-Literal v row ∙ sym (meaning-Literal v other);
      negate = λ e h all.
          ap (λ e. meaning_of e row) (with-Negate f e) ∙ meaning-Negate (with_columns f e) row
          ∙ ap negated (h (reads-negated (Gives f row other) e all)) ∙ sym (meaning-Negate e other);
      binary = λ op a b h k all.
          ap (λ e. meaning_of e row) (with-Binary f op a b) ∙ meaning-Binary op (with_columns f a) (with_columns f b) row
          ∙ ap (λ v. applied op v (meaning_of (with_columns f b) row)) (h (reads-left (Gives f row other) op a b all))
          ∙ ap (applied op (meaning_of a other)) (k (reads-right (Gives f row other) op a b all))
          ∙ sym (meaning-Binary op a b other);
      not = λ e h all.
          ap (λ e. meaning_of e row) (with-Not f e) ∙ meaning-Not (with_columns f e) row
          ∙ ap (λ v. value_of (not3 (truth_of v))) (h (reads-not (Gives f row other) e all)) ∙ sym (meaning-Not e other);
      is_null = λ e h all.
          ap (λ e. meaning_of e row) (with-IsNull f e) ∙ meaning-IsNull (with_columns f e) row
          ∙ ap (λ v. BoolValue (is_null v)) (h (reads-is_null (Gives f row other) e all)) ∙ sym (meaning-IsNull e other);
    }

-- ---- items, columns and shifts

item-gives : (items : List Expr) (row : List Value) (at : ℕ) (other : Expr) → at < length items
    → meaning_of (unwrap_or (slice_get items at) other) row ≡ column_of (map (λ item. meaning_of item row) items) at
item-gives [] row at other l = absurd (omega arith)
item-gives (item ∷ items) row zero other l = refl
item-gives (item ∷ items) row (suc at) other l = item-gives items row at other (omega arith)

-- over the items, what it means over their values
pub over_items-mean : (items : List Expr) (e : Expr) (row : List Value) → All (λ at. at < length items) (columns_read e)
    → meaning_of (over_items items e) row ≡ meaning_of e (map (λ item. meaning_of item row) items)
over_items-mean items e row all =
    replaced_columns-mean (λ at. unwrap_or (slice_get items at) (Column at)) e row (map (λ item. meaning_of item row) items)
    (All-weaker (λ at. at < length items) (Gives (λ at. unwrap_or (slice_get items at) (Column at)) row (map (λ item. meaning_of item row) items))
    (λ at l. item-gives items row at (Column at) l) (columns_read e) all)

column-gives : (columns : List ℕ) (row more : List Value) (at other : ℕ) → at < length columns
    → column_of row (unwrap_or (slice_get columns at) other) ≡ column_of (columns_of row columns ++ more) at
column-gives [] row more at other l = absurd (omega arith)
column-gives (column ∷ columns) row more zero other l = refl
column-gives (column ∷ columns) row more (suc at) other l = column-gives columns row more at other (omega arith)

-- over the columns, what it means over each row that begins with their values
pub over_columns-mean_before : (columns : List ℕ) (e : Expr) (row more : List Value) → All (λ at. at < length columns) (columns_read e)
    → meaning_of (over_columns columns e) row ≡ meaning_of e (columns_of row columns ++ more)
over_columns-mean_before columns e row more all =
    replaced_columns-mean (λ at. Column (unwrap_or (slice_get columns at) at)) e row (columns_of row columns ++ more)
    (All-weaker (λ at. at < length columns) (Gives (λ at. Column (unwrap_or (slice_get columns at) at)) row (columns_of row columns ++ more))
    (λ at l. meaning-Column (unwrap_or (slice_get columns at) at) row ∙ column-gives columns row more at at l) (columns_read e) all)

pub over_columns-mean : (columns : List ℕ) (e : Expr) (row : List Value) → All (λ at. at < length columns) (columns_read e)
    → meaning_of (over_columns columns e) row ≡ meaning_of e (columns_of row columns)
over_columns-mean columns e row all = over_columns-mean_before columns e row [] all ∙ ap (meaning_of e) (append-nil (columns_of row columns))

column-past : (x y : List Value) (at : ℕ) → length x ≤ at → column_of y (at - length x) ≡ column_of (x ++ y) at
column-past [] y at l = ap (column_of y) (omega arith)
column-past (v ∷ x) y zero l = absurd (omega arith)
column-past (v ∷ x) y (suc at) l = ap (column_of y) (omega arith) ∙ column-past x y at (omega arith)

column-within : (x y : List Value) (at : ℕ) → at < length x → column_of (x ++ y) at ≡ column_of x at
column-within [] y at l = absurd (omega arith)
column-within (v ∷ x) y zero l = refl
column-within (v ∷ x) y (suc at) l = column-within x y at (omega arith)

-- shifted down by the length of a first part, over the second part what it means over both
pub shifted_down-mean : (x y : List Value) (e : Expr) → All (λ at. length x ≤ at) (columns_read e) → meaning_of (shifted_down (length x) e) y ≡ meaning_of e (x ++ y)
shifted_down-mean x y e all =
    replaced_columns-mean (λ at. Column (at - length x)) e y (x ++ y)
    (All-weaker (λ at. length x ≤ at) (Gives (λ at. Column (at - length x)) y (x ++ y))
    (λ at l. meaning-Column (at - length x) y ∙ column-past x y at l) (columns_read e) all)

-- one that reads the first part alone
pub first_part-mean : (x y : List Value) (e : Expr) → All (λ at. at < length x) (columns_read e) → meaning_of e (x ++ y) ≡ meaning_of e x
first_part-mean x y e all =
    same_columns-mean e (x ++ y) x (All-weaker (λ at. at < length x) (Agree (x ++ y) x) (λ at l. column-within x y at l) (columns_read e) all)

-- ---- tests of the columns

both-true : (p q : Bool) → p ≡ true → q ≡ true → (p && q) ≡ true
both-true p q e f = cc

pub below-all : (n : ℕ) (xs : List ℕ) → list_all (λ at. nat_lt at n) xs ≡ true → All (λ at. at < n) xs
below-all n [] e = All-nil (λ at. at < n)
below-all n (x ∷ xs) e =
    let p = and-both (nat_lt x n) (list_all (λ at. nat_lt at n) xs) e in
    All-cons (λ at. at < n) x xs (grind (arith, nat_tests)) (below-all n xs p.1)

pub all-below : (n : ℕ) (xs : List ℕ) → All (λ at. at < n) xs → list_all (λ at. nat_lt at n) xs ≡ true
all-below n [] all = refl
all-below n (x ∷ xs) all =
    let here = All-head (λ at. at < n) x xs all in
    both-true (nat_lt x n) (list_all (λ at. nat_lt at n) xs) (grind (arith, nat_tests)) (all-below n xs (All-tail (λ at. at < n) x xs all))

pub from-all : (n : ℕ) (xs : List ℕ) → list_all (λ at. nat_le n at) xs ≡ true → All (λ at. n ≤ at) xs
from-all n [] e = All-nil (λ at. n ≤ at)
from-all n (x ∷ xs) e =
    let p = and-both (nat_le n x) (list_all (λ at. nat_le n at) xs) e in
    All-cons (λ at. n ≤ at) x xs (grind (arith, nat_tests)) (from-all n xs p.1)

pub all-from : (n : ℕ) (xs : List ℕ) → All (λ at. n ≤ at) xs → list_all (λ at. nat_le n at) xs ≡ true
all-from n [] all = refl
all-from n (x ∷ xs) all =
    let here = All-head (λ at. n ≤ at) x xs all in
    both-true (nat_le n x) (list_all (λ at. nat_le n at) xs) (grind (arith, nat_tests)) (all-from n xs (All-tail (λ at. n ≤ at) x xs all))

-- ---- types

abbrev Listed : List SqlType → List SqlType → ℕ → Type 0
Listed ts us at = slice_get ts at ≡ slice_get us at

abbrev TypedOver : List SqlType → List SqlType → Expr → Type 0
TypedOver ts us e = All (Listed ts us) (columns_read e) → type_of e ts ≡ type_of e us

-- the types of the columns that are read settle the type
pub same_columns-type : (e : Expr) (ts us : List SqlType) → All (λ at. slice_get ts at ≡ slice_get us at) (columns_read e) → type_of e ts ≡ type_of e us
same_columns-type e ts us = each_expr (TypedOver ts us) each e
  where
    each : AtEach (TypedOver ts us)
    each = record {
      column = λ at all. type-Column at ts ∙ ap (option_and_then column_type) (reads-column (Listed ts us) at all) ∙ sym (type-Column at us);
      literal = λ v all. type-Literal v ts ∙ sym (type-Literal v us);
      negate = λ e h all. type-Negate e ts ∙ ap (option_and_then negation_type) (h (reads-negated (Listed ts us) e all)) ∙ sym (type-Negate e us);
      binary = λ op a b h k all.
          type-Binary op a b ts
          ∙ ap (λ t. of_both (op_type op) t (type_of b ts)) (h (reads-left (Listed ts us) op a b all))
          ∙ ap (of_both (op_type op) (type_of a us)) (k (reads-right (Listed ts us) op a b all))
          ∙ sym (type-Binary op a b us);
      not = λ e h all. type-Not e ts ∙ ap (option_and_then not_type) (h (reads-not (Listed ts us) e all)) ∙ sym (type-Not e us);
      is_null = λ e h all. type-IsNull e ts ∙ ap (option_map (λ _. boolean_type false)) (h (reads-is_null (Listed ts us) e all)) ∙ sym (type-IsNull e us);
    }

abbrev InRange : List SqlType → Expr → Type 0
InRange ts e = (t : SqlType) → type_of e ts ≡ Some t → All (λ at. at < length ts) (columns_read e)

some-and_then : {A B : Type 0} (f : A → Option B) (o : Option A) (b : B) → option_and_then f o ≡ Some b → (a : A) × (o ≡ Some a)
some-and_then f None b e = absurd (cc)
some-and_then f (Some a) b e = (a, refl)

some-map : {A B : Type 0} (f : A → B) (o : Option A) (b : B) → option_map f o ≡ Some b → (a : A) × (o ≡ Some a)
some-map f None b e = absurd (cc)
some-map f (Some a) b e = (a, refl)

some-first : (f : SqlType → SqlType → Option SqlType) (o p : Option SqlType) (t : SqlType) → of_both f o p ≡ Some t → (s : SqlType) × (o ≡ Some s)
some-first f None p t e = absurd (cc)
some-first f (Some s) None t e = absurd (cc)
some-first f (Some s) (Some u) t e = (s, refl)

some-second : (f : SqlType → SqlType → Option SqlType) (o p : Option SqlType) (t : SqlType) → of_both f o p ≡ Some t → (s : SqlType) × (p ≡ Some s)
some-second f None p t e = absurd (cc)
some-second f (Some s) None t e = absurd (cc)
some-second f (Some s) (Some u) t e = (u, refl)

-- a well-formed expression reads columns that are there
pub well_formed-reads : (e : Expr) (ts : List SqlType) (t : SqlType) → type_of e ts ≡ Some t → All (λ at. at < length ts) (columns_read e)
well_formed-reads e ts = each_expr (InRange ts) each e
  where
    each : AtEach (InRange ts)
    each = record {
      column = λ at t is.
          let s = some-and_then column_type (slice_get ts at) t (sym (type-Column at ts) ∙ is) in
          All-same (λ at. at < length ts) (columns_read (Column at)) (at ∷ []) (columns-Column at)
          (All-cons (λ at. at < length ts) at [] (slice_get_within ts at s.0 s.1) (All-nil (λ at. at < length ts)));
      literal = λ v t is. All-same (λ at. at < length ts) (columns_read (Literal v)) [] (columns-Literal v) (All-nil (λ at. at < length ts));
      negate = λ e h t is.
          let s = some-and_then negation_type (type_of e ts) t (sym (type-Negate e ts) ∙ is) in
          All-same (λ at. at < length ts) (columns_read (Negate e)) (columns_read e) (columns-Negate e) (h s.0 s.1);
      binary = λ op a b h k t is.
          let whole = sym (type-Binary op a b ts) ∙ is in
          let s = some-first (op_type op) (type_of a ts) (type_of b ts) t whole in
          let u = some-second (op_type op) (type_of a ts) (type_of b ts) t whole in
          All-same (λ at. at < length ts) (columns_read (Binary op a b)) (columns_read a ++ columns_read b) (columns-Binary op a b)
          (All-append (λ at. at < length ts) (columns_read a) (columns_read b) (h s.0 s.1) (k u.0 u.1));
      not = λ e h t is.
          let s = some-and_then not_type (type_of e ts) t (sym (type-Not e ts) ∙ is) in
          All-same (λ at. at < length ts) (columns_read (Not e)) (columns_read e) (columns-Not e) (h s.0 s.1);
      is_null = λ e h t is.
          let s = some-map (λ _. boolean_type false) (type_of e ts) t (sym (type-IsNull e ts) ∙ is) in
          All-same (λ at. at < length ts) (columns_read (IsNull e)) (columns_read e) (columns-IsNull e) (h s.0 s.1);
    }

-- ---- constants

none-nil : (xs : List ℕ) → is_none xs ≡ true → xs ≡ []
none-nil [] e = refl
none-nil (x ∷ xs) e = absurd (cc)

pub constant-reads : (P : ℕ → Type 0) (e : Expr) → is_constant e ≡ true → All P (columns_read e)
constant-reads P e is = All-same P (columns_read e) [] (none-nil (columns_read e) is) (All-nil P)

pub constant-type : (e : Expr) (ts us : List SqlType) → is_constant e ≡ true → type_of e ts ≡ type_of e us
constant-type e ts us is = same_columns-type e ts us (constant-reads (Listed ts us) e is)

pub constant-mean : (e : Expr) (r s : List Value) → is_constant e ≡ true → meaning_of e r ≡ meaning_of e s
constant-mean e r s is = same_columns-mean e r s (constant-reads (Agree r s) e is)
