-- Rows with keys that differ, and conditions that equate a key's columns: a row has at most one partner.
use Rattle.std.proofs.Common.{◌≡◌, ℕ, zero, suc, ◌+◌, ◌-◌, ◌==◌, ◌<◌, ◌≤◌, nat_lt, nat_le, Bool, true, false, cond, ◌&&◌, ◌||◌, List, [], ◌∷◌, ◌++◌, map, filter, length, All, AllPairs, Option, Some, None, refl, sym, ◌∙◌, ap, subst, arith}
use Rattle.std.specs.List.{flat_map, list_all}
use Rattle.std.specs.Ordering.{is_eq}
use Rattle.std.specs.declared.cmp.Ordering.{Ordering}
use Rattle.std.specs.declared.cmp.Ordering.TheVariants.{Less, Equal, Greater}
use Rattle.std.proofs.lemmas.Bool.Decides.{nat_tests, Decides-eqb}
use Rattle.std.proofs.lemmas.List.Elements.{All-nil, All-cons, All-head, All-tail, All-weaker, All-filter}
use Rattle.std.proofs.lemmas.Option.{same_Some}
use Rattle.cal_value.specs.declared.operator.Op.{Op}
use Rattle.cal_value.specs.declared.operator.Op.TheVariants as op
use Rattle.cal_value.specs.declared.value.Value.{Value}
use Rattle.cal_value.specs.declared.value.Value.TheVariants.{Null, Bool as BoolValue, Int, Text}
use Rattle.cal_value.specs.Logic.{and3, truth_of, value_of, is_true}
use Rattle.cal_value.specs.Order.{value_cmp, column_of, columns_of}
use Rattle.cal_value.proofs.OrderLemmas.{value_cmp-IsAntisymmetric}
use Rattle.cal_value.proofs.TypeLemmas.{and-both}
use Rattle.cal_expr.specs.declared.expr.Expr.{Expr}
use Rattle.cal_expr.specs.declared.expr.Expr.TheFolds.{fold-roll-Expr, ind-Expr, map-Expr}
use Rattle.cal_expr.specs.declared.expr.Expr.TheOpen.{Expr-F}
use Rattle.cal_expr.specs.declared.expr.Expr.TheViews.{roll-Expr}
use Rattle.cal_expr.specs.Meaning.{meaning_of, meaning_step, applied}
use Rattle.cal_schema.specs.declared.star_pair.StarPair.{StarPair}
use Rattle.cal_rel.specs.Operators.{Row, holds, partners}
use Rattle.cal_rel.specs.Typing.{Equated, pair_of, equated_op, equated_step, equated, pairs_of, is_among}
use Rattle.cal_rel.proofs.Totals.{total, total-filter, total-map, total-flat_map, total-ext, total-plus, total-one}

-- ---- elements apart

-- each element from each later one
abbrev pub Apart : {A : Type 0} → (A → A → Type 0) → List A → Type 0
Apart R [] = Unit {0}
Apart R (x ∷ xs) = All (R x) xs × Apart R xs

pub Apart-from_AllPairs : {A : Type 0} (R : A → A → Type 0) (xs : List A) → AllPairs R xs → Apart R xs
Apart-from_AllPairs R [] h = tt
Apart-from_AllPairs R (x ∷ xs) h = ((λ k d l. h zero (suc k) d (omega arith) (omega arith)), Apart-from_AllPairs R xs (λ i j d l m. h (suc i) (suc j) d (omega arith) (omega arith)))

pub Apart-filter : {A : Type 0} (R : A → A → Type 0) (p : A → Bool) (xs : List A) → Apart R xs → Apart R (filter p xs)
Apart-filter R p [] h = tt
Apart-filter {A} R p (x ∷ xs) h = by (p x) (Apart-filter R p xs h.1)
  where
    by : (b : Bool) → Apart R (filter p xs) → Apart R (cond b (x ∷ filter p xs) (filter p xs))
    by true k = (All-filter p (R x) xs h.0, k)
    by false k = k

pub Apart-weaker : {A : Type 0} (R S : A → A → Type 0) → ((x y : A) → R x y → S x y) → (xs : List A) → Apart R xs → Apart S xs
Apart-weaker R S f [] h = tt
Apart-weaker R S f (x ∷ xs) h = (All-weaker (R x) (S x) (f x) xs h.0, Apart-weaker R S f xs h.1)

-- of two that pass a test, none; so at most one passes
none-passes : {A : Type 0} (p : A → Bool) (xs : List A) → All (λ x. p x ≡ true → ⊥) xs → total (λ x. cond (p x) 1 0) xs ≡ 0
none-passes p [] h = refl
none-passes p (x ∷ xs) h = by (p x) refl (none-passes p xs (All-tail (λ x. p x ≡ true → ⊥) x xs h))
  where
    by : (b : Bool) → p x ≡ b → total (λ x. cond (p x) 1 0) xs ≡ 0 → cond b 1 0 + total (λ x. cond (p x) 1 0) xs ≡ 0
    by true e k = absurd (All-head (λ x. p x ≡ true → ⊥) x xs h e)
    by false e k = omega arith

abbrev pub NotBoth : {A : Type 0} → (A → Bool) → A → A → Type 0
NotBoth p x y = p x ≡ true → p y ≡ true → ⊥

pub one-passes : {A : Type 0} (p : A → Bool) (xs : List A) → Apart (NotBoth p) xs → total (λ x. cond (p x) 1 0) xs ≤ 1
one-passes p [] h = omega arith
one-passes p (x ∷ xs) h = by (p x) refl (one-passes p xs h.1)
  where
    by : (b : Bool) → p x ≡ b → total (λ x. cond (p x) 1 0) xs ≤ 1 → cond b 1 0 + total (λ x. cond (p x) 1 0) xs ≤ 1
    by true e k = omega (arith, none-passes p xs (All-weaker (NotBoth p x) (λ y. p y ≡ true → ⊥) (λ y f. f e) xs h.0))
    by false e k = omega arith

-- ---- how many rows a join has

pub length-partners : (on : Expr) (right : List Row) (x : Row) → length (partners on right x) ≡ total (λ y. cond (holds on (x ++ y)) 1 0) right
length-partners on right x =
    sym (total-one (partners on right x)) ∙ total-filter (λ row. 1) (holds on) (map (λ y. x ++ y) right) ∙ total-map (λ row. cond (holds on row) 1 0) (λ y. x ++ y) right

total-zero : {A : Type 0} (xs : List A) → total (λ x. 0) xs ≡ 0
total-zero [] = refl
total-zero (x ∷ xs) = let h = total-zero xs in omega arith

-- counted by right rows in place of left ones
pub turned : {A B : Type 0} (f : A → B → ℕ) (xs : List A) (ys : List B) → total (λ x. total (f x) ys) xs ≡ total (λ y. total (λ x. f x y) xs) ys
turned f xs [] = total-zero xs
turned f xs (y ∷ ys) = total-plus (λ x. f x y) (λ x. total (f x) ys) xs ∙ ap (λ n. total (λ x. f x y) xs + n) (turned f xs ys)

at-most-ones : {A : Type 0} (f : A → ℕ) (xs : List A) → All (λ x. f x ≤ 1) xs → total f xs ≤ length xs
at-most-ones f [] h = omega arith
at-most-ones f (x ∷ xs) h = omega (arith, All-head (λ x. f x ≤ 1) x xs h, at-most-ones f xs (All-tail (λ x. f x ≤ 1) x xs h))

pub length-pairs : (on : Expr) (left right : List Row) → length (flat_map (partners on right) left) ≡ total (λ x. total (λ y. cond (holds on (x ++ y)) 1 0) right) left
length-pairs on left right =
    sym (total-one (flat_map (partners on right) left)) ∙ total-flat_map (λ row. 1) (partners on right) left
    ∙ total-ext (λ x. total (λ row. 1) (partners on right x)) (λ x. total (λ y. cond (holds on (x ++ y)) 1 0) right) (λ x. total-one (partners on right x) ∙ length-partners on right x) left

-- each right row has at most one left row
pub few-by_left : (on : Expr) (left right : List Row) → All (λ y. Apart (NotBoth (λ x. holds on (x ++ y))) left) right → length (flat_map (partners on right) left) ≤ length right
few-by_left on left right h =
    omega (
      arith,
      length-pairs on left right,
      turned (λ x y. cond (holds on (x ++ y)) 1 0) left right,
      at-most-ones (λ y. total (λ x. cond (holds on (x ++ y)) 1 0) left) right
          (All-weaker (λ y. Apart (NotBoth (λ x. holds on (x ++ y))) left) (λ y. total (λ x. cond (holds on (x ++ y)) 1 0) left ≤ 1) (λ y k. one-passes (λ x. holds on (x ++ y)) left k) right h),
    )

-- a left row has at most one right row
pub few-by_right : (on : Expr) (right : List Row) (x : Row) → Apart (NotBoth (λ y. holds on (x ++ y))) right → length (partners on right x) ≤ 1
few-by_right on right x h = omega (arith, length-partners on right x, one-passes (λ y. holds on (x ++ y)) right h)

-- ---- what an equation says

column-left : (x y : Row) (c : ℕ) → c < length x → column_of (x ++ y) c ≡ column_of x c
column-left [] y c l = absurd (omega arith)
column-left (v ∷ x) y zero l = refl
column-left (v ∷ x) y (suc c) l = column-left x y c (omega arith)

column-right : (x y : Row) (c : ℕ) → length x ≤ c → column_of (x ++ y) c ≡ column_of y (c - length x)
column-right [] y c l = let e : c - 0 ≡ c = omega arith in sym (ap (column_of y) e)
column-right (v ∷ x) y zero l = absurd (omega arith)
column-right (v ∷ x) y (suc c) l =
    let e : suc c - length (v ∷ x) ≡ c - length x = omega arith in
    column-right x y c (omega arith) ∙ sym (ap (column_of y) e)

-- the left row has in the one column what the right row has in the other
abbrev pub Agrees : Row → Row → StarPair → Type 0
Agrees x y p = column_of x p.left ≡ column_of y p.right

abbrev pub AllAgree : Row → Row → List StarPair → Type 0
AllAgree x y pairs = All (Agrees x y) pairs

order-equal : (v w : Value) (o : Ordering) → value_cmp v w ≡ o → is_eq o ≡ true → v ≡ w
order-equal v w Less e k = absurd (cc)
order-equal v w Equal e k = value_cmp-IsAntisymmetric v w e
order-equal v w Greater e k = absurd (cc)

equal-means : (v w : Value) → is_true (applied op.Equal v w) ≡ true → v ≡ w
equal-means Null w e = absurd (cc)
equal-means (BoolValue b) Null e = absurd (cc)
equal-means (BoolValue b) (BoolValue c) e = order-equal (BoolValue b) (BoolValue c) (value_cmp (BoolValue b) (BoolValue c)) refl e
equal-means (BoolValue b) (Int n) e = order-equal (BoolValue b) (Int n) (value_cmp (BoolValue b) (Int n)) refl e
equal-means (BoolValue b) (Text t) e = order-equal (BoolValue b) (Text t) (value_cmp (BoolValue b) (Text t)) refl e
equal-means (Int n) Null e = absurd (cc)
equal-means (Int n) (BoolValue c) e = order-equal (Int n) (BoolValue c) (value_cmp (Int n) (BoolValue c)) refl e
equal-means (Int n) (Int m) e = order-equal (Int n) (Int m) (value_cmp (Int n) (Int m)) refl e
equal-means (Int n) (Text t) e = order-equal (Int n) (Text t) (value_cmp (Int n) (Text t)) refl e
equal-means (Text s) Null e = absurd (cc)
equal-means (Text s) (BoolValue c) e = order-equal (Text s) (BoolValue c) (value_cmp (Text s) (BoolValue c)) refl e
equal-means (Text s) (Int n) e = order-equal (Text s) (Int n) (value_cmp (Text s) (Int n)) refl e
equal-means (Text s) (Text t) e = order-equal (Text s) (Text t) (value_cmp (Text s) (Text t)) refl e

-- AND is TRUE of two that are
and3-both : (a b : Option Bool) → is_true (value_of (and3 a b)) ≡ true → (is_true (value_of a) ≡ true) × (is_true (value_of b) ≡ true)
and3-both None None e = absurd (cc)
and3-both None (Some true) e = absurd (cc)
and3-both None (Some false) e = absurd (cc)
and3-both (Some true) None e = absurd (cc)
and3-both (Some true) (Some b) e = (refl, e)
and3-both (Some false) b e = absurd (cc)

of_truth : (v : Value) → is_true (value_of (truth_of v)) ≡ true → is_true v ≡ true
of_truth Null e = e
of_truth (BoolValue b) e = e
of_truth (Int n) e = e
of_truth (Text t) e = e

-- what an expression's column and pairs say of two rows put together
pub record Says (x y : Row) (e : Equated) (v : Value) : Type 0 where
  pub column : (c : ℕ) → e.column ≡ Some c → v ≡ column_of (x ++ y) c
  pub pairs : is_true v ≡ true → AllAgree x y e.pairs

no-column : (x y : Row) (v : Value) → Says x y (record { column = None; pairs = [] }) v
no-column x y v = record { column = λ c e. absurd (cc); pairs = λ h. All-nil (Agrees x y) }

one-pair : (x y : Row) (p : StarPair) → Agrees x y p → AllAgree x y (p ∷ [])
one-pair x y p h = All-cons (Agrees x y) p [] h (All-nil (Agrees x y))

tests-left : (width c d : ℕ) → (nat_lt c width && nat_le width d) ≡ true → (c < width) × (width ≤ d)
tests-left width c d e = let p = and-both (nat_lt c width) (nat_le width d) e in (grind (arith, nat_tests), grind (arith, nat_tests))

pair-agrees : (x y : Row) (c d : ℕ) → column_of (x ++ y) c ≡ column_of (x ++ y) d → AllAgree x y (pair_of (length x) (Some c) (Some d))
pair-agrees x y c d same = by (nat_lt c (length x) && nat_le (length x) d) refl (nat_lt d (length x) && nat_le (length x) c) refl
  where
    by : (a : Bool) → (nat_lt c (length x) && nat_le (length x) d) ≡ a → (b : Bool) → (nat_lt d (length x) && nat_le (length x) c) ≡ b
        → AllAgree x y (cond a (record { left = c; right = d - length x } ∷ []) (cond b (record { left = d; right = c - length x } ∷ []) []))
    by true e b f =
        let t = tests-left (length x) c d e in
        one-pair x y (record { left = c; right = d - length x }) (sym (column-left x y c t.0) ∙ same ∙ column-right x y d t.1)
    by false e true f =
        let t = tests-left (length x) d c f in
        one-pair x y (record { left = d; right = c - length x }) (sym (column-left x y d t.0) ∙ sym same ∙ column-right x y c t.1)
    by false e false f = All-nil (Agrees x y)

equal-pairs : (x y : Row) (a b : Option ℕ) (v w : Value) → ((c : ℕ) → a ≡ Some c → v ≡ column_of (x ++ y) c) → ((c : ℕ) → b ≡ Some c → w ≡ column_of (x ++ y) c)
    → is_true (applied op.Equal v w) ≡ true → AllAgree x y (pair_of (length x) a b)
equal-pairs x y None b v w h k e = All-nil (Agrees x y)
equal-pairs x y (Some c) None v w h k e = All-nil (Agrees x y)
equal-pairs x y (Some c) (Some d) v w h k e = pair-agrees x y c d (sym (h c refl) ∙ equal-means v w e ∙ k d refl)

All-both : (x y : Row) (ps qs : List StarPair) → AllAgree x y ps → AllAgree x y qs → AllAgree x y (ps ++ qs)
All-both x y [] qs h k = k
All-both x y (p ∷ ps) qs h k = All-cons (Agrees x y) p (ps ++ qs) (All-head (Agrees x y) p ps h) (All-both x y ps qs (All-tail (Agrees x y) p ps h) k)

op-pairs : (x y : Row) (o : Op) (a b : Equated) (v w : Value) → Says x y a v → Says x y b w → is_true (applied o v w) ≡ true → AllAgree x y (equated_op (length x) o a b)
op-pairs x y op.Add a b v w h k e = All-nil (Agrees x y)
op-pairs x y op.Subtract a b v w h k e = All-nil (Agrees x y)
op-pairs x y op.Multiply a b v w h k e = All-nil (Agrees x y)
op-pairs x y op.Divide a b v w h k e = All-nil (Agrees x y)
op-pairs x y op.Equal a b v w h k e = equal-pairs x y a.column b.column v w h.column k.column e
op-pairs x y op.NotEqual a b v w h k e = All-nil (Agrees x y)
op-pairs x y op.Less a b v w h k e = All-nil (Agrees x y)
op-pairs x y op.LessEqual a b v w h k e = All-nil (Agrees x y)
op-pairs x y op.Greater a b v w h k e = All-nil (Agrees x y)
op-pairs x y op.GreaterEqual a b v w h k e = All-nil (Agrees x y)
op-pairs x y op.And a b v w h k e =
    let both = and3-both (truth_of v) (truth_of w) e in
    All-both x y a.pairs b.pairs (h.pairs (of_truth v both.0)) (k.pairs (of_truth w both.1))
op-pairs x y op.Or a b v w h k e = All-nil (Agrees x y)

-- ---- a whole condition

abbrev SaysOf : Row → Row → Expr → Type 0
SaysOf x y e = Says x y (equated (length x) e) (meaning_of e (x ++ y))

abbrev SaysLevel : Row → Row → Expr-F Expr → Type 0
SaysLevel x y e = Says x y (equated_step (length x) (map-Expr Expr Equated (equated (length x)) e)) (meaning_step (x ++ y) (map-Expr Expr Value (λ d. meaning_of d (x ++ y)) e))

level : (x y : Row) (e : Expr-F ((d : Expr) × SaysOf x y d)) → SaysLevel x y (map-Expr ((d : Expr) × SaysOf x y d) Expr (λ d. d.0) e)
level x y (Expr-F.Column at) = record { column = λ c e. ap (column_of (x ++ y)) (same_Some at c e); pairs = λ h. All-nil (Agrees x y) }
level x y (Expr-F.Literal v) = no-column x y v
level x y (Expr-F.Negate a) = no-column x y _
level x y (Expr-F.Binary o a b) =
    record { column = λ c e. absurd (cc); pairs = op-pairs x y o (equated (length x) a.0) (equated (length x) b.0) (meaning_of a.0 (x ++ y)) (meaning_of b.0 (x ++ y)) a.1 b.1 }
level x y (Expr-F.Not a) = no-column x y _
level x y (Expr-F.IsNull a) = no-column x y _

at_roll : (x y : Row) (e : Expr-F Expr) → SaysLevel x y e → SaysOf x y (roll-Expr e)
at_roll x y e l = rw (fold-roll-Expr Equated (equated_step (length x)) e, fold-roll-Expr Value (meaning_step (x ++ y)) e) l

pub condition-says : (x y : Row) (e : Expr) → SaysOf x y e
condition-says x y = ind-Expr (SaysOf x y) (λ e d is. subst (λ z. SaysOf x y (roll-Expr z)) is (at_roll x y _ (level x y d)))

pub pairs-agree : (x y : Row) (on : Expr) (width : ℕ) → length x ≡ width → holds on (x ++ y) ≡ true → AllAgree x y (pairs_of width on)
pairs-agree x y on width e h = subst (λ n. AllAgree x y (pairs_of n on)) e ((condition-says x y on).pairs h)

-- ---- keys

pub record HasKey (columns : List ℕ) (rows : List Row) : Type 0 where
  pub key : List ℕ
  pub among : list_all (is_among columns) key ≡ true
  pub apart : Apart (λ a b. columns_of a key ≡ columns_of b key → ⊥) rows

equal-test : (m n : ℕ) → (m == n) ≡ true → m ≡ n
equal-test m n e = (Decides-eqb m n).0 e

-- two right rows that agree with one left row have the same in each column that is equated
right-column : (x y z : Row) (pairs : List StarPair) (k : ℕ) → is_among (map (λ p. p.right) pairs) k ≡ true → AllAgree x y pairs → AllAgree x z pairs → column_of y k ≡ column_of z k
right-column x y z [] k e h g = absurd (cc)
right-column x y z (p ∷ ps) k e h g = by (p.right == k) refl (λ f. right-column x y z ps k f (All-tail (Agrees x y) p ps h) (All-tail (Agrees x z) p ps g)) e
  where
    by : (b : Bool) → (p.right == k) ≡ b → (is_among (map (λ p. p.right) ps) k ≡ true → column_of y k ≡ column_of z k) → (b || is_among (map (λ p. p.right) ps) k) ≡ true → column_of y k ≡ column_of z k
    by true f more e = subst (λ n. column_of y n ≡ column_of z n) (equal-test p.right k f) (sym (All-head (Agrees x y) p ps h) ∙ All-head (Agrees x z) p ps g)
    by false f more e = more e

left-column : (x z y : Row) (pairs : List StarPair) (k : ℕ) → is_among (map (λ p. p.left) pairs) k ≡ true → AllAgree x y pairs → AllAgree z y pairs → column_of x k ≡ column_of z k
left-column x z y [] k e h g = absurd (cc)
left-column x z y (p ∷ ps) k e h g = by (p.left == k) refl (λ f. left-column x z y ps k f (All-tail (Agrees x y) p ps h) (All-tail (Agrees z y) p ps g)) e
  where
    by : (b : Bool) → (p.left == k) ≡ b → (is_among (map (λ p. p.left) ps) k ≡ true → column_of x k ≡ column_of z k) → (b || is_among (map (λ p. p.left) ps) k) ≡ true → column_of x k ≡ column_of z k
    by true f more e = subst (λ n. column_of x n ≡ column_of z n) (equal-test p.left k f) (All-head (Agrees x y) p ps h ∙ sym (All-head (Agrees z y) p ps g))
    by false f more e = more e

-- the same in each column of the key
same-columns : (a b : Row) (columns key : List ℕ) → ((k : ℕ) → is_among columns k ≡ true → column_of a k ≡ column_of b k) → list_all (is_among columns) key ≡ true → columns_of a key ≡ columns_of b key
same-columns a b columns [] h e = refl
same-columns a b columns (k ∷ key) h e =
    let p = and-both (is_among columns k) (list_all (is_among columns) key) e in
    let here = h k p.0 in
    let rest = same-columns a b columns key h p.1 in
    cc

pub right-apart : (on : Expr) (width : ℕ) (right : List Row) (x : Row) → length x ≡ width → HasKey (map (λ p. p.right) (pairs_of width on)) right → Apart (NotBoth (λ y. holds on (x ++ y))) right
right-apart on width right x e h =
    Apart-weaker (λ a b. columns_of a h.key ≡ columns_of b h.key → ⊥) (NotBoth (λ y. holds on (x ++ y)))
    (λ y z apart p q. apart (same-columns y z (map (λ p. p.right) (pairs_of width on)) h.key (λ k i. right-column x y z (pairs_of width on) k i (pairs-agree x y on width e p) (pairs-agree x z on width e q)) h.among))
    right h.apart

-- rows of one width
Apart-within : {A : Type 0} (R S : A → A → Type 0) (P : A → Type 0) → ((x y : A) → P x → P y → R x y → S x y) → (xs : List A) → All P xs → Apart R xs → Apart S xs
Apart-within R S P f [] all h = tt
Apart-within {A} R S P f (x ∷ xs) all h =
    ((λ k d l. f x _ (All-head P x xs all) (All-tail P x xs all k d l) (h.0 k d l)), Apart-within R S P f xs (All-tail P x xs all) h.1)

pub left-apart : (on : Expr) (width : ℕ) (left : List Row) (y : Row) → All (λ x. length x ≡ width) left → HasKey (map (λ p. p.left) (pairs_of width on)) left → Apart (NotBoth (λ x. holds on (x ++ y))) left
left-apart on width left y all h =
    Apart-within (λ a b. columns_of a h.key ≡ columns_of b h.key → ⊥) (NotBoth (λ x. holds on (x ++ y))) (λ x. length x ≡ width)
    (λ x z e f apart p q. apart (same-columns x z (map (λ p. p.left) (pairs_of width on)) h.key (λ k i. left-column x z y (pairs_of width on) k i (pairs-agree x y on width e p) (pairs-agree z y on width f q)) h.among))
    left all h.apart
