-- What joins keep of sides of which each key has at most one row.
use Rattle.std.proofs.Common.{◌≡◌, ℕ, zero, suc, ◌+◌, ◌<◌, ◌≤◌, nat_lt, Bool, true, false, cond, List, [], ◌∷◌, ◌++◌, map, take, drop, length, replicate, All, refl, sym, ◌∙◌, ap, ap₂, subst, arith}
use Rattle.std.specs.List.{flat_map}
use Rattle.std.proofs.Math.Seq.{take-append_seam, drop-append_seam}
use Rattle.std.proofs.lemmas.Bool.Decides.{nat_tests}
use Rattle.std.proofs.lemmas.List.{length-map, map-append}
use Rattle.cal_value.specs.declared.value.Value.{Value}
use Rattle.cal_value.specs.declared.value.Value.TheVariants.{Null}
use Rattle.cal_value.specs.Equal.{row_eq}
use Rattle.cal_value.specs.EqualLaws.{row_eq-Decides}
use Rattle.cal_value.specs.Order.{column_of, columns_of}
use Rattle.cal_expr.specs.declared.expr.Expr.{Expr}
use Rattle.cal_schema.specs.declared.join_kind.JoinKind.{JoinKind}
use Rattle.cal_schema.specs.declared.join_kind.JoinKind.TheVariants.{Inner, Left}
use Rattle.cal_rel.specs.Operators.{Row, holds, partners, or_alone, joined}
use Rattle.cal_rel.specs.Typing.{pairs_of}
use Rattle.cal_rel.proofs.Keys.{one-passes, turned, HasKey, right-apart, left-apart}
use Rattle.cal_rel.proofs.Totals.{total, total-filter, total-map, total-flat_map}
use Rattle.rel_meta.specs.Keys.{shifted}
use Rattle.rel_meta.proofs.Once.{total-le, total-each, one-le, cond-le, times, AtMostOnce}

-- ---- the columns of two rows put together

column-within : (x y : Row) (column : ℕ) → column < length x → column_of (x ++ y) column ≡ column_of x column
column-within [] y column l = absurd (omega arith)
column-within (v ∷ x) y zero l = refl
column-within (v ∷ x) y (suc column) l = column-within x y column (omega arith)

column-none : (x : Row) (column : ℕ) → length x ≤ column → column_of x column ≡ Null
column-none [] column l = refl
column-none (v ∷ x) zero l = absurd (omega arith)
column-none (v ∷ x) (suc column) l = column-none x column (omega arith)

column-behind : (x y : Row) (n column : ℕ) → n ≡ length x + column → column_of (x ++ y) n ≡ column_of y column
column-behind [] y n column e = ap (column_of y) (omega (arith, e))
column-behind (v ∷ x) y zero column e = absurd (omega (arith, e))
column-behind (v ∷ x) y (suc n) column e = column-behind x y n column (omega (arith, e))

shifted-values : (x y : Row) (width : ℕ) (key : List ℕ) → length x ≡ width → columns_of (x ++ y) (shifted width key) ≡ columns_of y key
shifted-values x y width [] e = refl
shifted-values x y width (column ∷ key) e = ap₂ (λ (v : Value) vs. v ∷ vs) (column-behind x y (width + column) column (omega (arith, e))) (shifted-values x y width key e)

-- the values that a left row has in these columns, of those that it has there with a right row: NULL past its end
masked : ℕ → List ℕ → Row → Row
masked width [] values = []
masked width (column ∷ columns) [] = []
masked width (column ∷ columns) (v ∷ values) = cond (nat_lt column width) v Null ∷ masked width columns values

masked-value : (x y : Row) (column : ℕ) (b : Bool) → nat_lt column (length x) ≡ b → cond b (column_of (x ++ y) column) Null ≡ column_of x column
masked-value x y column true e = column-within x y column (grind (arith, nat_tests))
masked-value x y column false e = sym (column-none x column (grind (arith, nat_tests)))

masked-values : (x y : Row) (width : ℕ) (columns : List ℕ) → length x ≡ width → masked width columns (columns_of (x ++ y) columns) ≡ columns_of x columns
unfolding masked
masked-values x y width [] e = refl
masked-values x y width (column ∷ columns) e =
    ap₂ (λ (v : Value) vs. v ∷ vs)
    (ap (λ n. cond (nat_lt column n) (column_of (x ++ y) column) Null) (sym e) ∙ masked-value x y column (nat_lt column (length x)) refl) (masked-values x y width columns e)

row-is : (a b : Row) → row_eq a b ≡ true → a ≡ b
row-is a b e = (row_eq-Decides a b).0 e

is-row : (a b : Row) → a ≡ b → row_eq a b ≡ true
is-row a b e = (row_eq-Decides a b).1 e

left-matches : (x y : Row) (width : ℕ) (columns : List ℕ) (key : Row) → length x ≡ width → key ≡ columns_of (x ++ y) columns → row_eq (masked width columns key) (columns_of x columns) ≡ true
left-matches x y width columns key e is = is-row (masked width columns key) (columns_of x columns) (ap (masked width columns) is ∙ masked-values x y width columns e)

-- ---- sums over the rows that a join makes

joined-le : (f : Row → ℕ) (n : ℕ) (kind : JoinKind) (on : Expr) (width : ℕ) (right : List Row) (x : Row) → f (x ++ replicate width Null) ≤ n → total f (partners on right x) ≤ n
    → total f (joined kind on width right x) ≤ n
joined-le f n Inner on width right x h k = k
joined-le f n Left on width right x h k = alone (partners on right x) k
  where
    alone : (rows : List Row) → total f rows ≤ n → total f (or_alone (x ++ replicate width Null) rows) ≤ n
    alone [] k = omega (arith, h)
    alone (row ∷ rows) k = k

total-partners : (f : Row → ℕ) (on : Expr) (right : List Row) (x : Row) → total f (partners on right x) ≡ total (λ y. cond (holds on (x ++ y)) (f (x ++ y)) 0) right
total-partners f on right x = total-filter f (holds on) (map (λ y. x ++ y) right) ∙ total-map (λ row. cond (holds on row) (f row) 0) (λ y. x ++ y) right

none-pass-le : (p : Row → Bool) (f : Row → ℕ) (ys : List Row) → total (λ y. cond (p y) 1 0) ys ≤ 0 → total (λ y. cond (p y) (f y) 0) ys ≤ 0
none-pass-le p f [] h = omega arith
none-pass-le p f (y ∷ ys) h = by (p y) (none-pass-le p f ys) h
  where
    by : (b : Bool) → (total (λ y. cond (p y) 1 0) ys ≤ 0 → total (λ y. cond (p y) (f y) 0) ys ≤ 0)
        → cond b 1 0 + total (λ y. cond (p y) 1 0) ys ≤ 0 → cond b (f y) 0 + total (λ y. cond (p y) (f y) 0) ys ≤ 0
    by true more k = absurd (omega arith)
    by false more k = omega (arith, more (omega (arith, k)))

-- one row at most passes
one-passes-le : (p : Row → Bool) (f : Row → ℕ) (n : ℕ) → ((y : Row) → f y ≤ n) → (ys : List Row) → total (λ y. cond (p y) 1 0) ys ≤ 1 → total (λ y. cond (p y) (f y) 0) ys ≤ n
one-passes-le p f n h [] k = omega arith
one-passes-le p f n h (y ∷ ys) k = by (p y) (one-passes-le p f n h ys) k
  where
    by : (b : Bool) → (total (λ y. cond (p y) 1 0) ys ≤ 1 → total (λ y. cond (p y) (f y) 0) ys ≤ n)
        → cond b 1 0 + total (λ y. cond (p y) 1 0) ys ≤ 1 → cond b (f y) 0 + total (λ y. cond (p y) (f y) 0) ys ≤ n
    by true more k = omega (arith, h y, none-pass-le p f ys (omega (arith, k)))
    by false more k = omega (arith, more (omega (arith, k)))

-- where one condition is of the left row alone
both-le : (b : Bool) (f : Row → ℕ) (ys : List Row) → total f ys ≤ 1 → total (λ y. cond b (f y) 0) ys ≤ cond b 1 0
both-le true f ys h = h
both-le false f [] h = omega arith
both-le false f (y ∷ ys) h = omega (arith, both-le false f ys (omega (arith, h)))

both-one-le : (a b c : Bool) → (a ≡ true → (b ≡ true) × (c ≡ true)) → cond a 1 0 ≤ cond b (cond c 1 0) 0
both-one-le true true true h = omega arith
both-one-le true true false h = absurd (let e = (h refl).1 in cc)
both-one-le true false c h = absurd (let e = (h refl).0 in cc)
both-one-le false b c h = omega arith

first-le : (b c : Bool) (n : ℕ) → n ≤ cond b (cond c 1 0) 0 → n ≤ cond b 1 0
first-le true true n h = h
first-le true false n h = omega (arith, h)
first-le false c n h = h

-- ---- one side's key

module _ (on : Expr) (width : ℕ) (left right : List Row) (long : All (λ x. length x ≡ width) left) where
  -- how many rows have a left key, of those made of one left row
  joined-few : (kind : JoinKind) (more : ℕ) (columns : List ℕ) (key : Row) → ((x : Row) → length x ≡ width → total (λ row. cond (row_eq key (columns_of row columns)) 1 0) (joined kind on more right x) ≤ cond (row_eq (masked width columns key) (columns_of x columns)) 1 0)
      → AtMostOnce columns left → times columns key (flat_map (joined kind on more right) left) ≤ 1
  joined-few kind more columns key h once =
      let f : Row → ℕ = λ row. cond (row_eq key (columns_of row columns)) 1 0 in
      omega (
        arith,
        total-flat_map f (joined kind on more right) left,
        total-le (λ x. length x ≡ width) (λ x. total f (joined kind on more right x)) (λ x. cond (row_eq (masked width columns key) (columns_of x columns)) 1 0) h left long,
        once.each (masked width columns key),
      )

  begins-le : (columns : List ℕ) (key x y : Row) → length x ≡ width → cond (row_eq key (columns_of (x ++ y) columns)) 1 0 ≤ cond (row_eq (masked width columns key) (columns_of x columns)) 1 0
  begins-le columns key x y e =
      one-le (row_eq key (columns_of (x ++ y) columns)) (row_eq (masked width columns key) (columns_of x columns))
      (λ is. left-matches x y width columns key e (row-is key (columns_of (x ++ y) columns) is))

  -- a left row has at most one partner: left keys stay
  pub once-left : (kind : JoinKind) (more : ℕ) (columns : List ℕ) → HasKey (map (λ p. p.right) (pairs_of width on)) right → AtMostOnce columns left
      → AtMostOnce columns (flat_map (joined kind on more right) left)
  once-left kind more columns keyed once = record {
    each = λ key. joined-few kind more columns key (few key) once;
  }
    where
      few : (key x : Row) → length x ≡ width → total (λ row. cond (row_eq key (columns_of row columns)) 1 0) (joined kind on more right x) ≤ cond (row_eq (masked width columns key) (columns_of x columns)) 1 0
      few key x e =
          let f : Row → ℕ = λ row. cond (row_eq key (columns_of row columns)) 1 0 in
          let n = cond (row_eq (masked width columns key) (columns_of x columns)) 1 0 in
          let single : total (λ y. cond (holds on (x ++ y)) 1 0) right ≤ 1 = one-passes (λ y. holds on (x ++ y)) right (right-apart on width right x e keyed) in
          joined-le f n kind on more right x (begins-le columns key x (replicate more Null) e)
          (omega (arith, total-partners f on right x, one-passes-le (λ y. holds on (x ++ y)) (λ y. f (x ++ y)) n (λ y. begins-le columns key x y e) right single))

  -- a right row has at most one partner: right keys stay
  pub once-right : (more : ℕ) (columns : List ℕ) → HasKey (map (λ p. p.left) (pairs_of width on)) left → AtMostOnce columns right
      → AtMostOnce (shifted width columns) (flat_map (joined Inner on more right) left)
  once-right more columns keyed once = record { each = few }
    where
      matches : Row → Row → ℕ
      matches key y = cond (row_eq key (columns_of y columns)) 1 0

      values : (key x : Row) → length x ≡ width → total (λ row. cond (row_eq key (columns_of row (shifted width columns))) 1 0) (partners on right x) ≤ total (λ y. cond (holds on (x ++ y)) (cond (row_eq key (columns_of y columns)) 1 0) 0) right
      values key x e =
          let f : Row → ℕ = λ row. cond (row_eq key (columns_of row (shifted width columns))) 1 0 in
          omega (
            arith,
            total-partners f on right x,
            total-each (λ y. cond (holds on (x ++ y)) (f (x ++ y)) 0) (λ y. cond (holds on (x ++ y)) (cond (row_eq key (columns_of y columns)) 1 0) 0)
                (λ y. subst (λ k. cond (holds on (x ++ y)) (cond (row_eq key k) 1 0) 0 ≤ cond (holds on (x ++ y)) (cond (row_eq key (columns_of y columns)) 1 0) 0) (sym (shifted-values x y width columns e)) (omega arith)) right,
          )

      few : (key : Row) → times (shifted width columns) key (flat_map (joined Inner on more right) left) ≤ 1
      few key =
          let f : Row → ℕ = λ row. cond (row_eq key (columns_of row (shifted width columns))) 1 0 in
          let g : Row → ℕ = λ y. cond (row_eq key (columns_of y columns)) 1 0 in
          omega (
            arith,
            total-flat_map f (joined Inner on more right) left,
            total-le (λ x. length x ≡ width) (λ x. total f (partners on right x)) (λ x. total (λ y. cond (holds on (x ++ y)) (g y) 0) right) (values key) left long,
            turned (λ x y. cond (holds on (x ++ y)) (g y) 0) left right,
            total-each (λ y. total (λ x. cond (holds on (x ++ y)) (g y) 0) left) g
                (λ y. one-passes-le (λ x. holds on (x ++ y)) (λ x. g y) (g y) (λ x. omega arith) left (one-passes (λ x. holds on (x ++ y)) left (left-apart on width left y long keyed))) right,
            once.each key,
          )

  -- ---- a key of each side

  -- a key of two rows put together is a key of each
  split-key : (l r : List ℕ) (key x y : Row) → length x ≡ width → row_eq key (columns_of (x ++ y) (l ++ shifted width r)) ≡ true
      → (row_eq (masked width l (take (length l) key)) (columns_of x l) ≡ true) × (row_eq (drop (length l) key) (columns_of y r) ≡ true)
  split-key l r key x y e is =
      let front = columns_of (x ++ y) l in
      let back = columns_of y r in
      let whole : key ≡ front ++ back =
      row-is key (columns_of (x ++ y) (l ++ shifted width r)) is ∙ map-append (column_of (x ++ y)) l (shifted width r) ∙ ap (λ vs. front ++ vs) (shifted-values x y width r e) in
      let long : length l ≡ length front = sym (length-map l (column_of (x ++ y))) in
      let taken : take (length l) key ≡ front = ap₂ take long whole ∙ take-append_seam front back in
      let dropped : drop (length l) key ≡ back = ap₂ drop long whole ∙ drop-append_seam front back in
      (left-matches x y width l (take (length l) key) e taken, is-row (drop (length l) key) back dropped)

  pub once-paired : (kind : JoinKind) (more : ℕ) (l r : List ℕ) → AtMostOnce l left → AtMostOnce r right
      → AtMostOnce (l ++ shifted width r) (flat_map (joined kind on more right) left)
  once-paired kind more l r first second = record { each = few }
    where
      few : (key : Row) → times (l ++ shifted width r) key (flat_map (joined kind on more right) left) ≤ 1
      few key =
          let f : Row → ℕ = λ row. cond (row_eq key (columns_of row (l ++ shifted width r))) 1 0 in
          let m : Row → Bool = λ x. row_eq (masked width l (take (length l) key)) (columns_of x l) in
          let n : Row → Bool = λ y. row_eq (drop (length l) key) (columns_of y r) in
          let pair : (x y : Row) → length x ≡ width → f (x ++ y) ≤ cond (m x) (cond (n y) 1 0) 0 =
          λ x y e. both-one-le (row_eq key (columns_of (x ++ y) (l ++ shifted width r))) (m x) (n y) (split-key l r key x y e) in
          let each : (x : Row) → length x ≡ width → total f (joined kind on more right x) ≤ cond (m x) 1 0 =
          λ x e. joined-le f (cond (m x) 1 0) kind on more right x
          (first-le (m x) (n (replicate more Null)) (f (x ++ replicate more Null)) (pair x (replicate more Null) e))
          (omega (
            arith,
            total-partners f on right x,
            total-each (λ y. cond (holds on (x ++ y)) (f (x ++ y)) 0) (λ y. cond (m x) (cond (n y) 1 0) 0)
                (λ y. omega (arith, cond-le (holds on (x ++ y)) (f (x ++ y)), pair x y e)) right,
            both-le (m x) (λ y. cond (n y) 1 0) right (second.each (drop (length l) key)),
          )) in
          omega (
            arith,
            total-flat_map f (joined kind on more right) left,
            total-le (λ x. length x ≡ width) (λ x. total f (joined kind on more right x)) (λ x. cond (m x) 1 0) each left long,
            first.each (masked width l (take (length l) key)),
          )
