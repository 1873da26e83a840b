-- What nodes over one input keep of rows of which each key has at most one, and the keys of groups.
use Rattle.std.proofs.Common.{◌≡◌, ℕ, zero, suc, ◌+◌, ◌≤◌, Bool, true, false, cond, not, ◌==◌, List, [], ◌∷◌, ◌++◌, map, filter, length, All, Option, Some, None, get_or, unwrap_or, option_map, refl, sym, ◌∙◌, ap, ap₂, subst, arith}
use Rattle.std.specs.Prelude.{filter_map}
use Rattle.std.specs.List.{range_with_len, cons_option}
use Rattle.std.specs.Option.{option_map_or}
use Rattle.std.specs.Ordering.{is_le}
use Rattle.std.proofs.lemmas.Bool.Decides.{Decides-eqb}
use Rattle.std.proofs.lemmas.List.{length-map}
use Rattle.std.proofs.lemmas.List.Elements.{All-nil, All-cons, All-head, All-tail, All-weaker, filter_passes}
use Rattle.std.proofs.lemmas.List.Quantifiers.{position-Some}
use Rattle.std.proofs.lemmas.Option.{same_Some, slice_get-map, slice_get-get_or}
use Rattle.cal_value.specs.declared.order.KeyOrder.{KeyOrder}
use Rattle.cal_value.specs.declared.value.Value.{Value}
use Rattle.cal_value.specs.declared.value.Value.TheVariants.{Null}
use Rattle.cal_value.specs.Equal.{row_eq}
use Rattle.cal_value.specs.EqualLaws.{row_eq-Decides}
use Rattle.cal_value.specs.Order.{column_of, columns_of, row_cmp}
use Rattle.cal_aggregate.specs.Parts.{Part, members, parts}
use Rattle.cal_expr.specs.declared.expr.Expr.{Expr}
use Rattle.cal_expr.specs.declared.expr.Expr.TheVariants.{Literal}
use Rattle.cal_expr.specs.Meaning.{meaning_of}
use Rattle.cal_rel.specs.Operators.{Row, projected, same_key, by_key, grouped}
use Rattle.cal_rel.specs.Tiles.{inserted, sorted}
use Rattle.cal_rel.proofs.Keys.{Apart, Apart-filter, Apart-weaker, NotBoth, one-passes, condition-says}
use Rattle.cal_rel.proofs.RowLemmas.{of_both-some}
use Rattle.cal_rel.proofs.Totals.{total, total-filter, total-map, total-ext}
use Rattle.rel_meta.specs.Keys.{first_columns, column_in, is_column, place_of, each_of}
use Rattle.rel_meta.proofs.Once.{total-each, at-most-one, cond-le, AtMostOnce}

-- ---- filters, maps, no rows and one

pub once-filter : (columns : List ℕ) (p : Row → Bool) (rows : List Row) → AtMostOnce columns rows → AtMostOnce columns (filter p rows)
once-filter columns p rows h = record {
  each = λ key.
      let f : Row → ℕ = λ row. cond (row_eq key (columns_of row columns)) 1 0 in
      omega (arith, total-filter f p rows, total-each (λ row. cond (p row) (f row) 0) f (λ row. cond-le (p row) (f row)) rows, h.each key);
}

pub once-map : (columns under : List ℕ) (g : Row → Row) → ((row : Row) → columns_of (g row) columns ≡ columns_of row under)
    → (rows : List Row) → AtMostOnce under rows → AtMostOnce columns (map g rows)
once-map columns under g e rows h = record {
  each = λ key.
      subst (λ n. n ≤ 1)
      (sym (total-map (λ row. cond (row_eq key (columns_of row columns)) 1 0) g rows
      ∙ total-ext (λ row. cond (row_eq key (columns_of (g row) columns)) 1 0) (λ row. cond (row_eq key (columns_of row under)) 1 0)
      (λ row. ap (λ k. cond (row_eq key k) 1 0) (e row)) rows)) (h.each key);
}

pub once-none : (columns : List ℕ) → AtMostOnce columns []
once-none columns = record { each = λ key. omega arith }

pub once-one : (columns : List ℕ) (row : Row) → AtMostOnce columns (row ∷ [])
once-one columns row = record { each = λ key. omega (arith, at-most-one (row_eq key (columns_of row columns))) }

-- ---- sorted rows

total-inserted : (f : Row → ℕ) (keys : List KeyOrder) (row : Row) (rows : List Row) → total f (inserted keys row rows) ≡ f row + total f rows
total-inserted f keys row [] = refl
total-inserted f keys row (other ∷ rows) = by (is_le (row_cmp keys row other)) (total-inserted f keys row rows)
  where
    by : (b : Bool) → total f (inserted keys row rows) ≡ f row + total f rows → total f (cond b (row ∷ other ∷ rows) (other ∷ inserted keys row rows)) ≡ f row + total f (other ∷ rows)
    by true h = refl
    by false h = omega (arith, h)

total-sorted : (f : Row → ℕ) (keys : List KeyOrder) (rows : List Row) → total f (sorted keys rows) ≡ total f rows
total-sorted f keys [] = refl
total-sorted f keys (row ∷ rows) = total-inserted f keys row (sorted keys rows) ∙ ap (λ n. f row + n) (total-sorted f keys rows)

pub once-sorted : (columns : List ℕ) (keys : List KeyOrder) (rows : List Row) → AtMostOnce columns rows → AtMostOnce columns (sorted keys rows)
once-sorted columns keys rows h = record { each = λ key. subst (λ n. n ≤ 1) (sym (total-sorted (λ row. cond (row_eq key (columns_of row columns)) 1 0) keys rows)) (h.each key) }

-- ---- groups

-- the firsts of two parts aren't alike
not-alike : (b : Bool) → not b ≡ true → b ≡ false
not-alike true e = absurd (cc)
not-alike false e = refl

pub parts-apart : {A : Type 0} (alike : A → A → Bool) (xs : List A) → Apart (λ (p q : Part A). alike p.first q.first ≡ false) (parts alike xs)
parts-apart alike [] = tt
parts-apart {A} alike (x ∷ xs) = (
  All-weaker (λ (q : Part A). not (alike x q.first) ≡ true) (λ q. alike x q.first ≡ false) (λ q e. not-alike (alike x q.first) e)
      (filter (λ (q : Part A). not (alike x q.first)) (parts alike xs)) (filter_passes (λ (q : Part A). not (alike x q.first)) (parts alike xs)),
  Apart-filter (λ (p q : Part A). alike p.first q.first ≡ false) (λ q. not (alike x q.first)) (parts alike xs) (parts-apart alike xs),
)

-- numbers one higher
range-up : {B : Type 0} (f : ℕ → B) (at n : ℕ) → map f (range_with_len (suc at) n) ≡ map (λ k. f (suc k)) (range_with_len at n)
range-up f at zero = refl
range-up f at (suc n) =
    let e : suc at + 1 ≡ suc (at + 1) = omega arith in
    ap (λ m. f (suc at) ∷ map f (range_with_len m n)) e ∙ ap (λ ys. f (suc at) ∷ ys) (range-up f (at + 1) n)

-- the first columns of a row that begins with these values
first-values : (a b : Row) → columns_of (a ++ b) (range_with_len 0 (length a)) ≡ a
first-values [] b = refl
first-values (v ∷ a) b = ap (λ vs. v ∷ vs) (range-up (column_of (v ∷ (a ++ b))) 0 (length a) ∙ first-values a b)

group-values : (groups : List ℕ) (row more : Row) → columns_of (columns_of row groups ++ more) (first_columns (length groups)) ≡ columns_of row groups
group-values groups row more =
    subst (λ n. columns_of (columns_of row groups ++ more) (range_with_len 0 n) ≡ columns_of row groups) (length-map groups (column_of row)) (first-values (columns_of row groups) more)

unlike-firsts : (groups : List ℕ) (key : Row) (a b : Row) → same_key groups a b ≡ false → row_eq key (columns_of a groups) ≡ true → row_eq key (columns_of b groups) ≡ true → ⊥
unlike-firsts groups key a b differ p q =
    let same : row_eq (columns_of a groups) (columns_of b groups) ≡ true =
    (row_eq-Decides (columns_of a groups) (columns_of b groups)).1 (sym ((row_eq-Decides key (columns_of a groups)).0 p) ∙ (row_eq-Decides key (columns_of b groups)).0 q) in
    cc

pub once-by_key : (groups : List ℕ) (calls : List Row → Row) (rows : List Row) → AtMostOnce (first_columns (length groups)) (by_key groups calls rows)
once-by_key groups calls rows = record {
  each = λ key.
      let passes : Part Row → Bool = λ part. row_eq key (columns_of part.first groups) in
      let made : Part Row → Row = λ part. columns_of part.first groups ++ calls (members part) in
      subst (λ n. n ≤ 1)
      (sym (total-map (λ row. cond (row_eq key (columns_of row (first_columns (length groups)))) 1 0) made (parts (same_key groups) rows)
      ∙ total-ext (λ part. cond (row_eq key (columns_of (made part) (first_columns (length groups)))) 1 0) (λ part. cond (passes part) 1 0)
      (λ part. ap (λ k. cond (row_eq key k) 1 0) (group-values groups part.first (calls (members part)))) (parts (same_key groups) rows)))
      (one-passes passes (parts (same_key groups) rows)
      (Apart-weaker (λ (p q : Part Row). same_key groups p.first q.first ≡ false) (NotBoth passes) (λ p q. unlike-firsts groups key p.first q.first)
      (parts (same_key groups) rows) (parts-apart (same_key groups) rows)));
}

pub once-grouped : (groups : List ℕ) (calls : List Row → Row) (rows : List Row) → AtMostOnce (first_columns (length groups)) (grouped groups calls rows)
once-grouped [] calls rows = once-one [] (calls rows)
once-grouped (group ∷ groups) calls rows = once-by_key (group ∷ groups) calls rows

-- ---- projects

-- an item that is a column has its value
pub column_in-mean : (item : Expr) (column : ℕ) (row : Row) → column_in item ≡ Some column → meaning_of item row ≡ column_of row column
column_in-mean item column row e = (condition-says [] row item).column column e

is_column-some : (column : ℕ) (o : Option ℕ) → option_map_or (λ other. other == column) o false ≡ true → o ≡ Some column
is_column-some column None e = absurd (cc)
is_column-some column (Some other) e = ap Some ((Decides-eqb other column).0 e)

placed-value : (items : List Expr) (column at : ℕ) (row : Row) → place_of items column ≡ Some at → column_of (projected items row) at ≡ column_of row column
placed-value items column at row e =
    let found = position-Some (is_column column) items at (Literal Null) e in
    let item = get_or items at (Literal Null) in
    ap (λ o. unwrap_or o Null)
    (slice_get-map (λ item. meaning_of item row) items at ∙ ap (option_map (λ item. meaning_of item row)) (slice_get-get_or items at (Literal Null) found.0))
    ∙ column_in-mean item column row (is_column-some column (column_in item) found.1)

-- the values in columns of one row and in what is made of these of another one
pub each-values : (f : ℕ → Option ℕ) (a b : Row) → ((c d : ℕ) → f c ≡ Some d → column_of a c ≡ column_of b d) → (cs ds : List ℕ) → each_of f cs ≡ Some ds → columns_of a cs ≡ columns_of b ds
each-values f a b h [] ds e = ap (columns_of b) (same_Some [] ds e)
each-values f a b h (c ∷ cs) ds e =
    let both = of_both-some (λ y ys. Some (y ∷ ys)) (f c) (each_of f cs) ds e in
    ap₂ (λ (v : Value) vs. v ∷ vs) (h c both.first both.first_is) (each-values f a b h cs both.second both.second_is)
    ∙ ap (columns_of b) (same_Some (both.first ∷ both.second) ds both.is)

pub once-projected : (items : List Expr) (rows : List Row) (key placed : List ℕ) → AtMostOnce key rows → each_of (place_of items) key ≡ Some placed → AtMostOnce placed (map (projected items) rows)
once-projected items rows key placed h e =
    once-map placed key (projected items) (λ row. sym (each-values (place_of items) row (projected items row) (λ c d f. sym (placed-value items c d row f)) key placed e)) rows h

pub All-filter_map : {A B : Type 0} (P : A → Type 0) (Q : B → Type 0) (f : A → Option B) → ((x : A) (y : B) → P x → f x ≡ Some y → Q y) → (xs : List A) → All P xs → All Q (filter_map f xs)
All-filter_map P Q f h [] all = All-nil Q
All-filter_map {A} {B} P Q f h (x ∷ xs) all = by (f x) refl (All-filter_map P Q f h xs (All-tail P x xs all))
  where
    by : (o : Option B) → f x ≡ o → All Q (filter_map f xs) → All Q (cons_option o (filter_map f xs))
    by None e rest = rest
    by (Some y) e rest = All-cons Q y (filter_map f xs) (h x y (All-head P x xs all) e) rest
