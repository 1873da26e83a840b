-- Groups of rows that differ on the groups: each has one row, in the order of the rows.
use Rattle.std.proofs.Common.{◌≡◌, ◌≢◌, ℕ, pos, Bool, true, false, cond, not, ◌==◌, ◌&&◌, ◌||◌, ◌+ℤ◌, List, [], ◌∷◌, ◌++◌, map, filter, All, Option, Some, None, slice_get, refl, sym, ◌∙◌, ap, ap₂, subst, arith}
use Rattle.std.specs.List.{list_all}
use Rattle.std.specs.Option.{option_map_or}
use Rattle.std.proofs.lemmas.Bool.Decides.{Decides-eqb}
use Rattle.std.proofs.lemmas.Int.{ints}
use Rattle.std.proofs.lemmas.List.Elements.{All-head, All-tail}
use Rattle.cal_value.specs.declared.kind.Kind.TheVariants.{Integer}
use Rattle.cal_value.specs.declared.kind.SqlType.{SqlType}
use Rattle.cal_value.specs.declared.value.Value.{Value}
use Rattle.cal_value.specs.declared.value.Value.TheVariants.{Null, Bool as BoolValue, Int, Text}
use Rattle.cal_value.specs.declared.operator.Agg.TheVariants.{Count, Sum, Sum0, Min, Max}
use Rattle.cal_value.specs.Equal.{row_eq}
use Rattle.cal_value.specs.EqualLaws.{row_eq-Decides}
use Rattle.cal_value.specs.Order.{column_of, columns_of}
use Rattle.cal_value.specs.Types.{IsOfType, same_kind, is_integer}
use Rattle.cal_value.proofs.TypeLemmas.{and-both}
use Rattle.cal_aggregate.specs.Aggregate.{aggregated}
use Rattle.cal_aggregate.specs.Parts.{Part, parts}
use Rattle.cal_rel.specs.Operators.{Row, same_key, by_key}
use Rattle.cal_rel.specs.Typing.{is_among}
use Rattle.cal_rel.proofs.Keys.{Apart, Apart-weaker, HasKey}
use Rattle.cal_rel.proofs.Reorders.{filter-map, map-map}

-- ---- parts of one element

abbrev pub alone : {A : Type 0} → A → Part A
alone x = record { first = x; later = [] }

filter-none : {A : Type 0} (p : A → Bool) (xs : List A) → All (λ x. p x ≡ false) xs → filter p xs ≡ []
filter-none p [] all = refl
filter-none p (x ∷ xs) all =
    ap (λ b. cond b (x ∷ filter p xs) (filter p xs)) (All-head (λ x. p x ≡ false) x xs all) ∙ filter-none p xs (All-tail (λ x. p x ≡ false) x xs all)

filter-others : {A : Type 0} (p : A → Bool) (xs : List A) → All (λ x. p x ≡ false) xs → filter (λ x. not (p x)) xs ≡ xs
filter-others p [] all = refl
filter-others p (x ∷ xs) all =
    ap (λ b. cond (not b) (x ∷ filter (λ x. not (p x)) xs) (filter (λ x. not (p x)) xs)) (All-head (λ x. p x ≡ false) x xs all)
    ∙ ap (λ ys. x ∷ ys) (filter-others p xs (All-tail (λ x. p x ≡ false) x xs all))

parts-alone : {A : Type 0} (alike : A → A → Bool) (xs : List A) → Apart (λ x y. alike x y ≡ false) xs → parts alike xs ≡ map alone xs
parts-alone alike [] h = refl
parts-alone {A} alike (x ∷ xs) h =
    let first : List A → Part A = λ later. record { first = x; later = later } in
    ap₂ (λ later rest. first later ∷ rest) (filter-none (alike x) xs h.0)
    (ap (filter (λ (p : Part A). not (alike x p.first))) (parts-alone alike xs h.1)
    ∙ filter-map (λ (p : Part A). not (alike x p.first)) alone xs ∙ ap (map alone) (filter-others (alike x) xs h.0))

pub by_key-alone : (groups : List ℕ) (calls : List Row → Row) (rows : List Row) → Apart (λ a b. same_key groups a b ≡ false) rows
    → by_key groups calls rows ≡ map (λ row. columns_of row groups ++ calls (row ∷ [])) rows
by_key-alone groups calls rows h =
    let made : Part Row → Row = λ part. columns_of part.first groups ++ calls (part.first ∷ part.later) in
    ap (map made) (parts-alone (same_key groups) rows h) ∙ map-map made alone rows

-- ---- keys among the groups

column-same : (a b : Row) (columns : List ℕ) (k : ℕ) → columns_of a columns ≡ columns_of b columns → is_among columns k ≡ true → column_of a k ≡ column_of b k
column-same a b [] k e is = absurd (cc)
column-same a b (column ∷ columns) k e is =
    let here : column_of a column ≡ column_of b column = cc in
    let rest : columns_of a columns ≡ columns_of b columns = cc in
    by (column == k) refl here (column-same a b columns k rest) is
  where
    by : (c : Bool) → (column == k) ≡ c → column_of a column ≡ column_of b column → (is_among columns k ≡ true → column_of a k ≡ column_of b k) → (c || is_among columns k) ≡ true → column_of a k ≡ column_of b k
    by true f here more is = subst (λ n. column_of a n ≡ column_of b n) ((Decides-eqb column k).0 f) here
    by false f here more is = more is

columns-same : (a b : Row) (columns key : List ℕ) → columns_of a columns ≡ columns_of b columns → list_all (is_among columns) key ≡ true → columns_of a key ≡ columns_of b key
columns-same a b columns [] e is = refl
columns-same a b columns (k ∷ key) e is =
    let both = and-both (is_among columns k) (list_all (is_among columns) key) is in
    ap₂ (λ (v : Value) vs. v ∷ vs) (column-same a b columns k e both.0) (columns-same a b columns key e both.1)

-- rows that differ on a key differ on columns that hold it
differ : (columns key : List ℕ) → list_all (is_among columns) key ≡ true → (a b : Row) → (columns_of a key ≡ columns_of b key → ⊥) → (c : Bool) → same_key columns a b ≡ c → c ≡ false
differ columns key among a b h true e = absurd (h (columns-same a b columns key ((row_eq-Decides (columns_of a columns) (columns_of b columns)).0 e) among))
differ columns key among a b h false e = refl

pub apart-on : (columns : List ℕ) (rows : List Row) → HasKey columns rows → Apart (λ a b. same_key columns a b ≡ false) rows
apart-on columns rows h =
    Apart-weaker (λ a b. columns_of a h.key ≡ columns_of b h.key → ⊥) (λ a b. same_key columns a b ≡ false)
    (λ a b apart. differ columns h.key h.among a b apart (same_key columns a b) refl) rows h.apart

-- ---- aggregates of one value

pub least-of_one : (v : Value) → aggregated Min (v ∷ []) ≡ v
least-of_one Null = refl
least-of_one (BoolValue b) = refl
least-of_one (Int n) = refl
least-of_one (Text t) = refl

pub greatest-of_one : (v : Value) → aggregated Max (v ∷ []) ≡ v
greatest-of_one Null = refl
greatest-of_one (BoolValue b) = refl
greatest-of_one (Int n) = refl
greatest-of_one (Text t) = refl

pub sum-of_one : (v : Value) (t : SqlType) → IsOfType v t → is_integer t ≡ true → aggregated Sum (v ∷ []) ≡ v
sum-of_one Null t h i = refl
sum-of_one (BoolValue b) t h i = absurd (let e = ap (λ k. same_kind k Integer) h in cc)
sum-of_one (Int n) t h i = refl
sum-of_one (Text s) t h i = absurd (let e = ap (λ k. same_kind k Integer) h in cc)

pub sum0-of_one : (v : Value) (t : SqlType) → IsOfType v t → is_integer t ≡ true → v ≢ Null → aggregated Sum0 (v ∷ []) ≡ v
sum0-of_one Null t h i known = absurd (known refl)
sum0-of_one (BoolValue b) t h i known = absurd (let e = ap (λ k. same_kind k Integer) h in cc)
sum0-of_one (Int n) t h i known = let e : (pos 0 +ℤ n) ≡ n = omega (arith, ints) in ap Int e
sum0-of_one (Text s) t h i known = absurd (let e = ap (λ k. same_kind k Integer) h in cc)

pub count-of_one : (v : Value) → v ≢ Null → aggregated Count (v ∷ []) ≡ Int (pos 1)
count-of_one Null known = absurd (known refl)
count-of_one (BoolValue b) known = refl
count-of_one (Int n) known = refl
count-of_one (Text t) known = refl
