-- Rows of types: joined, padded, grouped, sorted.
use Rattle.std.proofs.Common.{◌≡◌, ℕ, zero, suc, ◌+◌, ◌*◌, ◌≤◌, Bool, true, false, cond, not, List, [], ◌∷◌, ◌++◌, map, filter, length, replicate, All, Option, Some, None, slice_get, refl, sym, ◌∙◌, ap, subst, arith}
use Rattle.std.specs.List.{flat_map}
use Rattle.std.specs.Ordering.{is_le}
use Rattle.std.proofs.lemmas.List.{length-append}
use Rattle.std.proofs.lemmas.List.Elements.{All-nil, All-cons, All-head, All-tail, All-append, All-weaker, All-filter}
use Rattle.std.proofs.lemmas.Option.{same_Some}
use Rattle.cal_value.specs.declared.kind.SqlType.{SqlType}
use Rattle.cal_value.specs.declared.order.KeyOrder.{KeyOrder}
use Rattle.cal_value.specs.declared.value.Value.{Value}
use Rattle.cal_value.specs.declared.value.Value.TheVariants.{Null, Bool as BoolValue, Int, Text}
use Rattle.cal_value.specs.Order.{column_of, row_cmp}
use Rattle.cal_aggregate.specs.Parts.{Part, members, parts}
use Rattle.cal_value.specs.Types.{IsOfType, HasTypes}
use Rattle.cal_rel.specs.Operators.{Row}
use Rattle.cal_rel.specs.Tiles.{inserted, sorted}
use Rattle.cal_rel.specs.Typing.{of_both, types_by, nullable}

-- ---- a choice of both

pub record Both {A B C : Type 0} (f : A → B → Option C) (o : Option A) (p : Option B) (c : C) : Type 0 where
  pub first : A
  pub second : B
  pub first_is : o ≡ Some first
  pub second_is : p ≡ Some second
  pub is : f first second ≡ Some c

pub of_both-some : {A B C : Type 0} (f : A → B → Option C) (o : Option A) (p : Option B) (c : C) → of_both f o p ≡ Some c → Both f o p c
of_both-some f None p c e = absurd (cc)
of_both-some f (Some a) None c e = absurd (cc)
of_both-some f (Some a) (Some b) c e = record { first = a; second = b; first_is = refl; second_is = refl; is = e }

-- ---- the types of rows

pub types-append : (a b : Row) (ss ts : List SqlType) → HasTypes a ss → HasTypes b ts → HasTypes (a ++ b) (ss ++ ts)
types-append [] b [] ts h k = k
types-append [] b (s ∷ ss) ts h k = absurd h
types-append (v ∷ a) b [] ts h k = absurd h
types-append (v ∷ a) b (s ∷ ss) ts h k = (h.0, types-append a b ss ts h.1 k)

of_nullable : (v : Value) (t : SqlType) → IsOfType v t → IsOfType v (nullable t)
of_nullable Null t h = refl
of_nullable (BoolValue b) t h = h
of_nullable (Int n) t h = h
of_nullable (Text s) t h = h

pub types-nullable : (a : Row) (ts : List SqlType) → HasTypes a ts → HasTypes a (map nullable ts)
types-nullable [] [] h = tt
types-nullable [] (t ∷ ts) h = absurd h
types-nullable (v ∷ a) [] h = absurd h
types-nullable (v ∷ a) (t ∷ ts) h = (of_nullable v t h.0, types-nullable a ts h.1)

pub types-nulls : (ts : List SqlType) → HasTypes (replicate (length ts) Null) (map nullable ts)
types-nulls [] = tt
types-nulls (t ∷ ts) = (refl, types-nulls ts)

pub types-length : (a : Row) (ts : List SqlType) → HasTypes a ts → length a ≡ length ts
types-length [] [] h = refl
types-length [] (t ∷ ts) h = absurd h
types-length (v ∷ a) [] h = absurd h
types-length (v ∷ a) (t ∷ ts) h = ap suc (types-length a ts h.1)

pub column-typed : (row : Row) (ts : List SqlType) (k : ℕ) (t : SqlType) → HasTypes row ts → slice_get ts k ≡ Some t → IsOfType (column_of row k) t
column-typed [] [] k t h e = absurd (cc)
column-typed [] (s ∷ ts) k t h e = absurd h
column-typed (v ∷ row) [] k t h e = absurd h
column-typed (v ∷ row) (s ∷ ts) zero t h e = subst (IsOfType v) (same_Some s t e) h.0
column-typed (v ∷ row) (s ∷ ts) (suc k) t h e = column-typed row ts k t h.1 e

-- where each value has the type of its own
pub types-hold : {A : Type 0} (f : A → Option SqlType) (g : A → Value) → ((x : A) (t : SqlType) → f x ≡ Some t → IsOfType (g x) t)
    → (xs : List A) (ts : List SqlType) → types_by f xs ≡ Some ts → HasTypes (map g xs) ts
types-hold f g h [] ts e = subst (HasTypes []) (same_Some [] ts e) tt
types-hold {A} f g h (x ∷ xs) ts e =
    let b = of_both-some (λ t ts. Some (t ∷ ts)) (f x) (types_by f xs) ts e in
    subst (HasTypes (map g (x ∷ xs))) (same_Some (b.first ∷ b.second) ts b.is) (h x b.first b.first_is, types-hold f g h xs b.second b.second_is)

pub types_by-length : {A : Type 0} (f : A → Option SqlType) (xs : List A) (ts : List SqlType) → types_by f xs ≡ Some ts → length ts ≡ length xs
types_by-length f [] ts e = ap length (sym (same_Some [] ts e))
types_by-length f (x ∷ xs) ts e =
    let b = of_both-some (λ t ts. Some (t ∷ ts)) (f x) (types_by f xs) ts e in
    ap length (sym (same_Some (b.first ∷ b.second) ts b.is)) ∙ ap suc (types_by-length f xs b.second b.second_is)

-- ---- lists of rows

pub All-flat_map : {A B : Type 0} (P : B → Type 0) (f : A → List B) (Q : A → Type 0) → ((x : A) → Q x → All P (f x)) → (xs : List A) → All Q xs → All P (flat_map f xs)
All-flat_map P f Q h [] all = All-nil P
All-flat_map P f Q h (x ∷ xs) all = All-append P (f x) (flat_map f xs) (h x (All-head Q x xs all)) (All-flat_map P f Q h xs (All-tail Q x xs all))

filter-less : {A : Type 0} (p : A → Bool) (b : Bool) (x : A) (xs : List A) → length (filter p xs) ≤ length xs → length (cond b (x ∷ filter p xs) (filter p xs)) ≤ length xs + 1
filter-less p true x xs h = omega arith
filter-less p false x xs h = omega arith

pub length-filter-le : {A : Type 0} (p : A → Bool) (xs : List A) → length (filter p xs) ≤ length xs
length-filter-le p [] = omega arith
length-filter-le p (x ∷ xs) = let h = filter-less p (p x) x xs (length-filter-le p xs) in omega arith

pub length-flat_map-le : {A B : Type 0} (f : A → List B) (n : ℕ) (xs : List A) → All (λ x. length (f x) ≤ n) xs → length (flat_map f xs) ≤ length xs * n
length-flat_map-le f n [] all = omega arith
length-flat_map-le f n (x ∷ xs) all =
    let here = All-head (λ x. length (f x) ≤ n) x xs all in
    let rest = length-flat_map-le f n xs (All-tail (λ x. length (f x) ≤ n) x xs all) in
    grind (arith, length-append (f x) (flat_map f xs))

-- ---- parts

-- no part has more members than the list, and what holds of each element holds of each member
pub record IsPart {A : Type 0} (P : A → Type 0) (n : ℕ) (part : Part A) : Type 0 where
  pub all : All P (members part)
  pub few : length (members part) ≤ n

part-wider : {A : Type 0} (P : A → Type 0) (n : ℕ) (part : Part A) → IsPart P n part → IsPart P (n + 1) part
part-wider P n part h = let few = h.few in record { all = h.all; few = omega arith }

pub parts-all : {A : Type 0} (P : A → Type 0) (alike : A → A → Bool) (xs : List A) → All P xs → All (IsPart P (length xs)) (parts alike xs)
parts-all P alike [] all = All-nil (IsPart P 0)
parts-all {A} P alike (x ∷ xs) all =
    let part : Part A = record { first = x; later = filter (alike x) xs } in
    let less = length-filter-le (alike x) xs in
    let n : length xs + 1 ≡ length (x ∷ xs) = omega arith in
    let rest = All-weaker (IsPart P (length xs)) (IsPart P (length (x ∷ xs))) (λ q h. subst (λ k. IsPart P k q) n (part-wider P (length xs) q h)) (parts alike xs) (parts-all P alike xs (All-tail P x xs all)) in
    All-cons (IsPart P (length (x ∷ xs))) part (filter (λ q. not (alike x q.first)) (parts alike xs))
    (record { all = All-cons P x (filter (alike x) xs) (All-head P x xs all) (All-filter (alike x) P xs (All-tail P x xs all)); few = omega arith })
    (All-filter (λ q. not (alike x q.first)) (IsPart P (length (x ∷ xs))) (parts alike xs) rest)

pub length-parts : {A : Type 0} (alike : A → A → Bool) (xs : List A) → length (parts alike xs) ≤ length xs
length-parts alike [] = omega arith
length-parts alike (x ∷ xs) = omega (arith, length-filter-le (λ q. not (alike x q.first)) (parts alike xs), length-parts alike xs)

-- ---- sorted rows

inserted-all : (P : Row → Type 0) (keys : List KeyOrder) (row : Row) (rows : List Row) → P row → All P rows → All P (inserted keys row rows)
inserted-all P keys row [] here all = All-cons P row [] here all
inserted-all P keys row (other ∷ rows) here all =
    by (is_le (row_cmp keys row other)) (inserted-all P keys row rows here (All-tail P other rows all))
  where
    by : (b : Bool) → All P (inserted keys row rows) → All P (cond b (row ∷ other ∷ rows) (other ∷ inserted keys row rows))
    by true h = All-cons P row (other ∷ rows) here all
    by false h = All-cons P other (inserted keys row rows) (All-head P other rows all) h

length-inserted : (keys : List KeyOrder) (row : Row) (rows : List Row) → length (inserted keys row rows) ≡ length rows + 1
length-inserted keys row [] = omega arith
length-inserted keys row (other ∷ rows) = by (is_le (row_cmp keys row other)) (length-inserted keys row rows)
  where
    by : (b : Bool) → length (inserted keys row rows) ≡ length rows + 1 → length (cond b (row ∷ other ∷ rows) (other ∷ inserted keys row rows)) ≡ length (other ∷ rows) + 1
    by true h = omega arith
    by false h = omega arith

pub sorted-all : (P : Row → Type 0) (keys : List KeyOrder) (rows : List Row) → All P rows → All P (sorted keys rows)
sorted-all P keys [] all = all
sorted-all P keys (row ∷ rows) all = inserted-all P keys row (sorted keys rows) (All-head P row rows all) (sorted-all P keys rows (All-tail P row rows all))

pub length-sorted : (keys : List KeyOrder) (rows : List Row) → length (sorted keys rows) ≡ length rows
length-sorted keys [] = refl
length-sorted keys (row ∷ rows) = let h = length-sorted keys rows in omega (arith, length-inserted keys row (sorted keys rows))
