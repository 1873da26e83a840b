-- Rows of which each key in some columns has at most one, said by counts.
use Rattle.std.proofs.Common.{◌≡◌, ℕ, ◌+◌, ◌≤◌, Bool, true, false, cond, ◌||◌, List, [], ◌∷◌, All, AllPairs, refl, sym, ◌∙◌, arith}
use Rattle.std.specs.List.{list_all}
use Rattle.std.proofs.lemmas.List.Elements.{All-nil, All-cons, All-head, All-tail}
use Rattle.std.proofs.lemmas.List.Kept.{AllPairs-cons}
use Rattle.cal_value.specs.Equal.{row_eq}
use Rattle.cal_value.specs.EqualLaws.{row_eq-Decides}
use Rattle.cal_value.specs.Order.{SameBag, columns_of}
use Rattle.cal_rel.specs.Operators.{Row, same_key}
use Rattle.cal_rel.specs.Typing.{is_among}
use Rattle.cal_rel.proofs.Keys.{Apart, Apart-weaker, NotBoth, one-passes, HasKey}
use Rattle.cal_rel.proofs.Totals.{total, Weighs-from_SameBag}
use Rattle.rel_meta.specs.Keys.{holds_key}
use Rattle.rel_meta.specs.Unique.{IsUniqueOn}

-- ---- sums of ones

pub total-le : {A : Type 0} (P : A → Type 0) (f g : A → ℕ) → ((x : A) → P x → f x ≤ g x) → (xs : List A) → All P xs → total f xs ≤ total g xs
total-le P f g h [] all = omega arith
total-le P f g h (x ∷ xs) all = omega (arith, h x (All-head P x xs all), total-le P f g h xs (All-tail P x xs all))

pub total-each : {A : Type 0} (f g : A → ℕ) → ((x : A) → f x ≤ g x) → (xs : List A) → total f xs ≤ total g xs
total-each f g h [] = omega arith
total-each f g h (x ∷ xs) = omega (arith, h x, total-each f g h xs)

-- a test that another one implies passes as often at least
pub one-le : (a b : Bool) → (a ≡ true → b ≡ true) → cond a 1 0 ≤ cond b 1 0
one-le true true h = omega arith
one-le true false h = absurd (let e = h refl in cc)
one-le false b h = omega arith

pub at-most-one : (b : Bool) → cond b 1 0 ≤ 1
at-most-one true = omega arith
at-most-one false = omega arith

pub cond-le : (b : Bool) (n : ℕ) → cond b n 0 ≤ n
cond-le true n = omega arith
cond-le false n = omega arith

-- ---- at most one row of each key

-- how many rows have this key in these columns
abbrev pub times : List ℕ → Row → List Row → ℕ
times columns key rows = total (λ row. cond (row_eq key (columns_of row columns)) 1 0) rows

pub record AtMostOnce (columns : List ℕ) (rows : List Row) : Type 0 where
  pub each : (key : Row) → times columns key rows ≤ 1

pub once-from_Apart : (columns : List ℕ) (rows : List Row) → Apart (λ a b. columns_of a columns ≡ columns_of b columns → ⊥) rows → AtMostOnce columns rows
once-from_Apart columns rows h = record {
  each = λ key. one-passes (λ row. row_eq key (columns_of row columns)) rows
      (Apart-weaker (λ a b. columns_of a columns ≡ columns_of b columns → ⊥) (NotBoth (λ row. row_eq key (columns_of row columns)))
      (λ a b differ p q. differ (sym ((row_eq-Decides key (columns_of a columns)).0 p) ∙ (row_eq-Decides key (columns_of b columns)).0 q)) rows h);
}

none-pass : (p : Row → Bool) (rows : List Row) → total (λ x. cond (p x) 1 0) rows ≤ 0 → All (λ x. p x ≡ false) rows
none-pass p [] h = All-nil (λ x. p x ≡ false)
none-pass p (x ∷ rows) h = by (p x) refl (none-pass p rows) h
  where
    by : (b : Bool) → p x ≡ b → (total (λ x. cond (p x) 1 0) rows ≤ 0 → All (λ x. p x ≡ false) rows) → cond b 1 0 + total (λ x. cond (p x) 1 0) rows ≤ 0 → All (λ x. p x ≡ false) (x ∷ rows)
    by true e more k = absurd (omega arith)
    by false e more k = All-cons (λ x. p x ≡ false) x rows e (more (omega (arith, k)))

once-tail : (columns : List ℕ) (x : Row) (rows : List Row) → AtMostOnce columns (x ∷ rows) → AtMostOnce columns rows
once-tail columns x rows h = record { each = λ key. omega (arith, h.each key) }

passes-once : (b : Bool) → b ≡ true → 1 ≤ cond b 1 0
passes-once true e = omega arith
passes-once false e = absurd (cc)

first-differs : (columns : List ℕ) (x : Row) (rows : List Row) → AtMostOnce columns (x ∷ rows) → All (λ y. same_key columns x y ≡ false) rows
first-differs columns x rows h =
    let own = passes-once (row_eq (columns_of x columns) (columns_of x columns)) ((row_eq-Decides (columns_of x columns) (columns_of x columns)).1 refl) in
    none-pass (λ y. row_eq (columns_of x columns) (columns_of y columns)) rows (omega (arith, h.each (columns_of x columns), own))

pub Apart-from_once : (columns : List ℕ) (rows : List Row) → AtMostOnce columns rows → Apart (λ a b. same_key columns a b ≡ false) rows
Apart-from_once columns [] h = tt
Apart-from_once columns (x ∷ rows) h = (first-differs columns x rows h, Apart-from_once columns rows (once-tail columns x rows h))

AllPairs-from_Apart : {A : Type 0} (R : A → A → Type 0) (xs : List A) → Apart R xs → AllPairs R xs
AllPairs-from_Apart R [] h = λ i j d below inside. absurd (omega arith)
AllPairs-from_Apart R (x ∷ xs) h = AllPairs-cons R x xs h.0 (AllPairs-from_Apart R xs h.1)

pub unique-from_once : (columns : List ℕ) (rows : List Row) → AtMostOnce columns rows → IsUniqueOn columns rows
unique-from_once columns rows h = AllPairs-from_Apart (λ a b. same_key columns a b ≡ false) rows (Apart-from_once columns rows h)

-- in whatever order the rows stand
pub once-same : (columns : List ℕ) (rows others : List Row) → SameBag rows others → AtMostOnce columns others → AtMostOnce columns rows
once-same columns rows others same h = record { each = λ key. omega (arith, (Weighs-from_SameBag rows others same).same (λ row. cond (row_eq key (columns_of row columns)) 1 0), h.each key) }

-- ---- keys among columns

unlike : (columns : List ℕ) (a b : Row) → same_key columns a b ≡ false → columns_of a columns ≡ columns_of b columns → ⊥
unlike columns a b differ e = let same : row_eq (columns_of a columns) (columns_of b columns) ≡ true = (row_eq-Decides (columns_of a columns) (columns_of b columns)).1 e in cc

pub has-key : (columns key : List ℕ) (rows : List Row) → list_all (is_among columns) key ≡ true → AtMostOnce key rows → HasKey columns rows
has-key columns key rows among h = record {
  key = key;
  among = among;
  apart = Apart-weaker (λ a b. same_key key a b ≡ false) (λ a b. columns_of a key ≡ columns_of b key → ⊥) (unlike key) rows (Apart-from_once key rows h);
}

-- where each key is unique, one of them is among the columns
pub held-key : (columns : List ℕ) (keys : List (List ℕ)) (rows : List Row) → All (λ key. AtMostOnce key rows) keys → holds_key columns keys ≡ true → HasKey columns rows
held-key columns [] rows all e = absurd (cc)
held-key columns (key ∷ keys) rows all e =
    by (list_all (is_among columns) key) refl (held-key columns keys rows (All-tail (λ key. AtMostOnce key rows) key keys all)) e
  where
    by : (b : Bool) → list_all (is_among columns) key ≡ b → (holds_key columns keys ≡ true → HasKey columns rows) → (b || holds_key columns keys) ≡ true → HasKey columns rows
    by true f more e = has-key columns key rows f (All-head (λ key. AtMostOnce key rows) key keys all)
    by false f more e = more e
