-- What `parse` reads, as the number of a field in an interval.
use Rattle.std.proofs.Common.{◌≡◌, ◌<◌, ℕ, ℤ, Bool, true, false, not, ◌&&◌, List, length, Result, Ok, Err, sym, ap, subst, ◌∙◌, refl, arith}
use Rattle.std.proofs.lemmas.Bool.{ne_eqb}
use Rattle.std.proofs.lemmas.Int.{ints, to_z-of_z}
use Rattle.std.proofs.lemmas.Str.Parse.{IsNumeralModel, numerals_by_value, tells_all_ascii_digits}
use Rattle.std.specs.Int.{w128}
use Rattle.std.specs.Int.{cast_signed, cast_unsigned}
use Rattle.std.specs.Prelude.{int_le, if◌then◌else◌}
use Rattle.cal_value.specs.declared.value.Value.{Value}
use Rattle.cal_value.specs.declared.value.Value.TheVariants.{Int}
use Rattle.csv_tables.specs.declared.fault.CsvCause.TheVariants.{BadInteger}
use Rattle.csv_tables.specs.declared.fault.FieldFault.{FieldFault}
use Rattle.csv_tables.specs.declared.fault.FieldFault.TheVariants.{Bad}
use Rattle.std.specs.Int.RustNames.{FitsSigned}
use Rattle.std.specs.Str.{all_ascii_digits}
use Rattle.std.specs.Str.Parse.{IsNumeral, digits_value, signed_digits_value, without_leading_sign}
use Rattle.cal_value.specs.declared.interval.Interval.TheVariants.{Range}
use Rattle.csv_tables.specs.Field.{is_empty, is_number, number_of, is_integer}
use Rattle.cal_value.specs.Interval.{holds}

own : IsNumeralModel (λ ds. all_ascii_digits ds ≡ true) (digits_value 10)
own = numerals_by_value (λ ds. all_ascii_digits ds ≡ true) tells_all_ascii_digits

numeral-yes : (ds : List ℕ) → IsNumeral 10 ds → (not (is_empty ds) && all_ascii_digits ds) ≡ true
numeral-yes ds h =
    let some : is_empty ds ≡ false = ne_eqb (length ds) 0 (λ e. omega (arith, e, h.0)) in
    let digits : all_ascii_digits ds ≡ true = own.from ds h.1 in
    ap (λ b. not b && all_ascii_digits ds) some ∙ digits

numeral-from : (ds : List ℕ) → (not (is_empty ds) && all_ascii_digits ds) ≡ true → IsNumeral 10 ds
numeral-from ds e = by (is_empty ds) (all_ascii_digits ds) refl refl e
  where
    positive : (ds : List ℕ) → is_empty ds ≡ false → 0 < length ds
    positive ds e = grind (arith)

    by : (a b : Bool) → is_empty ds ≡ a → all_ascii_digits ds ≡ b → (not a && b) ≡ true → IsNumeral 10 ds
    by true b ea eb f = absurd (Prim.cc)
    by false true ea eb f = (positive ds ea, own.to ds eb)
    by false false ea eb f = absurd (Prim.cc)

-- the number as a call hands it on
abbrev handed : ℤ → ℤ
handed z = cast_signed w128 (cast_unsigned w128 z)

handed-same : (z : ℤ) → FitsSigned w128 z → handed z ≡ z
handed-same z fits = to_z-of_z w128 z fits

-- what an answer of `parse` says of the number that it gives
abbrev pub IsReadAs : List ℕ → ℤ → Type 0
IsReadAs text n = (IsNumeral 10 (without_leading_sign text) × FitsSigned w128 (signed_digits_value 10 text)) × (n ≡ signed_digits_value 10 text)

abbrev answer : Bool → List ℕ → Result Value FieldFault
answer b text = if b then Ok (Int (number_of text)) else Err (Bad BadInteger)

is-integer-at : (text : List ℕ) (lo hi n : ℤ) → IsReadAs text n → is_integer (Range lo hi) text ≡ (int_le lo n && int_le n hi)
unfolding is_number number_of
is-integer-at text lo hi n h =
    ap (λ b. b && holds (Range lo hi) (signed_digits_value 10 text)) (numeral-yes (without_leading_sign text) h.0.0)
    ∙ ap (λ z. int_le lo z && int_le z hi) (sym h.1)

fits-read : (text : List ℕ) (n : ℤ) → IsReadAs text n → FitsSigned w128 n
fits-read text n h = subst (λ z. FitsSigned w128 z) (sym h.1) h.0.1

pub number-answer : (text : List ℕ) (lo hi n : ℤ) → IsReadAs text n → FitsSigned w128 lo → FitsSigned w128 hi
    → int_le (handed lo) (handed n) ≡ true → int_le (handed n) (handed hi) ≡ true
    → Ok (Int (handed n)) ≡ answer (is_integer (Range lo hi) text) text
unfolding number_of
number-answer text lo hi n h flo fhi above below =
    let same = handed-same n (fits-read text n h) in
    let low : int_le lo n ≡ true = ap (λ z. int_le z n) (sym (handed-same lo flo)) ∙ ap (λ z. int_le (handed lo) z) (sym same) ∙ above in
    let high : int_le n hi ≡ true = ap (λ z. int_le n z) (sym (handed-same hi fhi)) ∙ ap (λ z. int_le z (handed hi)) (sym same) ∙ below in
    let inside : is_integer (Range lo hi) text ≡ true = is-integer-at text lo hi n h ∙ ap (λ b. b && int_le n hi) low ∙ high in
    ap (λ z. Ok (Int z)) (same ∙ h.1) ∙ sym (ap (λ b. answer b text) inside)

pub low-answer : (text : List ℕ) (lo hi n : ℤ) → IsReadAs text n → FitsSigned w128 lo → int_le (handed lo) (handed n) ≡ false
    → Err (Bad BadInteger) ≡ answer (is_integer (Range lo hi) text) text
low-answer text lo hi n h flo under =
    let same = handed-same n (fits-read text n h) in
    let low : int_le lo n ≡ false = ap (λ z. int_le z n) (sym (handed-same lo flo)) ∙ ap (λ z. int_le (handed lo) z) (sym same) ∙ under in
    sym (ap (λ b. answer b text) (is-integer-at text lo hi n h ∙ ap (λ b. b && int_le n hi) low))

pub high-answer : (text : List ℕ) (lo hi n : ℤ) → IsReadAs text n → FitsSigned w128 hi → int_le (handed n) (handed hi) ≡ false
    → Err (Bad BadInteger) ≡ answer (is_integer (Range lo hi) text) text
high-answer text lo hi n h fhi over =
    let same = handed-same n (fits-read text n h) in
    let high : int_le n hi ≡ false = ap (λ z. int_le n z) (sym (handed-same hi fhi)) ∙ ap (λ z. int_le z (handed hi)) (sym same) ∙ over in
    sym (ap (λ b. answer b text) (is-integer-at text lo hi n h ∙ past (int_le lo n) (int_le n hi) high))
  where
    past : (a b : Bool) → b ≡ false → (a && b) ≡ false
    past true b e = e
    past false b e = refl

between : (lo n hi : ℤ) → FitsSigned w128 lo → FitsSigned w128 hi → int_le lo n ≡ true → int_le n hi ≡ true → FitsSigned w128 n
between lo n hi flo fhi a b = grind (arith, ints)

-- a text that `parse` refuses is no number of the interval
pub no-answer : (text : List ℕ) (lo hi : ℤ) → FitsSigned w128 lo → FitsSigned w128 hi
    → (IsNumeral 10 (without_leading_sign text) × FitsSigned w128 (signed_digits_value 10 text) → ⊥)
    → Err (Bad BadInteger) ≡ answer (is_integer (Range lo hi) text) text
unfolding is_number number_of
no-answer text lo hi flo fhi none = sym (ap (λ b. answer b text) (by (not (is_empty (without_leading_sign text)) && all_ascii_digits (without_leading_sign text)) (int_le lo (signed_digits_value 10 text)) (int_le (signed_digits_value 10 text) hi) refl refl refl))
  where
    by : (a b c : Bool) → (not (is_empty (without_leading_sign text)) && all_ascii_digits (without_leading_sign text)) ≡ a → int_le lo (signed_digits_value 10 text) ≡ b → int_le (signed_digits_value 10 text) hi ≡ c → (a && (b && c)) ≡ false
    by false b c ea eb ec = refl
    by true false c ea eb ec = refl
    by true true false ea eb ec = refl
    by true true true ea eb ec = absurd (none (numeral-from (without_leading_sign text) ea, between lo (signed_digits_value 10 text) hi flo fhi eb ec))
