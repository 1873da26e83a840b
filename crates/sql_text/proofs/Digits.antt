-- Lemmas on the digits at the front, and on their value.
use Rattle.std.proofs.Common.{◌≡◌, ℕ, suc, ◌+◌, ◌*◌, ◌<◌, Bool, true, false, cond, min, List, [], ◌∷◌, ◌++◌, length, take, get_or, refl, ap, ◌∙◌, arith}
use Rattle.std.specs.Char.{digit_value, is_ascii_digit}
use Rattle.std.specs.List.{list_all, prefix_len}
use Rattle.std.specs.Str.Parse.{digits_value, digits_value_after}
use Rattle.std.proofs.lemmas.Bool.Decides.{nat_tests}
use Rattle.std.proofs.lemmas.List.{take_more}
use Rattle.std.proofs.lemmas.List.Sums.{AllPass-from_list_all}
use Rattle.cal_value.specs.Interval.{limit}

-- what was counted passes the test
pub prefix_passes : {X : Type 0} (p : X → Bool) (xs : List X) → list_all p (take (prefix_len p xs) xs) ≡ true
prefix_passes p [] = refl
prefix_passes p (x ∷ xs) = head (p x) refl (prefix_passes p xs)
  where
    head : (b : Bool) → p x ≡ b → list_all p (take (prefix_len p xs) xs) ≡ true → list_all p (take (cond b (1 + prefix_len p xs) 0) (x ∷ xs)) ≡ true
    head true e rest = let one : 1 + prefix_len p xs ≡ suc (prefix_len p xs) = omega arith in rw (one, e) rest
    head false e rest = refl

digits_more : (n : ℕ) (ds : List ℕ) (c : ℕ) → digits_value_after 10 n (ds ++ c ∷ []) ≡ digits_value_after 10 n ds * 10 + digit_value c
digits_more n [] c = refl
digits_more n (d ∷ ds) c = digits_more (n * 10 + digit_value d) ds c

pub value_more : (ds : List ℕ) (i : ℕ) → i < length ds → digits_value 10 (take (i + 1) ds) ≡ digits_value 10 (take i ds) * 10 + digit_value (get_or ds i 0)
value_more ds i h = ap (digits_value 10) (take_more ds i 0 h) ∙ digits_more 0 (take i ds) (get_or ds i 0)

pub digit_at : (ds : List ℕ) (i : ℕ) → list_all is_ascii_digit ds ≡ true → i < length ds → digit_value (get_or ds i 0) < 10
digit_at ds i h l = let one : is_ascii_digit (get_or ds i 0) ≡ true = AllPass-from_list_all is_ascii_digit ds h i 0 l in grind (arith, nat_tests)

-- one digit more, cut at 10^38
pub capped : (w d : ℕ) → d < 10 → min (min (min (min w limit * 10) 340282366920938463463374607431768211455 + d) 340282366920938463463374607431768211455) limit ≡ min (w * 10 + d) limit
capped w d h = omega arith
