-- Printing characters one after another.
use Rattle.std.proofs.Common.{◌≡◌, ◌<◌, ℕ, ◌+◌, List, [], ◌∷◌, ◌++◌, Bool, true, false, cond, refl, sym, ap, ◌∙◌, length, take, get_or, append_assoc, append-nil, encode_utf8_all}
use Rattle.std.specs.Prelude.{◌==◌}
use Rattle.std.specs.Char.{encode_utf8}
use Rattle.std.proofs.lemmas.List.{take_more}
use Rattle.std.proofs.lemmas.Str.{encodes-append}
use Rattle.sql_text.specs.Tokens.{doubled, quoted}

encoded_one : (c : ℕ) → encode_utf8_all (c ∷ []) ≡ encode_utf8 c
encoded_one c = append-nil (encode_utf8 c)

encoded_push : (start text : List ℕ) (more : List ℕ) → start ++ encode_utf8_all (text ++ more) ≡ (start ++ encode_utf8_all text) ++ encode_utf8_all more
encoded_push start text more = ap (λ t. start ++ t) (encodes-append text more) ∙ sym (append_assoc start (encode_utf8_all text) (encode_utf8_all more))

doubled_step : (quote c : ℕ) (ab a b : List ℕ) (t : Bool) → ab ≡ a ++ b → cond t (quote ∷ quote ∷ ab) (c ∷ ab) ≡ cond t (quote ∷ quote ∷ a) (c ∷ a) ++ b
doubled_step quote c ab a b true e = ap (λ t. quote ∷ quote ∷ t) e
doubled_step quote c ab a b false e = ap (λ t. c ∷ t) e

pub doubled-append : (quote : ℕ) (a b : List ℕ) → doubled quote (a ++ b) ≡ doubled quote a ++ doubled quote b
doubled-append quote [] b = refl
doubled-append quote (c ∷ a) b = doubled_step quote c (doubled quote (a ++ b)) (doubled quote a) (doubled quote b) (c == quote) (doubled-append quote a b)

pub doubled_more : (start : List ℕ) (quote : ℕ) (text : List ℕ) (i : ℕ) → i < length text
    → start ++ encode_utf8_all (doubled quote (take (i + 1) text)) ≡ (start ++ encode_utf8_all (doubled quote (take i text))) ++ encode_utf8_all (doubled quote (get_or text i 0 ∷ []))
doubled_more start quote text i h =
    ap (λ t. start ++ encode_utf8_all (doubled quote t)) (take_more text i 0 h)
    ∙ ap (λ t. start ++ encode_utf8_all t) (doubled-append quote (take i text) (get_or text i 0 ∷ []))
    ∙ encoded_push start (doubled quote (take i text)) (doubled quote (get_or text i 0 ∷ []))

-- one character inside, and the quote twice
pub encoded_doubled : (start : List ℕ) (quote c : ℕ)
    → start ++ encode_utf8_all (doubled quote (c ∷ [])) ≡ cond (c == quote) ((start ++ encode_utf8 quote) ++ encode_utf8 quote) (start ++ encode_utf8 c)
encoded_doubled start quote c = by_test (c == quote)
  where
    by_test : (t : Bool) → start ++ encode_utf8_all (cond t (quote ∷ quote ∷ []) (c ∷ [])) ≡ cond t ((start ++ encode_utf8 quote) ++ encode_utf8 quote) (start ++ encode_utf8 c)
    by_test true = ap (λ t. start ++ (encode_utf8 quote ++ t)) (encoded_one quote) ∙ sym (append_assoc start (encode_utf8 quote) (encode_utf8 quote))
    by_test false = ap (λ t. start ++ t) (encoded_one c)

pub encoded_quoted : (start : List ℕ) (quote : ℕ) (text : List ℕ)
    → start ++ encode_utf8_all (quoted quote text) ≡ ((start ++ encode_utf8 quote) ++ encode_utf8_all (doubled quote text)) ++ encode_utf8 quote
encoded_quoted start quote text =
    sym (append_assoc start (encode_utf8 quote) (encode_utf8_all (doubled quote text ++ quote ∷ [])))
    ∙ encoded_push (start ++ encode_utf8 quote) (doubled quote text) (quote ∷ [])
    ∙ ap (λ t. ((start ++ encode_utf8 quote) ++ encode_utf8_all (doubled quote text)) ++ t) (encoded_one quote)

-- three pieces, one behind the other
pub three_pieces : (before first second third one two all : List ℕ) → one ≡ before ++ first → two ≡ one ++ second → all ≡ two ++ third → all ≡ before ++ (first ++ (second ++ third))
three_pieces before first second third one two all e f g =
    g ∙ ap (λ t. t ++ third) f ∙ ap (λ t. (t ++ second) ++ third) e ∙ append_assoc (before ++ first) second third ∙ append_assoc before first (second ++ third)
