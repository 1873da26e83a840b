-- The bytes of characters, one after another.
use Rattle.std.proofs.Common.{◌≡◌, ◌<◌, ℕ, ◌+◌, List, [], ◌∷◌, ◌++◌, sym, ap, ◌∙◌, length, take, get_or, append_assoc, append-nil, encode_utf8_all}
use Rattle.std.specs.Char.{encode_utf8}
use Rattle.std.proofs.lemmas.List.{take_more}
use Rattle.std.proofs.lemmas.Str.{encodes-append}

encoded_one : (c : ℕ) → encode_utf8_all (c ∷ []) ≡ encode_utf8 c
encoded_one c = append-nil (encode_utf8 c)

encoded_push : (start text : List ℕ) (more : List ℕ) → start ++ encode_utf8_all (text ++ more) ≡ (start ++ encode_utf8_all text) ++ encode_utf8_all more
encoded_push start text more = ap (λ t. start ++ t) (encodes-append text more) ∙ sym (append_assoc start (encode_utf8_all text) (encode_utf8_all more))

pub encoded_more : (start text : List ℕ) (i : ℕ) → i < length text
    → start ++ encode_utf8_all (take (i + 1) text) ≡ (start ++ encode_utf8_all (take i text)) ++ encode_utf8 (get_or text i 0)
encoded_more start text i h =
    ap (λ t. start ++ encode_utf8_all t) (take_more text i 0 h) ∙ encoded_push start (take i text) (get_or text i 0 ∷ [])
    ∙ ap (λ t. (start ++ encode_utf8_all (take i text)) ++ t) (encoded_one (get_or text i 0))
