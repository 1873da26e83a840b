-- Writes one after another.
use Rattle.std.proofs.Common.{◌≡◌, ℕ, ◌+◌, List, ◌++◌, Option, None, Some, take, drop, length, ◌-◌, refl, sym, ap, ◌∙◌, append_assoc}
use Rattle.std.proofs.Math.Seq.{take-add}
use Rattle.std.proofs.lemmas.List.{take_rest}
use Rattle.cal_outside.specs.Sink.{SinkState, with_text}

with_two : (sink : SinkState) (first next : List ℕ) → with_text (with_text sink first) next ≡ with_text sink (first ++ next)
with_two sink first next = of sink.bytes
  where
    of : (bytes : Option (List ℕ)) → with_text (with_text (record { bytes = bytes; faults = sink.faults }) first) next ≡ with_text (record { bytes = bytes; faults = sink.faults }) (first ++ next)
    of None = refl
    of (Some bytes) = ap (λ (b : List ℕ). record { bytes = Some b; faults = sink.faults }) (append_assoc bytes first next)

-- a further part of the text, as the rest of a slice begins with it
pub adds_part : (a b c : SinkState) (text : List ℕ) (done n : ℕ) → b ≡ with_text a (take done text)
    → c ≡ with_text b (take n (take (length text - done) (drop done text))) → c ≡ with_text a (take (done + n) text)
adds_part a b c text done n p q =
    let e : take done text ++ take n (take (length text - done) (drop done text)) ≡ take (done + n) text =
    rw (take_rest text done) (sym (take-add done n text)) in
    q ∙ ap (λ (s : SinkState). with_text s (take n (take (length text - done) (drop done text)))) p
    ∙ with_two a (take done text) (take n (take (length text - done) (drop done text))) ∙ ap (λ (t : List ℕ). with_text a t) e
