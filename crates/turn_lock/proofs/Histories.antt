-- A history that goes on from another.
use Rattle.std.proofs.Common.{◌≡◌, ℕ, ◌≤◌, List, [], ◌∷◌, ◌++◌, length, sym, refl, ap, ◌∙◌, subst, ⊎_elim, Bool, cond, append-nil, append_assoc, length-append, arith}
use Rattle.std.specs.List.{All, Contains}
use Rattle.std.proofs.lemmas.List.{nil_from_length}
use Rattle.std.proofs.lemmas.List.Elements.{All-nil, All-cons, All-head, All-tail, All-append, All-weaker}
use Rattle.turn_lock.specs.Actors.{merged}
use Rattle.turn_lock.specs.History.{longer, GoesOn}
use Rattle.turn_lock.proofs.Comparing.{by_lt}
use Rattle.turn_lock.proofs.ActorLists.{merged_in}

module _ {E : Type 0} where
  all_left : (P : E → Type 0) (xs ys : List E) → All P (xs ++ ys) → All P xs
  all_left P [] ys p = All-nil P
  all_left P (x ∷ xs) ys p = All-cons P x xs (All-head P x (xs ++ ys) p) (all_left P xs ys (All-tail P x (xs ++ ys) p))

  all_right : (P : E → Type 0) (xs ys : List E) → All P (xs ++ ys) → All P ys
  all_right P [] ys p = p
  all_right P (x ∷ xs) ys p = all_right P xs ys (All-tail P x (xs ++ ys) p)

  all_both : (P Q R : E → Type 0) → ((x : E) → P x → Q x → R x) → (xs : List E) → All P xs → All Q xs → All R xs
  all_both P Q R f [] p q = All-nil R
  all_both P Q R f (x ∷ xs) p q = All-cons R x xs (f x (All-head P x xs p) (All-head Q x xs q)) (all_both P Q R f xs (All-tail P x xs p) (All-tail Q x xs q))

  prefixes : (xs ys r q : List E) → xs ++ r ≡ ys ++ q → length xs ≤ length ys → (t : List E) × (xs ++ t ≡ ys) × (t ++ q ≡ r)
  prefixes [] ys r q e le = (ys, refl, sym e)
  prefixes (x ∷ xs) [] r q e le = absurd (omega arith)
  prefixes (x ∷ xs) (y ∷ ys) r q e le = let tails : xs ++ r ≡ ys ++ q = cc (e) in let heads : x ≡ y = cc (e) in let p = prefixes xs ys r q tails (omega arith) in
      (p.0, (λ k. heads k ∷ p.1 k), p.2)

  all_of_it : (xs r log : List E) → xs ++ r ≡ log → length log ≤ length xs → xs ≡ log
  all_of_it xs r log e le = let none_left : r ≡ [] = nil_from_length r (omega (arith, length-append xs r, ap length e)) in sym (append-nil xs) ∙ ap (λ (z : List E). xs ++ z) (sym none_left) ∙ e

  -- one list goes on by one event in one way
  pub same_last : (xs : List E) (e f : E) → xs ++ e ∷ [] ≡ xs ++ f ∷ [] → e ≡ f
  same_last [] e f same = cc (same)
  same_last (x ∷ xs) e f same = let tails : xs ++ e ∷ [] ≡ xs ++ f ∷ [] = cc (same) in same_last xs e f tails

  pub longer_left : (xs ys log : List E) (r : List E) → xs ≡ log → ys ++ r ≡ log → longer xs ys ≡ log
  longer_left xs ys log r e f = by_lt (length xs) (length ys) (λ b. cond b ys xs ≡ log) (λ lt. all_of_it ys r log f (omega (arith, ap length e))) (λ _. e)

  pub longer_right : (xs ys log : List E) (r : List E) → xs ++ r ≡ log → ys ≡ log → longer xs ys ≡ log
  longer_right xs ys log r e f = by_lt (length xs) (length ys) (λ b. cond b ys xs ≡ log) (λ _. f) (λ le. all_of_it xs r log e (omega (arith, ap length f)))

  module _ (actor : E → ℕ) where
    abbrev IsBy : List ℕ → E → Type 0
    IsBy actors e = Contains actors (actor e)

    abbrev Others : List ℕ → E → Type 0
    Others actors e = ¬ IsBy actors e

    pub goes_nowhere : (mine : List ℕ) (xs : List E) → GoesOn actor mine xs xs
    goes_nowhere mine xs = record { rest = []; whole = append-nil xs; quiet = All-nil (Others mine) }

    -- the view of nobody
    pub goes_from_nothing : (xs : List E) → GoesOn actor [] [] xs
    goes_from_nothing xs = record { rest = xs; whole = refl; quiet = λ k d h c. absurd (omega (arith, c.1)) }

    pub goes_more : (mine : List ℕ) (xs ys : List E) (e : E) → ¬ Contains mine (actor e) → GoesOn actor mine xs ys → GoesOn actor mine xs (ys ++ e ∷ [])
    goes_more mine xs ys e missing g = record {
      rest = g.rest ++ e ∷ [];
      whole = sym (append_assoc xs g.rest (e ∷ [])) ∙ ap (λ (z : List E). z ++ e ∷ []) g.whole;
      quiet = All-append (Others mine) g.rest (e ∷ []) g.quiet (All-cons (Others mine) e [] missing (All-nil (Others mine)));
    }

    pub goes_fewer : (mine few : List ℕ) (xs ys : List E) → ((a : ℕ) → Contains few a → Contains mine a) → GoesOn actor mine xs ys → GoesOn actor few xs ys
    goes_fewer mine few xs ys h g = record { rest = g.rest; whole = g.whole; quiet = All-weaker (Others mine) (Others few) (λ e other c. other (h (actor e) c)) g.rest g.quiet }

    goes_shorter : (mine theirs : List ℕ) (xs ys log : List E) → length xs ≤ length ys → GoesOn actor mine xs log → (h : GoesOn actor theirs ys log) → GoesOn actor mine xs ys × All (Others mine) h.rest
    goes_shorter mine theirs xs ys log le g h = let p = prefixes xs ys g.rest h.rest (g.whole ∙ sym h.whole) le in
        let q : All (Others mine) (p.0 ++ h.rest) = subst (All (Others mine)) (sym p.2) g.quiet in
        (record { rest = p.0; whole = p.1; quiet = all_left (Others mine) p.0 h.rest q }, all_right (Others mine) p.0 h.rest q)

    others_both : (mine theirs : List ℕ) (xs : List E) → All (Others mine) xs → All (Others theirs) xs → All (Others (merged mine theirs)) xs
    others_both mine theirs = all_both (Others mine) (Others theirs) (Others (merged mine theirs)) (λ e p q c. ⊎_elim (λ l. p l) (λ r. q r) (merged_in mine theirs (actor e) c))

    -- two that go on to one history go on to the longer of the two
    pub goes_longer : (mine theirs : List ℕ) (xs ys log : List E) → GoesOn actor mine xs log → GoesOn actor theirs ys log
        → GoesOn actor mine xs (longer xs ys) × GoesOn actor theirs ys (longer xs ys) × GoesOn actor (merged mine theirs) (longer xs ys) log
    goes_longer mine theirs xs ys log g h =
        let P : Bool → Type 0 = λ b. GoesOn actor mine xs (cond b ys xs) × GoesOn actor theirs ys (cond b ys xs) × GoesOn actor (merged mine theirs) (cond b ys xs) log in
        by_lt (length xs) (length ys) P
        (λ lt. let s = goes_shorter mine theirs xs ys log (omega arith) g h in (s.0, goes_nowhere theirs ys, record { rest = h.rest; whole = h.whole; quiet = others_both mine theirs h.rest s.1 h.quiet }))
        (λ le. let s = goes_shorter theirs mine ys xs log le h g in (goes_nowhere mine xs, s.0, record { rest = g.rest; whole = g.whole; quiet = others_both mine theirs g.rest g.quiet s.1 }))
