-- White space as it is defined, and as it is skipped.
use Rattle.std.proofs.Common.{◌≡◌, ℕ, ◌≤◌, Bool, true, false, not, ◌==◌, ◌&&◌, ◌⊎◌, inl, inr, List, [], ◌∷◌, ◌++◌, length, slice_index, refl, sym, ap, ◌∙◌, subst, arith, append_assoc, if◌then◌else◌}
use Rattle.std.proofs.lemmas.Bool.Decides.{nat_tests}
use Rattle.sql_text.specs.Scan.{skipped}
use Rattle.sql_text.specs.Tokens.{is_blank, is_one_line, Skips, IsEnd, none, blank, comment, nothing}

pub truth : (b : Bool) → (b ≡ true) ⊎ (b ≡ false)
truth true = inl refl
truth false = inr refl

pub both : (a b : Bool) → (a && b) ≡ true → (a ≡ true) × (b ≡ true)
both true b h = (refl, h)
both false b h = absurd (cc)

pub not_true : (b : Bool) → not b ≡ true → b ≡ false
not_true true h = absurd (cc)
not_true false h = refl

-- ---- from the definition to what is skipped

over_line : (line more : List ℕ) → is_one_line line ≡ true → skipped true (line ++ 10 ∷ more) ≡ skipped false more
over_line [] more h = refl
over_line (c ∷ line) more h =
    let p = both (not (c == 10)) (is_one_line line) h in
    ap (λ b. skipped b (line ++ 10 ∷ more)) p.0 ∙ over_line line more p.1

blank_skipped : (c : ℕ) (cs : List ℕ) → is_blank c ≡ true → skipped false (c ∷ cs) ≡ skipped false cs
blank_skipped c cs h = let e : (c == 45) ≡ false = grind (arith, nat_tests) in rw (e, h) refl

pub skipped_along : {cs rest : List ℕ} → Skips cs rest → skipped false cs ≡ skipped false rest
skipped_along none = refl
skipped_along (blank {c} {cs} h more) = blank_skipped c cs h ∙ skipped_along more
skipped_along (comment line behind h is more) = ap (skipped true) is ∙ over_line line behind h ∙ skipped_along more

in_line : (line : List ℕ) → is_one_line line ≡ true → skipped true line ≡ []
in_line [] h = refl
in_line (c ∷ line) h =
    let p = both (not (c == 10)) (is_one_line line) h in
    ap (λ b. skipped b line) p.0 ∙ in_line line p.1

pub skipped_end : {cs : List ℕ} → IsEnd cs → skipped false cs ≡ []
skipped_end nothing = refl
skipped_end (comment {line} h) = in_line line h

-- ---- from what is skipped to the definition

-- what is left of cs behind white space
pub Reaches : List ℕ → List ℕ → Type 0
Reaches cs [] = (last : List ℕ) × Skips cs last × IsEnd last
Reaches cs (d ∷ ds) = Skips cs (d ∷ ds)

-- a comment goes on to the end, or to a line feed behind which there is white space
pub data Ends (cs left : List ℕ) : Type 0 where
  with_text : is_one_line cs ≡ true → left ≡ [] → Ends cs left
  with_line : (line more : List ℕ) → is_one_line line ≡ true → cs ≡ line ++ 10 ∷ more → Reaches more left → Ends cs left

one_more : (c : ℕ) (line : List ℕ) → (c == 10) ≡ false → is_one_line line ≡ true → is_one_line (c ∷ line) ≡ true
one_more c line e h = rw (e, h) refl

longer_line : (c : ℕ) (cs left : List ℕ) → (c == 10) ≡ false → Ends cs left → Ends (c ∷ cs) left
longer_line c cs left e (with_text one done) = with_text (one_more c cs e one) done
longer_line c cs left e (with_line line more one is reaches) = with_line (c ∷ line) more (one_more c line e one) (ap (λ xs. c ∷ xs) is) reaches

reaches_blank : (c : ℕ) (cs left : List ℕ) → is_blank c ≡ true → Reaches cs left → Reaches (c ∷ cs) left
unfolding Reaches
reaches_blank c cs [] h r = (r.0, blank h r.1, r.2)
reaches_blank c cs (d ∷ ds) h r = blank h r

reaches_line : (line cs more left : List ℕ) → is_one_line line ≡ true → cs ≡ line ++ 10 ∷ more → Reaches more left → Reaches (45 ∷ 45 ∷ cs) left
unfolding Reaches
reaches_line line cs more [] h is r = (r.0, comment line more h is r.1, r.2)
reaches_line line cs more (d ∷ ds) h is r = comment line more h is r

tail_same : (c d : ℕ) (cs ds : List ℕ) → c ∷ cs ≡ d ∷ ds → cs ≡ ds
tail_same c d cs ds e = cc

reaches_comment : (cs left : List ℕ) → Ends (45 ∷ cs) left → Reaches (45 ∷ 45 ∷ cs) left
unfolding Reaches
reaches_comment cs left (with_text one done) = let R : List ℕ → Type 0 = Reaches (45 ∷ 45 ∷ cs) in subst R (sym done) (45 ∷ 45 ∷ cs, none, comment one)
reaches_comment cs left (with_line [] more one is reaches) = absurd (cc)
reaches_comment cs left (with_line (c ∷ line) more one is reaches) = reaches_line line cs more left (both (not (c == 10)) (is_one_line line) one).1 (tail_same 45 c cs (line ++ 10 ∷ more) is) reaches

stands : (c : ℕ) (cs : List ℕ) → Reaches (c ∷ cs) (c ∷ cs)
unfolding Reaches
stands c cs = none

inside : (c : ℕ) (cs : List ℕ) → Reaches cs (skipped false cs) → Ends cs (skipped true cs) → (b : Bool) → (c == 10) ≡ b → Ends (c ∷ cs) (skipped (not b) cs)
inside c cs out in' true e = let is : c ≡ 10 = grind (arith, nat_tests) in with_line [] cs refl (ap (λ x. x ∷ cs) is) out
inside c cs out in' false e = longer_line c cs (skipped true cs) e in'

dashes : (c : ℕ) (cs : List ℕ) → (c == 45 && slice_index cs 0 == 45) ≡ true → (ds : List ℕ) × (c ∷ cs ≡ 45 ∷ 45 ∷ ds) × (cs ≡ 45 ∷ ds)
dashes c [] h = absurd (cc (both (c == 45) false h).1)
dashes c (d ∷ ds) h =
    let p = both (c == 45) (d == 45) h in
    let first : c ≡ 45 = grind (arith, nat_tests, p.0) in
    let second : d ≡ 45 = grind (arith, nat_tests, p.1) in
    (ds, cc, cc)

outside : (c : ℕ) (cs : List ℕ) → Reaches cs (skipped false cs) → Ends cs (skipped true cs) → (a b : Bool) → (c == 45 && slice_index cs 0 == 45) ≡ a → is_blank c ≡ b
    → Reaches (c ∷ cs) (if a then skipped true cs else (if b then skipped false cs else c ∷ cs))
outside c cs out in' true b e f =
    let p = dashes c cs e in
    let E : List ℕ → Type 0 = λ xs. Ends xs (skipped true cs) in
    let R : List ℕ → Type 0 = λ xs. Reaches xs (skipped true cs) in
    subst R (sym p.1) (reaches_comment p.0 (skipped true cs) (subst E p.2 in'))
outside c cs out in' false true e f = reaches_blank c cs (skipped false cs) f out
outside c cs out in' false false e f = stands c cs

both_reach : (cs : List ℕ) → Reaches cs (skipped false cs) × Ends cs (skipped true cs)
unfolding Reaches
both_reach [] = (([], none, nothing), with_text refl refl)
both_reach (c ∷ cs) =
    let before = both_reach cs in
    (outside c cs before.0 before.1 (c == 45 && slice_index cs 0 == 45) (is_blank c) refl refl, inside c cs before.0 before.1 (c == 10) refl)

pub reaches : (cs left : List ℕ) → skipped false cs ≡ left → Reaches cs left
reaches cs left e = let R : List ℕ → Type 0 = Reaches cs in subst R e (both_reach cs).0

pub reaches_end : (cs : List ℕ) → skipped false cs ≡ [] → (last : List ℕ) × Skips cs last × IsEnd last
unfolding Reaches
reaches_end cs e = reaches cs [] e

pub reaches_on : (cs : List ℕ) (d : ℕ) (ds : List ℕ) → skipped false cs ≡ d ∷ ds → Skips cs (d ∷ ds)
unfolding Reaches
reaches_on cs d ds e = reaches cs (d ∷ ds) e

-- ---- where no white space begins

pub skipped_le : (b : Bool) (cs : List ℕ) → length (skipped b cs) ≤ length cs
skipped_le b [] = omega arith
skipped_le true (c ∷ cs) = omega (arith, skipped_le (not (c == 10)) cs)
skipped_le false (c ∷ cs) = go (c == 45 && slice_index cs 0 == 45) (is_blank c) (skipped_le true cs) (skipped_le false cs)
  where
    go : (a b : Bool) → length (skipped true cs) ≤ length cs → length (skipped false cs) ≤ length cs → length (if a then skipped true cs else (if b then skipped false cs else c ∷ cs)) ≤ length (c ∷ cs)
    go true b h k = omega arith
    go false true h k = omega arith
    go false false h k = omega arith

pub no_space : {cs rest : List ℕ} → skipped false cs ≡ cs → Skips cs rest → cs ≡ rest
no_space e none = refl
no_space e (blank {c} {cs} h more) = absurd (omega (arith, skipped_le false cs, ap (λ xs. length xs) (sym (blank_skipped c cs h) ∙ e)))
no_space e (comment {cs} line behind h is more) = absurd (omega (arith, skipped_le true cs, ap (λ xs. length xs) e))

pub skips_front : {cs rest : List ℕ} → Skips cs rest → (front : List ℕ) × (cs ≡ front ++ rest)
skips_front none = ([], refl)
skips_front (blank {c} h more) = let p = skips_front more in (c ∷ p.0, ap (λ xs. c ∷ xs) p.1)
skips_front (comment {cs} line behind h is more) =
    let p = skips_front more in
    (45 ∷ 45 ∷ (line ++ 10 ∷ p.0), ap (λ xs. 45 ∷ 45 ∷ xs) (is ∙ ap (λ xs. line ++ 10 ∷ xs) p.1 ∙ sym (append_assoc line (10 ∷ p.0) _)))
