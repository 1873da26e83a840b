-- Words and numbers at the front, as they are defined and as they are read.
use Rattle.std.proofs.Common.{◌≡◌, ◌≢◌, ℕ, suc, ◌+◌, ◌<◌, ◌≤◌, Bool, true, false, not, cond, ◌&&◌, nat_lt, inl, Option, Some, None, List, [], ◌∷◌, ◌++◌, length, map, take, drop, slice_index, refl, sym, ap, ◌∙◌, subst, arith, ℤ, pos}
use Rattle.std.specs.Char.{is_ascii_digit, to_ascii_uppercase}
use Rattle.std.specs.List.{list_all, prefix_len, find}
use Rattle.std.specs.Str.{bytes_eq}
use Rattle.std.specs.Str.Parse.{digits_value}
use Rattle.std.proofs.lemmas.Bool.Decides.{nat_tests}
use Rattle.std.proofs.lemmas.List.{length-map, take_at, drop_at, take-append-drop}
use Rattle.std.proofs.lemmas.List.Folds.{length-prefix_len}
use Rattle.std.proofs.lemmas.Slice.Eq.{bytes_eq-Decides}
use Rattle.cal_value.specs.declared.limits.TheConstants.{NAME_LIMIT}
use Rattle.cal_value.specs.Interval.{limit}
use Rattle.sql_text.specs.declared.token.Reserved.{Reserved}
use Rattle.sql_text.specs.declared.token.Reserved.TheVariants.{Select}
use Rattle.sql_text.specs.declared.token.Token.{Token}
use Rattle.sql_text.specs.declared.token.Token.TheVariants.{Number}
use Rattle.sql_text.specs.declared.words.TheConstants.{RESERVED}
use Rattle.sql_text.specs.Spelling.{letters, reserved_of}
use Rattle.sql_text.specs.Scan.{Found, named, word_at, number_at}
use Rattle.sql_text.specs.Tokens.{begins_word, continues_word, is_word, TakesWord, IsReserved, TakesNumber, Begins}
use Rattle.sql_text.proofs.Digits.{prefix_passes}
use Rattle.sql_text.proofs.Space.{both}

-- ---- the characters that pass a test, and the first that doesn't

pub prefix_is : (p : ℕ → Bool) (front rest : List ℕ) → list_all p front ≡ true → p (slice_index rest 0) ≡ false → prefix_len p (front ++ rest) ≡ length front
prefix_is p [] [] h e = refl
prefix_is p [] (c ∷ rest) h e = rw e refl
prefix_is p (c ∷ front) rest h e =
    let q = both (p c) (list_all p front) h in
    let k = prefix_is p front rest q.1 e in
    rw (q.0, k) (omega arith)

pub prefix_stops : (p : ℕ → Bool) (xs : List ℕ) → p 0 ≡ false → p (slice_index (drop (prefix_len p xs) xs) 0) ≡ false
prefix_stops p [] z = z
prefix_stops p (x ∷ xs) z = go (p x) refl (prefix_stops p xs z)
  where
    go : (b : Bool) → p x ≡ b → p (slice_index (drop (prefix_len p xs) xs) 0) ≡ false → p (slice_index (drop (cond b (1 + prefix_len p xs) 0) (x ∷ xs)) 0) ≡ false
    go true e h = let one : 1 + prefix_len p xs ≡ suc (prefix_len p xs) = omega arith in rw one h
    go false e h = e

pub split_at : (xs : List ℕ) (n : ℕ) → xs ≡ take n xs ++ drop n xs
split_at xs n = sym (take-append-drop n xs)

-- ---- reserved words

pub known : (w : Reserved) → reserved_of (letters w) ≡ Some w
unfolding reserved_of
known Select = refl
known _ = refl

pub letters_short : (w : Reserved) → nat_lt NAME_LIMIT (length (letters w)) ≡ false
letters_short Select = refl
letters_short _ = refl

found_is : (ws : List Reserved) (upper : List ℕ) (w : Reserved) → find (λ v. bytes_eq (letters v) upper) ws ≡ Some w → letters w ≡ upper
found_is [] upper w h = absurd (cc)
found_is (v ∷ ws) upper w h = go (bytes_eq (letters v) upper) refl (found_is ws upper w) h
  where
    go : (b : Bool) → bytes_eq (letters v) upper ≡ b → (find (λ u. bytes_eq (letters u) upper) ws ≡ Some w → letters w ≡ upper) → cond b (Some v) (find (λ u. bytes_eq (letters u) upper) ws) ≡ Some w → letters w ≡ upper
    go true e more k = let is : v ≡ w = cc in ap letters (sym is) ∙ (bytes_eq-Decides (letters v) upper).0 e
    go false e more k = more k

pub reserved_is : (upper : List ℕ) (w : Reserved) → reserved_of upper ≡ Some w → letters w ≡ upper
unfolding reserved_of
reserved_is upper w h = found_is RESERVED upper w h

pub unreserved : (upper : List ℕ) → reserved_of upper ≡ None → IsReserved upper → ⊥
unreserved upper h r = let e : reserved_of upper ≡ Some r.0 = ap reserved_of (sym r.1) ∙ known r.0 in absurd (cc)

-- ---- words

-- how many characters of a word come first, and these in upper case
abbrev run : List ℕ → ℕ
run cs = prefix_len continues_word cs

abbrev raised_run : List ℕ → List ℕ
raised_run cs = map to_ascii_uppercase (take (run cs) cs)

continues : (c : ℕ) → begins_word c ≡ true → continues_word c ≡ true
continues c h = grind (arith, nat_tests)

word_formed : (c : ℕ) (cs : List ℕ) → begins_word c ≡ true → is_word (take (run (c ∷ cs)) (c ∷ cs)) ≡ true
word_formed c cs h =
    let one : 1 + run cs ≡ suc (run cs) = omega arith in
    rw (continues c h, one, h) (prefix_passes continues_word cs)

word_len : (cs : List ℕ) → length (raised_run cs) ≡ run cs
word_len cs = length-map (take (run cs) cs) to_ascii_uppercase ∙ length-prefix_len continues_word cs

-- what is read as a word is one
word_taken : (c : ℕ) (cs : List ℕ) → begins_word c ≡ true → TakesWord (c ∷ cs) (raised_run (c ∷ cs)) (drop (run (c ∷ cs)) (c ∷ cs))
word_taken c cs h = record {
  word = take (run (c ∷ cs)) (c ∷ cs);
  split = split_at (c ∷ cs) (run (c ∷ cs));
  formed = word_formed c cs h;
  raised = refl;
  ends = prefix_stops continues_word (c ∷ cs) refl;
}

named_begins : (cs upper rest : List ℕ) → TakesWord cs upper rest → 0 < length upper → length upper ≤ NAME_LIMIT → (r : Option Reserved) → reserved_of upper ≡ r → Begins cs (named upper r) rest
named_begins cs upper rest takes some few None e = (some, few, inl (takes, unreserved upper e))
named_begins cs upper rest takes some few (Some w) e = let T : List ℕ → Type 0 = λ xs. TakesWord cs xs rest in subst T (sym (reserved_is upper w e)) takes

pub pair_is : {A B : Type 0} (a c : A) (b d : B) → ◌≡◌ {A = Option (A × B)} (Some (a, b)) (Some (c, d)) → (a ≡ c) × (b ≡ d)
pair_is {A} {B} a c b d e = let is : ◌≡◌ {A = A × B} (a, b) (c, d) = cc in (ap (λ (p : A × B). p.0) is, ap (λ (p : A × B). p.1) is)

pub begins_as : (cs : List ℕ) (t u : Token) (r s : List ℕ) → (t ≡ u) × (r ≡ s) → Begins cs t r → Begins cs u s
begins_as cs t u r s e h =
    let T : Token → Type 0 = λ v. Begins cs v s in
    let R : List ℕ → Type 0 = λ v. Begins cs t v in
    subst T e.0 (subst R e.1 h)

pub word_begins : (c : ℕ) (cs : List ℕ) (t : Token) (rest : List ℕ) → begins_word c ≡ true → word_at (c ∷ cs) ≡ Some (t, rest) → Begins (c ∷ cs) t rest
unfolding word_at
word_begins c cs t rest h e = go (nat_lt NAME_LIMIT (run (c ∷ cs))) refl e
  where
    go : (b : Bool) → nat_lt NAME_LIMIT (run (c ∷ cs)) ≡ b → cond {A = Found} b None (Some (named (raised_run (c ∷ cs)) (reserved_of (raised_run (c ∷ cs))), drop (run (c ∷ cs)) (c ∷ cs))) ≡ Some (t, rest) → Begins (c ∷ cs) t rest
    go true few k = absurd (cc)
    go false few k =
        let upper = raised_run (c ∷ cs) in
        let len : length upper ≡ run (c ∷ cs) = word_len (c ∷ cs) in
        let some : 0 < run (c ∷ cs) = rw (continues c h) (omega arith) in
        let most : run (c ∷ cs) ≤ NAME_LIMIT = grind (arith, nat_tests, few) in
        begins_as (c ∷ cs) (named upper (reserved_of upper)) t (drop (run (c ∷ cs)) (c ∷ cs)) rest (pair_is _ _ _ _ k)
        (named_begins (c ∷ cs) upper _ (word_taken c cs h) (omega arith) (omega arith) (reserved_of upper) refl)

word_continues : (word : List ℕ) → is_word word ≡ true → list_all continues_word word ≡ true
word_continues [] h = refl
word_continues (c ∷ word) h = let p = both (begins_word c) (list_all continues_word word) h in rw (continues c p.0) p.1

-- a word as it is defined is read
pub word_read : (cs upper rest : List ℕ) → TakesWord cs upper rest → length upper ≤ NAME_LIMIT → word_at cs ≡ Some (named upper (reserved_of upper), rest)
unfolding word_at
word_read cs upper rest takes few =
    let len : run cs ≡ length takes.word = ap (prefix_len continues_word) takes.split ∙ prefix_is continues_word takes.word rest (word_continues takes.word takes.formed) takes.ends in
    let taken : take (run cs) cs ≡ takes.word = ap (take (run cs)) takes.split ∙ take_at takes.word rest (run cs) (sym len) in
    let dropped : drop (run cs) cs ≡ rest = ap (drop (run cs)) takes.split ∙ drop_at takes.word rest (run cs) (sym len) in
    let size : length takes.word ≡ length upper = sym (length-map takes.word to_ascii_uppercase) ∙ ap (λ xs. length xs) (sym takes.raised) in
    let short : nat_lt NAME_LIMIT (run cs) ≡ false = grind (arith, nat_tests, len, size) in
    let raised : map to_ascii_uppercase (take (run cs) cs) ≡ upper = ap (map to_ascii_uppercase) taken ∙ sym takes.raised in
    rw (short, raised, dropped) refl

-- ---- numbers

abbrev digits_run : List ℕ → ℕ
digits_run cs = prefix_len is_ascii_digit cs

no_digit : (c : ℕ) → continues_word c ≡ false → is_ascii_digit c ≡ false
no_digit c h = grind (arith, nat_tests)

number_taken : (c : ℕ) (cs : List ℕ) → is_ascii_digit c ≡ true → digits_value 10 (take (digits_run (c ∷ cs)) (c ∷ cs)) < limit → continues_word (slice_index (drop (digits_run (c ∷ cs)) (c ∷ cs)) 0) ≡ false
    → TakesNumber (c ∷ cs) (pos (digits_value 10 (take (digits_run (c ∷ cs)) (c ∷ cs)))) (drop (digits_run (c ∷ cs)) (c ∷ cs))
number_taken c cs h fits ends = record {
  digits = take (digits_run (c ∷ cs)) (c ∷ cs);
  split = split_at (c ∷ cs) (digits_run (c ∷ cs));
  some = λ none.
      let len : length (take (digits_run (c ∷ cs)) (c ∷ cs)) ≡ digits_run (c ∷ cs) = length-prefix_len is_ascii_digit (c ∷ cs) in
      let more : 0 < digits_run (c ∷ cs) = rw h (omega arith) in
      omega (arith, ap (λ xs. length xs) none);
  formed = prefix_passes is_ascii_digit (c ∷ cs);
  value = refl;
  fits = fits;
  ends = ends;
}

pub number_begins : (c : ℕ) (cs : List ℕ) (t : Token) (rest : List ℕ) → is_ascii_digit c ≡ true → number_at (c ∷ cs) ≡ Some (t, rest) → Begins (c ∷ cs) t rest
unfolding number_at
number_begins c cs t rest h e = go (nat_lt (digits_value 10 (take (digits_run (c ∷ cs)) (c ∷ cs))) limit) (continues_word (slice_index (drop (digits_run (c ∷ cs)) (c ∷ cs)) 0)) refl refl e
  where
    go : (a b : Bool) → nat_lt (digits_value 10 (take (digits_run (c ∷ cs)) (c ∷ cs))) limit ≡ a → continues_word (slice_index (drop (digits_run (c ∷ cs)) (c ∷ cs)) 0) ≡ b
        → cond {A = Found} (a && not b) (Some (Number (pos (digits_value 10 (take (digits_run (c ∷ cs)) (c ∷ cs)))), drop (digits_run (c ∷ cs)) (c ∷ cs))) None ≡ Some (t, rest) → Begins (c ∷ cs) t rest
    go true true f g k = absurd (cc)
    go false b f g k = absurd (cc)
    go true false f g k =
        let fits : digits_value 10 (take (digits_run (c ∷ cs)) (c ∷ cs)) < limit = grind (arith, nat_tests, f) in
        begins_as (c ∷ cs) (Number (pos (digits_value 10 (take (digits_run (c ∷ cs)) (c ∷ cs))))) t (drop (digits_run (c ∷ cs)) (c ∷ cs)) rest (pair_is _ _ _ _ k) (number_taken c cs h fits g)

pub number_read : (cs : List ℕ) (n : ℤ) (rest : List ℕ) → TakesNumber cs n rest → number_at cs ≡ Some (Number n, rest)
unfolding number_at
number_read cs n rest takes =
    let len : digits_run cs ≡ length takes.digits = ap (prefix_len is_ascii_digit) takes.split ∙ prefix_is is_ascii_digit takes.digits rest takes.formed (no_digit (slice_index rest 0) takes.ends) in
    let taken : take (digits_run cs) cs ≡ takes.digits = ap (take (digits_run cs)) takes.split ∙ take_at takes.digits rest (digits_run cs) (sym len) in
    let dropped : drop (digits_run cs) cs ≡ rest = ap (drop (digits_run cs)) takes.split ∙ drop_at takes.digits rest (digits_run cs) (sym len) in
    let small : nat_lt (digits_value 10 takes.digits) limit ≡ true = grind (arith, nat_tests, takes.fits) in
    rw (taken, dropped, small, takes.ends) (ap (λ m. Some (Number m, rest)) (sym takes.value))

-- the first character of a word, or of a number
pub word_first : (cs upper rest : List ℕ) → TakesWord cs upper rest → (c : ℕ) × (ds : List ℕ) × (cs ≡ c ∷ ds) × (begins_word c ≡ true)
word_first cs upper rest takes = go takes.word takes.formed takes.split
  where
    go : (word : List ℕ) → is_word word ≡ true → cs ≡ word ++ rest → (c : ℕ) × (ds : List ℕ) × (cs ≡ c ∷ ds) × (begins_word c ≡ true)
    go [] h e = absurd (cc)
    go (c ∷ word) h e = (c, word ++ rest, e, (both (begins_word c) (list_all continues_word word) h).0)

pub number_first : (cs : List ℕ) (n : ℤ) (rest : List ℕ) → TakesNumber cs n rest → (c : ℕ) × (ds : List ℕ) × (cs ≡ c ∷ ds) × (is_ascii_digit c ≡ true)
number_first cs n rest takes = go takes.digits takes.some takes.formed takes.split
  where
    go : (digits : List ℕ) → digits ≢ [] → list_all is_ascii_digit digits ≡ true → cs ≡ digits ++ rest → (c : ℕ) × (ds : List ℕ) × (cs ≡ c ∷ ds) × (is_ascii_digit c ≡ true)
    go [] some h e = absurd (some refl)
    go (c ∷ digits) some h e = (c, digits ++ rest, e, (both (is_ascii_digit c) (list_all is_ascii_digit digits) h).0)
