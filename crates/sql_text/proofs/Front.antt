-- The token at the front, as it is defined and as it is read.
use Rattle.std.proofs.Common.{◌≡◌, ◌≢◌, ℕ, ◌<◌, ◌≤◌, Bool, true, false, ◌==◌, ◌||◌, inl, inr, Option, Some, None, option_map, List, [], ◌∷◌, ◌++◌, length, drop, slice_index, ℤ, refl, sym, ap, ◌∙◌, subst, arith, if◌then◌else◌}
use Rattle.std.specs.Char.{is_ascii_digit}
use Rattle.std.proofs.lemmas.Bool.Decides.{nat_tests}
use Rattle.cal_value.specs.declared.limits.TheConstants.{NAME_LIMIT, TEXT_LIMIT}
use Rattle.sql_text.specs.declared.token.Reserved.{Reserved}
use Rattle.sql_text.specs.declared.token.Symbol.{Symbol}
use Rattle.sql_text.specs.declared.token.Symbol.TheVariants.{Comma, Dot, Open, Close, Star, Plus, Minus, Slash, Equal, NotEqual, Less, LessEqual, Greater, GreaterEqual, Semicolon}
use Rattle.sql_text.specs.declared.token.Token.{Token}
use Rattle.sql_text.specs.declared.token.Token.TheVariants.{Name, Word, Number, Text, Symbol as SymbolToken}
use Rattle.sql_text.specs.Spelling.{letters, reserved_of, symbol_text}
use Rattle.sql_text.specs.Scan.{named, word_at, number_at, unquoted, within, name_from, text_from, less, greater, single, symbol_of, symbol_from, token_of, skipped}
use Rattle.sql_text.specs.Tokens.{is_blank, begins_word, is_word, quoted, TakesWord, TakesNumber, TakesSymbol, goes_on, Begins, IsReserved}
use Rattle.sql_text.proofs.Quotes.{text_begins, name_begins, quoted_read, text_read, name_read}
use Rattle.sql_text.proofs.Runs.{pair_is, begins_as, word_begins, word_read, word_first, number_begins, number_read, number_first, known, letters_short, reserved_is}
use Rattle.sql_text.proofs.Space.{skipped_le}

-- ---- symbols

neither : (a b : Bool) → (a || b) ≡ false → (a ≡ false) × (b ≡ false)
neither true b h = absurd (cc)
neither false b h = (refl, h)

-- the characters of a symbol, and what they are read as
pub symbol_read : (cs : List ℕ) (s : Symbol) (rest : List ℕ) → TakesSymbol cs s rest → token_of cs ≡ Some (SymbolToken s, rest)
unfolding token_of symbol_of
symbol_read cs Comma rest takes = ap token_of takes.split
symbol_read cs Dot rest takes = ap token_of takes.split
symbol_read cs Open rest takes = ap token_of takes.split
symbol_read cs Close rest takes = ap token_of takes.split
symbol_read cs Star rest takes = ap token_of takes.split
symbol_read cs Plus rest takes = ap token_of takes.split
symbol_read cs Minus rest takes = ap token_of takes.split
symbol_read cs Slash rest takes = ap token_of takes.split
symbol_read cs Equal rest takes = ap token_of takes.split
symbol_read cs Semicolon rest takes = ap token_of takes.split
symbol_read cs NotEqual rest takes = ap token_of takes.split
symbol_read cs LessEqual rest takes = ap token_of takes.split
symbol_read cs GreaterEqual rest takes = ap token_of takes.split
symbol_read cs Less rest takes =
    let p = neither (slice_index rest 0 == 61) (slice_index rest 0 == 62) takes.ends in
    ap token_of takes.split ∙ rw (p.0, p.1) refl
symbol_read cs Greater rest takes = ap token_of takes.split ∙ rw takes.ends refl

-- a symbol of one character
record IsSingle (c : ℕ) (s : Symbol) : Type 0 where
  text : symbol_text s ≡ c ∷ []
  alone : (next : ℕ) → (c ≡ 45 → next ≢ 45) → goes_on s next ≡ false

pick : (b : Bool) (c k : ℕ) (first s : Symbol) (more : Option Symbol) → (c == k) ≡ b → (if b then Some first else more) ≡ Some s → IsSingle k first → (more ≡ Some s → IsSingle c s) → IsSingle c s
pick true c k first s more e is one other =
    let at : k ≡ c = grind (arith, nat_tests, e) in
    let same : first ≡ s = cc in
    let C : ℕ → Type 0 = λ x. IsSingle x s in
    let S : Symbol → Type 0 = λ x. IsSingle k x in
    subst C at (subst S same one)
pick false c k first s more e is one other = other is

not_dash : (next : ℕ) → (◌≡◌ {A = ℕ} 45 45 → next ≢ 45) → (next == 45) ≡ false
not_dash next h = let ne : next ≢ 45 = h refl in grind (arith, nat_tests)

single_is : (c : ℕ) (s : Symbol) → single c ≡ Some s → IsSingle c s
single_is c s h0 =
    pick (c == 44) c 44 Comma s _ refl h0 (record { text = refl; alone = λ _ _. refl }) (λ h1.
    pick (c == 46) c 46 Dot s _ refl h1 (record { text = refl; alone = λ _ _. refl }) (λ h2.
    pick (c == 40) c 40 Open s _ refl h2 (record { text = refl; alone = λ _ _. refl }) (λ h3.
    pick (c == 41) c 41 Close s _ refl h3 (record { text = refl; alone = λ _ _. refl }) (λ h4.
    pick (c == 42) c 42 Star s _ refl h4 (record { text = refl; alone = λ _ _. refl }) (λ h5.
    pick (c == 43) c 43 Plus s _ refl h5 (record { text = refl; alone = λ _ _. refl }) (λ h6.
    pick (c == 45) c 45 Minus s _ refl h6 (record { text = refl; alone = not_dash }) (λ h7.
    pick (c == 47) c 47 Slash s _ refl h7 (record { text = refl; alone = λ _ _. refl }) (λ h8.
    pick (c == 61) c 61 Equal s _ refl h8 (record { text = refl; alone = λ _ _. refl }) (λ h9.
    pick (c == 59) c 59 Semicolon s _ refl h9 (record { text = refl; alone = λ _ _. refl }) (λ h10. absurd (cc)))))))))))

single_begins : (c : ℕ) (cs : List ℕ) (found : Option Symbol) (t : Token) (rest : List ℕ) → (c ≡ 45 → slice_index cs 0 ≢ 45) → single c ≡ found → symbol_from cs (option_map (λ s. (s, false)) found) ≡ Some (t, rest) → Begins (c ∷ cs) t rest
single_begins c cs None t rest no_comment f e = absurd (cc)
single_begins c cs (Some s) t rest no_comment f e =
    let is = single_is c s f in
    begins_as (c ∷ cs) (SymbolToken s) t cs rest (pair_is _ _ _ _ e) (record { split = ap (λ xs. xs ++ cs) (sym is.text); ends = is.alone (slice_index cs 0) no_comment })

two : (c d : ℕ) (cs : List ℕ) → slice_index cs 0 ≡ d → d ≢ 0 → c ∷ cs ≡ c ∷ d ∷ drop 1 cs
two c d [] e some = absurd (some (sym e))
two c d (x ∷ cs) e some = ap (λ y. c ∷ y ∷ cs) e

less_begins : (cs : List ℕ) (t : Token) (rest : List ℕ) (a b : Bool) → (slice_index cs 0 == 62) ≡ a → (slice_index cs 0 == 61) ≡ b
    → symbol_from cs (Some (if a then (NotEqual, true) else (if b then (LessEqual, true) else (Less, false)))) ≡ Some (t, rest) → Begins (60 ∷ cs) t rest
less_begins cs t rest true b f g e =
    let next : slice_index cs 0 ≡ 62 = grind (arith, nat_tests, f) in
    begins_as (60 ∷ cs) (SymbolToken NotEqual) t (drop 1 cs) rest (pair_is _ _ _ _ e) (record { split = two 60 62 cs next (λ z. absurd (cc)); ends = refl })
less_begins cs t rest false true f g e =
    let next : slice_index cs 0 ≡ 61 = grind (arith, nat_tests, g) in
    begins_as (60 ∷ cs) (SymbolToken LessEqual) t (drop 1 cs) rest (pair_is _ _ _ _ e) (record { split = two 60 61 cs next (λ z. absurd (cc)); ends = refl })
less_begins cs t rest false false f g e = begins_as (60 ∷ cs) (SymbolToken Less) t cs rest (pair_is _ _ _ _ e) (record { split = refl; ends = rw (f, g) refl })

greater_begins : (cs : List ℕ) (t : Token) (rest : List ℕ) (b : Bool) → (slice_index cs 0 == 61) ≡ b
    → symbol_from cs (Some (if b then (GreaterEqual, true) else (Greater, false))) ≡ Some (t, rest) → Begins (62 ∷ cs) t rest
greater_begins cs t rest true g e =
    let next : slice_index cs 0 ≡ 61 = grind (arith, nat_tests, g) in
    begins_as (62 ∷ cs) (SymbolToken GreaterEqual) t (drop 1 cs) rest (pair_is _ _ _ _ e) (record { split = two 62 61 cs next (λ z. absurd (cc)); ends = refl })
greater_begins cs t rest false g e = begins_as (62 ∷ cs) (SymbolToken Greater) t cs rest (pair_is _ _ _ _ e) (record { split = refl; ends = g })

first_is : (c k : ℕ) (cs : List ℕ) (t : Token) (rest : List ℕ) → (c == k) ≡ true → Begins (k ∷ cs) t rest → Begins (c ∷ cs) t rest
first_is c k cs t rest e h =
    let at : k ≡ c = grind (arith, nat_tests, e) in
    let B : ℕ → Type 0 = λ x. Begins (x ∷ cs) t rest in
    subst B at h

symbol_begins : (c : ℕ) (cs : List ℕ) (t : Token) (rest : List ℕ) → (c ≡ 45 → slice_index cs 0 ≢ 45) → symbol_from cs (symbol_of c (slice_index cs 0)) ≡ Some (t, rest) → Begins (c ∷ cs) t rest
unfolding symbol_of
symbol_begins c cs t rest no_comment e = go (c == 60) (c == 62) refl refl e
  where
    go : (a b : Bool) → (c == 60) ≡ a → (c == 62) ≡ b
        → symbol_from cs (if a then Some (less (slice_index cs 0)) else (if b then Some (greater (slice_index cs 0)) else option_map (λ s. (s, false)) (single c))) ≡ Some (t, rest) → Begins (c ∷ cs) t rest
    go true b f g k = first_is c 60 cs t rest f (less_begins cs t rest (slice_index cs 0 == 62) (slice_index cs 0 == 61) refl refl k)
    go false true f g k = first_is c 62 cs t rest g (greater_begins cs t rest (slice_index cs 0 == 61) refl k)
    go false false f g k = single_begins c cs (single c) t rest no_comment refl k

-- ---- tokens

no_comment : (c : ℕ) (cs : List ℕ) → skipped false (c ∷ cs) ≡ c ∷ cs → c ≡ 45 → slice_index cs 0 ≢ 45
no_comment c cs stands dash next =
    let first : (c == 45) ≡ true = grind (arith, nat_tests, dash) in
    let second : (slice_index cs 0 == 45) ≡ true = grind (arith, nat_tests, next) in
    let over : skipped false (c ∷ cs) ≡ skipped true cs = rw (first, second) refl in
    omega (arith, skipped_le true cs, ap (λ xs. length xs) (sym over ∙ stands))

-- what is read where no white space comes first begins there
pub token_begins : (cs : List ℕ) (t : Token) (rest : List ℕ) → skipped false cs ≡ cs → token_of cs ≡ Some (t, rest) → Begins cs t rest
unfolding token_of
token_begins [] t rest stands e = absurd (cc)
token_begins (c ∷ cs) t rest stands e = go (begins_word c) (is_ascii_digit c) (c == 34) (c == 39) refl refl refl refl e
  where
    go : (w d n x : Bool) → begins_word c ≡ w → is_ascii_digit c ≡ d → (c == 34) ≡ n → (c == 39) ≡ x
        → (if w then word_at (c ∷ cs) else (if d then number_at (c ∷ cs) else (if n then name_from (within NAME_LIMIT (unquoted 34 false cs))
        else (if x then text_from (within TEXT_LIMIT (unquoted 39 false cs)) else symbol_from cs (symbol_of c (slice_index cs 0)))))) ≡ Some (t, rest) → Begins (c ∷ cs) t rest
    go true d n x hw hd hn hx k = word_begins c cs t rest hw k
    go false true n x hw hd hn hx k = number_begins c cs t rest hd k
    go false false true x hw hd hn hx k = first_is c 34 cs t rest hn (name_begins cs t rest k)
    go false false false true hw hd hn hx k = first_is c 39 cs t rest hx (text_begins cs t rest k)
    go false false false false hw hd hn hx k = symbol_begins c cs t rest (no_comment c cs stands) k

word_token : (cs upper rest : List ℕ) → TakesWord cs upper rest → length upper ≤ NAME_LIMIT → token_of cs ≡ Some (named upper (reserved_of upper), rest)
unfolding token_of
word_token cs upper rest takes few =
    let p = word_first cs upper rest takes in
    let at : token_of cs ≡ word_at (p.0 ∷ p.1) = ap token_of p.2 ∙ rw p.3 refl in
    at ∙ ap word_at (sym p.2) ∙ word_read cs upper rest takes few

short_word : (w : Reserved) → length (letters w) ≤ NAME_LIMIT
short_word w = let e = letters_short w in grind (arith, nat_tests)

free_word : (name : List ℕ) → (IsReserved name → ⊥) → (r : Option Reserved) → reserved_of name ≡ r → reserved_of name ≡ None
free_word name free None e = e
free_word name free (Some w) e = absurd (free (w, reserved_is name w e))

digit_no_word : (c : ℕ) → is_ascii_digit c ≡ true → begins_word c ≡ false
digit_no_word c h = grind (arith, nat_tests)

-- a token that begins there is read
pub token_read : (cs : List ℕ) (t : Token) (rest : List ℕ) → Begins cs t rest → token_of cs ≡ Some (t, rest)
unfolding token_of
token_read cs (Word w) rest takes = word_token cs (letters w) rest takes (short_word w) ∙ ap (λ r. Some (named (letters w) r, rest)) (known w)
token_read cs (Name name) rest (some, few, inl (takes, free)) = word_token cs name rest takes few ∙ ap (λ r. Some (named name r, rest)) (free_word name free (reserved_of name) refl)
token_read cs (Name name) rest (some, few, inr takes) =
    let p = quoted_read 34 cs name rest takes in
    ap token_of p.1 ∙ name_read p.0 name rest p.2 some few
token_read cs (Number n) rest takes =
    let p = number_first cs n rest takes in
    let not_word : begins_word p.0 ≡ false = digit_no_word p.0 p.3 in
    ap token_of p.2 ∙ rw (not_word, p.3) (ap number_at (sym p.2)) ∙ number_read cs n rest takes
token_read cs (Text text) rest takes =
    let p = quoted_read 39 cs text rest takes.1 in
    ap token_of p.1 ∙ text_read p.0 text rest p.2 takes.0
token_read cs (SymbolToken s) rest takes = symbol_read cs s rest takes

-- ---- a token is no white space, and has at least one character

plain : (c : ℕ) (cs : List ℕ) → (c == 45) ≡ false → is_blank c ≡ false → skipped false (c ∷ cs) ≡ c ∷ cs
plain c cs h k = rw (h, k) refl

stands_at : (cs : List ℕ) (c : ℕ) (ds : List ℕ) → cs ≡ c ∷ ds → skipped false (c ∷ ds) ≡ c ∷ ds → skipped false cs ≡ cs
stands_at cs c ds e h = ap (skipped false) e ∙ h ∙ sym e

letter_plain : (c : ℕ) → begins_word c ≡ true → (c == 45) ≡ false
letter_plain c h = grind (arith, nat_tests)

letter_no_blank : (c : ℕ) → begins_word c ≡ true → is_blank c ≡ false
letter_no_blank c h = grind (arith, nat_tests)

digit_plain : (c : ℕ) → is_ascii_digit c ≡ true → (c == 45) ≡ false
digit_plain c h = grind (arith, nat_tests)

digit_no_blank : (c : ℕ) → is_ascii_digit c ≡ true → is_blank c ≡ false
digit_no_blank c h = grind (arith, nat_tests)

symbol_stands : (cs : List ℕ) (s : Symbol) (rest : List ℕ) → TakesSymbol cs s rest → skipped false cs ≡ cs
symbol_stands cs Minus rest takes = stands_at cs 45 rest takes.split (rw takes.ends refl)
symbol_stands cs Comma rest takes = stands_at cs 44 rest takes.split refl
symbol_stands cs Dot rest takes = stands_at cs 46 rest takes.split refl
symbol_stands cs Open rest takes = stands_at cs 40 rest takes.split refl
symbol_stands cs Close rest takes = stands_at cs 41 rest takes.split refl
symbol_stands cs Star rest takes = stands_at cs 42 rest takes.split refl
symbol_stands cs Plus rest takes = stands_at cs 43 rest takes.split refl
symbol_stands cs Slash rest takes = stands_at cs 47 rest takes.split refl
symbol_stands cs Equal rest takes = stands_at cs 61 rest takes.split refl
symbol_stands cs NotEqual rest takes = stands_at cs 60 (62 ∷ rest) takes.split refl
symbol_stands cs Less rest takes = stands_at cs 60 rest takes.split refl
symbol_stands cs LessEqual rest takes = stands_at cs 60 (61 ∷ rest) takes.split refl
symbol_stands cs Greater rest takes = stands_at cs 62 rest takes.split refl
symbol_stands cs GreaterEqual rest takes = stands_at cs 62 (61 ∷ rest) takes.split refl
symbol_stands cs Semicolon rest takes = stands_at cs 59 rest takes.split refl

symbol_some : (s : Symbol) → 0 < length (symbol_text s)
symbol_some Comma = omega arith
symbol_some _ = omega arith

word_front : (cs upper rest : List ℕ) → TakesWord cs upper rest → (front : List ℕ) × (cs ≡ front ++ rest) × (0 < length front)
word_front cs upper rest takes = (takes.word, takes.split, some takes.word takes.formed)
  where
    some : (word : List ℕ) → is_word word ≡ true → 0 < length word
    some [] h = absurd (cc)
    some (c ∷ word) h = omega arith

number_front : (cs : List ℕ) (n : ℤ) (rest : List ℕ) → TakesNumber cs n rest → (front : List ℕ) × (cs ≡ front ++ rest) × (0 < length front)
number_front cs n rest takes = (takes.digits, takes.split, some takes.digits takes.some)
  where
    some : (digits : List ℕ) → digits ≢ [] → 0 < length digits
    some [] h = absurd (h refl)
    some (c ∷ digits) h = omega arith

word_stands : (cs upper rest : List ℕ) → TakesWord cs upper rest → skipped false cs ≡ cs
word_stands cs upper rest takes =
    let p = word_first cs upper rest takes in
    let dash : (p.0 == 45) ≡ false = letter_plain p.0 p.3 in
    let blank : is_blank p.0 ≡ false = letter_no_blank p.0 p.3 in
    stands_at cs p.0 p.1 p.2 (plain p.0 p.1 dash blank)

pub token_stands : (cs : List ℕ) (t : Token) (rest : List ℕ) → Begins cs t rest → skipped false cs ≡ cs
token_stands cs (Word w) rest takes = word_stands cs (letters w) rest takes
token_stands cs (Name name) rest (some, few, inl (takes, free)) = word_stands cs name rest takes
token_stands cs (Name name) rest (some, few, inr takes) = let p = quoted_read 34 cs name rest takes in stands_at cs 34 p.0 p.1 refl
token_stands cs (Number n) rest takes =
    let p = number_first cs n rest takes in
    stands_at cs p.0 p.1 p.2 (plain p.0 p.1 (digit_plain p.0 p.3) (digit_no_blank p.0 p.3))
token_stands cs (Text text) rest takes = let p = quoted_read 39 cs text rest takes.1 in stands_at cs 39 p.0 p.1 refl
token_stands cs (SymbolToken s) rest takes = symbol_stands cs s rest takes

pub token_front : (cs : List ℕ) (t : Token) (rest : List ℕ) → Begins cs t rest → (front : List ℕ) × (cs ≡ front ++ rest) × (0 < length front)
token_front cs (Word w) rest takes = word_front cs (letters w) rest takes
token_front cs (Name name) rest (some, few, inl (takes, free)) = word_front cs name rest takes
token_front cs (Name name) rest (some, few, inr takes) = (quoted 34 name, takes.split, omega arith)
token_front cs (Number n) rest takes = number_front cs n rest takes
token_front cs (Text text) rest takes = (quoted 39 text, takes.1.split, omega arith)
token_front cs (SymbolToken s) rest takes = (symbol_text s, takes.split, symbol_some s)
