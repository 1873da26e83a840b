-- The text of tokens has these tokens.
use Rattle.std.proofs.Common.{◌≡◌, ◌≢◌, ℕ, ◌<◌, ◌≤◌, pos, negsuc, Bool, true, false, not, ◌==◌, ◌||◌, inl, inr, Some, is_none, List, [], ◌∷◌, ◌++◌, length, map, slice_index, refl, sym, ap, ◌∙◌, arith, if◌then◌else◌}
use Rattle.std.specs.Char.{is_ascii_digit, is_ascii_lowercase, to_ascii_uppercase, digit_value}
use Rattle.std.specs.Fmt.{decimal}
use Rattle.std.specs.List.{list_all, AllByRecursion}
use Rattle.std.specs.Str.Parse.{AllDigits}
use Rattle.std.proofs.lemmas.Bool.Decides.{nat_tests}
use Rattle.std.proofs.lemmas.Int.{ints}
use Rattle.std.proofs.lemmas.Fmt.{decimal_is_IsNumeral_wide}
use Rattle.cal_value.specs.declared.limits.TheConstants.{NAME_LIMIT, TEXT_LIMIT}
use Rattle.cal_value.specs.Interval.{limit}
use Rattle.sql_text.specs.declared.token.Reserved.{Reserved}
use Rattle.sql_text.specs.declared.token.Reserved.TheVariants.{Select}
use Rattle.sql_text.specs.declared.token.Symbol.{Symbol}
use Rattle.sql_text.specs.declared.token.Symbol.TheVariants.{Comma, Minus, Less, Greater}
use Rattle.sql_text.specs.declared.token.Token.{Token}
use Rattle.sql_text.specs.declared.token.Token.TheVariants.{Name, Word, Number, Text, Symbol as SymbolToken}
use Rattle.sql_printer.specs.declared.writer.Edge.{Edge}
use Rattle.sql_printer.specs.declared.writer.Edge.TheVariants.{Tight, Named, Called, Loose}
use Rattle.sql_text.specs.Spelling.{letters, reserved_of, symbol_text}
use Rattle.sql_text.specs.Tokens.{continues_word, is_word, IsReserved, quoted, goes_on, Begins, IsToken, Skips, none, blank, Reads, token, nothing, HasTokens}
use Rattle.sql_printer.specs.Writing.{is_plain, spelling, edge, symbol_touches, is_tight, touches, gap, text_behind, text_of}
use Rattle.sql_text.proofs.Runs.{known}
use Rattle.sql_text.proofs.Space.{both, not_true}

-- ---- what follows a token

-- NUL for the end, a blank, and the symbols that stand close to what is before them
is_stop : ℕ → Bool
is_stop c = c == 0 || (c == 32 || (c == 44 || (c == 41 || (c == 46 || c == 40))))

named_stop : (s : Symbol) (rest : List ℕ) → is_stop (slice_index (gap (symbol_touches Named s) ++ (symbol_text s ++ rest)) 0) ≡ true
unfolding is_stop
named_stop Comma rest = refl
named_stop _ rest = refl

called_stop : (s : Symbol) (rest : List ℕ) → is_stop (slice_index (gap (symbol_touches Called s) ++ (symbol_text s ++ rest)) 0) ≡ true
unfolding is_stop
called_stop Comma rest = refl
called_stop _ rest = refl

loose_stop : (s : Symbol) (rest : List ℕ) → is_stop (slice_index (gap (symbol_touches Loose s) ++ (symbol_text s ++ rest)) 0) ≡ true
unfolding is_stop
loose_stop Comma rest = refl
loose_stop _ rest = refl

symbol_stop : (e : Edge) (s : Symbol) (rest : List ℕ) → is_tight e ≡ false → is_stop (slice_index (gap (symbol_touches e s) ++ (symbol_text s ++ rest)) 0) ≡ true
symbol_stop Tight s rest h = absurd (cc)
symbol_stop Named s rest h = named_stop s rest
symbol_stop Called s rest h = called_stop s rest
symbol_stop Loose s rest h = loose_stop s rest

gap_stop : (e : Edge) (xs : List ℕ) → is_tight e ≡ false → is_stop (slice_index (gap (is_tight e) ++ xs) 0) ≡ true
unfolding is_stop
gap_stop e xs h = rw h refl

behind_stop : (e : Edge) (ts : List Token) → is_tight e ≡ false → is_stop (slice_index (text_behind e ts) 0) ≡ true
unfolding is_stop
behind_stop e [] h = refl
behind_stop e (Name name ∷ ts) h = gap_stop e _ h
behind_stop e (Word w ∷ ts) h = gap_stop e _ h
behind_stop e (Number n ∷ ts) h = gap_stop e _ h
behind_stop e (Text text ∷ ts) h = gap_stop e _ h
behind_stop e (SymbolToken s ∷ ts) h = symbol_stop e s _ h

stop_ends_word : (c : ℕ) → is_stop c ≡ true → continues_word c ≡ false
unfolding is_stop
stop_ends_word c h = grind (arith, nat_tests)

stop_no_name_quote : (c : ℕ) → is_stop c ≡ true → c ≢ 34
unfolding is_stop
stop_no_name_quote c h e = grind (arith, nat_tests)

stop_no_text_quote : (c : ℕ) → is_stop c ≡ true → c ≢ 39
unfolding is_stop
stop_no_text_quote c h e = grind (arith, nat_tests)

stop_no_symbol : (c : ℕ) → is_stop c ≡ true → ((c == 61) ≡ false) × ((c == 62) ≡ false) × ((c == 45) ≡ false)
unfolding is_stop
stop_no_symbol c h = (grind (arith, nat_tests), grind (arith, nat_tests), grind (arith, nat_tests))

-- ---- each token, in front of what may follow it

letters_word : (w : Reserved) → is_word (letters w) ≡ true
letters_word Select = refl
letters_word _ = refl

letters_raised : (w : Reserved) → letters w ≡ map to_ascii_uppercase (letters w)
letters_raised Select = refl
letters_raised _ = refl

word_begins : (w : Reserved) (rest : List ℕ) → continues_word (slice_index rest 0) ≡ false → Begins (letters w ++ rest) (Word w) rest
word_begins w rest ends = record { word = letters w; split = refl; formed = letters_word w; raised = letters_raised w; ends = ends }

upper_same : (x : ℕ) → not (is_ascii_lowercase x) ≡ true → x ≡ to_ascii_uppercase x
upper_same x k = let not_lower : is_ascii_lowercase x ≡ false = not_true (is_ascii_lowercase x) k in grind (arith, nat_tests)

raised_same : (name : List ℕ) → list_all (λ c. not (is_ascii_lowercase c)) name ≡ true → name ≡ map to_ascii_uppercase name
raised_same [] h = refl
raised_same (c ∷ name) h =
    let p = both (not (is_ascii_lowercase c)) (list_all (λ x. not (is_ascii_lowercase x)) name) h in
    let same : c ≡ to_ascii_uppercase c = upper_same c p.0 in
    ap (λ x. x ∷ name) same ∙ ap (λ xs. to_ascii_uppercase c ∷ xs) (raised_same name p.1)

free : (name : List ℕ) → is_none (reserved_of name) ≡ true → IsReserved name → ⊥
free name h r = let e : reserved_of name ≡ Some r.0 = ap reserved_of (sym r.1) ∙ known r.0 in let clash : is_none (reserved_of name) ≡ false = ap (λ o. is_none o) e in absurd (cc)

name_begins : (name rest : List ℕ) → 0 < length name → length name ≤ NAME_LIMIT → continues_word (slice_index rest 0) ≡ false → slice_index rest 0 ≢ 34 → Begins (spelling (Name name) ++ rest) (Name name) rest
name_begins name rest some few ends quote_ends = go (is_plain name) refl
  where
    go : (b : Bool) → is_plain name ≡ b → Begins ((if b then name else quoted 34 name) ++ rest) (Name name) rest
    go true h =
        let p = both (is_word name) _ h in
        let q = both (list_all (λ c. not (is_ascii_lowercase c)) name) (is_none (reserved_of name)) p.1 in
        (some, few, inl (record { word = name; split = refl; formed = p.0; raised = raised_same name q.0; ends = ends }, free name q.1))
    go false h = (some, few, inr (record { split = refl; ends = quote_ends }))

low_digit : (c : ℕ) → digit_value c < 10 → is_ascii_digit c ≡ true
low_digit c h = grind (arith, nat_tests)

digits_pass : (ds : List ℕ) → AllDigits 10 ds → list_all is_ascii_digit ds ≡ true
digits_pass [] h = refl
digits_pass (c ∷ ds) h = rw (low_digit c h.0) (digits_pass ds h.1)

number_begins : (n : ℕ) (rest : List ℕ) → n < limit → continues_word (slice_index rest 0) ≡ false → Begins (decimal n ++ rest) (Number (pos n)) rest
number_begins n rest small ends =
    let wide : n < 10000000000000000000000000000000000000000000000000000000000000000 = omega arith in
    let p = decimal_is_IsNumeral_wide n wide in
    record {
      digits = decimal n;
      split = refl;
      some = λ e. omega (arith, p.0.0, ap (λ xs. length xs) e);
      formed = digits_pass (decimal n) p.0.1;
      value = ap pos (sym p.1);
      fits = rw p.1 small;
      ends = ends;
    }

quoted_begins : (text rest : List ℕ) → length text ≤ TEXT_LIMIT → slice_index rest 0 ≢ 39 → Begins (quoted 39 text ++ rest) (Text text) rest
quoted_begins text rest few ends = (few, record { split = refl; ends = ends })

-- at `(` and `.` nothing goes on, and elsewhere what follows is no part of a symbol
symbol_ends : (s : Symbol) (c : ℕ) → (is_tight (edge (SymbolToken s)) ≡ false → is_stop c ≡ true) → goes_on s c ≡ false
symbol_ends Less c h = let p = stop_no_symbol c (h refl) in rw (p.0, p.1) refl
symbol_ends Greater c h = (stop_no_symbol c (h refl)).0
symbol_ends Minus c h = (stop_no_symbol c (h refl)).2
symbol_ends Comma c h = refl
symbol_ends _ c h = refl

word_edge : (w : Reserved) → is_tight (edge (Word w)) ≡ false
word_edge Select = refl
word_edge _ = refl

token_begins : (t : Token) (rest : List ℕ) → IsToken t → (is_tight (edge t) ≡ false → is_stop (slice_index rest 0) ≡ true) → Begins (spelling t ++ rest) t rest
token_begins (Name name) rest is stop = let s = stop refl in name_begins name rest is.0 is.1 (stop_ends_word _ s) (stop_no_name_quote _ s)
token_begins (Word w) rest is stop = word_begins w rest (stop_ends_word _ (stop (word_edge w)))
token_begins (Number (pos n)) rest is stop = number_begins n rest (omega (arith, ints, is.1)) (stop_ends_word _ (stop refl))
token_begins (Number (negsuc n)) rest is stop = absurd (omega (arith, ints, is.0))
token_begins (Text text) rest is stop = quoted_begins text rest is (stop_no_text_quote _ (stop refl))
token_begins (SymbolToken s) rest is stop = record { split = refl; ends = symbol_ends s _ stop }

-- ---- the whole

over_gap : (b : Bool) (xs : List ℕ) → Skips (gap b ++ xs) xs
over_gap true xs = none
over_gap false xs = blank refl none

reads_text : (e : Edge) (ts : List Token) → AllByRecursion IsToken ts → Reads (text_behind e ts) ts []
reads_text e [] is = none
reads_text e (t ∷ ts) is =
    token (spelling t ++ text_behind (edge t) ts) (text_behind (edge t) ts) (over_gap (touches e t) (spelling t ++ text_behind (edge t) ts))
    (token_begins t (text_behind (edge t) ts) is.0 (λ h. behind_stop (edge t) ts h)) (reads_text (edge t) ts is.1)

pub text_has_tokens : (ts : List Token) → AllByRecursion IsToken ts → HasTokens (text_of ts) ts
text_has_tokens ts is = record { rest = []; last = []; reads = reads_text Tight ts is; skips = none; ends = nothing }
