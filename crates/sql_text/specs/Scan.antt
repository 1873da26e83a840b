-- The token at the front of a text, computed: what the reader's own functions answer.
use Rattle.std.specs.Prelude.{◌&&◌, ◌==◌, if◌then◌else◌, ℕ, pos, Bool, true, false, not, nat_lt, Option, Some, None, option_map, List, [], ◌∷◌, ◌++◌, length, map, take, drop, slice_index}
use Rattle.std.specs.Borrow.{Bor}
use Rattle.std.specs.Char.{is_ascii_digit, to_ascii_uppercase}
use Rattle.std.specs.List.{prefix_len}
use Rattle.std.specs.Str.Parse.{digits_value}
use Rattle.cal_value.specs.declared.limits.TheConstants.{NAME_LIMIT, TEXT_LIMIT}
use Rattle.cal_value.specs.Interval.{limit}
use Rattle.sql_text.specs.declared.token.Reserved.{Reserved}
use Rattle.sql_text.specs.declared.token.Symbol.{Symbol}
use Rattle.sql_text.specs.declared.token.Symbol.TheVariants.{Comma, Dot, Open, Close, Star, Plus, Minus, Slash, Equal, NotEqual, Less, LessEqual, Greater, GreaterEqual, Semicolon}
use Rattle.sql_text.specs.declared.token.Token.{Token}
use Rattle.sql_text.specs.declared.token.Token.TheVariants.{Name, Word, Number, Text, Symbol as SymbolToken}
use Rattle.sql_text.specs.Spelling.{reserved_of}
use Rattle.sql_text.specs.Tokens.{is_blank, begins_word, continues_word}

-- a token, and what follows it
abbrev pub Found : Type 0
Found = Option (Token × List ℕ)

-- what the code found, without where it lies in memory
abbrev pub seen : {A : Type 0} → Option (A × Bor (List ℕ)) → Option (A × List ℕ)
seen found = option_map (λ f. (f.0, f.1.now)) found

-- what is left behind white space; the test says whether a comment goes on
abbrev pub skipped : Bool → List ℕ → List ℕ
skipped in_comment [] = []
skipped true (c ∷ cs) = skipped (not (c == 10)) cs
skipped false (c ∷ cs) = if c == 45 && slice_index cs 0 == 45 then skipped true cs else (if is_blank c then skipped false cs else c ∷ cs)

abbrev pub named : List ℕ → Option Reserved → Token
named upper None = Name upper
named upper (Some w) = Word w

unfoldable pub word_at : List ℕ → Found
word_at cs =
    let len = prefix_len continues_word cs in
    let upper = map to_ascii_uppercase (take len cs) in
    if nat_lt NAME_LIMIT len then None else Some (named upper (reserved_of upper), drop len cs)

unfoldable pub number_at : List ℕ → Found
number_at cs =
    let len = prefix_len is_ascii_digit cs in
    let value = digits_value 10 (take len cs) in
    if nat_lt value limit && not (continues_word (slice_index (drop len cs) 0)) then Some (Number (pos value), drop len cs) else None

-- inside a quote: what stands before its end, and what follows; the test says whether a quote was the first of two
abbrev pub Inside : Type 0
Inside = Option (List ℕ × List ℕ)

abbrev pub with_front : List ℕ → Inside → Inside
with_front front inside = option_map (λ p. (front ++ p.0, p.1)) inside

abbrev pub unquoted : ℕ → Bool → List ℕ → Inside
unquoted quote is_second [] = None
unquoted quote true (c ∷ cs) = with_front (c ∷ []) (unquoted quote false cs)
unquoted quote false (c ∷ cs) =
    if c == quote then (if slice_index cs 0 == quote then unquoted quote true cs else Some ([], cs)) else with_front (c ∷ []) (unquoted quote false cs)

-- where there are so many characters at most
abbrev pub within : ℕ → Inside → Inside
within most None = None
within most (Some p) = if nat_lt most (length p.0) then None else Some p

abbrev pub name_from : Inside → Found
name_from None = None
name_from (Some p) = if nat_lt 0 (length p.0) then Some (Name p.0, p.1) else None

abbrev pub text_from : Inside → Found
text_from inside = option_map (λ p. (Text p.0, p.1)) inside

-- the symbol of the first of two characters, or of both
abbrev pub less : ℕ → Symbol × Bool
less next = if next == 62 then (NotEqual, true) else (if next == 61 then (LessEqual, true) else (Less, false))

abbrev pub greater : ℕ → Symbol × Bool
greater next = if next == 61 then (GreaterEqual, true) else (Greater, false)

abbrev pub single : ℕ → Option Symbol
single c =
    if c == 44 then Some Comma else (if c == 46 then Some Dot else (if c == 40 then Some Open else (if c == 41 then Some Close
    else (if c == 42 then Some Star else (if c == 43 then Some Plus else (if c == 45 then Some Minus else (if c == 47 then Some Slash
    else (if c == 61 then Some Equal else (if c == 59 then Some Semicolon else None)))))))))

unfoldable pub symbol_of : ℕ → ℕ → Option (Symbol × Bool)
symbol_of c next =
    if c == 60 then Some (less next) else (if c == 62 then Some (greater next) else option_map (λ s. (s, false)) (single c))

abbrev pub symbol_from : List ℕ → Option (Symbol × Bool) → Found
symbol_from more found = option_map (λ s. (SymbolToken s.0, if s.1 then drop 1 more else more)) found

-- the token at the front, where no white space comes first
unfoldable pub token_of : List ℕ → Found
token_of [] = None
token_of (c ∷ cs) =
    if begins_word c then word_at (c ∷ cs)
    else (if is_ascii_digit c then number_at (c ∷ cs)
    else (if c == 34 then name_from (within NAME_LIMIT (unquoted 34 false cs))
    else (if c == 39 then text_from (within TEXT_LIMIT (unquoted 39 false cs))
    else symbol_from cs (symbol_of c (slice_index cs 0)))))
