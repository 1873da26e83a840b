-- How tokens are written.
use Rattle.std.specs.Prelude.{◌&&◌, ℕ, Bool, true, false, not, if◌then◌else◌, is_none, List, [], ◌∷◌, ◌++◌}
use Rattle.std.specs.Char.{is_ascii_lowercase}
use Rattle.std.specs.Fmt.{signed_decimal}
use Rattle.std.specs.List.{list_all, fold}
use Rattle.sql_text.specs.declared.token.Reserved.{Reserved}
use Rattle.sql_text.specs.declared.token.Reserved.TheVariants.{Count, Sum, Min, Max}
use Rattle.sql_text.specs.declared.token.Symbol.{Symbol}
use Rattle.sql_text.specs.declared.token.Symbol.TheVariants.{Comma, Dot, Open, Close}
use Rattle.sql_text.specs.declared.token.Token.{Token}
use Rattle.sql_text.specs.declared.token.Token.TheVariants.{Name, Word, Number, Text, Symbol as SymbolToken}
use Rattle.sql_printer.specs.declared.writer.Edge.{Edge}
use Rattle.sql_printer.specs.declared.writer.Edge.TheVariants.{Tight, Named, Called, Loose}
use Rattle.sql_text.specs.Spelling.{letters, reserved_of, symbol_text}
use Rattle.sql_text.specs.Tokens.{is_word, quoted}

-- a name that stands without quotes: an unreserved word without lower-case letters
abbrev pub is_plain : List ℕ → Bool
is_plain name = is_word name && (list_all (λ c. not (is_ascii_lowercase c)) name && is_none (reserved_of name))

-- the characters of a token
abbrev pub spelling : Token → List ℕ
spelling (Name name) = if is_plain name then name else quoted 34 name
spelling (Word w) = letters w
spelling (Number n) = signed_decimal n
spelling (Text text) = quoted 39 text
spelling (SymbolToken s) = symbol_text s

-- ---- blanks

abbrev pub is_aggregate : Reserved → Bool
is_aggregate Count = true
is_aggregate Sum = true
is_aggregate Min = true
is_aggregate Max = true
is_aggregate w = false

abbrev pub symbol_edge : Symbol → Edge
symbol_edge Open = Tight
symbol_edge Dot = Tight
symbol_edge s = Loose

-- what a token leaves behind it
abbrev pub edge : Token → Edge
edge (Name name) = Named
edge (Word w) = if is_aggregate w then Called else Loose
edge (Number n) = Loose
edge (Text text) = Loose
edge (SymbolToken s) = symbol_edge s

abbrev pub symbol_touches : Edge → Symbol → Bool
symbol_touches Tight s = true
symbol_touches e Comma = true
symbol_touches e Close = true
symbol_touches Named Dot = true
symbol_touches Called Open = true
symbol_touches e s = false

abbrev pub is_tight : Edge → Bool
is_tight Tight = true
is_tight e = false

-- no blank comes before the token: before `,` and `)`, behind `(` and `.`, between a name and `.`, and between the word of an aggregate and `(`
abbrev pub touches : Edge → Token → Bool
touches e (Name name) = is_tight e
touches e (Word w) = is_tight e
touches e (Number n) = is_tight e
touches e (Text text) = is_tight e
touches e (SymbolToken s) = symbol_touches e s

abbrev pub gap : Bool → List ℕ
gap true = []
gap false = 32 ∷ []

-- the tokens behind what was written so far
abbrev pub text_behind : Edge → List Token → List ℕ
text_behind e [] = []
text_behind e (t ∷ ts) = gap (touches e t) ++ (spelling t ++ text_behind (edge t) ts)

-- the tokens, with single blanks
abbrev pub text_of : List Token → List ℕ
text_of ts = text_behind Tight ts

-- ---- the same, token after token

abbrev pub Written : Type 0
Written = List ℕ × Edge

abbrev pub write : Written → Token → Written
write w t = (w.0 ++ (gap (touches w.1 t) ++ spelling t), edge t)

abbrev pub write_all : Written → List Token → Written
write_all w ts = fold write w ts
