-- What the two limits count.
use Rattle.std.specs.Prelude.{ℕ, ◌+◌, ◌-◌, max, Bool, true, false, List, [], ◌∷◌, count_by}
use Rattle.sql_text.specs.declared.token.Token.{Token}
use Rattle.sql_text.specs.declared.token.Token.TheVariants.{Name, Word, Number, Text, Symbol}
use Rattle.sql_text.specs.declared.token.Reserved.{Reserved}
use Rattle.sql_text.specs.declared.token.Reserved.TheVariants as w
use Rattle.sql_text.specs.declared.token.Symbol.{Symbol as Sign}
use Rattle.sql_text.specs.declared.token.Symbol.TheVariants as s

abbrev pub opened_by : ℕ → Sign → ℕ
opened_by k s.Open = k + 1
opened_by k s.Close = k - 1
opened_by k _ = k

-- how many brackets are open behind a token, of the number before it. What closes nothing counts for nothing.
abbrev pub opened : ℕ → Token → ℕ
opened k (Name n) = k
opened k (Word v) = k
opened k (Number n) = k
opened k (Text t) = k
opened k (Symbol s) = opened_by k s

-- the most brackets that are open at some token, where so many were open before
unfoldable pub most_open : ℕ → List Token → ℕ
most_open k [] = k
most_open k (t ∷ ts) = max k (most_open (opened k t) ts)

abbrev pub is_operator_word : Reserved → Bool
is_operator_word w.And = true
is_operator_word w.Or = true
is_operator_word w.Not = true
is_operator_word w.Is = true
is_operator_word _ = false

abbrev pub is_operator_symbol : Sign → Bool
is_operator_symbol s.Star = true
is_operator_symbol s.Plus = true
is_operator_symbol s.Minus = true
is_operator_symbol s.Slash = true
is_operator_symbol s.Equal = true
is_operator_symbol s.NotEqual = true
is_operator_symbol s.Less = true
is_operator_symbol s.LessEqual = true
is_operator_symbol s.Greater = true
is_operator_symbol s.GreaterEqual = true
is_operator_symbol _ = false

abbrev pub is_operator : Token → Bool
is_operator (Name n) = false
is_operator (Word v) = is_operator_word v
is_operator (Number n) = false
is_operator (Text t) = false
is_operator (Symbol s) = is_operator_symbol s

abbrev pub operators : List Token → ℕ
operators ts = count_by is_operator ts

-- whether the first token is INSERT
abbrev pub is_insert : List Token → Bool
is_insert (Word w.Insert ∷ ts) = true
is_insert _ = false
