-- Where a reader stands, and the steps that every rule is made of.
use Rattle.std.specs.Prelude.{◌≡◌, ℕ, ◌+◌, Bool, true, false, if◌then◌else◌, ℤ, pos, int_le, List, [], ◌∷◌, drop, Option, Some, None, Result, Ok, Err}
use denote.Enum.Bare.{sameb}
use Rattle.sql_text.specs.declared.token.Token.{Token}
use Rattle.sql_text.specs.declared.token.Token.TheVariants.{Name, Word, Number, Text, Symbol}
use Rattle.sql_text.specs.declared.token.Reserved.{Reserved}
use Rattle.sql_text.specs.declared.token.Symbol.{Symbol as Sign}
use Rattle.sql_text.specs.contracts.token.Reserved.{the_type as reserved_type}
use Rattle.sql_text.specs.contracts.token.Symbol.{the_type as symbol_type}
use Rattle.sql_expressions.specs.declared.fault.ParseFault.{ParseFault}
use Rattle.sql_expressions.specs.declared.fault.ParseFault.TheVariants.{TooDeep, TooManyOperators, NotSql, NoMemory}

-- the tokens that are left, and the place of the first of them
pub record Input : Type 0 where
  pub place : ℕ
  pub left : List Token

abbrev pub Outcome : Type 0 → Type 0
Outcome A = Option (A × Input)

abbrev pub Reader : Type 0 → Type 0
Reader A = Input → Outcome A

abbrev pub and_then : {A B : Type 0} → Outcome A → (A → Reader B) → Outcome B
and_then (Some p) f = f p.0 p.1
and_then None f = None

infixl 10 ◌>>=◌
abbrev pub ◌>>=◌ : {A B : Type 0} → Reader A → (A → Reader B) → Reader B
p >>= f = λ i. and_then (p i) f

infixl 10 ◌>>◌
abbrev pub ◌>>◌ : {A B : Type 0} → Reader A → Reader B → Reader B
p >> q = p >>= (λ _. q)

abbrev pub pure : {A : Type 0} → A → Reader A
pure a = λ i. Some (a, i)

abbrev pub refuse : {A : Type 0} → Reader A
refuse = λ i. None

-- ---- one token

unfoldable pub same_word : Reserved → Reserved → Bool
same_word = sameb reserved_type

unfoldable pub same_symbol : Sign → Sign → Bool
same_symbol = sameb symbol_type

abbrev pub is_word : Reserved → Token → Bool
is_word w (Name n) = false
is_word w (Word v) = same_word v w
is_word w (Number n) = false
is_word w (Text t) = false
is_word w (Symbol s) = false

abbrev pub is_symbol : Sign → Token → Bool
is_symbol w (Name n) = false
is_symbol w (Word v) = false
is_symbol w (Number n) = false
is_symbol w (Text t) = false
is_symbol w (Symbol s) = same_symbol s w

-- whether there is a first token, and it passes the test
abbrev pub begins : (Token → Bool) → List Token → Bool
begins test [] = false
begins test (t ∷ ts) = test t

unfoldable pub sees_word : Reserved → Input → Bool
sees_word w i = begins (is_word w) i.left

unfoldable pub sees_symbol : Sign → Input → Bool
sees_symbol s i = begins (is_symbol s) i.left

abbrev pub is_name : Token → Bool
is_name (Name n) = true
is_name (Word v) = false
is_name (Number n) = false
is_name (Text t) = false
is_name (Symbol s) = false

unfoldable pub sees_name : Input → Bool
sees_name i = begins is_name i.left

abbrev pub is_number : Token → Bool
is_number (Name n) = false
is_number (Word v) = false
is_number (Number n) = true
is_number (Text t) = false
is_number (Symbol s) = false

unfoldable pub sees_number : Input → Bool
sees_number i = begins is_number i.left

-- looks ahead
abbrev pub look : (Input → Bool) → Reader Bool
look sees = λ i. Some (sees i, i)

unfoldable pub next : Input → Input
next i = record { place = i.place + 1; left = drop 1 i.left }

-- where the reader stands
abbrev pub here : Reader ℕ
here = λ i. Some (i.place, i)

-- takes the token, if it comes next
unfoldable pub after_word : Reserved → Input → Input
after_word w i = if sees_word w i then next i else i

abbrev pub eat_word : Reserved → Reader Bool
eat_word w = λ i. Some (sees_word w i, after_word w i)

unfoldable pub after_symbol : Sign → Input → Input
after_symbol s i = if sees_symbol s i then next i else i

abbrev pub eat_symbol : Sign → Reader Bool
eat_symbol s = λ i. Some (sees_symbol s i, after_symbol s i)

unfoldable pub expect_word : Reserved → Reader (Unit {0})
expect_word w = λ i. if sees_word w i then Some (tt, next i) else None

unfoldable pub expect_symbol : Sign → Reader (Unit {0})
expect_symbol s = λ i. if sees_symbol s i then Some (tt, next i) else None

abbrev pub skip : Reader (Unit {0})
skip = λ i. Some (tt, next i)

-- goes on by the next token, which there has to be
abbrev pub by_first : {A : Type 0} → (Token → Reader A) → List Token → Reader A
by_first f [] = refuse
by_first f (t ∷ ts) = f t

unfoldable pub by_token : {A : Type 0} → (Token → Reader A) → Reader A
by_token f = λ i. by_first f i.left i

abbrev pub name_by : Token → Reader (List ℕ)
name_by (Name n) = skip >> pure n
name_by (Word v) = refuse
name_by (Number n) = refuse
name_by (Text t) = refuse
name_by (Symbol s) = refuse

unfoldable pub name : Reader (List ℕ)
name = by_token name_by

-- a number is digits
abbrev pub number_by : Token → Reader ℤ
number_by (Name n) = refuse
number_by (Word v) = refuse
number_by (Number n) = if int_le (pos 0) n then skip >> pure n else refuse
number_by (Text t) = refuse
number_by (Symbol s) = refuse

unfoldable pub number : Reader ℤ
number = by_token number_by

-- ---- what a function that reads ensures: the reader's outcome, unless memory fails

abbrev pub Reads : {A : Type 0} → Outcome A → Result A ParseFault → Input → Type 0
Reads outcome (Ok a) new = outcome ≡ Some (a, new)
Reads outcome (Err NotSql) new = outcome ≡ None
Reads outcome (Err NoMemory) new = Unit {0}
Reads outcome (Err (TooDeep limit)) new = ⊥
Reads outcome (Err (TooManyOperators limit)) new = ⊥
