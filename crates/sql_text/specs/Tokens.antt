-- Which tokens a text has. Its characters are code points, and a letter is one of ASCII.
use Rattle.std.specs.Prelude.{◌≡◌, ◌≢◌, ◌<◌, ◌≤◌, ◌≤ℤ◌, ◌<ℤ◌, ◌&&◌, ◌||◌, ◌==◌, if◌then◌else◌, ℕ, ℤ, pos, Bool, true, false, not, ◌⊎◌, ⊤, List, [], ◌∷◌, ◌++◌, length, map, drop, slice_index}
use Rattle.std.specs.Char.{is_ascii_alphabetic, is_ascii_alphanumeric, is_ascii_digit, to_ascii_uppercase}
use Rattle.std.specs.List.{list_all}
use Rattle.std.specs.Str.Parse.{digits_value}
use Rattle.cal_value.specs.declared.limits.TheConstants.{NAME_LIMIT, TEXT_LIMIT}
use Rattle.cal_value.specs.Interval.{limit}
use Rattle.sql_text.specs.declared.token.Reserved.{Reserved}
use Rattle.sql_text.specs.declared.token.Symbol.{Symbol}
use Rattle.sql_text.specs.declared.token.Symbol.TheVariants.{Minus, Less, Greater}
use Rattle.sql_text.specs.declared.token.Token.{Token}
use Rattle.sql_text.specs.declared.token.Token.TheVariants.{Name, Word, Number, Text, Symbol as SymbolToken}
use Rattle.sql_text.specs.declared.scan.TokenFault.{TokenFault}
use Rattle.sql_text.specs.declared.scan.TokenFault.TheVariants.{NotToken, NoMemory}
use Rattle.sql_text.specs.Spelling.{letters, symbol_text}

-- ---- white space

-- space, tab, CR and LF
abbrev pub is_blank : ℕ → Bool
is_blank c = c == 32 || c == 9 || c == 13 || c == 10

abbrev pub is_one_line : List ℕ → Bool
is_one_line cs = list_all (λ c. not (c == 10)) cs

-- the second is what is left of the first behind white space: blanks, and comments with the line feed that ends them
pub data Skips : List ℕ → List ℕ → Type 0 where
  none : {cs : List ℕ} → Skips cs cs
  blank : {c : ℕ} {cs rest : List ℕ} → is_blank c ≡ true → Skips cs rest → Skips (c ∷ cs) rest
  comment : {cs rest : List ℕ} (line more : List ℕ) → is_one_line line ≡ true → cs ≡ line ++ 10 ∷ more → Skips more rest → Skips (45 ∷ 45 ∷ cs) rest

-- nothing is left, or a comment that ends with the text
pub data IsEnd : List ℕ → Type 0 where
  nothing : IsEnd []
  comment : {line : List ℕ} → is_one_line line ≡ true → IsEnd (45 ∷ 45 ∷ line)

-- ---- one token

abbrev pub begins_word : ℕ → Bool
begins_word c = is_ascii_alphabetic c || c == 95

abbrev pub continues_word : ℕ → Bool
continues_word c = is_ascii_alphanumeric c || c == 95

-- a letter or `_`, then letters, digits and `_`
abbrev pub is_word : List ℕ → Bool
is_word [] = false
is_word (c ∷ cs) = begins_word c && list_all continues_word cs

-- the word at the front has these letters in upper case, and rest follows it
pub record TakesWord (cs upper rest : List ℕ) : Type 0 where
  pub word : List ℕ
  pub split : cs ≡ word ++ rest
  pub formed : is_word word ≡ true
  pub raised : upper ≡ map to_ascii_uppercase word
  pub ends : continues_word (slice_index rest 0) ≡ false

abbrev pub IsReserved : List ℕ → Type 0
IsReserved upper = (w : Reserved) × (letters w ≡ upper)

-- each quote twice
abbrev pub doubled : ℕ → List ℕ → List ℕ
doubled quote [] = []
doubled quote (c ∷ cs) = if c == quote then quote ∷ quote ∷ doubled quote cs else c ∷ doubled quote cs

abbrev pub quoted : ℕ → List ℕ → List ℕ
quoted quote inside = quote ∷ (doubled quote inside ++ quote ∷ [])

-- at the front stands what is inside, in quotes, and rest follows it
pub record TakesQuoted (quote : ℕ) (cs inside rest : List ℕ) : Type 0 where
  pub split : cs ≡ quoted quote inside ++ rest
  pub ends : slice_index rest 0 ≢ quote

-- the digits at the front have this value, and rest follows them
pub record TakesNumber (cs : List ℕ) (number : ℤ) (rest : List ℕ) : Type 0 where
  pub digits : List ℕ
  pub split : cs ≡ digits ++ rest
  pub some : digits ≢ []
  pub formed : list_all is_ascii_digit digits ≡ true
  pub value : number ≡ pos (digits_value 10 digits)
  pub fits : digits_value 10 digits < limit
  pub ends : continues_word (slice_index rest 0) ≡ false

-- with the next character there would be a longer symbol, or a comment
abbrev pub goes_on : Symbol → ℕ → Bool
goes_on Less next = next == 61 || next == 62
goes_on Greater next = next == 61
goes_on Minus next = next == 45
goes_on s next = false

pub record TakesSymbol (cs : List ℕ) (symbol : Symbol) (rest : List ℕ) : Type 0 where
  pub split : cs ≡ symbol_text symbol ++ rest
  pub ends : goes_on symbol (slice_index rest 0) ≡ false

-- the token stands at the front, and rest follows it
abbrev pub Begins : List ℕ → Token → List ℕ → Type 0
Begins cs (Word w) rest = TakesWord cs (letters w) rest
Begins cs (Name name) rest = (0 < length name) × (length name ≤ NAME_LIMIT) × ((TakesWord cs name rest × (IsReserved name → ⊥)) ⊎ TakesQuoted 34 cs name rest)
Begins cs (Number n) rest = TakesNumber cs n rest
Begins cs (Text text) rest = (length text ≤ TEXT_LIMIT) × TakesQuoted 39 cs text rest
Begins cs (SymbolToken s) rest = TakesSymbol cs s rest

-- a token that stands in some text
abbrev pub IsToken : Token → Type 0
IsToken (Word w) = ⊤
IsToken (Name name) = (0 < length name) × (length name ≤ NAME_LIMIT)
IsToken (Number n) = (pos 0 ≤ℤ n) × (n <ℤ pos limit)
IsToken (Text text) = length text ≤ TEXT_LIMIT
IsToken (SymbolToken s) = ⊤

-- ---- a text

-- the tokens stand at the front, each behind white space or none, and rest follows them
pub data Reads : List ℕ → List Token → List ℕ → Type 0 where
  none : {cs : List ℕ} → Reads cs [] cs
  token : {cs rest : List ℕ} {t : Token} {ts : List Token} (here more : List ℕ) → Skips cs here → Begins here t more → Reads more ts rest → Reads cs (t ∷ ts) rest

-- the characters are these tokens, with white space between and around them
pub record HasTokens (cs : List ℕ) (ts : List Token) : Type 0 where
  pub rest : List ℕ
  pub last : List ℕ
  pub reads : Reads cs ts rest
  pub skips : Skips rest last
  pub ends : IsEnd last

-- neither the end, nor white space, nor a token comes here
pub record BeginsNothing (cs : List ℕ) : Type 0 where
  pub no_end : IsEnd cs → ⊥
  pub no_space : (rest : List ℕ) → Skips cs rest → cs ≡ rest
  pub no_token : (t : Token) (rest : List ℕ) → Begins cs t rest → ⊥

-- up to this place, counted in characters from 0, there are tokens and white space, and none of them begins there
pub record StopsAt (cs : List ℕ) (place : ℕ) : Type 0 where
  pub before : List Token
  pub rest : List ℕ
  pub reads : Reads cs before rest
  pub skips : Skips rest (drop place cs)
  pub stops : BeginsNothing (drop place cs)

abbrev pub IsTokenFaultOf : List ℕ → TokenFault → Type 0
IsTokenFaultOf cs (NotToken at) = StopsAt cs at
IsTokenFaultOf cs NoMemory = ⊤
