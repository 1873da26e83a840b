-- What is spelled as a list or a name is read.
use Rattle.std.proofs.Common.{◌≡◌, ℕ, zero, suc, ◌+◌, ◌<◌, ◌≤◌, false, List, [], ◌∷◌, ◌++◌, length, Option, Some, None, refl, sym, ap, ◌∙◌, arith, append_assoc, length-append}
use Rattle.sql_text.specs.declared.token.Token.{Token}
use Rattle.sql_text.specs.declared.token.Token.TheVariants.{Name, Word, Number, Text, Symbol}
use Rattle.sql_text.specs.declared.token.Reserved.{Reserved}
use Rattle.sql_text.specs.declared.token.Reserved.TheVariants as w
use Rattle.sql_text.specs.declared.token.Symbol.{Symbol as Sign}
use Rattle.sql_text.specs.declared.token.Symbol.TheVariants as s
use Rattle.sql_tree.specs.declared.select.TableName.{TableName}
use Rattle.sql_tree.specs.declared.select.UsingName.{UsingName}
use Rattle.sql_expressions.specs.Input.{Input, Reader, and_then, next, name, begins, is_name, is_word, is_symbol, same_word, same_symbol, sees_name, sees_word, sees_symbol, after_word, after_symbol, by_token}
use Rattle.sql_parser.specs.ReadingList.{separated_from, separated}
use Rattle.sql_parser.specs.ReadingList as reading
use Rattle.sql_parser.specs.Grammar.{Separated, last, comma, IsTable, plain_table, qualified_table, IsAlias, no_alias, alias, as_alias, IsUsingName}
use Rattle.sql_parser.specs.Grammar as grammar
use Rattle.sql_expressions.proofs.Steps.{at, not_same}
use Rattle.sql_expressions.proofs.Follow.{first_binds}

-- ---- how much later than this a token may come in a statement
abbrev pub word_stage : Reserved → ℕ
word_stage w.Or = 20
word_stage w.And = 20
word_stage w.Is = 20
word_stage w.As = 15
word_stage w.Asc = 12
word_stage w.Desc = 12
word_stage w.Nulls = 11
word_stage w.On = 10
word_stage w.Using = 10
word_stage w.From = 8
word_stage w.Cross = 7
word_stage w.Join = 7
word_stage w.Inner = 7
word_stage w.Left = 7
word_stage w.Where = 6
word_stage w.Group = 5
word_stage w.Having = 4
word_stage w.Order = 3
word_stage w.Measures = 3
word_stage _ = 0

abbrev pub symbol_stage : Sign → ℕ
symbol_stage s.Dot = 30
symbol_stage s.Equal = 20
symbol_stage s.NotEqual = 20
symbol_stage s.Less = 20
symbol_stage s.LessEqual = 20
symbol_stage s.Greater = 20
symbol_stage s.GreaterEqual = 20
symbol_stage s.Plus = 20
symbol_stage s.Minus = 20
symbol_stage s.Star = 20
symbol_stage s.Slash = 20
symbol_stage s.Comma = 9
symbol_stage _ = 0

abbrev pub stage : Token → ℕ
stage (Name n) = 15
stage (Word v) = word_stage v
stage (Number n) = 0
stage (Text t) = 0
stage (Symbol s) = symbol_stage s

-- the stage of the first token, and 0 at the end
abbrev pub first_stage : List Token → ℕ
first_stage [] = 0
first_stage (t ∷ ts) = stage t

pub past_expression : (l : List Token) → first_stage l < 20 → first_binds l < 1
past_expression [] h = omega arith
past_expression (Name n ∷ ts) h = omega arith
past_expression (Word w.Or ∷ ts) h = absurd (omega arith)
past_expression (Word w.And ∷ ts) h = absurd (omega arith)
past_expression (Word w.Is ∷ ts) h = absurd (omega arith)
past_expression (Word _ ∷ ts) h = omega arith
past_expression (Number n ∷ ts) h = omega arith
past_expression (Text t ∷ ts) h = omega arith
past_expression (Symbol s.Dot ∷ ts) h = absurd (omega arith)
past_expression (Symbol s.Equal ∷ ts) h = absurd (omega arith)
past_expression (Symbol s.NotEqual ∷ ts) h = absurd (omega arith)
past_expression (Symbol s.Less ∷ ts) h = absurd (omega arith)
past_expression (Symbol s.LessEqual ∷ ts) h = absurd (omega arith)
past_expression (Symbol s.Greater ∷ ts) h = absurd (omega arith)
past_expression (Symbol s.GreaterEqual ∷ ts) h = absurd (omega arith)
past_expression (Symbol s.Plus ∷ ts) h = absurd (omega arith)
past_expression (Symbol s.Minus ∷ ts) h = absurd (omega arith)
past_expression (Symbol s.Star ∷ ts) h = absurd (omega arith)
past_expression (Symbol s.Slash ∷ ts) h = absurd (omega arith)
past_expression (Symbol _ ∷ ts) h = omega arith

pub past_dot : (l : List Token) → first_stage l < 30 → begins (is_symbol s.Dot) l ≡ false
unfolding same_symbol
past_dot [] h = refl
past_dot (Name n ∷ ts) h = refl
past_dot (Word v ∷ ts) h = refl
past_dot (Number n ∷ ts) h = refl
past_dot (Text t ∷ ts) h = refl
past_dot (Symbol s.Dot ∷ ts) h = absurd (omega arith)
past_dot (Symbol _ ∷ ts) h = refl

pub past_column : (l : List Token) → first_stage l < 30 → first_binds l < 6
past_column [] h = omega arith
past_column (Name n ∷ ts) h = omega arith
past_column (Word w.Or ∷ ts) h = omega arith
past_column (Word w.And ∷ ts) h = omega arith
past_column (Word w.Is ∷ ts) h = omega arith
past_column (Word _ ∷ ts) h = omega arith
past_column (Number n ∷ ts) h = omega arith
past_column (Text t ∷ ts) h = omega arith
past_column (Symbol s.Dot ∷ ts) h = absurd (omega arith)
past_column (Symbol _ ∷ ts) h = omega arith

pub past_comma : (l : List Token) → first_stage l < 9 → begins (is_symbol s.Comma) l ≡ false
unfolding same_symbol
past_comma [] h = refl
past_comma (Name n ∷ ts) h = refl
past_comma (Word v ∷ ts) h = refl
past_comma (Number n ∷ ts) h = refl
past_comma (Text t ∷ ts) h = refl
past_comma (Symbol s.Comma ∷ ts) h = absurd (omega arith)
past_comma (Symbol _ ∷ ts) h = refl

pub past_name : (l : List Token) → first_stage l < 15 → begins is_name l ≡ false
past_name [] h = refl
past_name (Name n ∷ ts) h = absurd (omega arith)
past_name (Word v ∷ ts) h = refl
past_name (Number n ∷ ts) h = refl
past_name (Text t ∷ ts) h = refl
past_name (Symbol s ∷ ts) h = refl

-- a word that comes at a stage isn't what comes next at an earlier one
pub past_word : (v : Reserved) (l : List Token) → first_stage l < word_stage v → begins (is_word v) l ≡ false
past_word v [] h = refl
past_word v (Name n ∷ ts) h = refl
past_word v (Word u ∷ ts) h = not_same u v (λ e. let same : word_stage u ≡ word_stage v = ap word_stage e in omega arith)
past_word v (Number n ∷ ts) h = refl
past_word v (Text t ∷ ts) h = refl
past_word v (Symbol s ∷ ts) h = refl

-- ---- lists

module _ {A : Type 0} (part : Reader A) (Part : ℕ → List Token → A → Type 0) (Good : List Token → Type 0)
    (left : (ts us : List Token) → Good (ts ++ us) → Good ts) (right : (ts us : List Token) → Good (ts ++ us) → Good us)
    (most : ℕ) (above_comma : 9 < most)
    (complete : (p : ℕ) (ts : List Token) (x : A) → Part p ts x → Good ts → (rest : List Token) → first_stage rest < most
    → part (at p (ts ++ rest)) ≡ Some (x, at (p + length ts) rest)) where
  pub list-stops : (n q : ℕ) (found : List A) (rest : List Token) → first_stage rest < 9 → separated_from part n found (at q rest) ≡ Some (found, at q rest)
  unfolding separated_from after_symbol sees_symbol
  list-stops zero q found rest h = refl
  list-stops (suc n) q found rest h = rw (past_comma rest h) refl

  one_more : (n p : ℕ) (found : List A) (ts rest : List Token) (x : A) (r : Input) → part (at (p + 1) (ts ++ rest)) ≡ Some (x, r)
      → separated_from part (suc n) found (at p (Symbol s.Comma ∷ ts ++ rest)) ≡ separated_from part n (found ++ x ∷ []) r
  unfolding separated_from after_symbol sees_symbol same_symbol next
  one_more n p found ts rest x r e = ap (λ z. and_then z (λ x. separated_from part n (found ++ x ∷ []))) e

  list-goes : {q : ℕ} {ts : List Token} {xs : List A} → Separated Part q ts xs → (p : ℕ) → q ≡ p + 1 → Good ts → (rest : List Token) → first_stage rest < 9
      → (n : ℕ) → length xs ≤ n → (found : List A) → separated_from part n found (at p (Symbol s.Comma ∷ ts ++ rest)) ≡ Some (found ++ xs, at (q + length ts) rest)
  list-goes (last d) p e good rest h zero le found = absurd (omega arith)
  list-goes (last {p = q} {ts = ts} {x = x} d) p e good rest h (suc n) le found =
      one_more n p found ts rest x (at (q + length ts) rest) (ap (λ z. part (at z (ts ++ rest))) (sym e) ∙ complete q ts x d good rest (omega arith))
      ∙ list-stops n (q + length ts) (found ++ x ∷ []) rest h
  list-goes (comma d ds) p e good rest h zero le found = absurd (omega arith)
  list-goes (comma {p = q} {ts = ts} {us = us} {x = x} {xs = xs} d ds) p e good rest h (suc n) le found =
      let end : q + length ts + 1 + length us ≡ q + length (ts ++ Symbol s.Comma ∷ us) = simp length-append (omega arith) in
      let assoc : (ts ++ Symbol s.Comma ∷ us) ++ rest ≡ ts ++ (Symbol s.Comma ∷ us ++ rest) = append_assoc ts (Symbol s.Comma ∷ us) rest in
      ap (λ l. separated_from part (suc n) found (at p (Symbol s.Comma ∷ l))) assoc
      ∙ one_more n p found ts (Symbol s.Comma ∷ us ++ rest) x (at (q + length ts) (Symbol s.Comma ∷ us ++ rest))
      (ap (λ z. part (at z (ts ++ (Symbol s.Comma ∷ us ++ rest)))) (sym e) ∙ complete q ts x d (left ts (Symbol s.Comma ∷ us) good) (Symbol s.Comma ∷ us ++ rest) (omega arith))
      ∙ list-goes ds (q + length ts) refl (right (Symbol s.Comma ∷ []) us (right ts (Symbol s.Comma ∷ us) good)) rest h n (omega arith) (found ++ x ∷ [])
      ∙ ap (λ l. Some (l, at (q + length ts + 1 + length us) rest)) (append_assoc found (x ∷ []) xs)
      ∙ ap (λ z. Some (found ++ x ∷ xs, at z rest)) end

  few : {q : ℕ} {ts : List Token} {xs : List A} → Separated Part q ts xs → length xs ≤ length ts + 1
  few (last d) = omega arith
  few (comma {ts = ts} {us = us} d ds) = omega (arith, few ds, length-append ts (Symbol s.Comma ∷ us))

  pub separated-reads : {p : ℕ} {ts : List Token} {xs : List A} → Separated Part p ts xs → Good ts → (rest : List Token) → first_stage rest < 9
      → separated part (at p (ts ++ rest)) ≡ Some (xs, at (p + length ts) rest)
  unfolding separated
  separated-reads (last {p = p} {ts = ts} {x = x} d) good rest h =
      rw (complete p ts x d good rest (omega arith)) (list-stops (length rest) (p + length ts) (x ∷ []) rest h)
  separated-reads (comma {p = p} {ts = ts} {us = us} {x = x} {xs = xs} d ds) good rest h =
      let end : p + length ts + 1 + length us ≡ p + length (ts ++ Symbol s.Comma ∷ us) = simp length-append (omega arith) in
      let more : List Token = Symbol s.Comma ∷ us ++ rest in
      let enough : length xs ≤ length more = omega (arith, few ds, length-append us rest) in
      rw (append_assoc ts (Symbol s.Comma ∷ us) rest, complete p ts x d (left ts (Symbol s.Comma ∷ us) good) (Symbol s.Comma ∷ us ++ rest) (omega arith))
      (list-goes ds (p + length ts) refl (right (Symbol s.Comma ∷ []) us (right ts (Symbol s.Comma ∷ us) good)) rest h (length more) enough (x ∷ [])
      ∙ ap (λ z. Some (x ∷ xs, at z rest)) end)

-- ---- names

pub table-reads : {ts : List Token} {t : TableName} → IsTable ts t → (p : ℕ) (rest : List Token) → first_stage rest < 30
    → reading.table (at p (ts ++ rest)) ≡ Some (t, at (p + length ts) rest)
unfolding reading.table name by_token next after_symbol sees_symbol same_symbol
table-reads (plain_table {n = n}) p rest h = rw (past_dot rest h) refl
table-reads (qualified_table {a = a} {n = n}) p rest h =
    let end : p + 1 + 1 + 1 ≡ p + 3 = omega arith in ap (λ q. Some (record { schema = Some a; name = n }, at q rest)) end

pub alias-reads : {ts : List Token} {a : Option (List ℕ)} → IsAlias ts a → (p : ℕ) (rest : List Token) → first_stage rest < 15
    → reading.alias (at p (ts ++ rest)) ≡ Some (a, at (p + length ts) rest)
unfolding reading.alias name by_token next after_word sees_word sees_name same_word
alias-reads no_alias p rest h = let none : p ≡ p + 0 = omega arith in rw (past_word w.As rest h, past_name rest h) (ap (λ q. Some (None, at q rest)) none)
alias-reads (alias {n = n}) p rest h = refl
alias-reads (as_alias {n = n}) p rest h = let end : p + 1 + 1 ≡ p + 2 = omega arith in ap (λ q. Some (Some n, at q rest)) end

pub using_name-reads : (p : ℕ) (ts : List Token) (n : UsingName) → IsUsingName p ts n → (rest : List Token)
    → reading.using_name (at p (ts ++ rest)) ≡ Some (n, at (p + length ts) rest)
unfolding reading.using_name name by_token next
using_name-reads p ts n (grammar.using_name) rest = refl
