-- With what a part of an expression begins, and what may follow it.
use Rattle.std.proofs.Common.{◌≡◌, ℕ, ◌<◌, ◌≤◌, false, List, [], ◌∷◌, ◌++◌, Some, None, refl, sym, subst, arith, append_assoc}
use Rattle.cal_value.specs.declared.operator.Op.{Op}
use Rattle.cal_value.specs.declared.operator.Agg.{Agg}
use Rattle.sql_text.specs.declared.token.Token.{Token}
use Rattle.sql_text.specs.declared.token.Token.TheVariants.{Name, Word, Number, Text, Symbol}
use Rattle.sql_text.specs.declared.token.Reserved.{Reserved}
use Rattle.sql_text.specs.declared.token.Reserved.TheVariants as w
use Rattle.sql_text.specs.declared.token.Symbol.{Symbol as Sign}
use Rattle.sql_text.specs.declared.token.Symbol.TheVariants as s
use Rattle.sql_tree.specs.declared.tree.Tree.{Tree}
use Rattle.sql_tree.specs.declared.tree.ColumnName.{ColumnName}
use Rattle.sql_expressions.specs.declared.expression.Level.TheVariants as level
use Rattle.sql_expressions.specs.Input.{is_word, is_symbol, same_word, same_symbol, begins}
use Rattle.sql_expressions.specs.Operators.{compares, adds, multiplies, aggregates}
use Rattle.sql_expressions.specs.Reading.{links_first}
use Rattle.sql_expressions.specs.Grammar.{IsColumn, plain, qualified, IsExpr, one_conj, or_conj, IsConj, one_neg, and_neg, IsNeg, not_neg, one_pred, IsPred, one_sum, compared, is_null, is_not_null, IsSum, one_term, add_term, IsTerm, one_fact, times_fact, IsFact, minus_fact, one_prim, IsPrim, number, text, true_word, false_word, column, one_agg, bracket, IsAgg, count_all, aggregate}
use Rattle.sql_expressions.proofs.Steps.{no_some}

-- how tightly a token binds what stands before it
abbrev pub word_binds : Reserved → ℕ
word_binds w.Or = 1
word_binds w.And = 2
word_binds w.Is = 3
word_binds _ = 0

abbrev pub symbol_binds : Sign → ℕ
symbol_binds s.Equal = 3
symbol_binds s.NotEqual = 3
symbol_binds s.Less = 3
symbol_binds s.LessEqual = 3
symbol_binds s.Greater = 3
symbol_binds s.GreaterEqual = 3
symbol_binds s.Plus = 4
symbol_binds s.Minus = 4
symbol_binds s.Star = 5
symbol_binds s.Slash = 5
symbol_binds s.Dot = 6
symbol_binds _ = 0

abbrev pub binds : Token → ℕ
binds (Name n) = 0
binds (Word v) = word_binds v
binds (Number n) = 0
binds (Text t) = 0
binds (Symbol s) = symbol_binds s

abbrev pub first_binds : List Token → ℕ
first_binds [] = 0
first_binds (t ∷ ts) = binds t

pub no_dot : (l : List Token) → first_binds l < 6 → begins (is_symbol s.Dot) l ≡ false
unfolding same_symbol
no_dot [] h = refl
no_dot (Name n ∷ ts) h = refl
no_dot (Word v ∷ ts) h = refl
no_dot (Number n ∷ ts) h = refl
no_dot (Text t ∷ ts) h = refl
no_dot (Symbol s.Dot ∷ ts) h = absurd (omega arith)
no_dot (Symbol _ ∷ ts) h = refl

pub no_is : (l : List Token) → first_binds l < 3 → begins (is_word w.Is) l ≡ false
unfolding same_word
no_is [] h = refl
no_is (Name n ∷ ts) h = refl
no_is (Word w.Is ∷ ts) h = absurd (omega arith)
no_is (Word _ ∷ ts) h = refl
no_is (Number n ∷ ts) h = refl
no_is (Text t ∷ ts) h = refl
no_is (Symbol s ∷ ts) h = refl

pub no_or : (l : List Token) → first_binds l < 1 → links_first level.Or l ≡ None
unfolding same_word
no_or [] h = refl
no_or (Name n ∷ ts) h = refl
no_or (Word w.Or ∷ ts) h = absurd (omega arith)
no_or (Word _ ∷ ts) h = refl
no_or (Number n ∷ ts) h = refl
no_or (Text t ∷ ts) h = refl
no_or (Symbol s ∷ ts) h = refl

pub no_and : (l : List Token) → first_binds l < 2 → links_first level.And l ≡ None
unfolding same_word
no_and [] h = refl
no_and (Name n ∷ ts) h = refl
no_and (Word w.And ∷ ts) h = absurd (omega arith)
no_and (Word _ ∷ ts) h = refl
no_and (Number n ∷ ts) h = refl
no_and (Text t ∷ ts) h = refl
no_and (Symbol s ∷ ts) h = refl

pub no_comparison : (l : List Token) → first_binds l < 3 → links_first level.Comparison l ≡ None
no_comparison [] h = refl
no_comparison (Name n ∷ ts) h = refl
no_comparison (Word v ∷ ts) h = refl
no_comparison (Number n ∷ ts) h = refl
no_comparison (Text t ∷ ts) h = refl
no_comparison (Symbol s.Equal ∷ ts) h = absurd (omega arith)
no_comparison (Symbol s.NotEqual ∷ ts) h = absurd (omega arith)
no_comparison (Symbol s.Less ∷ ts) h = absurd (omega arith)
no_comparison (Symbol s.LessEqual ∷ ts) h = absurd (omega arith)
no_comparison (Symbol s.Greater ∷ ts) h = absurd (omega arith)
no_comparison (Symbol s.GreaterEqual ∷ ts) h = absurd (omega arith)
no_comparison (Symbol _ ∷ ts) h = refl

pub no_sum : (l : List Token) → first_binds l < 4 → links_first level.Sum l ≡ None
no_sum [] h = refl
no_sum (Name n ∷ ts) h = refl
no_sum (Word v ∷ ts) h = refl
no_sum (Number n ∷ ts) h = refl
no_sum (Text t ∷ ts) h = refl
no_sum (Symbol s.Plus ∷ ts) h = absurd (omega arith)
no_sum (Symbol s.Minus ∷ ts) h = absurd (omega arith)
no_sum (Symbol _ ∷ ts) h = refl

pub no_term : (l : List Token) → first_binds l < 5 → links_first level.Term l ≡ None
no_term [] h = refl
no_term (Name n ∷ ts) h = refl
no_term (Word v ∷ ts) h = refl
no_term (Number n ∷ ts) h = refl
no_term (Text t ∷ ts) h = refl
no_term (Symbol s.Star ∷ ts) h = absurd (omega arith)
no_term (Symbol s.Slash ∷ ts) h = absurd (omega arith)
no_term (Symbol _ ∷ ts) h = refl

pub compares-binds : (sign : Sign) (o : Op) → compares sign ≡ Some o → binds (Symbol sign) ≡ 3
compares-binds s.Equal o e = refl
compares-binds s.NotEqual o e = refl
compares-binds s.Less o e = refl
compares-binds s.LessEqual o e = refl
compares-binds s.Greater o e = refl
compares-binds s.GreaterEqual o e = refl
compares-binds _ o e = no_some e

pub adds-binds : (sign : Sign) (o : Op) → adds sign ≡ Some o → binds (Symbol sign) ≡ 4
adds-binds s.Plus o e = refl
adds-binds s.Minus o e = refl
adds-binds _ o e = no_some e

pub multiplies-binds : (sign : Sign) (o : Op) → multiplies sign ≡ Some o → binds (Symbol sign) ≡ 5
multiplies-binds s.Star o e = refl
multiplies-binds s.Slash o e = refl
multiplies-binds _ o e = no_some e

-- ---- what an expression begins with: 1 for a primary, 2 for a sign, 3 for NOT, 0 for what begins none
abbrev pub word_opens : Reserved → ℕ
word_opens w.True = 1
word_opens w.False = 1
word_opens w.Count = 1
word_opens w.Sum = 1
word_opens w.Min = 1
word_opens w.Max = 1
word_opens w.Not = 3
word_opens _ = 0

abbrev pub symbol_opens : Sign → ℕ
symbol_opens s.Open = 1
symbol_opens s.Minus = 2
symbol_opens _ = 0

abbrev pub opens : Token → ℕ
opens (Name n) = 1
opens (Word v) = word_opens v
opens (Number n) = 1
opens (Text t) = 1
opens (Symbol s) = symbol_opens s

abbrev pub first_opens : List Token → ℕ
first_opens [] = 0
first_opens (t ∷ ts) = opens t

-- what these tokens begin with, whatever follows them
pub record Opens (most : ℕ) (ts : List Token) : Type 0 where
  pub some : (rest : List Token) → 0 < first_opens (ts ++ rest)
  pub within : (rest : List Token) → first_opens (ts ++ rest) ≤ most

pub before : (most : ℕ) (ts us : List Token) → Opens most ts → Opens most (ts ++ us)
before most ts us o = record {
  some = λ rest. subst (λ l. 0 < first_opens l) (sym (append_assoc ts us rest)) (o.some (us ++ rest));
  within = λ rest. subst (λ l. first_opens l ≤ most) (sym (append_assoc ts us rest)) (o.within (us ++ rest));
}

weaker : (most more : ℕ) (ts : List Token) → most ≤ more → Opens most ts → Opens more ts
weaker most more ts le o = record { some = o.some; within = λ rest. omega (arith, o.within rest) }

one : (most : ℕ) (t : Token) (ts : List Token) → 0 < opens t → opens t ≤ most → Opens most (t ∷ ts)
one most t ts some within = record { some = λ rest. some; within = λ rest. within }

aggregates-opens : (v : Reserved) (a : Agg) → aggregates v ≡ Some a → word_opens v ≡ 1
aggregates-opens w.Count a e = refl
aggregates-opens w.Sum a e = refl
aggregates-opens w.Min a e = refl
aggregates-opens w.Max a e = refl
aggregates-opens _ a e = no_some e

pub column-opens : {ts : List Token} {c : ColumnName} → IsColumn ts c → Opens 1 ts
column-opens plain = one 1 _ _ (omega arith) (omega arith)
column-opens qualified = one 1 _ _ (omega arith) (omega arith)

pub agg-opens : {p : ℕ} {ts : List Token} {t : Tree} → IsAgg p ts t → Opens 1 ts
agg-opens count_all = one 1 _ _ (omega arith) (omega arith)
agg-opens (aggregate word e d) = let is : word_opens word ≡ 1 = aggregates-opens word _ e in one 1 _ _ (omega arith) (omega arith)

pub prim-opens : {p : ℕ} {ts : List Token} {t : Tree} → IsPrim p ts t → Opens 1 ts
prim-opens number = one 1 _ _ (omega arith) (omega arith)
prim-opens text = one 1 _ _ (omega arith) (omega arith)
prim-opens true_word = one 1 _ _ (omega arith) (omega arith)
prim-opens false_word = one 1 _ _ (omega arith) (omega arith)
prim-opens (column c) = column-opens c
prim-opens (one_agg d) = agg-opens d
prim-opens (bracket d) = one 1 _ _ (omega arith) (omega arith)

pub fact-opens : {p : ℕ} {ts : List Token} {t : Tree} → IsFact p ts t → Opens 2 ts
fact-opens (minus_fact d) = one 2 _ _ (omega arith) (omega arith)
fact-opens (one_prim d) = weaker 1 2 _ (omega arith) (prim-opens d)

pub term-opens : {p : ℕ} {ts : List Token} {t : Tree} → IsTerm p ts t → Opens 2 ts
term-opens (one_fact d) = fact-opens d
term-opens (times_fact sign d e f) = before 2 _ _ (term-opens d)

pub sum-opens : {p : ℕ} {ts : List Token} {t : Tree} → IsSum p ts t → Opens 2 ts
sum-opens (one_term d) = term-opens d
sum-opens (add_term sign d e f) = before 2 _ _ (sum-opens d)

pub pred-opens : {p : ℕ} {ts : List Token} {t : Tree} → IsPred p ts t → Opens 2 ts
pred-opens (one_sum d) = sum-opens d
pred-opens (compared sign d e f) = before 2 _ _ (sum-opens d)
pred-opens (is_null d) = before 2 _ _ (sum-opens d)
pred-opens (is_not_null d) = before 2 _ _ (sum-opens d)

pub neg-opens : {p : ℕ} {ts : List Token} {t : Tree} → IsNeg p ts t → Opens 3 ts
neg-opens (not_neg d) = one 3 _ _ (omega arith) (omega arith)
neg-opens (one_pred d) = weaker 2 3 _ (omega arith) (pred-opens d)

pub conj-opens : {p : ℕ} {ts : List Token} {t : Tree} → IsConj p ts t → Opens 3 ts
conj-opens (one_neg d) = neg-opens d
conj-opens (and_neg d e) = before 3 _ _ (conj-opens d)

pub expr-opens : {p : ℕ} {ts : List Token} {t : Tree} → IsExpr p ts t → Opens 3 ts
expr-opens (one_conj d) = conj-opens d
expr-opens (or_conj d e) = before 3 _ _ (expr-opens d)

pub no_minus : (l : List Token) → 0 < first_opens l → first_opens l ≤ 1 → begins (is_symbol s.Minus) l ≡ false
unfolding same_symbol
no_minus [] g h = refl
no_minus (Name n ∷ ts) g h = refl
no_minus (Word v ∷ ts) g h = refl
no_minus (Number n ∷ ts) g h = refl
no_minus (Text t ∷ ts) g h = refl
no_minus (Symbol s.Minus ∷ ts) g h = absurd (omega arith)
no_minus (Symbol _ ∷ ts) g h = refl

pub no_not : (l : List Token) → 0 < first_opens l → first_opens l ≤ 2 → begins (is_word w.Not) l ≡ false
unfolding same_word
no_not [] g h = refl
no_not (Name n ∷ ts) g h = refl
no_not (Word w.Not ∷ ts) g h = absurd (omega arith)
no_not (Word _ ∷ ts) g h = refl
no_not (Number n ∷ ts) g h = refl
no_not (Text t ∷ ts) g h = refl
no_not (Symbol s ∷ ts) g h = refl

pub no_star : (l : List Token) → 0 < first_opens l → begins (is_symbol s.Star) l ≡ false
unfolding same_symbol
no_star [] g = refl
no_star (Name n ∷ ts) g = refl
no_star (Word v ∷ ts) g = refl
no_star (Number n ∷ ts) g = refl
no_star (Text t ∷ ts) g = refl
no_star (Symbol s.Star ∷ ts) g = absurd (omega arith)
no_star (Symbol _ ∷ ts) g = refl

pub no_distinct : (l : List Token) → 0 < first_opens l → begins (is_word w.Distinct) l ≡ false
unfolding same_word
no_distinct [] g = refl
no_distinct (Name n ∷ ts) g = refl
no_distinct (Word w.Distinct ∷ ts) g = absurd (omega arith)
no_distinct (Word _ ∷ ts) g = refl
no_distinct (Number n ∷ ts) g = refl
no_distinct (Text t ∷ ts) g = refl
no_distinct (Symbol s ∷ ts) g = refl
