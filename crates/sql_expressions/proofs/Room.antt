-- How brackets and operators bound what nests.
use Rattle.std.proofs.Common.{◌≡◌, ℕ, zero, suc, ◌+◌, ◌-◌, ◌≤◌, max, List, [], ◌∷◌, ◌++◌, length, drop, drop-cons, drop_of_length-le, add-one, get_or, ◌<◌, Some, refl, sym, ap, ◌∙◌, arith, append_assoc}
use Rattle.std.proofs.lemmas.List.Sums.{sum_by-append}
use Rattle.cal_value.specs.declared.operator.Op.{Op}
use Rattle.sql_text.specs.declared.token.Token.{Token}
use Rattle.sql_text.specs.declared.token.Token.TheVariants.{Name, Word, Number, Text, Symbol}
use Rattle.sql_text.specs.declared.token.Reserved.{Reserved}
use Rattle.sql_text.specs.declared.token.Symbol.{Symbol as Sign}
use Rattle.sql_text.specs.declared.token.Symbol.TheVariants as s
use Rattle.sql_tree.specs.declared.tree.Tree.{Tree}
use Rattle.sql_tree.specs.declared.tree.ColumnName.{ColumnName}
use Rattle.sql_expressions.specs.Limits.{opened, most_open, operators}
use Rattle.sql_expressions.specs.Operators.{compares, adds, multiplies}
use Rattle.sql_expressions.specs.Grammar.{IsColumn, plain, qualified, IsExpr, one_conj, or_conj, IsConj, one_neg, and_neg, IsNeg, not_neg, one_pred, IsPred, one_sum, compared, is_null, is_not_null, IsSum, one_term, add_term, IsTerm, one_fact, times_fact, IsFact, minus_fact, one_prim, IsPrim, number, text, true_word, false_word, column, one_agg, bracket, IsAgg, count_all, aggregate}
use Rattle.sql_expressions.proofs.Steps.{no_some}

pub operators-append : (ts us : List Token) → operators (ts ++ us) ≡ operators ts + operators us
operators-append ts us = sum_by-append _ ts us

pub most_open-low : (k : ℕ) (ts : List Token) → k ≤ most_open k ts
unfolding most_open
most_open-low k [] = omega arith
most_open-low k (t ∷ ts) = omega arith

pub most_open-front : (k : ℕ) (ts us : List Token) → most_open k ts ≤ most_open k (ts ++ us)
unfolding most_open
most_open-front k [] us = most_open-low k us
most_open-front k (t ∷ ts) us = omega (arith, most_open-front (opened k t) ts us)

-- as many brackets are open behind the tokens as before them
pub record Balanced (ts : List Token) : Type 0 where
  pub whole : (k : ℕ) (rest : List Token) → most_open k (ts ++ rest) ≡ max (most_open k ts) (most_open k rest)

pub none-balanced : Balanced []
unfolding most_open
none-balanced = record { whole = λ k rest. omega (arith, most_open-low k rest) }

pub one-balanced : (t : Token) (ts : List Token) → ((k : ℕ) → opened k t ≡ k) → Balanced ts → Balanced (t ∷ ts)
unfolding most_open
one-balanced t ts same b = record {
  whole = λ k rest. let e : opened k t ≡ k = same k in rw e (omega (arith, b.whole k rest, most_open-low k rest));
}

pub append-balanced : (ts us : List Token) → Balanced ts → Balanced us → Balanced (ts ++ us)
append-balanced ts us a b = record {
  whole = λ k rest. ap (most_open k) (append_assoc ts us rest) ∙ omega (arith, a.whole k (us ++ rest), b.whole k rest, a.whole k us);
}

pub bracket-balanced : (ts : List Token) → Balanced ts → Balanced (Symbol s.Open ∷ ts ++ Symbol s.Close ∷ [])
unfolding most_open
bracket-balanced ts b = record {
  whole = λ k rest.
      let low : k + 1 ≤ most_open (k + 1) ts = most_open-low (k + 1) ts in
      let back : k + 1 - 1 ≡ k = omega arith in
      let after : most_open (k + 1) (Symbol s.Close ∷ rest) ≡ max (k + 1) (most_open k rest) = ap (λ n. max (k + 1) (most_open n rest)) back in
      let alone : most_open (k + 1) (Symbol s.Close ∷ []) ≡ max (k + 1) k = ap (λ n. max (k + 1) n) back in
      let assoc : most_open (k + 1) ((ts ++ Symbol s.Close ∷ []) ++ rest) ≡ most_open (k + 1) (ts ++ Symbol s.Close ∷ rest) =
      ap (most_open (k + 1)) (append_assoc ts (Symbol s.Close ∷ []) rest) in
      omega (arith, assoc, b.whole (k + 1) (Symbol s.Close ∷ rest), b.whole (k + 1) (Symbol s.Close ∷ []), after, alone, low);
}

pub compares-opens : (sign : Sign) (o : Op) → compares sign ≡ Some o → (k : ℕ) → opened k (Symbol sign) ≡ k
compares-opens s.Open o e k = no_some e
compares-opens s.Close o e k = no_some e
compares-opens _ o e k = refl

pub adds-opens : (sign : Sign) (o : Op) → adds sign ≡ Some o → (k : ℕ) → opened k (Symbol sign) ≡ k
adds-opens s.Open o e k = no_some e
adds-opens s.Close o e k = no_some e
adds-opens _ o e k = refl

pub multiplies-opens : (sign : Sign) (o : Op) → multiplies sign ≡ Some o → (k : ℕ) → opened k (Symbol sign) ≡ k
multiplies-opens s.Open o e k = no_some e
multiplies-opens s.Close o e k = no_some e
multiplies-opens _ o e k = refl

word-balanced : (v : Reserved) (ts : List Token) → Balanced ts → Balanced (Word v ∷ ts)
word-balanced v ts b = one-balanced (Word v) ts (λ k. refl) b

pub column-balanced : {ts : List Token} {c : ColumnName} → IsColumn ts c → Balanced ts
column-balanced plain = one-balanced _ _ (λ k. refl) none-balanced
column-balanced qualified = one-balanced _ _ (λ k. refl) (one-balanced _ _ (λ k. refl) (one-balanced _ _ (λ k. refl) none-balanced))

mutual
  pub expr-balanced : {p : ℕ} {ts : List Token} {t : Tree} → IsExpr p ts t → Balanced ts
  expr-balanced (one_conj d) = conj-balanced d
  expr-balanced (or_conj d e) = append-balanced _ _ (expr-balanced d) (word-balanced _ _ (conj-balanced e))

  pub conj-balanced : {p : ℕ} {ts : List Token} {t : Tree} → IsConj p ts t → Balanced ts
  conj-balanced (one_neg d) = neg-balanced d
  conj-balanced (and_neg d e) = append-balanced _ _ (conj-balanced d) (word-balanced _ _ (neg-balanced e))

  pub neg-balanced : {p : ℕ} {ts : List Token} {t : Tree} → IsNeg p ts t → Balanced ts
  neg-balanced (not_neg d) = word-balanced _ _ (neg-balanced d)
  neg-balanced (one_pred d) = pred-balanced d

  pub pred-balanced : {p : ℕ} {ts : List Token} {t : Tree} → IsPred p ts t → Balanced ts
  pred-balanced (one_sum d) = sum-balanced d
  pred-balanced (compared sign d e f) = append-balanced _ _ (sum-balanced d) (one-balanced _ _ (compares-opens sign _ e) (sum-balanced f))
  pred-balanced (is_null d) = append-balanced _ _ (sum-balanced d) (word-balanced _ _ (word-balanced _ _ none-balanced))
  pred-balanced (is_not_null d) = append-balanced _ _ (sum-balanced d) (word-balanced _ _ (word-balanced _ _ (word-balanced _ _ none-balanced)))

  pub sum-balanced : {p : ℕ} {ts : List Token} {t : Tree} → IsSum p ts t → Balanced ts
  sum-balanced (one_term d) = term-balanced d
  sum-balanced (add_term sign d e f) = append-balanced _ _ (sum-balanced d) (one-balanced _ _ (adds-opens sign _ e) (term-balanced f))

  pub term-balanced : {p : ℕ} {ts : List Token} {t : Tree} → IsTerm p ts t → Balanced ts
  term-balanced (one_fact d) = fact-balanced d
  term-balanced (times_fact sign d e f) = append-balanced _ _ (term-balanced d) (one-balanced _ _ (multiplies-opens sign _ e) (fact-balanced f))

  pub fact-balanced : {p : ℕ} {ts : List Token} {t : Tree} → IsFact p ts t → Balanced ts
  fact-balanced (minus_fact d) = one-balanced _ _ (λ k. refl) (fact-balanced d)
  fact-balanced (one_prim d) = prim-balanced d

  pub prim-balanced : {p : ℕ} {ts : List Token} {t : Tree} → IsPrim p ts t → Balanced ts
  prim-balanced number = one-balanced _ _ (λ k. refl) none-balanced
  prim-balanced text = one-balanced _ _ (λ k. refl) none-balanced
  prim-balanced true_word = word-balanced _ _ none-balanced
  prim-balanced false_word = word-balanced _ _ none-balanced
  prim-balanced (column c) = column-balanced c
  prim-balanced (one_agg d) = agg-balanced d
  prim-balanced (bracket d) = bracket-balanced _ (expr-balanced d)

  pub agg-balanced : {p : ℕ} {ts : List Token} {t : Tree} → IsAgg p ts t → Balanced ts
  agg-balanced count_all = word-balanced _ _ (bracket-balanced _ (one-balanced (Symbol s.Star) [] (λ k. refl) none-balanced))
  agg-balanced (aggregate word e d) = word-balanced _ _ (bracket-balanced _ (expr-balanced d))

pub operators-cons : (t : Token) (ts : List Token) → operators (t ∷ ts) ≡ operators (t ∷ []) + operators ts
operators-cons t ts = operators-append (t ∷ []) ts

-- What is read with k brackets open, may nest so deep: each bracket, NOT and sign takes one of the depth.
abbrev pub Room : ℕ → ℕ → List Token → Type 0
Room k depth ts = most_open k ts + operators ts ≤ k + depth

pub room-left : (k depth : ℕ) (ts us : List Token) → Room k depth (ts ++ us) → Room k depth ts
room-left k depth ts us room = omega (arith, most_open-front k ts us, operators-append ts us)

pub room-right : (k depth : ℕ) (ts us : List Token) → Balanced ts → Room k depth (ts ++ us) → Room k depth us
room-right k depth ts us b room = omega (arith, b.whole k us, operators-append ts us)

pub room-past : (k depth : ℕ) (t : Token) (ts : List Token) → opened k t ≡ k → Room k depth (t ∷ ts) → Room k depth ts
unfolding most_open
room-past k depth t ts same room =
    let e : most_open (opened k t) ts ≡ most_open k ts = ap (λ n. most_open n ts) same in
    omega (arith, operators-cons t ts, e)

pub room-operator-zero : (k : ℕ) (t : Token) (ts : List Token) → operators (t ∷ []) ≡ 1 → Room k zero (t ∷ ts) → ⊥
room-operator-zero k t ts one room = omega (arith, operators-cons t ts, most_open-low k (t ∷ ts))

pub room-operator : (k depth : ℕ) (t : Token) (ts : List Token) → opened k t ≡ k → operators (t ∷ []) ≡ 1 → Room k (suc depth) (t ∷ ts) → Room k depth ts
unfolding most_open
room-operator k depth t ts same one room =
    let e : most_open (opened k t) ts ≡ most_open k ts = ap (λ n. most_open n ts) same in
    omega (arith, operators-cons t ts, e)

pub room-bracket-zero : (k : ℕ) (ts : List Token) → Room k zero (Symbol s.Open ∷ ts) → ⊥
unfolding most_open
room-bracket-zero k ts room = omega (arith, most_open-low (k + 1) ts)

pub room-bracket : (k depth : ℕ) (ts us : List Token) → Room k (suc depth) (Symbol s.Open ∷ ts ++ us) → Room (k + 1) depth ts
unfolding most_open
room-bracket k depth ts us room = omega (arith, operators-cons (Symbol s.Open) (ts ++ us), most_open-front (k + 1) ts us, operators-append ts us)

opened-mono : (j k : ℕ) (t : Token) → j ≤ k → opened j t ≤ opened k t
opened-mono j k (Name n) h = h
opened-mono j k (Word v) h = h
opened-mono j k (Number n) h = h
opened-mono j k (Text t) h = h
opened-mono j k (Symbol s.Open) h = omega arith
opened-mono j k (Symbol s.Close) h = omega arith
opened-mono j k (Symbol _) h = h

most_open-mono : (j k : ℕ) (ts : List Token) → j ≤ k → most_open j ts ≤ most_open k ts
unfolding most_open
most_open-mono j k [] h = h
most_open-mono j k (t ∷ ts) h = omega (arith, most_open-mono (opened j t) (opened k t) ts (opened-mono j k t h))

most_open-tail : (k : ℕ) (ts us : List Token) → most_open 0 us ≤ most_open k (ts ++ us)
unfolding most_open
most_open-tail k [] us = most_open-mono 0 k us (omega arith)
most_open-tail k (t ∷ ts) us = omega (arith, most_open-tail (opened k t) ts us)

-- a part at the end, or behind a token
pub room-tail : (depth : ℕ) (ts us : List Token) → Room 0 depth (ts ++ us) → Room 0 depth us
room-tail depth ts us room = omega (arith, most_open-tail 0 ts us, operators-append ts us)

pub room-behind : (depth : ℕ) (t : Token) (ts : List Token) → Room 0 depth (t ∷ ts) → Room 0 depth ts
room-behind depth t ts room = room-tail depth (t ∷ []) ts room

-- ---- counting along a list

-- one more token, where so many were the most
pub most_open-step : (ts : List Token) (i most k : ℕ) (t : Token) → i < length ts → t ≡ get_or ts i t → k ≤ most
    → max most (most_open k (drop i ts)) ≡ max (max (opened k t) most) (most_open (opened k t) (drop (i + 1) ts))
unfolding most_open
most_open-step ts i most k t below is reached =
    let whole : drop i ts ≡ t ∷ drop (i + 1) ts = rw (add-one, drop-cons ts i t below) (ap (λ x. x ∷ drop (suc i) ts) (sym is)) in
    rw whole (omega (arith, most_open-low (opened k t) (drop (i + 1) ts)))

pub most_open-end : (ts : List Token) (i most k : ℕ) → length ts ≤ i → k ≤ most → max most (most_open k (drop i ts)) ≡ most
unfolding most_open
most_open-end ts i most k done reached = rw (drop_of_length-le ts done) (omega arith)

pub opened-few : (k : ℕ) (t : Token) → opened k t ≤ k + 1
opened-few k (Name n) = omega arith
opened-few k (Word v) = omega arith
opened-few k (Number n) = omega arith
opened-few k (Text t) = omega arith
opened-few k (Symbol s.Open) = omega arith
opened-few k (Symbol s.Close) = omega arith
opened-few k (Symbol _) = omega arith
