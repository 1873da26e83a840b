-- What is spelled is read, whatever follows that doesn't go on with it.
use Rattle.std.proofs.Common.{◌≡◌, ℕ, zero, suc, ◌+◌, ◌-◌, ◌<◌, ◌≤◌, pos, true, false, List, [], ◌∷◌, ◌++◌, length, Option, Some, None, refl, ap, subst, ◌∙◌, arith, append_assoc, length-append, zero-add}
use Rattle.std.proofs.Math.Dec.{leb-zero}
use Rattle.cal_value.specs.declared.value.Value.TheVariants as value
use Rattle.cal_value.specs.declared.operator.Op.{Op}
use Rattle.cal_value.specs.declared.operator.Op.TheVariants as op
use Rattle.cal_value.specs.declared.operator.Agg.{Agg}
use Rattle.cal_value.specs.declared.operator.Agg.TheVariants as agg
use Rattle.sql_text.specs.declared.token.Token.{Token}
use Rattle.sql_text.specs.declared.token.Token.TheVariants.{Word, Number, Text, Symbol}
use Rattle.sql_text.specs.declared.token.Reserved.{Reserved}
use Rattle.sql_text.specs.declared.token.Reserved.TheVariants as w
use Rattle.sql_text.specs.declared.token.Symbol.{Symbol as Sign}
use Rattle.sql_text.specs.declared.token.Symbol.TheVariants as s
use Rattle.sql_tree.specs.declared.tree.Tree.{Tree}
use Rattle.sql_tree.specs.declared.tree.Tree.TheVariants.{Column, Literal, Negate, Binary, Not, IsNull, Aggregate}
use Rattle.sql_tree.specs.declared.tree.ColumnName.{ColumnName}
use Rattle.sql_expressions.specs.declared.expression.Level.{Level}
use Rattle.sql_expressions.specs.declared.expression.Level.TheVariants as level
use Rattle.sql_expressions.specs.declared.expression.Part.{Part}
use Rattle.sql_expressions.specs.declared.expression.Part.TheVariants as part
use Rattle.sql_expressions.specs.Input.{Input, Reader, and_then, same_word, same_symbol, sees_word, sees_symbol, next, after_word, after_symbol, expect_word, expect_symbol, by_token, name, number as number_reader}
use Rattle.sql_expressions.specs.Operators.{compares, aggregates}
use Rattle.sql_expressions.specs.Reading as reading
use Rattle.sql_expressions.specs.Reading.{links, links_first, operator_at, after_operator, chain_from, chain, reads_part}
use Rattle.sql_expressions.specs.Grammar.{IsColumn, plain, qualified, IsExpr, one_conj, or_conj, IsConj, one_neg, and_neg, IsNeg, not_neg, one_pred, IsPred, one_sum, compared, is_null, is_not_null, IsSum, one_term, add_term, IsTerm, one_fact, times_fact, IsFact, minus_fact, one_prim, IsPrim, number, text, true_word, false_word, column, one_agg, bracket, IsAgg, count_all, aggregate}
use Rattle.sql_expressions.proofs.Steps.{at, no_some, some_same}
use Rattle.sql_expressions.proofs.Room.{Room, room-left, room-right, room-past, room-operator-zero, room-operator, room-bracket-zero, room-bracket, compares-opens, adds-opens, multiplies-opens, expr-balanced, conj-balanced, sum-balanced, term-balanced}
use Rattle.sql_expressions.proofs.Follow.{first_binds, no_dot, no_is, no_or, no_and, no_comparison, no_sum, no_term, compares-binds, adds-binds, multiplies-binds, Opens, expr-opens, pred-opens, prim-opens, no_minus, no_not, no_star}

pub column-reads : {ts : List Token} {c : ColumnName} → IsColumn ts c → (p : ℕ) (rest : List Token) → first_binds rest < 6
    → reading.column (at p (ts ++ rest)) ≡ Some (c, at (p + length ts) rest)
unfolding reading.column name by_token next after_symbol sees_symbol same_symbol
column-reads (plain {n = n}) p rest h = rw (no_dot rest h) refl
column-reads (qualified {a = a} {n = n}) p rest h =
    let end : p + 1 + 1 + 1 ≡ p + 3 = omega arith in ap (λ q. Some (record { alias = Some a; name = n }, at q rest)) end

-- ---- chains

pub record Chained (l : Level) (operand : Reader Tree) (p : ℕ) (ts : List Token) (t : Tree) (rest : List Token) : Type 0 where
  pub first : Tree
  pub place : ℕ
  pub left : List Token
  pub turns : ℕ
  pub reads : operand (at p (ts ++ rest)) ≡ Some (first, at place left)
  pub room : turns + length rest ≤ length left
  pub goes : (n : ℕ) → chain_from l operand (turns + n) first (at place left) ≡ chain_from l operand n t (at (p + length ts) rest)

module _ (l : Level) (operand : Reader Tree) where
  chained-one : (p : ℕ) (ts : List Token) (t : Tree) (rest : List Token) → operand (at p (ts ++ rest)) ≡ Some (t, at (p + length ts) rest)
      → Chained l operand p ts t rest
  chained-one p ts t rest e = record {
    first = t;
    place = p + length ts;
    left = rest;
    turns = 0;
    reads = e;
    room = omega arith;
    goes = λ n. ap (λ m. chain_from l operand m t (at (p + length ts) rest)) (zero-add n);
  }

  chain_step : (q : ℕ) (x : Token) (o : Op) (left : Tree) (us : List Token) (n : ℕ) (r : Tree × Input) → links l x ≡ Some o → operand (at (q + 1) us) ≡ Some r
      → chain_from l operand (suc n) left (at q (x ∷ us)) ≡ chain_from l operand n (Binary q o left r.0) r.1
  unfolding chain_from operator_at after_operator next
  chain_step q x o left us n r e h = rw e (ap (λ z. and_then z (λ right. chain_from l operand n (Binary q o left right))) h)

  chain_stop : (n q : ℕ) (t : Tree) (rest : List Token) → links_first l rest ≡ None → chain_from l operand n t (at q rest) ≡ Some (t, at q rest)
  unfolding chain_from operator_at after_operator
  chain_stop zero q t rest e = refl
  chain_stop (suc n) q t rest e = rw e refl

  chained-more : (p : ℕ) (ts us : List Token) (x : Token) (o : Op) (left right : Tree) (rest : List Token) → Chained l operand p ts left (x ∷ us ++ rest) → links l x ≡ Some o
      → operand (at (p + length ts + 1) (us ++ rest)) ≡ Some (right, at (p + length ts + 1 + length us) rest)
      → Chained l operand p (ts ++ x ∷ us) (Binary (p + length ts) o left right) rest
  chained-more p ts us x o left right rest c e h =
      let end : p + length ts + 1 + length us ≡ p + length (ts ++ x ∷ us) = simp length-append (omega arith) in
      record {
        first = c.first;
        place = c.place;
        left = c.left;
        turns = c.turns + 1;
        reads = ap (λ z. operand (at p z)) (append_assoc ts (x ∷ us) rest) ∙ c.reads;
        room = omega (arith, c.room, length-append us rest);
        goes = λ n.
            let count : c.turns + 1 + n ≡ c.turns + suc n = omega arith in
            ap (λ m. chain_from l operand m c.first (at c.place c.left)) count ∙ c.goes (suc n)
            ∙ chain_step (p + length ts) x o left (us ++ rest) n (right, at (p + length ts + 1 + length us) rest) e h
            ∙ ap (λ q. chain_from l operand n (Binary (p + length ts) o left right) (at q rest)) end;
      }

  chain-whole : (p : ℕ) (ts : List Token) (t : Tree) (rest : List Token) → Chained l operand p ts t rest → links_first l rest ≡ None
      → chain l operand (at p (ts ++ rest)) ≡ Some (t, at (p + length ts) rest)
  unfolding chain
  chain-whole p ts t rest c e =
      let count : length c.left ≡ c.turns + (length c.left - c.turns) = omega (arith, c.room) in
      rw c.reads (ap (λ m. chain_from l operand m c.first (at c.place c.left)) count ∙ c.goes (length c.left - c.turns)
      ∙ chain_stop (length c.left - c.turns) (p + length ts) t rest e)

-- ---- what reads an expression to a depth
abbrev N : ℕ → Part → Reader Tree
N depth = reads_part depth

abbrev Reads : Reader Tree → ℕ → List Token → Tree → List Token → Type 0
Reads reader p ts t rest = reader (at p (ts ++ rest)) ≡ Some (t, at (p + length ts) rest)

or-link : links level.Or (Word w.Or) ≡ Some op.Or
unfolding same_word
or-link = refl

and-link : links level.And (Word w.And) ≡ Some op.And
unfolding same_word
and-link = refl

whole-term : (depth p : ℕ) (ts : List Token) (t : Tree) (rest : List Token) → Chained level.Term (reading.factor (N depth)) p ts t rest → first_binds rest < 5
    → Reads (reading.term (N depth)) p ts t rest
unfolding reading.term
whole-term depth p ts t rest c h = chain-whole level.Term (reading.factor (N depth)) p ts t rest c (no_term rest h)

whole-sum : (depth p : ℕ) (ts : List Token) (t : Tree) (rest : List Token) → Chained level.Sum (reading.term (N depth)) p ts t rest → first_binds rest < 4
    → Reads (reading.sum (N depth)) p ts t rest
unfolding reading.sum
whole-sum depth p ts t rest c h = chain-whole level.Sum (reading.term (N depth)) p ts t rest c (no_sum rest h)

whole-conjunction : (depth p : ℕ) (ts : List Token) (t : Tree) (rest : List Token) → Chained level.And (reading.negation (N depth)) p ts t rest → first_binds rest < 2
    → Reads (reading.conjunction (N depth)) p ts t rest
unfolding reading.conjunction
whole-conjunction depth p ts t rest c h = chain-whole level.And (reading.negation (N depth)) p ts t rest c (no_and rest h)

whole-disjunction : (depth p : ℕ) (ts : List Token) (t : Tree) (rest : List Token) → Chained level.Or (reading.conjunction (N depth)) p ts t rest → first_binds rest < 1
    → Reads (reading.disjunction (N depth)) p ts t rest
unfolding reading.disjunction
whole-disjunction depth p ts t rest c h = chain-whole level.Or (reading.conjunction (N depth)) p ts t rest c (no_or rest h)

-- NOT, and what it stands before
not-reads : (depth p : ℕ) (ts : List Token) (t : Tree) (rest : List Token) → Reads (reading.negation (N depth)) (p + 1) ts t rest
    → Reads (reading.negation (N (suc depth))) p (Word w.Not ∷ ts) (Not p t) rest
unfolding reading.negation reads_part after_word sees_word same_word next
not-reads depth p ts t rest e =
    let end : p + 1 + length ts ≡ p + length (Word w.Not ∷ ts) = omega arith in
    ap (λ o. and_then o (λ inner i. Some (Not p inner, i))) e ∙ ap (λ q. Some (Not p t, at q rest)) end

predicate-negation : (depth p : ℕ) (ts : List Token) (t : Tree) (rest : List Token) → Opens 2 ts → Reads (reading.predicate (N depth)) p ts t rest
    → Reads (reading.negation (N depth)) p ts t rest
unfolding reading.negation after_word sees_word
predicate-negation depth p ts t rest o e = rw (no_not (ts ++ rest) (o.some rest) (o.within rest)) e

minus-reads : (depth p : ℕ) (ts : List Token) (t : Tree) (rest : List Token) → Reads (reading.factor (N depth)) (p + 1) ts t rest
    → Reads (reading.factor (N (suc depth))) p (Symbol s.Minus ∷ ts) (Negate p t) rest
unfolding reading.factor reads_part after_symbol sees_symbol same_symbol next
minus-reads depth p ts t rest e =
    let end : p + 1 + length ts ≡ p + length (Symbol s.Minus ∷ ts) = omega arith in
    ap (λ o. and_then o (λ inner i. Some (Negate p inner, i))) e ∙ ap (λ q. Some (Negate p t, at q rest)) end

primary-factor : (depth p : ℕ) (ts : List Token) (t : Tree) (rest : List Token) → Opens 1 ts → Reads (reading.primary (N depth)) p ts t rest
    → Reads (reading.factor (N depth)) p ts t rest
unfolding reading.factor after_symbol sees_symbol
primary-factor depth p ts t rest o e = rw (no_minus (ts ++ rest) (o.some rest) (o.within rest)) e

-- a predicate that is a sum alone
sum-predicate : (depth p : ℕ) (ts : List Token) (t : Tree) (rest : List Token) → first_binds rest < 3 → Reads (reading.sum (N depth)) p ts t rest
    → Reads (reading.predicate (N depth)) p ts t rest
unfolding reading.predicate reading.comparison after_word sees_word operator_at after_operator
sum-predicate depth p ts t rest h e = rw (e, no_is rest h) (rw (no_comparison rest h) refl)

compared-predicate : (depth p : ℕ) (ts us : List Token) (sign : Sign) (o : Op) (l r : Tree) (rest : List Token) → compares sign ≡ Some o
    → Reads (reading.sum (N depth)) p ts l (Symbol sign ∷ us ++ rest) → Reads (reading.sum (N depth)) (p + length ts + 1) us r rest
    → Reads (reading.predicate (N depth)) p (ts ++ Symbol sign ∷ us) (Binary (p + length ts) o l r) rest
unfolding reading.predicate reading.comparison after_word sees_word operator_at after_operator next
compared-predicate depth p ts us sign o l r rest is e f =
    let end : p + length ts + 1 + length us ≡ p + length (ts ++ Symbol sign ∷ us) = simp length-append (omega arith) in
    rw (append_assoc ts (Symbol sign ∷ us) rest, e, is, f) (ap (λ q. Some (Binary (p + length ts) o l r, at q rest)) end)

null-predicate : (depth p : ℕ) (ts : List Token) (t : Tree) (rest : List Token) → Reads (reading.sum (N depth)) p ts t (Word w.Is ∷ Word w.Null ∷ rest)
    → Reads (reading.predicate (N depth)) p (ts ++ Word w.Is ∷ Word w.Null ∷ []) (IsNull (p + length ts) t) rest
unfolding reading.predicate reading.is_null after_word sees_word expect_word same_word next
null-predicate depth p ts t rest e =
    let end : p + length ts + 1 + 1 ≡ p + length (ts ++ Word w.Is ∷ Word w.Null ∷ []) = simp length-append (omega arith) in
    rw (append_assoc ts (Word w.Is ∷ Word w.Null ∷ []) rest, e) (ap (λ q. Some (IsNull (p + length ts) t, at q rest)) end)

not_null-predicate : (depth p : ℕ) (ts : List Token) (t : Tree) (rest : List Token)
    → Reads (reading.sum (N depth)) p ts t (Word w.Is ∷ Word w.Not ∷ Word w.Null ∷ rest)
    → Reads (reading.predicate (N depth)) p (ts ++ Word w.Is ∷ Word w.Not ∷ Word w.Null ∷ []) (Not (p + length ts) (IsNull (p + length ts) t)) rest
unfolding reading.predicate reading.is_null after_word sees_word expect_word same_word next
not_null-predicate depth p ts t rest e =
    let end : p + length ts + 1 + 1 + 1 ≡ p + length (ts ++ Word w.Is ∷ Word w.Not ∷ Word w.Null ∷ []) = simp length-append (omega arith) in
    rw (append_assoc ts (Word w.Is ∷ Word w.Not ∷ Word w.Null ∷ []) rest, e) (ap (λ q. Some (Not (p + length ts) (IsNull (p + length ts) t), at q rest)) end)

number-primary : (depth p n : ℕ) (rest : List Token) → Reads (reading.primary (N depth)) p (Number (pos n) ∷ []) (Literal p (value.Int (pos n))) rest
unfolding reading.primary by_token number_reader next
number-primary depth p n rest = rw (leb-zero n) refl

column-primary : (depth p : ℕ) (ts : List Token) (c : ColumnName) (rest : List Token) → IsColumn ts c → first_binds rest < 6
    → Reads (reading.primary (N depth)) p ts (Column p c) rest
unfolding reading.primary by_token
column-primary depth p ts c rest (plain {n = n}) h = rw (column-reads (plain {n = n}) p rest h) refl
column-primary depth p ts c rest (qualified {a = a} {n = n}) h = rw (column-reads (qualified {a = a} {n = n}) p rest h) refl

bracket-primary : (depth p : ℕ) (ts : List Token) (t : Tree) (rest : List Token)
    → Reads (reading.disjunction (N depth)) (p + 1) ts t (Symbol s.Close ∷ rest) → Reads (reading.primary (N (suc depth))) p (Symbol s.Open ∷ ts ++ Symbol s.Close ∷ []) t rest
unfolding reading.primary reading.bracketed by_token reads_part expect_symbol sees_symbol same_symbol next
bracket-primary depth p ts t rest e =
    let end : p + 1 + length ts + 1 ≡ p + length (Symbol s.Open ∷ ts ++ Symbol s.Close ∷ []) = simp length-append (omega arith) in
    rw (append_assoc ts (Symbol s.Close ∷ []) rest, e) (ap (λ q. Some (t, at q rest)) end)

argument-reads : (depth p : ℕ) (ts : List Token) (a : Agg) (t : Tree) (rest : List Token)
    → Reads (reading.disjunction (N depth)) (p + 2) ts t (Symbol s.Close ∷ rest)
    → reading.argument (N (suc depth)) p a (at (p + 2) (ts ++ Symbol s.Close ∷ rest)) ≡ Some (Aggregate p a (Some t), at (p + 2 + length ts + 1) rest)
unfolding reading.argument reads_part expect_symbol sees_symbol same_symbol next
argument-reads depth p ts a t rest e = rw e refl

aggregate-reads : (depth p : ℕ) (word : Reserved) (ts : List Token) (a : Agg) (t : Tree) (rest : List Token)
    → Reads (reading.disjunction (N depth)) (p + 2) ts t (Symbol s.Close ∷ rest)
    → reading.aggregate (N (suc depth)) a (at p (Word word ∷ Symbol s.Open ∷ ts ++ Symbol s.Close ∷ rest)) ≡ Some (Aggregate p a (Some t), at (p + 2 + length ts + 1) rest)
unfolding reading.aggregate expect_symbol sees_symbol same_symbol next
aggregate-reads depth p word ts a t rest e =
    let start : p + 1 + 1 ≡ p + 2 = omega arith in
    ap (λ q. reading.argument (N (suc depth)) p a (at q (ts ++ Symbol s.Close ∷ rest))) start ∙ argument-reads depth p ts a t rest e

count-reads : (depth p : ℕ) (ts : List Token) (t : Tree) (rest : List Token) → Opens 3 ts
    → Reads (reading.disjunction (N depth)) (p + 2) ts t (Symbol s.Close ∷ rest)
    → reading.count (N (suc depth)) (at p (Word w.Count ∷ Symbol s.Open ∷ ts ++ Symbol s.Close ∷ rest)) ≡ Some (Aggregate p agg.Count (Some t), at (p + 2 + length ts + 1) rest)
unfolding reading.count expect_symbol sees_symbol after_symbol same_symbol next
count-reads depth p ts t rest o e =
    let start : p + 1 + 1 ≡ p + 2 = omega arith in
    rw (no_star (ts ++ Symbol s.Close ∷ rest) (o.some (Symbol s.Close ∷ rest)))
    (ap (λ q. reading.argument (N (suc depth)) p agg.Count (at q (ts ++ Symbol s.Close ∷ rest))) start ∙ argument-reads depth p ts agg.Count t rest e)

abbrev ReadsWord : (depth p : ℕ) (word : Reserved) (ts : List Token) (t : Tree) (rest : List Token) → Agg → Type 0
ReadsWord depth p word ts t rest a =
    reading.aggregate_word (N (suc depth)) word (at p (Word word ∷ Symbol s.Open ∷ ts ++ Symbol s.Close ∷ rest)) ≡ Some (Aggregate p a (Some t), at (p + 2 + length ts + 1) rest)

word-reads : (depth p : ℕ) (word : Reserved) (ts : List Token) (a : Agg) (t : Tree) (rest : List Token) → aggregates word ≡ Some a → Opens 3 ts
    → Reads (reading.disjunction (N depth)) (p + 2) ts t (Symbol s.Close ∷ rest)
    → ReadsWord depth p word ts t rest a
word-reads depth p w.Count ts a t rest is o e = subst (ReadsWord depth p w.Count ts t rest) (some_same is) (count-reads depth p ts t rest o e)
word-reads depth p w.Sum ts a t rest is o e = subst (ReadsWord depth p w.Sum ts t rest) (some_same is) (aggregate-reads depth p w.Sum ts agg.Sum t rest e)
word-reads depth p w.Min ts a t rest is o e = subst (ReadsWord depth p w.Min ts t rest) (some_same is) (aggregate-reads depth p w.Min ts agg.Min t rest e)
word-reads depth p w.Max ts a t rest is o e = subst (ReadsWord depth p w.Max ts t rest) (some_same is) (aggregate-reads depth p w.Max ts agg.Max t rest e)
word-reads depth p _ ts a t rest is o e = no_some is

aggregate-aggregate : (depth p : ℕ) (word : Reserved) (ts : List Token) (a : Agg) (t : Tree) (rest : List Token) → aggregates word ≡ Some a → Opens 3 ts
    → Reads (reading.disjunction (N depth)) (p + 2) ts t (Symbol s.Close ∷ rest)
    → Reads (reading.any_aggregate (N (suc depth))) p (Word word ∷ Symbol s.Open ∷ ts ++ Symbol s.Close ∷ []) (Aggregate p a (Some t)) rest
unfolding reading.any_aggregate by_token
aggregate-aggregate depth p word ts a t rest is o e =
    let end : p + 2 + length ts + 1 ≡ p + length (Word word ∷ Symbol s.Open ∷ ts ++ Symbol s.Close ∷ []) = simp length-append (omega arith) in
    rw (append_assoc ts (Symbol s.Close ∷ []) rest) (word-reads depth p word ts a t rest is o e ∙ ap (λ q. Some (Aggregate p a (Some t), at q rest)) end)

count_all-aggregate : (depth p : ℕ) (rest : List Token)
    → Reads (reading.any_aggregate (N depth)) p (Word w.Count ∷ Symbol s.Open ∷ Symbol s.Star ∷ Symbol s.Close ∷ []) (Aggregate p agg.Count None) rest
unfolding reading.any_aggregate reading.count by_token expect_symbol sees_symbol after_symbol same_symbol next
count_all-aggregate depth p rest =
    let end : p + 1 + 1 + 1 + 1 ≡ p + 4 = omega arith in ap (λ q. Some (Aggregate p agg.Count None, at q rest)) end

-- a primary that begins as an aggregate is one
word-primary : (depth p : ℕ) (word : Reserved) (a : Agg) (ts : List Token) (r : Option (Tree × Input)) → aggregates word ≡ Some a
    → reading.any_aggregate (N depth) (at p (Word word ∷ ts)) ≡ r → reading.primary (N depth) (at p (Word word ∷ ts)) ≡ r
unfolding reading.primary reading.any_aggregate by_token
word-primary depth p w.Count a ts r is e = e
word-primary depth p w.Sum a ts r is e = e
word-primary depth p w.Min a ts r is e = e
word-primary depth p w.Max a ts r is e = e
word-primary depth p _ a ts r is e = no_some is

agg-primary : {p : ℕ} {ts : List Token} {t : Tree} → IsAgg p ts t → (depth : ℕ) (rest : List Token) → Reads (reading.any_aggregate (N depth)) p ts t rest
    → Reads (reading.primary (N depth)) p ts t rest
agg-primary (count_all {p = p}) depth rest e = word-primary depth p w.Count agg.Count _ _ refl e
agg-primary (aggregate {p = p} word {a = a} is d) depth rest e = word-primary depth p word a _ _ is e

truth-primary : (depth p : ℕ) (rest : List Token) → Reads (reading.primary (N depth)) p (Word w.True ∷ []) (Literal p (value.Bool true)) rest
unfolding reading.primary reading.truth by_token next
truth-primary depth p rest = refl

falsehood-primary : (depth p : ℕ) (rest : List Token) → Reads (reading.primary (N depth)) p (Word w.False ∷ []) (Literal p (value.Bool false)) rest
unfolding reading.primary reading.truth by_token next
falsehood-primary depth p rest = refl

text-primary : (depth p : ℕ) (t : List ℕ) (rest : List Token) → Reads (reading.primary (N depth)) p (Text t ∷ []) (Literal p (value.Text t)) rest
unfolding reading.primary by_token next
text-primary depth p t rest = refl

mutual
  pub expr-chained : {p : ℕ} {ts : List Token} {t : Tree} → IsExpr p ts t → (k depth : ℕ) → Room k depth ts → (rest : List Token) → first_binds rest < 2
      → Chained level.Or (reading.conjunction (N depth)) p ts t rest
  expr-chained (one_conj {p = p} {ts = ts} {t = t} d) k depth room rest h =
      chained-one level.Or (reading.conjunction (N depth)) p ts t rest (whole-conjunction depth p ts t rest (conj-chained d k depth room rest (omega arith)) h)
  expr-chained (or_conj {p = p} {ts = ts} {us = us} {l = l} {r = r} d e) k depth room rest h =
      let right = room-past k depth (Word w.Or) us refl (room-right k depth ts (Word w.Or ∷ us) (expr-balanced d) room) in
      chained-more level.Or (reading.conjunction (N depth)) p ts us (Word w.Or) op.Or l r rest
      (expr-chained d k depth (room-left k depth ts (Word w.Or ∷ us) room) (Word w.Or ∷ us ++ rest) (omega arith)) or-link
      (whole-conjunction depth (p + length ts + 1) us r rest (conj-chained e k depth right rest (omega arith)) h)

  pub conj-chained : {p : ℕ} {ts : List Token} {t : Tree} → IsConj p ts t → (k depth : ℕ) → Room k depth ts → (rest : List Token) → first_binds rest < 3
      → Chained level.And (reading.negation (N depth)) p ts t rest
  conj-chained (one_neg {p = p} {ts = ts} {t = t} d) k depth room rest h =
      chained-one level.And (reading.negation (N depth)) p ts t rest (neg-reads d k depth room rest h)
  conj-chained (and_neg {p = p} {ts = ts} {us = us} {l = l} {r = r} d e) k depth room rest h =
      let right = room-past k depth (Word w.And) us refl (room-right k depth ts (Word w.And ∷ us) (conj-balanced d) room) in
      chained-more level.And (reading.negation (N depth)) p ts us (Word w.And) op.And l r rest
      (conj-chained d k depth (room-left k depth ts (Word w.And ∷ us) room) (Word w.And ∷ us ++ rest) (omega arith)) and-link
      (neg-reads e k depth right rest h)

  pub neg-reads : {p : ℕ} {ts : List Token} {t : Tree} → IsNeg p ts t → (k depth : ℕ) → Room k depth ts → (rest : List Token) → first_binds rest < 3
      → Reads (reading.negation (N depth)) p ts t rest
  neg-reads (not_neg {p = p} {ts = ts} {t = t} d) k zero room rest h = absurd (room-operator-zero k (Word w.Not) ts refl room)
  neg-reads (not_neg {p = p} {ts = ts} {t = t} d) k (suc depth) room rest h =
      not-reads depth p ts t rest (neg-reads d k depth (room-operator k depth (Word w.Not) ts refl refl room) rest h)
  neg-reads (one_pred {p = p} {ts = ts} {t = t} d) k depth room rest h =
      predicate-negation depth p ts t rest (pred-opens d) (pred-reads d k depth room rest h)

  pub pred-reads : {p : ℕ} {ts : List Token} {t : Tree} → IsPred p ts t → (k depth : ℕ) → Room k depth ts → (rest : List Token) → first_binds rest < 3
      → Reads (reading.predicate (N depth)) p ts t rest
  pred-reads (one_sum {p = p} {ts = ts} {t = t} d) k depth room rest h =
      sum-predicate depth p ts t rest h (whole-sum depth p ts t rest (sum-chained d k depth room rest (omega arith)) (omega arith))
  pred-reads (compared {p = p} {ts = ts} {us = us} {l = l} {r = r} sign {o = o} d e f) k depth room rest h =
      let right = room-past k depth (Symbol sign) us (compares-opens sign o e k) (room-right k depth ts (Symbol sign ∷ us) (sum-balanced d) room) in
      let binds_is = compares-binds sign o e in
      compared-predicate depth p ts us sign o l r rest e
      (whole-sum depth p ts l (Symbol sign ∷ us ++ rest)
      (sum-chained d k depth (room-left k depth ts (Symbol sign ∷ us) room) (Symbol sign ∷ us ++ rest) (omega (arith, binds_is))) (omega (arith, binds_is)))
      (whole-sum depth (p + length ts + 1) us r rest (sum-chained f k depth right rest (omega arith)) (omega arith))
  pred-reads (is_null {p = p} {ts = ts} {t = t} d) k depth room rest h =
      null-predicate depth p ts t rest (whole-sum depth p ts t (Word w.Is ∷ Word w.Null ∷ rest)
      (sum-chained d k depth (room-left k depth ts (Word w.Is ∷ Word w.Null ∷ []) room) (Word w.Is ∷ Word w.Null ∷ rest) (omega arith)) (omega arith))
  pred-reads (is_not_null {p = p} {ts = ts} {t = t} d) k depth room rest h =
      not_null-predicate depth p ts t rest (whole-sum depth p ts t (Word w.Is ∷ Word w.Not ∷ Word w.Null ∷ rest)
      (sum-chained d k depth (room-left k depth ts (Word w.Is ∷ Word w.Not ∷ Word w.Null ∷ []) room) (Word w.Is ∷ Word w.Not ∷ Word w.Null ∷ rest) (omega arith)) (omega arith))

  pub sum-chained : {p : ℕ} {ts : List Token} {t : Tree} → IsSum p ts t → (k depth : ℕ) → Room k depth ts → (rest : List Token) → first_binds rest < 5
      → Chained level.Sum (reading.term (N depth)) p ts t rest
  sum-chained (one_term {p = p} {ts = ts} {t = t} d) k depth room rest h =
      chained-one level.Sum (reading.term (N depth)) p ts t rest (whole-term depth p ts t rest (term-chained d k depth room rest (omega arith)) h)
  sum-chained (add_term {p = p} {ts = ts} {us = us} {l = l} {r = r} sign {o = o} d e f) k depth room rest h =
      let right = room-past k depth (Symbol sign) us (adds-opens sign o e k) (room-right k depth ts (Symbol sign ∷ us) (sum-balanced d) room) in
      let binds_is = adds-binds sign o e in
      chained-more level.Sum (reading.term (N depth)) p ts us (Symbol sign) o l r rest
      (sum-chained d k depth (room-left k depth ts (Symbol sign ∷ us) room) (Symbol sign ∷ us ++ rest) (omega (arith, binds_is))) e
      (whole-term depth (p + length ts + 1) us r rest (term-chained f k depth right rest (omega arith)) h)

  pub term-chained : {p : ℕ} {ts : List Token} {t : Tree} → IsTerm p ts t → (k depth : ℕ) → Room k depth ts → (rest : List Token) → first_binds rest < 6
      → Chained level.Term (reading.factor (N depth)) p ts t rest
  term-chained (one_fact {p = p} {ts = ts} {t = t} d) k depth room rest h =
      chained-one level.Term (reading.factor (N depth)) p ts t rest (fact-reads d k depth room rest h)
  term-chained (times_fact {p = p} {ts = ts} {us = us} {l = l} {r = r} sign {o = o} d e f) k depth room rest h =
      let right = room-past k depth (Symbol sign) us (multiplies-opens sign o e k) (room-right k depth ts (Symbol sign ∷ us) (term-balanced d) room) in
      let binds_is = multiplies-binds sign o e in
      chained-more level.Term (reading.factor (N depth)) p ts us (Symbol sign) o l r rest
      (term-chained d k depth (room-left k depth ts (Symbol sign ∷ us) room) (Symbol sign ∷ us ++ rest) (omega (arith, binds_is))) e
      (fact-reads f k depth right rest h)

  pub fact-reads : {p : ℕ} {ts : List Token} {t : Tree} → IsFact p ts t → (k depth : ℕ) → Room k depth ts → (rest : List Token) → first_binds rest < 6
      → Reads (reading.factor (N depth)) p ts t rest
  fact-reads (minus_fact {p = p} {ts = ts} {t = t} d) k zero room rest h = absurd (room-operator-zero k (Symbol s.Minus) ts refl room)
  fact-reads (minus_fact {p = p} {ts = ts} {t = t} d) k (suc depth) room rest h =
      minus-reads depth p ts t rest (fact-reads d k depth (room-operator k depth (Symbol s.Minus) ts refl refl room) rest h)
  fact-reads (one_prim {p = p} {ts = ts} {t = t} d) k depth room rest h =
      primary-factor depth p ts t rest (prim-opens d) (prim-reads d k depth room rest h)

  pub prim-reads : {p : ℕ} {ts : List Token} {t : Tree} → IsPrim p ts t → (k depth : ℕ) → Room k depth ts → (rest : List Token) → first_binds rest < 6
      → Reads (reading.primary (N depth)) p ts t rest
  prim-reads (number {p = p} {n = n}) k depth room rest h = number-primary depth p n rest
  prim-reads (text {p = p} {t = t}) k depth room rest h = text-primary depth p t rest
  prim-reads (true_word {p = p}) k depth room rest h = truth-primary depth p rest
  prim-reads (false_word {p = p}) k depth room rest h = falsehood-primary depth p rest
  prim-reads (column {p = p} {ts = ts} {c = c} d) k depth room rest h = column-primary depth p ts c rest d h
  prim-reads (one_agg d) k depth room rest h = agg-primary d depth rest (agg-reads d k depth room rest)
  prim-reads (bracket {p = p} {ts = ts} {t = t} d) k zero room rest h = absurd (room-bracket-zero k (ts ++ Symbol s.Close ∷ []) room)
  prim-reads (bracket {p = p} {ts = ts} {t = t} d) k (suc depth) room rest h =
      bracket-primary depth p ts t rest (whole-disjunction depth (p + 1) ts t (Symbol s.Close ∷ rest)
      (expr-chained d (k + 1) depth (room-bracket k depth ts (Symbol s.Close ∷ []) room) (Symbol s.Close ∷ rest) (omega arith)) (omega arith))

  pub agg-reads : {p : ℕ} {ts : List Token} {t : Tree} → IsAgg p ts t → (k depth : ℕ) → Room k depth ts → (rest : List Token)
      → Reads (reading.any_aggregate (N depth)) p ts t rest
  agg-reads (count_all {p = p}) k depth room rest = count_all-aggregate depth p rest
  agg-reads (aggregate {p = p} {ts = ts} {t = t} word {a = a} e d) k zero room rest =
      absurd (room-bracket-zero k (ts ++ Symbol s.Close ∷ []) (room-past k zero (Word word) (Symbol s.Open ∷ ts ++ Symbol s.Close ∷ []) refl room))
  agg-reads (aggregate {p = p} {ts = ts} {t = t} word {a = a} e d) k (suc depth) room rest =
      let inside = room-bracket k depth ts (Symbol s.Close ∷ []) (room-past k (suc depth) (Word word) (Symbol s.Open ∷ ts ++ Symbol s.Close ∷ []) refl room) in
      aggregate-aggregate depth p word ts a t rest e (expr-opens d) (whole-disjunction depth (p + 2) ts t (Symbol s.Close ∷ rest)
      (expr-chained d (k + 1) depth inside (Symbol s.Close ∷ rest) (omega arith)) (omega arith))

-- an expression is read, where brackets, NOTs and signs nest no deeper than there is room for
pub expr-reads : {p : ℕ} {ts : List Token} {t : Tree} → IsExpr p ts t → (depth : ℕ) → Room 0 depth ts → (rest : List Token) → first_binds rest < 1
    → Reads (reads_part (suc depth) part.Expression) p ts t rest
unfolding reads_part
expr-reads {p = p} {ts = ts} {t = t} d depth room rest h = whole-disjunction depth p ts t rest (expr-chained d 0 depth room rest (omega arith)) h

pub aggregation-reads : {p : ℕ} {ts : List Token} {t : Tree} → IsAgg p ts t → (depth : ℕ) → Room 0 depth ts → (rest : List Token)
    → Reads (reads_part (suc depth) part.Aggregate) p ts t rest
unfolding reads_part
aggregation-reads d depth room rest = agg-reads d 0 depth room rest
