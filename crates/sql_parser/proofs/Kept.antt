-- What an expression is printed as has no more operators than the tokens that spell it, no deeper brackets, and only tokens that a text can have.
use Rattle.std.proofs.Common.{◌≡◌, ℕ, suc, ◌+◌, ◌-◌, ◌<◌, ◌≤◌, max, pos, nat_lt, Bool, true, false, if◌then◌else◌, List, [], ◌∷◌, ◌++◌, length, Some, None, refl, sym, ap, subst, ◌∙◌, arith}
use Rattle.std.specs.List.{AllByRecursion}
use Rattle.std.proofs.lemmas.Bool.{ltb-true, ltb-false, le-ltb}
use Rattle.cal_value.specs.declared.value.Value.TheVariants as value
use Rattle.cal_value.specs.declared.operator.Op.{Op}
use Rattle.cal_value.specs.declared.operator.Op.TheVariants as op
use Rattle.cal_value.specs.declared.operator.Agg.TheVariants as agg
use Rattle.sql_text.specs.declared.token.Token.{Token}
use Rattle.sql_text.specs.declared.token.Token.TheVariants.{Name, Word, Number, Text, Symbol}
use Rattle.sql_text.specs.declared.token.Reserved.{Reserved}
use Rattle.sql_text.specs.declared.token.Reserved.TheVariants as w
use Rattle.sql_text.specs.declared.token.Symbol.{Symbol as Sign}
use Rattle.sql_text.specs.declared.token.Symbol.TheVariants as s
use Rattle.sql_tree.specs.declared.tree.Tree.{Tree}
use Rattle.sql_tree.specs.declared.tree.Tree.TheVariants.{Column, Negate, Binary, Not, IsNull, Aggregate}
use Rattle.sql_tree.specs.declared.tree.ColumnName.{ColumnName}
use Rattle.sql_text.specs.Tokens.{IsToken}
use Rattle.sql_printer.proofs.Writes.{printed_binary}
use Rattle.sql_printer.specs.Printing.{Printed, printed_tree, tree_tokens, at_least, in_brackets, column_tokens, op_level, left_level, op_token, binary_tokens, null_test_tokens, call_tokens}
use Rattle.sql_expressions.specs.Operators.{compares, adds, multiplies}
use Rattle.sql_expressions.specs.Limits.{opened, most_open, operators, is_operator_word}
use Rattle.sql_expressions.specs.Grammar.{IsColumn, plain, qualified, IsExpr, one_conj, or_conj, IsConj, one_neg, and_neg, IsNeg, not_neg, one_pred, IsPred, one_sum, compared, is_null, is_not_null, IsSum, one_term, add_term, IsTerm, one_fact, times_fact, IsFact, minus_fact, one_prim, IsPrim, number, text, true_word, false_word, column, one_agg, bracket, IsAgg, count_all, aggregate}
use Rattle.sql_expressions.proofs.Steps.{no_some, some_same}
use Rattle.sql_expressions.proofs.Room.{operators-append, most_open-low, Balanced, none-balanced, one-balanced, append-balanced, bracket-balanced, column-balanced, expr-balanced}
use Rattle.sql_parser.proofs.Again.{printed_column, printed_literal, printed_negate, printed_not, printed_null, printed_count, printed_call, agg_word, agg_again, expr_respelled}

-- the second are no worse than the first
pub record NoWorse (ts us : List Token) : Type 0 where
  pub fit : AllByRecursion IsToken ts → AllByRecursion IsToken us
  pub few : operators us ≤ operators ts
  pub deep : (k : ℕ) → most_open k us ≤ most_open k ts
  pub before : Balanced ts
  pub behind : Balanced us

each-append : (ts us : List Token) → AllByRecursion IsToken ts → AllByRecursion IsToken us → AllByRecursion IsToken (ts ++ us)
each-append [] us a b = b
each-append (t ∷ ts) us a b = (a.0, each-append ts us a.1 b)

each-front : (ts us : List Token) → AllByRecursion IsToken (ts ++ us) → AllByRecursion IsToken ts
each-front [] us a = tt
each-front (t ∷ ts) us a = (a.0, each-front ts us a.1)

each-back : (ts us : List Token) → AllByRecursion IsToken (ts ++ us) → AllByRecursion IsToken us
each-back [] us a = a
each-back (t ∷ ts) us a = each-back ts us a.1

-- ---- tokens that stay, go and come

pub kept : (ts : List Token) → Balanced ts → NoWorse ts ts
kept ts b = record { fit = λ h. h; few = omega arith; deep = λ k. omega arith; before = b; behind = b }

pub nothing : NoWorse [] []
nothing = kept [] none-balanced

pub token_kept : (t : Token) → ((k : ℕ) → opened k t ≡ k) → NoWorse (t ∷ []) (t ∷ [])
token_kept t same = kept (t ∷ []) (one-balanced t [] same none-balanced)

pub beside : (a b c d : List Token) → NoWorse a b → NoWorse c d → NoWorse (a ++ c) (b ++ d)
beside a b c d x y = record {
  fit = λ h. each-append b d (x.fit (each-front a c h)) (y.fit (each-back a c h));
  few = omega (arith, operators-append a c, operators-append b d, x.few, y.few);
  deep = λ k. omega (arith, x.before.whole k c, x.behind.whole k d, x.deep k, y.deep k);
  before = append-balanced a c x.before y.before;
  behind = append-balanced b d x.behind y.behind;
}

pub behind_token : (t : Token) (ts us : List Token) → ((k : ℕ) → opened k t ≡ k) → NoWorse ts us → NoWorse (t ∷ ts) (t ∷ us)
behind_token t ts us same x = beside (t ∷ []) (t ∷ []) ts us (token_kept t same) x

pub behind_word : (v : Reserved) (ts us : List Token) → NoWorse ts us → NoWorse (Word v ∷ ts) (Word v ∷ us)
behind_word v ts us x = behind_token (Word v) ts us (λ k. refl) x

-- a token goes
pub left_out : (t : Token) (ts us : List Token) → ((k : ℕ) → opened k t ≡ k) → NoWorse ts us → NoWorse (t ∷ ts) us
unfolding most_open
left_out t ts us same x = beside (t ∷ []) [] ts us alone x where
  alone : NoWorse (t ∷ []) []
  alone = record { fit = λ h. tt; few = omega arith; deep = λ k. omega arith; before = one-balanced t [] same none-balanced; behind = none-balanced }

-- a word that is no operator comes
pub put_in : (v : Reserved) (ts us : List Token) → is_operator_word v ≡ false → NoWorse ts us → NoWorse ts (Word v ∷ us)
unfolding most_open
put_in v ts us e x = beside [] (Word v ∷ []) ts us alone x where
  alone : NoWorse [] (Word v ∷ [])
  alone = record { fit = λ h. (tt, tt); few = rw e (omega arith); deep = λ k. omega arith; before = none-balanced; behind = one-balanced (Word v) [] (λ k. refl) none-balanced }

-- ---- brackets

opened-more : (k m : ℕ) (t : Token) → k ≤ m → opened k t ≤ opened m t
opened-more k m (Name n) h = h
opened-more k m (Word v) h = h
opened-more k m (Number n) h = h
opened-more k m (Text t) h = h
opened-more k m (Symbol s.Open) h = omega arith
opened-more k m (Symbol s.Close) h = omega arith
opened-more k m (Symbol _) h = h

most_open-more : (k m : ℕ) (ts : List Token) → k ≤ m → most_open k ts ≤ most_open m ts
unfolding most_open
most_open-more k m [] h = h
most_open-more k m (t ∷ ts) h = omega (arith, most_open-more (opened k t) (opened m t) ts (opened-more k m t h))

operators-bracket : (ts : List Token) → operators (in_brackets ts) ≡ operators ts
operators-bracket ts = let e = operators-append ts (Symbol s.Close ∷ []) in omega arith

most_open-bracket : (k : ℕ) (ts : List Token) → Balanced ts → most_open k (in_brackets ts) ≡ most_open (k + 1) ts
unfolding most_open
most_open-bracket k ts b =
    let low : k + 1 ≤ most_open (k + 1) ts = most_open-low (k + 1) ts in
    let back : k + 1 - 1 ≡ k = omega arith in
    let alone : most_open (k + 1) (Symbol s.Close ∷ []) ≡ max (k + 1) k = ap (λ n. max (k + 1) n) back in
    omega (arith, b.whole (k + 1) (Symbol s.Close ∷ []), alone, low)

-- brackets stay
pub in_both : (a b : List Token) → NoWorse a b → NoWorse (in_brackets a) (in_brackets b)
in_both a b x = record {
  fit = λ h. (tt, each-append b (Symbol s.Close ∷ []) (x.fit (each-front a (Symbol s.Close ∷ []) h.1)) (tt, tt));
  few = omega (arith, operators-bracket a, operators-bracket b, x.few);
  deep = λ k. omega (arith, most_open-bracket k a x.before, most_open-bracket k b x.behind, x.deep (k + 1));
  before = bracket-balanced a x.before;
  behind = bracket-balanced b x.behind;
}

-- brackets go
in_first : (a b : List Token) → NoWorse a b → NoWorse (in_brackets a) b
in_first a b x = record {
  fit = λ h. x.fit (each-front a (Symbol s.Close ∷ []) h.1);
  few = omega (arith, operators-bracket a, x.few);
  deep = λ k. let more : k ≤ k + 1 = omega arith in omega (arith, most_open-bracket k a x.before, most_open-more k (k + 1) b more, x.deep (k + 1));
  before = bracket-balanced a x.before;
  behind = x.behind;
}

without : (a b : List Token) → Balanced b → NoWorse a (in_brackets b) → NoWorse a b
without a b balanced x = record {
  fit = λ h. each-front b (Symbol s.Close ∷ []) (x.fit h).1;
  few = omega (arith, operators-bracket b, x.few);
  deep = λ k. let more : k ≤ k + 1 = omega arith in omega (arith, most_open-bracket k b balanced, most_open-more k (k + 1) b more, x.deep k);
  before = x.before;
  behind = balanced;
}

-- ---- levels

-- a level further out asks for fewer brackets
looser_kept : (m n : ℕ) (x : Printed) (ts : List Token) → m ≤ n → Balanced x.1 → NoWorse ts (at_least n x) → NoWorse ts (at_least m x)
looser_kept m n x ts h b = split (nat_lt x.0 m) (nat_lt x.0 n) refl refl where
  split : (c d : Bool) → nat_lt x.0 m ≡ c → nat_lt x.0 n ≡ d → NoWorse ts (if d then in_brackets x.1 else x.1) → NoWorse ts (if c then in_brackets x.1 else x.1)
  split true true e f y = y
  split true false e f y = let low : x.0 < m = ltb-true x.0 m e in let high : n ≤ x.0 = ltb-false x.0 n f in absurd (omega arith)
  split false true e f y = without ts x.1 b y
  split false false e f y = y

-- tokens of just the level
exactly : (n : ℕ) (x y : Printed) (ts : List Token) → x ≡ y → y.0 ≡ n → NoWorse ts y.1 → NoWorse ts (at_least n x)
exactly n x y ts e level z = subst (λ (v : Printed). NoWorse ts (at_least n v)) (sym e) (subst (λ b. NoWorse ts (if b then in_brackets y.1 else y.1)) (sym none) z) where
  none : nat_lt y.0 n ≡ false
  none = let low : n ≤ y.0 = omega arith in le-ltb y.0 n low

-- at the outermost level there are no brackets
pub outermost : (x : Printed) (ts : List Token) → NoWorse ts (at_least 0 x) → NoWorse ts x.1
outermost x ts y = subst (λ b. NoWorse ts (if b then in_brackets x.1 else x.1)) none y where
  none : nat_lt x.0 0 ≡ false
  none = le-ltb x.0 0 (omega arith)

tree-balanced : {ts : List Token} {t : Tree} (p : ℕ) → IsExpr p ts t → Balanced (tree_tokens t)
tree-balanced p d = let r = expr_respelled p d p in expr-balanced r.spelled

-- ---- nodes

op-opens : (o : Op) (k : ℕ) → opened k (op_token o) ≡ k
op-opens op.Or k = refl
op-opens op.And k = refl
op-opens op.Equal k = refl
op-opens op.NotEqual k = refl
op-opens op.Less k = refl
op-opens op.LessEqual k = refl
op-opens op.Greater k = refl
op-opens op.GreaterEqual k = refl
op-opens op.Add k = refl
op-opens op.Subtract k = refl
op-opens op.Multiply k = refl
op-opens op.Divide k = refl

binary_kept : (place : ℕ) (o : Op) (l r : Tree) (ts us : List Token) → NoWorse ts (at_least (left_level o) (printed_tree l)) → NoWorse us (at_least (suc (op_level o)) (printed_tree r))
    → NoWorse (ts ++ op_token o ∷ us) (at_least (op_level o) (printed_tree (Binary place o l r)))
binary_kept place o l r ts us x y =
    exactly (op_level o) (printed_tree (Binary place o l r)) (op_level o, binary_tokens o (printed_tree l) (printed_tree r)) (ts ++ op_token o ∷ us) (printed_binary place o l r) refl
    (beside ts (at_least (left_level o) (printed_tree l)) (op_token o ∷ us) (op_token o ∷ at_least (suc (op_level o)) (printed_tree r)) x
    (behind_token (op_token o) us (at_least (suc (op_level o)) (printed_tree r)) (op-opens o) y))

-- an operator of this level, with this symbol
pub record IsSignOf (sign : Sign) (o : Op) (left level : ℕ) : Type 0 where
  pub token : op_token o ≡ Symbol sign
  pub left_is : left_level o ≡ left
  pub level_is : op_level o ≡ level

sign_of : (sign : Sign) (a o : Op) (left level : ℕ) → a ≡ o → IsSignOf sign a left level → IsSignOf sign o left level
sign_of sign a o left level e x = subst (λ b. IsSignOf sign b left level) e x

compares_sign : (sign : Sign) (o : Op) → compares sign ≡ Some o → IsSignOf sign o 4 3
compares_sign s.Equal o e = sign_of s.Equal op.Equal o 4 3 (some_same e) (record { token = refl; left_is = refl; level_is = refl })
compares_sign s.NotEqual o e = sign_of s.NotEqual op.NotEqual o 4 3 (some_same e) (record { token = refl; left_is = refl; level_is = refl })
compares_sign s.Less o e = sign_of s.Less op.Less o 4 3 (some_same e) (record { token = refl; left_is = refl; level_is = refl })
compares_sign s.LessEqual o e = sign_of s.LessEqual op.LessEqual o 4 3 (some_same e) (record { token = refl; left_is = refl; level_is = refl })
compares_sign s.Greater o e = sign_of s.Greater op.Greater o 4 3 (some_same e) (record { token = refl; left_is = refl; level_is = refl })
compares_sign s.GreaterEqual o e = sign_of s.GreaterEqual op.GreaterEqual o 4 3 (some_same e) (record { token = refl; left_is = refl; level_is = refl })
compares_sign _ o e = no_some e

adds_sign : (sign : Sign) (o : Op) → adds sign ≡ Some o → IsSignOf sign o 4 4
adds_sign s.Plus o e = sign_of s.Plus op.Add o 4 4 (some_same e) (record { token = refl; left_is = refl; level_is = refl })
adds_sign s.Minus o e = sign_of s.Minus op.Subtract o 4 4 (some_same e) (record { token = refl; left_is = refl; level_is = refl })
adds_sign _ o e = no_some e

multiplies_sign : (sign : Sign) (o : Op) → multiplies sign ≡ Some o → IsSignOf sign o 5 5
multiplies_sign s.Star o e = sign_of s.Star op.Multiply o 5 5 (some_same e) (record { token = refl; left_is = refl; level_is = refl })
multiplies_sign s.Slash o e = sign_of s.Slash op.Divide o 5 5 (some_same e) (record { token = refl; left_is = refl; level_is = refl })
multiplies_sign _ o e = no_some e

sign_kept : (sign : Sign) (place : ℕ) (o : Op) (l r : Tree) (ts us : List Token) (left level : ℕ) → IsSignOf sign o left level → NoWorse ts (at_least left (printed_tree l))
    → NoWorse us (at_least (suc level) (printed_tree r)) → NoWorse (ts ++ Symbol sign ∷ us) (at_least level (printed_tree (Binary place o l r)))
sign_kept sign place o l r ts us left level i x y =
    let first = subst (λ n. NoWorse ts (at_least n (printed_tree l))) (sym i.left_is) x in
    let second = subst (λ n. NoWorse us (at_least (suc n) (printed_tree r))) (sym i.level_is) y in
    subst (λ n. NoWorse (ts ++ Symbol sign ∷ us) (at_least n (printed_tree (Binary place o l r)))) i.level_is
    (subst (λ (t : Token). NoWorse (ts ++ t ∷ us) (at_least (op_level o) (printed_tree (Binary place o l r)))) i.token (binary_kept place o l r ts us first second))

null_kept : (place : ℕ) (t : Tree) (ts : List Token) → NoWorse ts (at_least 4 (printed_tree t)) → NoWorse (ts ++ Word w.Is ∷ Word w.Null ∷ []) (at_least 3 (printed_tree (IsNull place t)))
null_kept place t ts x =
    let back : List Token = Word w.Is ∷ Word w.Null ∷ [] in
    exactly 3 (printed_tree (IsNull place t)) (3, null_test_tokens (printed_tree t)) (ts ++ back) (printed_null place t) refl
    (beside ts (at_least 4 (printed_tree t)) back back x (behind_word w.Is _ _ (behind_word w.Null _ _ nothing)))

-- NOT stands further in front
not_moved : (ts us : List Token) → NoWorse ts us → NoWorse (ts ++ Word w.Is ∷ Word w.Not ∷ Word w.Null ∷ []) (Word w.Not ∷ (us ++ Word w.Is ∷ Word w.Null ∷ []))
unfolding most_open
not_moved ts us x =
    let long : List Token = Word w.Is ∷ Word w.Not ∷ Word w.Null ∷ [] in
    let short : List Token = Word w.Is ∷ Word w.Null ∷ [] in
    let y : NoWorse (ts ++ long) (us ++ short) = beside ts us long short x (behind_word w.Is _ _ (left_out (Word w.Not) _ _ (λ k. refl) (behind_word w.Null _ _ nothing))) in
    record {
      fit = λ h. (tt, y.fit h);
      few = omega (arith, operators-append ts long, operators-append us short, operators-append (Word w.Not ∷ []) (us ++ short), x.few);
      deep = λ k. front_word k (us ++ short) (ts ++ long) (y.deep k);
      before = y.before;
      behind = one-balanced (Word w.Not) (us ++ short) (λ k. refl) y.behind;
    } where
      front_word : (k : ℕ) (vs bs : List Token) → most_open k vs ≤ most_open k bs → most_open k (Word w.Not ∷ vs) ≤ most_open k bs
      front_word k vs bs h = omega (arith, most_open-low k bs)

not_null_kept : (place : ℕ) (t : Tree) (ts : List Token) → NoWorse ts (at_least 4 (printed_tree t))
    → NoWorse (ts ++ Word w.Is ∷ Word w.Not ∷ Word w.Null ∷ []) (at_least 2 (printed_tree (Not place (IsNull place t))))
not_null_kept place t ts x =
    let inner : at_least 2 (printed_tree (IsNull place t)) ≡ null_test_tokens (printed_tree t) = ap (at_least 2) (printed_null place t) in
    exactly 2 (printed_tree (Not place (IsNull place t))) (2, Word w.Not ∷ null_test_tokens (printed_tree t)) _ (printed_not place (IsNull place t) ∙ ap (λ us. (2, Word w.Not ∷ us)) inner) refl
    (not_moved ts (at_least 4 (printed_tree t)) x)

pub column_kept : {ts : List Token} {c : ColumnName} → IsColumn ts c → NoWorse ts (column_tokens c)
column_kept plain = kept _ (column-balanced plain)
column_kept qualified = kept _ (column-balanced qualified)

-- ---- what the grammar spells

mutual
  expr_at : {p : ℕ} {ts : List Token} {t : Tree} → IsExpr p ts t → NoWorse ts (at_least 0 (printed_tree t))
  expr_at (one_conj {p = p} {ts = ts} {t = t} d) = looser_kept 0 1 (printed_tree t) ts (omega arith) (tree-balanced p (one_conj d)) (conj_at d)
  expr_at (or_conj {p = p} {ts = ts} {us = us} {l = l} {r = r} d e) = binary_kept (p + length ts) op.Or l r ts us (expr_at d) (conj_at e)

  conj_at : {p : ℕ} {ts : List Token} {t : Tree} → IsConj p ts t → NoWorse ts (at_least 1 (printed_tree t))
  conj_at (one_neg {p = p} {ts = ts} {t = t} d) = looser_kept 1 2 (printed_tree t) ts (omega arith) (tree-balanced p (one_conj (one_neg d))) (neg_at d)
  conj_at (and_neg {p = p} {ts = ts} {us = us} {l = l} {r = r} d e) = binary_kept (p + length ts) op.And l r ts us (conj_at d) (neg_at e)

  neg_at : {p : ℕ} {ts : List Token} {t : Tree} → IsNeg p ts t → NoWorse ts (at_least 2 (printed_tree t))
  neg_at (not_neg {p = p} {ts = ts} {t = t} d) =
      exactly 2 (printed_tree (Not p t)) (2, Word w.Not ∷ at_least 2 (printed_tree t)) (Word w.Not ∷ ts) (printed_not p t) refl (behind_word w.Not ts (at_least 2 (printed_tree t)) (neg_at d))
  neg_at (one_pred d) = pred_at d

  pred_at : {p : ℕ} {ts : List Token} {t : Tree} → IsPred p ts t → NoWorse ts (at_least 2 (printed_tree t))
  pred_at (one_sum {p = p} {ts = ts} {t = t} d) = looser_kept 2 4 (printed_tree t) ts (omega arith) (tree-balanced p (one_conj (one_neg (one_pred (one_sum d))))) (sum_at d)
  pred_at (compared {p = p} {ts = ts} {us = us} {l = l} {r = r} sign {o = o} d e f) =
      looser_kept 2 3 (printed_tree (Binary (p + length ts) o l r)) (ts ++ Symbol sign ∷ us) (omega arith) (tree-balanced p (one_conj (one_neg (one_pred (compared sign d e f)))))
      (sign_kept sign (p + length ts) o l r ts us 4 3 (compares_sign sign o e) (sum_at d) (sum_at f))
  pred_at (is_null {p = p} {ts = ts} {t = t} d) =
      looser_kept 2 3 (printed_tree (IsNull (p + length ts) t)) (ts ++ Word w.Is ∷ Word w.Null ∷ []) (omega arith) (tree-balanced p (one_conj (one_neg (one_pred (is_null d)))))
      (null_kept (p + length ts) t ts (sum_at d))
  pred_at (is_not_null {p = p} {ts = ts} {t = t} d) = not_null_kept (p + length ts) t ts (sum_at d)

  sum_at : {p : ℕ} {ts : List Token} {t : Tree} → IsSum p ts t → NoWorse ts (at_least 4 (printed_tree t))
  sum_at (one_term {p = p} {ts = ts} {t = t} d) = looser_kept 4 5 (printed_tree t) ts (omega arith) (tree-balanced p (one_conj (one_neg (one_pred (one_sum (one_term d)))))) (term_at d)
  sum_at (add_term {p = p} {ts = ts} {us = us} {l = l} {r = r} sign {o = o} d e f) = sign_kept sign (p + length ts) o l r ts us 4 4 (adds_sign sign o e) (sum_at d) (term_at f)

  term_at : {p : ℕ} {ts : List Token} {t : Tree} → IsTerm p ts t → NoWorse ts (at_least 5 (printed_tree t))
  term_at (one_fact {p = p} {ts = ts} {t = t} d) =
      looser_kept 5 6 (printed_tree t) ts (omega arith) (tree-balanced p (one_conj (one_neg (one_pred (one_sum (one_term (one_fact d))))))) (fact_at d)
  term_at (times_fact {p = p} {ts = ts} {us = us} {l = l} {r = r} sign {o = o} d e f) = sign_kept sign (p + length ts) o l r ts us 5 5 (multiplies_sign sign o e) (term_at d) (fact_at f)

  fact_at : {p : ℕ} {ts : List Token} {t : Tree} → IsFact p ts t → NoWorse ts (at_least 6 (printed_tree t))
  fact_at (minus_fact {p = p} {ts = ts} {t = t} d) =
      exactly 6 (printed_tree (Negate p t)) (6, Symbol s.Minus ∷ at_least 6 (printed_tree t)) (Symbol s.Minus ∷ ts) (printed_negate p t) refl
      (behind_token (Symbol s.Minus) ts (at_least 6 (printed_tree t)) (λ k. refl) (fact_at d))
  fact_at (one_prim {p = p} {ts = ts} {t = t} d) =
      looser_kept 6 7 (printed_tree t) ts (omega arith) (tree-balanced p (one_conj (one_neg (one_pred (one_sum (one_term (one_fact (one_prim d)))))))) (prim_at d)

  prim_at : {p : ℕ} {ts : List Token} {t : Tree} → IsPrim p ts t → NoWorse ts (at_least 7 (printed_tree t))
  prim_at (number {p = p} {n = n}) = exactly 7 _ _ _ (printed_literal p (value.Int (pos n))) refl (token_kept (Number (pos n)) (λ k. refl))
  prim_at (text {p = p} {t = t}) = exactly 7 _ _ _ (printed_literal p (value.Text t)) refl (token_kept (Text t) (λ k. refl))
  prim_at (true_word {p = p}) = exactly 7 _ _ _ (printed_literal p (value.Bool true)) refl (token_kept (Word w.True) (λ k. refl))
  prim_at (false_word {p = p}) = exactly 7 _ _ _ (printed_literal p (value.Bool false)) refl (token_kept (Word w.False) (λ k. refl))
  prim_at (column {p = p} {ts = ts} {c = c} d) = exactly 7 (printed_tree (Column p c)) (7, column_tokens c) ts (printed_column p c) refl (column_kept d)
  prim_at (one_agg {ts = ts} {t = t} d) = let a = agg_again d in exactly 7 (printed_tree t) (printed_tree t) ts refl a.level (agg_kept d)
  prim_at (bracket {ts = ts} {t = t} d) = bracketed (nat_lt (printed_tree t).0 7) (outermost (printed_tree t) ts (expr_at d)) where
    bracketed : (b : Bool) → NoWorse ts (printed_tree t).1 → NoWorse (in_brackets ts) (if b then in_brackets (printed_tree t).1 else (printed_tree t).1)
    bracketed true x = in_both ts (printed_tree t).1 x
    bracketed false x = in_first ts (printed_tree t).1 x

  pub agg_kept : {p : ℕ} {ts : List Token} {t : Tree} → IsAgg p ts t → NoWorse ts (tree_tokens t)
  agg_kept (count_all {p = p}) =
      let tokens : call_tokens agg.Count None ≡ tree_tokens (Aggregate p agg.Count None) = ap (λ (x : Printed). x.1) (sym (printed_count p agg.Count)) in
      subst (λ us. NoWorse (call_tokens agg.Count None) us) tokens
      (behind_word w.Count _ _ (in_both (Symbol s.Star ∷ []) (Symbol s.Star ∷ []) (token_kept (Symbol s.Star) (λ k. refl))))
  agg_kept (aggregate {p = p} {ts = ts} {t = t} word {a = a} e d) =
      let inside = in_both ts (printed_tree t).1 (outermost (printed_tree t) ts (expr_at d)) in
      let tokens : Word word ∷ in_brackets (printed_tree t).1 ≡ tree_tokens (Aggregate p a (Some t)) =
      ap (λ (x : Token). x ∷ in_brackets (printed_tree t).1) (sym (agg_word word a e)) ∙ ap (λ (x : Printed). x.1) (sym (printed_call p a t)) in
      subst (λ us. NoWorse (Word word ∷ in_brackets ts) us) tokens (behind_word word (in_brackets ts) (in_brackets (printed_tree t).1) inside)

pub expr_kept : {p : ℕ} {ts : List Token} {t : Tree} → IsExpr p ts t → NoWorse ts (tree_tokens t)
expr_kept {ts = ts} {t = t} d = outermost (printed_tree t) ts (expr_at d)
