-- What an expression is printed as is spelled as that expression again, places aside.
use Rattle.std.proofs.Common.{◌≡◌, ℕ, zero, suc, ◌+◌, ◌<◌, ◌≤◌, pos, nat_lt, Bool, true, false, if◌then◌else◌, List, ◌∷◌, ◌++◌, length, Option, Some, None, refl, sym, ap, subst, ◌∙◌, arith}
use Rattle.std.proofs.lemmas.Bool.{ltb-true, ltb-false}
use Rattle.cal_value.specs.declared.value.Value.{Value}
use Rattle.cal_value.specs.declared.value.Value.TheVariants as value
use Rattle.cal_value.specs.declared.operator.Op.{Op}
use Rattle.cal_value.specs.declared.operator.Op.TheVariants as op
use Rattle.cal_value.specs.declared.operator.Agg.{Agg}
use Rattle.cal_value.specs.declared.operator.Agg.TheVariants as agg
use Rattle.sql_text.specs.declared.token.Token.{Token}
use Rattle.sql_text.specs.declared.token.Token.TheVariants.{Word, Symbol}
use Rattle.sql_text.specs.declared.token.Reserved.{Reserved}
use Rattle.sql_text.specs.declared.token.Reserved.TheVariants as w
use Rattle.sql_text.specs.declared.token.Symbol.TheVariants as s
use Rattle.sql_tree.specs.declared.tree.Tree.{Tree}
use Rattle.sql_tree.specs.declared.tree.Tree.TheFolds.{fold-roll-Tree, map-Tree}
use Rattle.sql_tree.specs.declared.tree.Tree.TheOpen.{Tree-F}
use Rattle.sql_tree.specs.declared.tree.Tree.TheViews.{out-Tree, roll-Tree, out-roll-Tree, roll-out-Tree}
use Rattle.sql_tree.specs.declared.tree.Tree.TheVariants.{Column, Literal, Negate, Binary, Not, IsNull, Aggregate, rolls-Column, rolls-Literal, rolls-Negate, rolls-Binary, rolls-Not, rolls-IsNull, rolls-Aggregate}
use Rattle.sql_tree.specs.declared.tree.ColumnName.{ColumnName}
use Rattle.sql_printer.specs.Printing.{Printed, node, printed_tree, tree_tokens, at_least, in_brackets, dotted, column_tokens, value_level, value_tokens, op_level, left_level, op_token, agg_token, binary_tokens, null_test_tokens, call_tokens}
use Rattle.sql_printer.proofs.Writes.{printed_binary}
use Rattle.sql_tree.specs.Same.{placeless_node, placeless_tree}
use Rattle.sql_expressions.specs.Operators.{aggregates}
use Rattle.sql_expressions.specs.Grammar.{IsColumn, plain, qualified, IsExpr, one_conj, or_conj, IsConj, one_neg, and_neg, IsNeg, not_neg, one_pred, IsPred, one_sum, compared, is_null, is_not_null, IsSum, one_term, add_term, IsTerm, one_fact, times_fact, IsFact, minus_fact, one_prim, IsPrim, number, text, true_word, false_word, column, one_agg, bracket, IsAgg, count_all, aggregate}
use Rattle.sql_parser.specs.Grammar.{is_column, of_column, column_layer, measure_layer}
use Rattle.sql_expressions.proofs.Steps.{no_some, some_same}

-- a part spelled by these tokens that is the same, places aside
pub record Respelled {A : Type 0} (Part : ℕ → List Token → A → Type 0) (plain : A → A) (p : ℕ) (ts : List Token) (x : A) : Type 0 where
  pub value : A
  pub spelled : Part p ts value
  pub same : plain value ≡ plain x

-- ---- how a node is printed, and how it is without places

pub printed_column : (place : ℕ) (c : ColumnName) → printed_tree (Column place c) ≡ (7, column_tokens c)
printed_column place c = ap printed_tree (sym (rolls-Column place c)) ∙ fold-roll-Tree Printed node (Tree-F.Column place c)

pub printed_literal : (place : ℕ) (v : Value) → printed_tree (Literal place v) ≡ (value_level v, value_tokens v)
printed_literal place v = ap printed_tree (sym (rolls-Literal place v)) ∙ fold-roll-Tree Printed node (Tree-F.Literal place v)

pub printed_negate : (place : ℕ) (t : Tree) → printed_tree (Negate place t) ≡ (6, Symbol s.Minus ∷ at_least 6 (printed_tree t))
printed_negate place t = ap printed_tree (sym (rolls-Negate place t)) ∙ fold-roll-Tree Printed node (Tree-F.Negate place t)

pub printed_not : (place : ℕ) (t : Tree) → printed_tree (Not place t) ≡ (2, Word w.Not ∷ at_least 2 (printed_tree t))
printed_not place t = ap printed_tree (sym (rolls-Not place t)) ∙ fold-roll-Tree Printed node (Tree-F.Not place t)

pub printed_null : (place : ℕ) (t : Tree) → printed_tree (IsNull place t) ≡ (3, null_test_tokens (printed_tree t))
printed_null place t = ap printed_tree (sym (rolls-IsNull place t)) ∙ fold-roll-Tree Printed node (Tree-F.IsNull place t)

pub printed_count : (place : ℕ) (a : Agg) → printed_tree (Aggregate place a None) ≡ (7, call_tokens a None)
printed_count place a = ap printed_tree (sym (rolls-Aggregate place a None)) ∙ fold-roll-Tree Printed node (Tree-F.Aggregate place a None)

pub printed_call : (place : ℕ) (a : Agg) (t : Tree) → printed_tree (Aggregate place a (Some t)) ≡ (7, call_tokens a (Some (printed_tree t)))
printed_call place a t = ap printed_tree (sym (rolls-Aggregate place a (Some t))) ∙ fold-roll-Tree Printed node (Tree-F.Aggregate place a (Some t))

same_column : (p q : ℕ) (c : ColumnName) → placeless_tree (Column p c) ≡ placeless_tree (Column q c)
same_column p q c = plainly p ∙ sym (plainly q) where
  plainly : (place : ℕ) → placeless_tree (Column place c) ≡ Column 0 c
  plainly place = ap placeless_tree (sym (rolls-Column place c)) ∙ fold-roll-Tree Tree placeless_node (Tree-F.Column place c)

same_literal : (p q : ℕ) (v : Value) → placeless_tree (Literal p v) ≡ placeless_tree (Literal q v)
same_literal p q v = plainly p ∙ sym (plainly q) where
  plainly : (place : ℕ) → placeless_tree (Literal place v) ≡ Literal 0 v
  plainly place = ap placeless_tree (sym (rolls-Literal place v)) ∙ fold-roll-Tree Tree placeless_node (Tree-F.Literal place v)

same_negate : (p q : ℕ) (a b : Tree) → placeless_tree a ≡ placeless_tree b → placeless_tree (Negate p a) ≡ placeless_tree (Negate q b)
same_negate p q a b e = plainly p a ∙ ap (λ t. Negate 0 t) e ∙ sym (plainly q b) where
  plainly : (place : ℕ) (t : Tree) → placeless_tree (Negate place t) ≡ Negate 0 (placeless_tree t)
  plainly place t = ap placeless_tree (sym (rolls-Negate place t)) ∙ fold-roll-Tree Tree placeless_node (Tree-F.Negate place t)

same_not : (p q : ℕ) (a b : Tree) → placeless_tree a ≡ placeless_tree b → placeless_tree (Not p a) ≡ placeless_tree (Not q b)
same_not p q a b e = plainly p a ∙ ap (λ t. Not 0 t) e ∙ sym (plainly q b) where
  plainly : (place : ℕ) (t : Tree) → placeless_tree (Not place t) ≡ Not 0 (placeless_tree t)
  plainly place t = ap placeless_tree (sym (rolls-Not place t)) ∙ fold-roll-Tree Tree placeless_node (Tree-F.Not place t)

same_null : (p q : ℕ) (a b : Tree) → placeless_tree a ≡ placeless_tree b → placeless_tree (IsNull p a) ≡ placeless_tree (IsNull q b)
same_null p q a b e = plainly p a ∙ ap (λ t. IsNull 0 t) e ∙ sym (plainly q b) where
  plainly : (place : ℕ) (t : Tree) → placeless_tree (IsNull place t) ≡ IsNull 0 (placeless_tree t)
  plainly place t = ap placeless_tree (sym (rolls-IsNull place t)) ∙ fold-roll-Tree Tree placeless_node (Tree-F.IsNull place t)

same_binary : (p q : ℕ) (o : Op) (a b c d : Tree) → placeless_tree a ≡ placeless_tree b → placeless_tree c ≡ placeless_tree d
    → placeless_tree (Binary p o a c) ≡ placeless_tree (Binary q o b d)
same_binary p q o a b c d e f = plainly p a c ∙ ap (λ t. Binary 0 o t (placeless_tree c)) e ∙ ap (λ t. Binary 0 o (placeless_tree b) t) f ∙ sym (plainly q b d) where
  plainly : (place : ℕ) (l r : Tree) → placeless_tree (Binary place o l r) ≡ Binary 0 o (placeless_tree l) (placeless_tree r)
  plainly place l r = ap placeless_tree (sym (rolls-Binary place o l r)) ∙ fold-roll-Tree Tree placeless_node (Tree-F.Binary place o l r)

same_count : (p q : ℕ) (a : Agg) → placeless_tree (Aggregate p a None) ≡ placeless_tree (Aggregate q a None)
same_count p q a = plainly p ∙ sym (plainly q) where
  plainly : (place : ℕ) → placeless_tree (Aggregate place a None) ≡ Aggregate 0 a None
  plainly place = ap placeless_tree (sym (rolls-Aggregate place a None)) ∙ fold-roll-Tree Tree placeless_node (Tree-F.Aggregate place a None)

same_call : (p q : ℕ) (o : Agg) (a b : Tree) → placeless_tree a ≡ placeless_tree b → placeless_tree (Aggregate p o (Some a)) ≡ placeless_tree (Aggregate q o (Some b))
same_call p q o a b e = plainly p a ∙ ap (λ t. Aggregate 0 o (Some t)) e ∙ sym (plainly q b) where
  plainly : (place : ℕ) (t : Tree) → placeless_tree (Aggregate place o (Some t)) ≡ Aggregate 0 o (Some (placeless_tree t))
  plainly place t = ap placeless_tree (sym (rolls-Aggregate place o (Some t))) ∙ fold-roll-Tree Tree placeless_node (Tree-F.Aggregate place o (Some t))

-- ---- levels

-- the part of an expression that binds so tightly
abbrev pub IsAt : ℕ → ℕ → List Token → Tree → Type 0
IsAt zero = IsExpr
IsAt (suc zero) = IsConj
IsAt (suc (suc zero)) = IsNeg
IsAt (suc (suc (suc zero))) = IsPred
IsAt (suc (suc (suc (suc zero)))) = IsSum
IsAt (suc (suc (suc (suc (suc zero))))) = IsTerm
IsAt (suc (suc (suc (suc (suc (suc zero)))))) = IsFact
IsAt (suc (suc (suc (suc (suc (suc (suc n))))))) = IsPrim

looser : (n p : ℕ) (ts : List Token) (t : Tree) → IsAt (suc n) p ts t → IsAt n p ts t
looser zero p ts t d = one_conj d
looser (suc zero) p ts t d = one_neg d
looser (suc (suc zero)) p ts t d = one_pred d
looser (suc (suc (suc zero))) p ts t d = one_sum d
looser (suc (suc (suc (suc zero)))) p ts t d = one_term d
looser (suc (suc (suc (suc (suc zero))))) p ts t d = one_fact d
looser (suc (suc (suc (suc (suc (suc zero)))))) p ts t d = one_prim d
looser (suc (suc (suc (suc (suc (suc (suc n))))))) p ts t d = d

lower : (m n p : ℕ) (ts : List Token) (t : Tree) → m ≤ n → IsAt n p ts t → IsAt m p ts t
lower m zero p ts t h d = let none : zero ≡ m = omega arith in subst (λ k. IsAt k p ts t) none d
lower m (suc n) p ts t h d = split (λ g. lower m n p ts t g (looser n p ts t d)) (nat_lt n m) refl where
  split : (m ≤ n → IsAt m p ts t) → (b : Bool) → nat_lt n m ≡ b → IsAt m p ts t
  split more true e = let above : n < m = ltb-true n m e in let equal : suc n ≡ m = omega arith in subst (λ k. IsAt k p ts t) equal d
  split more false e = more (ltb-false n m e)

-- tokens of this level are spelled as the tree again, wherever they stand
abbrev pub AgainAs : Printed → Tree → Type 0
AgainAs x t = (p : ℕ) → Respelled (IsAt x.0) placeless_tree p x.1 t

abbrev pub Again : Tree → Type 0
Again t = AgainAs (printed_tree t) t

-- where a level is asked for, there may be brackets
pub at_level : (least : ℕ) (x : Printed) (t : Tree) → least ≤ 7 → AgainAs x t → (p : ℕ) → Respelled (IsAt least) placeless_tree p (at_least least x) t
at_level least x t h again p = split (nat_lt x.0 least) refl where
  split : (b : Bool) → nat_lt x.0 least ≡ b → Respelled (IsAt least) placeless_tree p (if b then in_brackets x.1 else x.1) t
  split true e =
      let r = again (p + 1) in
      let low : 0 ≤ x.0 = omega arith in
      let inside : IsExpr (p + 1) x.1 r.value = lower 0 x.0 (p + 1) x.1 r.value low r.spelled in
      record { value = r.value; spelled = lower least 7 p (in_brackets x.1) r.value h (bracket inside); same = r.same }
  split false e = let r = again p in record { value = r.value; spelled = lower least x.0 p x.1 r.value (ltb-false x.0 least e) r.spelled; same = r.same }

-- ---- each node

left_small : (o : Op) → left_level o ≤ 7
left_small op.Or = omega arith
left_small op.And = omega arith
left_small op.Equal = omega arith
left_small op.NotEqual = omega arith
left_small op.Less = omega arith
left_small op.LessEqual = omega arith
left_small op.Greater = omega arith
left_small op.GreaterEqual = omega arith
left_small op.Add = omega arith
left_small op.Subtract = omega arith
left_small op.Multiply = omega arith
left_small op.Divide = omega arith

right_small : (o : Op) → suc (op_level o) ≤ 7
right_small op.Or = omega arith
right_small op.And = omega arith
right_small op.Equal = omega arith
right_small op.NotEqual = omega arith
right_small op.Less = omega arith
right_small op.LessEqual = omega arith
right_small op.Greater = omega arith
right_small op.GreaterEqual = omega arith
right_small op.Add = omega arith
right_small op.Subtract = omega arith
right_small op.Multiply = omega arith
right_small op.Divide = omega arith

binary_spelled : (o : Op) (p : ℕ) (ts us : List Token) (l r : Tree) → IsAt (left_level o) p ts l → IsAt (suc (op_level o)) (p + length ts + 1) us r
    → IsAt (op_level o) p (ts ++ op_token o ∷ us) (Binary (p + length ts) o l r)
binary_spelled op.Or p ts us l r d e = or_conj d e
binary_spelled op.And p ts us l r d e = and_neg d e
binary_spelled op.Equal p ts us l r d e = compared s.Equal d refl e
binary_spelled op.NotEqual p ts us l r d e = compared s.NotEqual d refl e
binary_spelled op.Less p ts us l r d e = compared s.Less d refl e
binary_spelled op.LessEqual p ts us l r d e = compared s.LessEqual d refl e
binary_spelled op.Greater p ts us l r d e = compared s.Greater d refl e
binary_spelled op.GreaterEqual p ts us l r d e = compared s.GreaterEqual d refl e
binary_spelled op.Add p ts us l r d e = add_term s.Plus d refl e
binary_spelled op.Subtract p ts us l r d e = add_term s.Minus d refl e
binary_spelled op.Multiply p ts us l r d e = times_fact s.Star d refl e
binary_spelled op.Divide p ts us l r d e = times_fact s.Slash d refl e

binary_again : (place : ℕ) (o : Op) (l r : Tree) → Again l → Again r → Again (Binary place o l r)
binary_again place o l r a b = subst (λ x. AgainAs x (Binary place o l r)) (sym (printed_binary place o l r)) as_printed where
  as_printed : AgainAs (op_level o, binary_tokens o (printed_tree l) (printed_tree r)) (Binary place o l r)
  as_printed p =
      let ts = at_least (left_level o) (printed_tree l) in
      let us = at_least (suc (op_level o)) (printed_tree r) in
      let left = at_level (left_level o) (printed_tree l) l (left_small o) a p in
      let right = at_level (suc (op_level o)) (printed_tree r) r (right_small o) b (p + length ts + 1) in
      record {
        value = Binary (p + length ts) o left.value right.value;
        spelled = binary_spelled o p ts us left.value right.value left.spelled right.spelled;
        same = same_binary (p + length ts) place o left.value l right.value r left.same right.same;
      }

negate_again : (place : ℕ) (t : Tree) → Again t → Again (Negate place t)
negate_again place t a = subst (λ x. AgainAs x (Negate place t)) (sym (printed_negate place t)) as_printed where
  as_printed : AgainAs (6, Symbol s.Minus ∷ at_least 6 (printed_tree t)) (Negate place t)
  as_printed p =
      let inner = at_level 6 (printed_tree t) t (omega arith) a (p + 1) in
      record { value = Negate p inner.value; spelled = minus_fact inner.spelled; same = same_negate p place inner.value t inner.same }

not_again : (place : ℕ) (t : Tree) → Again t → Again (Not place t)
not_again place t a = subst (λ x. AgainAs x (Not place t)) (sym (printed_not place t)) as_printed where
  as_printed : AgainAs (2, Word w.Not ∷ at_least 2 (printed_tree t)) (Not place t)
  as_printed p =
      let inner = at_level 2 (printed_tree t) t (omega arith) a (p + 1) in
      record { value = Not p inner.value; spelled = not_neg inner.spelled; same = same_not p place inner.value t inner.same }

null_again : (place : ℕ) (t : Tree) → Again t → Again (IsNull place t)
null_again place t a = subst (λ x. AgainAs x (IsNull place t)) (sym (printed_null place t)) as_printed where
  as_printed : AgainAs (3, null_test_tokens (printed_tree t)) (IsNull place t)
  as_printed p =
      let ts = at_least 4 (printed_tree t) in
      let inner = at_level 4 (printed_tree t) t (omega arith) a p in
      record { value = IsNull (p + length ts) inner.value; spelled = is_null inner.spelled; same = same_null (p + length ts) place inner.value t inner.same }

-- each column is spelled by its tokens
pub column_spelled : (c : ColumnName) → IsColumn (column_tokens c) c
column_spelled c = split c.alias where
  split : (a : Option (List ℕ)) → IsColumn (dotted a c.name) (record { alias = a; name = c.name })
  split None = plain
  split (Some a) = qualified

column_again : (place : ℕ) (c : ColumnName) → Again (Column place c)
column_again place c = subst (λ x. AgainAs x (Column place c)) (sym (printed_column place c)) as_printed where
  as_printed : AgainAs (7, column_tokens c) (Column place c)
  as_printed p = record { value = Column p c; spelled = column (column_spelled c); same = same_column p place c }

literal_again : (place : ℕ) (v : Value) → value_level v ≡ 7 → ((p : ℕ) → IsPrim p (value_tokens v) (Literal p v)) → Again (Literal place v)
literal_again place v e d = subst (λ x. AgainAs x (Literal place v)) (sym (printed_literal place v)) as_printed where
  as_printed : AgainAs (value_level v, value_tokens v) (Literal place v)
  as_printed p = record { value = Literal p v; spelled = subst (λ n. IsAt n p (value_tokens v) (Literal p v)) (sym e) (d p); same = same_literal p place v }

-- ---- aggregates

-- an aggregate is spelled as an aggregate
pub record AggAgain (t : Tree) : Type 0 where
  pub level : (printed_tree t).0 ≡ 7
  pub again : (p : ℕ) → Respelled IsAgg placeless_tree p (printed_tree t).1 t

agg_is_again : (t : Tree) → AggAgain t → Again t
agg_is_again t a p =
    let r = a.again p in
    record { value = r.value; spelled = subst (λ n. IsAt n p (printed_tree t).1 r.value) (sym a.level) (one_agg r.spelled); same = r.same }

pub agg_word : (v : Reserved) (a : Agg) → aggregates v ≡ Some a → agg_token a ≡ Word v
agg_word w.Count a e = ap agg_token (sym (some_same e))
agg_word w.Sum a e = ap agg_token (sym (some_same e))
agg_word w.Min a e = ap agg_token (sym (some_same e))
agg_word w.Max a e = ap agg_token (sym (some_same e))
agg_word _ a e = no_some e

count_again : (place : ℕ) → AggAgain (Aggregate place agg.Count None)
count_again place = record { level = ap (λ (x : Printed). x.0) printed; again = λ p. subst (λ (x : Printed). Respelled IsAgg placeless_tree p x.1 (Aggregate place agg.Count None)) (sym printed) (as_printed p) } where
  printed : printed_tree (Aggregate place agg.Count None) ≡ (7, call_tokens agg.Count None)
  printed = printed_count place agg.Count

  as_printed : (p : ℕ) → Respelled IsAgg placeless_tree p (call_tokens agg.Count None) (Aggregate place agg.Count None)
  as_printed p = record { value = Aggregate p agg.Count None; spelled = count_all; same = same_count p place agg.Count }

call_again : (place : ℕ) (v : Reserved) (a : Agg) (t : Tree) → aggregates v ≡ Some a → Again t → AggAgain (Aggregate place a (Some t))
call_again place v a t e again = record { level = ap (λ (x : Printed). x.0) printed; again = λ p. subst (λ (x : Printed). Respelled IsAgg placeless_tree p x.1 (Aggregate place a (Some t))) (sym printed) (as_printed p) } where
  printed : printed_tree (Aggregate place a (Some t)) ≡ (7, call_tokens a (Some (printed_tree t)))
  printed = printed_call place a t

  as_printed : (p : ℕ) → Respelled IsAgg placeless_tree p (call_tokens a (Some (printed_tree t))) (Aggregate place a (Some t))
  as_printed p =
      let r = again (p + 2) in
      let low : 0 ≤ (printed_tree t).0 = omega arith in
      let inside : IsExpr (p + 2) (printed_tree t).1 r.value = lower 0 (printed_tree t).0 (p + 2) (printed_tree t).1 r.value low r.spelled in
      record {
        value = Aggregate p a (Some r.value);
        spelled = subst (λ (x : Token). IsAgg p (x ∷ in_brackets (printed_tree t).1) (Aggregate p a (Some r.value))) (sym (agg_word v a e)) (aggregate v e inside);
        same = same_call p place a r.value t r.same;
      }

-- ---- what the grammar spells

mutual
  pub expr_again : {p : ℕ} {ts : List Token} {t : Tree} → IsExpr p ts t → Again t
  expr_again (one_conj d) = conj_again d
  expr_again (or_conj {p = p} {ts = ts} {l = l} {r = r} d e) = binary_again (p + length ts) op.Or l r (expr_again d) (conj_again e)

  pub conj_again : {p : ℕ} {ts : List Token} {t : Tree} → IsConj p ts t → Again t
  conj_again (one_neg d) = neg_again d
  conj_again (and_neg {p = p} {ts = ts} {l = l} {r = r} d e) = binary_again (p + length ts) op.And l r (conj_again d) (neg_again e)

  pub neg_again : {p : ℕ} {ts : List Token} {t : Tree} → IsNeg p ts t → Again t
  neg_again (not_neg {p = p} {t = t} d) = not_again p t (neg_again d)
  neg_again (one_pred d) = pred_again d

  pub pred_again : {p : ℕ} {ts : List Token} {t : Tree} → IsPred p ts t → Again t
  pred_again (one_sum d) = sum_again d
  pred_again (compared {p = p} {ts = ts} {l = l} {r = r} sign {o = o} d e f) = binary_again (p + length ts) o l r (sum_again d) (sum_again f)
  pred_again (is_null {p = p} {ts = ts} {t = t} d) = null_again (p + length ts) t (sum_again d)
  pred_again (is_not_null {p = p} {ts = ts} {t = t} d) = not_again (p + length ts) (IsNull (p + length ts) t) (null_again (p + length ts) t (sum_again d))

  pub sum_again : {p : ℕ} {ts : List Token} {t : Tree} → IsSum p ts t → Again t
  sum_again (one_term d) = term_again d
  sum_again (add_term {p = p} {ts = ts} {l = l} {r = r} sign {o = o} d e f) = binary_again (p + length ts) o l r (sum_again d) (term_again f)

  pub term_again : {p : ℕ} {ts : List Token} {t : Tree} → IsTerm p ts t → Again t
  term_again (one_fact d) = fact_again d
  term_again (times_fact {p = p} {ts = ts} {l = l} {r = r} sign {o = o} d e f) = binary_again (p + length ts) o l r (term_again d) (fact_again f)

  pub fact_again : {p : ℕ} {ts : List Token} {t : Tree} → IsFact p ts t → Again t
  fact_again (minus_fact {p = p} {t = t} d) = negate_again p t (fact_again d)
  fact_again (one_prim d) = prim_again d

  pub prim_again : {p : ℕ} {ts : List Token} {t : Tree} → IsPrim p ts t → Again t
  prim_again (number {p = p} {n = n}) = literal_again p (value.Int (pos n)) refl (λ q. number)
  prim_again (text {p = p} {t = t}) = literal_again p (value.Text t) refl (λ q. text)
  prim_again (true_word {p = p}) = literal_again p (value.Bool true) refl (λ q. true_word)
  prim_again (false_word {p = p}) = literal_again p (value.Bool false) refl (λ q. false_word)
  prim_again (column {p = p} {c = c} d) = column_again p c
  prim_again (one_agg {t = t} d) = agg_is_again t (agg_again d)
  prim_again (bracket d) = expr_again d

  pub agg_again : {p : ℕ} {ts : List Token} {t : Tree} → IsAgg p ts t → AggAgain t
  agg_again (count_all {p = p}) = count_again p
  agg_again (aggregate {p = p} {t = t} word {a = a} e d) = call_again p word a t e (expr_again d)

-- a whole expression
pub expr_respelled : {ts : List Token} {t : Tree} (place : ℕ) → IsExpr place ts t → (p : ℕ) → Respelled IsExpr placeless_tree p (tree_tokens t) t
expr_respelled {t = t} place d p =
    let r = expr_again d p in
    let low : 0 ≤ (printed_tree t).0 = omega arith in
    record { value = r.value; spelled = lower 0 (printed_tree t).0 p (printed_tree t).1 r.value low r.spelled; same = r.same }

-- ---- an aggregate of a column

column_roll : (x : Tree-F Tree) → is_column (roll-Tree x) ≡ column_layer x
unfolding is_column
column_roll x = ap column_layer (out-roll-Tree x)

column_placeless : (t : Tree) → is_column (placeless_tree t) ≡ is_column t
column_placeless t = ap (λ u. is_column (placeless_tree u)) (sym (roll-out-Tree t)) ∙ on_layer (out-Tree t) ∙ ap is_column (roll-out-Tree t) where
  layer : (x : Tree-F Tree) → is_column (placeless_node (map-Tree Tree Tree placeless_tree x)) ≡ column_layer x
  layer (Tree-F.Column place c) = ap is_column (sym (rolls-Column 0 c)) ∙ column_roll (Tree-F.Column 0 c)
  layer (Tree-F.Literal place v) = ap is_column (sym (rolls-Literal 0 v)) ∙ column_roll (Tree-F.Literal 0 v)
  layer (Tree-F.Negate place a) = ap is_column (sym (rolls-Negate 0 (placeless_tree a))) ∙ column_roll (Tree-F.Negate 0 (placeless_tree a))
  layer (Tree-F.Binary place o a b) = ap is_column (sym (rolls-Binary 0 o (placeless_tree a) (placeless_tree b))) ∙ column_roll (Tree-F.Binary 0 o (placeless_tree a) (placeless_tree b))
  layer (Tree-F.Not place a) = ap is_column (sym (rolls-Not 0 (placeless_tree a))) ∙ column_roll (Tree-F.Not 0 (placeless_tree a))
  layer (Tree-F.IsNull place a) = ap is_column (sym (rolls-IsNull 0 (placeless_tree a))) ∙ column_roll (Tree-F.IsNull 0 (placeless_tree a))
  layer (Tree-F.Aggregate place a None) = ap is_column (sym (rolls-Aggregate 0 a None)) ∙ column_roll (Tree-F.Aggregate 0 a None)
  layer (Tree-F.Aggregate place a (Some b)) = ap is_column (sym (rolls-Aggregate 0 a (Some (placeless_tree b)))) ∙ column_roll (Tree-F.Aggregate 0 a (Some (placeless_tree b)))

  on_layer : (x : Tree-F Tree) → is_column (placeless_tree (roll-Tree x)) ≡ is_column (roll-Tree x)
  on_layer x = ap is_column (fold-roll-Tree Tree placeless_node x) ∙ layer x ∙ sym (column_roll x)

measure_roll : (x : Tree-F Tree) → of_column (roll-Tree x) ≡ measure_layer x
unfolding of_column
measure_roll x = ap measure_layer (out-roll-Tree x)

measure_placeless : (t : Tree) → of_column (placeless_tree t) ≡ of_column t
measure_placeless t = ap (λ u. of_column (placeless_tree u)) (sym (roll-out-Tree t)) ∙ on_layer (out-Tree t) ∙ ap of_column (roll-out-Tree t) where
  layer : (x : Tree-F Tree) → of_column (placeless_node (map-Tree Tree Tree placeless_tree x)) ≡ measure_layer x
  layer (Tree-F.Column place c) = ap of_column (sym (rolls-Column 0 c)) ∙ measure_roll (Tree-F.Column 0 c)
  layer (Tree-F.Literal place v) = ap of_column (sym (rolls-Literal 0 v)) ∙ measure_roll (Tree-F.Literal 0 v)
  layer (Tree-F.Negate place a) = ap of_column (sym (rolls-Negate 0 (placeless_tree a))) ∙ measure_roll (Tree-F.Negate 0 (placeless_tree a))
  layer (Tree-F.Binary place o a b) = ap of_column (sym (rolls-Binary 0 o (placeless_tree a) (placeless_tree b))) ∙ measure_roll (Tree-F.Binary 0 o (placeless_tree a) (placeless_tree b))
  layer (Tree-F.Not place a) = ap of_column (sym (rolls-Not 0 (placeless_tree a))) ∙ measure_roll (Tree-F.Not 0 (placeless_tree a))
  layer (Tree-F.IsNull place a) = ap of_column (sym (rolls-IsNull 0 (placeless_tree a))) ∙ measure_roll (Tree-F.IsNull 0 (placeless_tree a))
  layer (Tree-F.Aggregate place a None) = ap of_column (sym (rolls-Aggregate 0 a None)) ∙ measure_roll (Tree-F.Aggregate 0 a None)
  layer (Tree-F.Aggregate place a (Some b)) = ap of_column (sym (rolls-Aggregate 0 a (Some (placeless_tree b)))) ∙ measure_roll (Tree-F.Aggregate 0 a (Some (placeless_tree b))) ∙ column_placeless b

  on_layer : (x : Tree-F Tree) → of_column (placeless_tree (roll-Tree x)) ≡ of_column (roll-Tree x)
  on_layer x = ap of_column (fold-roll-Tree Tree placeless_node x) ∙ layer x ∙ sym (measure_roll x)

-- what is the same, places aside, is an aggregate of a column where the other is
pub measure_same : (t u : Tree) → placeless_tree t ≡ placeless_tree u → of_column u ≡ true → of_column t ≡ true
measure_same t u e h = sym (measure_placeless t) ∙ ap of_column e ∙ measure_placeless u ∙ h
