-- What is read is spelled so.
use Rattle.std.proofs.Common.{◌≡◌, ℕ, zero, suc, ◌+◌, pos, Bool, true, false, List, [], ◌∷◌, ◌++◌, length, Option, Some, None, refl, sym, ap, subst, ◌∙◌, arith, append_assoc, length-append}
use Rattle.cal_value.specs.declared.value.Value.TheVariants as value
use Rattle.cal_value.specs.declared.operator.Op.{Op}
use Rattle.cal_value.specs.declared.operator.Op.TheVariants as op
use Rattle.cal_value.specs.declared.operator.Agg.{Agg}
use Rattle.cal_value.specs.declared.operator.Agg.TheVariants as agg
use Rattle.sql_text.specs.declared.token.Reserved.{Reserved}
use Rattle.sql_text.specs.declared.token.Token.{Token}
use Rattle.sql_text.specs.declared.token.Token.TheVariants.{Name, Word, Number, Text, Symbol}
use Rattle.sql_text.specs.declared.token.Reserved.TheVariants as w
use Rattle.sql_text.specs.declared.token.Symbol.{Symbol as Sign}
use Rattle.sql_text.specs.declared.token.Symbol.TheVariants as s
use Rattle.sql_tree.specs.declared.tree.Tree.{Tree}
use Rattle.sql_tree.specs.declared.tree.Tree.TheVariants.{Literal, Binary, Not, IsNull}
use Rattle.sql_tree.specs.declared.tree.ColumnName.{ColumnName}
use Rattle.sql_expressions.specs.declared.expression.Level.{Level}
use Rattle.sql_expressions.specs.declared.expression.Level.TheVariants as level
use Rattle.sql_expressions.specs.declared.expression.Part.{Part}
use Rattle.sql_expressions.specs.declared.expression.Part.TheVariants as part
use Rattle.sql_expressions.specs.Input.{Input, Reader, next, name, number, by_token, same_word, expect_symbol, expect_word}
use Rattle.sql_expressions.specs.Operators.{aggregates}
use Rattle.sql_expressions.specs.Reading.{links, links_first, operator_at, after_operator, linked, chain_from, chain, column, argument}
use Rattle.sql_expressions.specs.Reading as reading
use Rattle.sql_expressions.specs.Grammar as grammar
use Rattle.sql_expressions.specs.Grammar.{count_all, one_agg, one_conj, one_neg, not_neg, one_pred, one_sum, one_term, one_fact, minus_fact, one_prim, true_word, false_word, bracket, IsColumn, plain, qualified, IsExpr, or_conj, IsConj, and_neg, IsNeg, IsPred, compared, IsSum, add_term, IsTerm, times_fact, IsFact, IsPrim, IsAgg, aggregate}
use Rattle.sql_expressions.proofs.Steps.{at, no_some, some_same, bind_some, guard_some, word_same, Took, ate, left_it, symbol_eaten, word_eaten, name_found, number_found, word_expected, symbol_expected}

pub column-sound : (i : Input) (r : ColumnName × Input) → column i ≡ Some r → Took (λ _. IsColumn) i r.0 r.1
unfolding column
column-sound i r e =
    let a = bind_some (name i) _ r e in
    let first = name_found i a.0 a.1 in
    elim (symbol_eaten s.Dot a.0.1) [
      | ate sees after dot place ↦
          let b = bind_some (name (next a.0.1)) _ r (rw (sees, after) at a.2) in
          let second = name_found (next a.0.1) b.0 b.1 in
          subst (λ r. Took (λ _. IsColumn) i r.0 r.1) (some_same b.2) (record {
            tokens = Name a.0.0 ∷ Symbol s.Dot ∷ Name b.0.0 ∷ [];
            split = cc;
            place = omega (arith, first, second);
            spelled = qualified;
          })
      | left_it sees after ↦
          subst (λ r. Took (λ _. IsColumn) i r.0 r.1) (some_same (rw (sees, after) at a.2)) (record {
            tokens = Name a.0.0 ∷ [];
            split = first.0;
            place = omega (arith, first);
            spelled = plain;
          })
    ]

-- what eating an operator did
pub data Operated (l : Level) (i : Input) : Type 0 where
  operator : (x : Token) (o : Op) → operator_at l i ≡ Some o → after_operator l i ≡ next i → links l x ≡ Some o → i.left ≡ x ∷ (next i).left
      → (next i).place ≡ i.place + 1 → Operated l i
  no_operator : operator_at l i ≡ None → after_operator l i ≡ i → Operated l i

pub operator_eaten : (l : Level) (i : Input) → Operated l i
unfolding operator_at after_operator next
operator_eaten l i = eaten i.place i.left where
  by_found : (p : ℕ) (t : Token) (ts : List Token) (found : Option Op) → links l t ≡ found → Operated l (at p (t ∷ ts))
  by_found p t ts None e = no_operator e (rw e refl)
  by_found p t ts (Some o) e = operator t o e (rw e refl) e refl refl

  eaten : (p : ℕ) (ts : List Token) → Operated l (at p ts)
  eaten p [] = no_operator refl refl
  eaten p (t ∷ ts) = by_found p t ts (links l t) refl

-- an operator between two parts
beside : (Left Right Whole : ℕ → List Token → Tree → Type 0) (l : Level)
    (more : (p : ℕ) (ts us : List Token) (x : Token) (o : Op) (left right : Tree) → Left p ts left → links l x ≡ Some o → Right (p + length ts + 1) us right
    → Whole p (ts ++ x ∷ us) (Binary (p + length ts) o left right))
    (i j k m : Input) (left right : Tree) (x : Token) (o : Op) → Took Left i left j → links l x ≡ Some o → j.left ≡ x ∷ k.left → k.place ≡ j.place + 1
    → Took Right k right m → Took Whole i (Binary j.place o left right) m
beside Left Right Whole l more i j k m left right x o a e split place b =
    let start : k.place ≡ i.place + length a.tokens + 1 = omega (arith, a.place) in
    let whole : Whole i.place (a.tokens ++ x ∷ b.tokens) (Binary (i.place + length a.tokens) o left right) =
    more i.place a.tokens b.tokens x o left right a.spelled e (subst (λ p. Right p b.tokens right) start b.spelled) in
    record {
      tokens = a.tokens ++ x ∷ b.tokens;
      split = a.split ∙ ap (λ z. a.tokens ++ z) (split ∙ ap (λ z. x ∷ z) b.split) ∙ sym (append_assoc a.tokens (x ∷ b.tokens) m.left);
      place = simp length-append (omega (arith, a.place, b.place));
      spelled = subst (λ p. Whole i.place (a.tokens ++ x ∷ b.tokens) (Binary p o left right)) (sym a.place) whole;
    }

module _ (l : Level) (operand : Reader Tree) (Low High : ℕ → List Token → Tree → Type 0)
    (one : (p : ℕ) (ts : List Token) (t : Tree) → Low p ts t → High p ts t)
    (more : (p : ℕ) (ts us : List Token) (x : Token) (o : Op) (left right : Tree) → High p ts left → links l x ≡ Some o → Low (p + length ts + 1) us right
    → High p (ts ++ x ∷ us) (Binary (p + length ts) o left right))
    (sound : (i : Input) (r : Tree × Input) → operand i ≡ Some r → Took Low i r.0 r.1) where
  pub chain_from-sound : (n : ℕ) (i : Input) (left : Tree) (j : Input) (r : Tree × Input) → Took High i left j → chain_from l operand n left j ≡ Some r → Took High i r.0 r.1
  unfolding chain_from
  chain_from-sound zero i left j r took e = subst (λ r. Took High i r.0 r.1) (some_same e) took
  chain_from-sound (suc n) i left j r took e =
      elim (operator_eaten l j) [
        | operator x o found after is split place ↦
            let a = bind_some (operand (next j)) _ r (rw (found, after) at e) in
            chain_from-sound n i (Binary j.place o left a.0.0) a.0.1 r (beside High Low High l more i j (next j) a.0.1 left a.0.0 x o took is split place (sound (next j) a.0 a.1)) a.2
        | no_operator found after ↦ subst (λ r. Took High i r.0 r.1) (some_same (rw (found, after) at e)) took
      ]

  pub chain-sound : (i : Input) (r : Tree × Input) → chain l operand i ≡ Some r → Took High i r.0 r.1
  unfolding chain
  chain-sound i r e =
      let a = bind_some (operand i) _ r e in
      let first = sound i a.0 a.1 in
      chain_from-sound (length a.0.1.left) i a.0.0 a.0.1 r (record { tokens = first.tokens; split = first.split; place = first.place; spelled = one _ _ _ first.spelled }) a.2

-- the relation of each part
abbrev pub IsPart : Part → ℕ → List Token → Tree → Type 0
IsPart part.Expression = IsExpr
IsPart part.Negation = IsNeg
IsPart part.Factor = IsFact
IsPart part.Aggregate = IsAgg

abbrev pub Sound : (Part → Reader Tree) → Type 0
Sound nested = (p : Part) (i : Input) (r : Tree × Input) → nested p i ≡ Some r → Took (IsPart p) i r.0 r.1

or_more : (p : ℕ) (ts us : List Token) (x : Token) (o : Op) (left right : Tree) → IsExpr p ts left → links level.Or x ≡ Some o → IsConj (p + length ts + 1) us right
    → IsExpr p (ts ++ x ∷ us) (Binary (p + length ts) o left right)
or_more p ts us (Name n) o left right a e b = no_some e
or_more p ts us (Word v) o left right a e b =
    let g = guard_some (same_word v w.Or) op.Or o e in
    subst (λ o. IsExpr p (ts ++ Word v ∷ us) (Binary (p + length ts) o left right)) g.1
    (subst (λ v. IsExpr p (ts ++ Word v ∷ us) (Binary (p + length ts) op.Or left right)) (sym (word_same v w.Or g.0)) (or_conj a b))
or_more p ts us (Number n) o left right a e b = no_some e
or_more p ts us (Text t) o left right a e b = no_some e
or_more p ts us (Symbol s) o left right a e b = no_some e

and_more : (p : ℕ) (ts us : List Token) (x : Token) (o : Op) (left right : Tree) → IsConj p ts left → links level.And x ≡ Some o → IsNeg (p + length ts + 1) us right
    → IsConj p (ts ++ x ∷ us) (Binary (p + length ts) o left right)
and_more p ts us (Name n) o left right a e b = no_some e
and_more p ts us (Word v) o left right a e b =
    let g = guard_some (same_word v w.And) op.And o e in
    subst (λ o. IsConj p (ts ++ Word v ∷ us) (Binary (p + length ts) o left right)) g.1
    (subst (λ v. IsConj p (ts ++ Word v ∷ us) (Binary (p + length ts) op.And left right)) (sym (word_same v w.And g.0)) (and_neg a b))
and_more p ts us (Number n) o left right a e b = no_some e
and_more p ts us (Text t) o left right a e b = no_some e
and_more p ts us (Symbol s) o left right a e b = no_some e

sum_more : (p : ℕ) (ts us : List Token) (x : Token) (o : Op) (left right : Tree) → IsSum p ts left → links level.Sum x ≡ Some o → IsTerm (p + length ts + 1) us right
    → IsSum p (ts ++ x ∷ us) (Binary (p + length ts) o left right)
sum_more p ts us (Name n) o left right a e b = no_some e
sum_more p ts us (Word v) o left right a e b = no_some e
sum_more p ts us (Number n) o left right a e b = no_some e
sum_more p ts us (Text t) o left right a e b = no_some e
sum_more p ts us (Symbol s) o left right a e b = add_term s a e b

term_more : (p : ℕ) (ts us : List Token) (x : Token) (o : Op) (left right : Tree) → IsTerm p ts left → links level.Term x ≡ Some o → IsFact (p + length ts + 1) us right
    → IsTerm p (ts ++ x ∷ us) (Binary (p + length ts) o left right)
term_more p ts us (Name n) o left right a e b = no_some e
term_more p ts us (Word v) o left right a e b = no_some e
term_more p ts us (Number n) o left right a e b = no_some e
term_more p ts us (Text t) o left right a e b = no_some e
term_more p ts us (Symbol s) o left right a e b = times_fact s a e b

compared_more : (p : ℕ) (ts us : List Token) (x : Token) (o : Op) (left right : Tree) → IsSum p ts left → links level.Comparison x ≡ Some o → IsSum (p + length ts + 1) us right
    → IsPred p (ts ++ x ∷ us) (Binary (p + length ts) o left right)
compared_more p ts us (Name n) o left right a e b = no_some e
compared_more p ts us (Word v) o left right a e b = no_some e
compared_more p ts us (Number n) o left right a e b = no_some e
compared_more p ts us (Text t) o left right a e b = no_some e
compared_more p ts us (Symbol s) o left right a e b = compared s a e b

module _ (nested : Part → Reader Tree) (sound : Sound nested) where
  -- an aggregate from its word on, where the brackets were read
  abbrev Aggregated : Input → Tree × Input → Type 0
  Aggregated i r = Took IsAgg i r.0 r.1

  argument-sound : (word : Reserved) (a : Agg) (i j k : Input) (r : Tree × Input) → aggregates word ≡ Some a → i.left ≡ Word word ∷ j.left → j.place ≡ i.place + 1
      → j.left ≡ Symbol s.Open ∷ k.left → k.place ≡ j.place + 1 → argument nested i.place a k ≡ Some r → Aggregated i r
  unfolding argument
  argument-sound word a i j k r agg first at_first second at_second e =
      let inner = bind_some (nested part.Expression k) _ r e in
      let took = sound part.Expression k inner.0 inner.1 in
      let close = bind_some (expect_symbol s.Close inner.0.1) _ r inner.2 in
      let end = symbol_expected s.Close inner.0.1.place inner.0.1.left close.0 close.1 in
      let start : k.place ≡ i.place + 2 = omega arith in
      subst (Aggregated i) (some_same close.2) (record {
        tokens = Word word ∷ Symbol s.Open ∷ took.tokens ++ Symbol s.Close ∷ [];
        split = first ∙ ap (λ z. Word word ∷ z) (second ∙ ap (λ z. Symbol s.Open ∷ z) (took.split ∙ ap (λ z. took.tokens ++ z) end.0 ∙ sym (append_assoc took.tokens (Symbol s.Close ∷ []) close.0.1.left)));
        place = simp length-append (omega (arith, took.place, end.1));
        spelled = aggregate word agg (subst (λ p. IsExpr p took.tokens inner.0.0) start took.spelled);
      })

  aggregate-sound : (word : Reserved) (a : Agg) (i j : Input) (r : Tree × Input) → aggregates word ≡ Some a → i.left ≡ Word word ∷ j.left → next i ≡ j → j.place ≡ i.place + 1
      → reading.aggregate nested a i ≡ Some r → Aggregated i r
  unfolding reading.aggregate
  aggregate-sound word a i j r agg first is at_first e =
      let open_ = bind_some (expect_symbol s.Open (next i)) _ r e in
      let second = symbol_expected s.Open (next i).place (next i).left open_.0 open_.1 in
      argument-sound word a i j open_.0.1 r agg first at_first (rw (sym is) second.0) (rw (sym is) second.1) open_.2

  count-sound : (i j : Input) (r : Tree × Input) → i.left ≡ Word w.Count ∷ j.left → next i ≡ j → j.place ≡ i.place + 1
      → reading.count nested i ≡ Some r → Aggregated i r
  unfolding reading.count
  count-sound i j r first is at_first e =
      let open_ = bind_some (expect_symbol s.Open (next i)) _ r e in
      let second = symbol_expected s.Open (next i).place (next i).left open_.0 open_.1 in
      let k : Input = open_.0.1 in
      let second_left : j.left ≡ Symbol s.Open ∷ k.left = rw (sym is) second.0 in
      let second_place : k.place ≡ j.place + 1 = rw (sym is) second.1 in
      elim (symbol_eaten s.Star k) [
        | ate sees after star place ↦
            let close = bind_some (expect_symbol s.Close (next k)) _ r (rw (sees, after) at open_.2) in
            let end = symbol_expected s.Close (next k).place (next k).left close.0 close.1 in
            subst (Aggregated i) (some_same close.2) (record {
              tokens = Word w.Count ∷ Symbol s.Open ∷ Symbol s.Star ∷ Symbol s.Close ∷ [];
              split = first ∙ ap (λ z. Word w.Count ∷ z) (second_left ∙ ap (λ z. Symbol s.Open ∷ z) (star ∙ ap (λ z. Symbol s.Star ∷ z) end.0));
              place = omega (arith, end.1);
              spelled = count_all;
            })
        | left_it sees after ↦
            argument-sound w.Count agg.Count i j k r refl first at_first second_left second_place (rw (sees, after) at open_.2)
      ]

  from_aggregate : (i : Input) (r : Tree × Input) → Aggregated i r → Took IsPrim i r.0 r.1
  from_aggregate i r t = record { tokens = t.tokens; split = t.split; place = t.place; spelled = one_agg t.spelled }

  truth-sound : (b : Bool) (word : Reserved) (p : ℕ) (ts : List Token) (r : Tree × Input) → IsPrim p (Word word ∷ []) (Literal p (value.Bool b))
      → reading.truth b (at p (Word word ∷ ts)) ≡ Some r → Took IsPrim (at p (Word word ∷ ts)) r.0 r.1
  unfolding reading.truth next
  truth-sound b word p ts r prim e = subst (λ r. Took IsPrim (at p (Word word ∷ ts)) r.0 r.1) (some_same e) (record {
    tokens = Word word ∷ [];
    split = refl;
    place = refl;
    spelled = prim;
  })

  aggregate_word-sound : (v : Reserved) (p : ℕ) (ts : List Token) (r : Tree × Input) → reading.aggregate_word nested v (at p (Word v ∷ ts)) ≡ Some r
      → Took IsAgg (at p (Word v ∷ ts)) r.0 r.1
  unfolding next
  aggregate_word-sound w.Count p ts r e = count-sound (at p (Word w.Count ∷ ts)) (at (p + 1) ts) r refl refl refl e
  aggregate_word-sound w.Sum p ts r e = aggregate-sound w.Sum agg.Sum (at p (Word w.Sum ∷ ts)) (at (p + 1) ts) r refl refl refl refl e
  aggregate_word-sound w.Min p ts r e = aggregate-sound w.Min agg.Min (at p (Word w.Min ∷ ts)) (at (p + 1) ts) r refl refl refl refl e
  aggregate_word-sound w.Max p ts r e = aggregate-sound w.Max agg.Max (at p (Word w.Max ∷ ts)) (at (p + 1) ts) r refl refl refl refl e
  aggregate_word-sound _ p ts r e = no_some e

  any_aggregate-sound : (p : ℕ) (l : List Token) (r : Tree × Input) → reading.any_aggregate nested (at p l) ≡ Some r → Took IsAgg (at p l) r.0 r.1
  unfolding reading.any_aggregate by_token
  any_aggregate-sound p [] r e = no_some e
  any_aggregate-sound p (Name n ∷ ts) r e = no_some e
  any_aggregate-sound p (Word v ∷ ts) r e = aggregate_word-sound v p ts r e
  any_aggregate-sound p (Number n ∷ ts) r e = no_some e
  any_aggregate-sound p (Text t ∷ ts) r e = no_some e
  any_aggregate-sound p (Symbol s ∷ ts) r e = no_some e

  word-sound : (v : Reserved) (p : ℕ) (ts : List Token) (r : Tree × Input) → reading.primary_word nested v (at p (Word v ∷ ts)) ≡ Some r
      → Took IsPrim (at p (Word v ∷ ts)) r.0 r.1
  word-sound w.True p ts r e = truth-sound true w.True p ts r true_word e
  word-sound w.False p ts r e = truth-sound false w.False p ts r false_word e
  word-sound v p ts r e = from_aggregate (at p (Word v ∷ ts)) r (aggregate_word-sound v p ts r e)

  bracketed-sound : (p : ℕ) (ts : List Token) (r : Tree × Input) → reading.bracketed nested (at (p + 1) ts) ≡ Some r → Took IsPrim (at p (Symbol s.Open ∷ ts)) r.0 r.1
  unfolding reading.bracketed
  bracketed-sound p ts r e =
      let inner = bind_some (nested part.Expression (at (p + 1) ts)) _ r e in
      let took = sound part.Expression (at (p + 1) ts) inner.0 inner.1 in
      let close = bind_some (expect_symbol s.Close inner.0.1) _ r inner.2 in
      let end = symbol_expected s.Close inner.0.1.place inner.0.1.left close.0 close.1 in
      subst (λ r. Took IsPrim (at p (Symbol s.Open ∷ ts)) r.0 r.1) (some_same close.2) (record {
        tokens = Symbol s.Open ∷ took.tokens ++ Symbol s.Close ∷ [];
        split = ap (λ z. Symbol s.Open ∷ z) (took.split ∙ ap (λ z. took.tokens ++ z) end.0 ∙ sym (append_assoc took.tokens (Symbol s.Close ∷ []) close.0.1.left));
        place = simp length-append (omega (arith, took.place, end.1));
        spelled = bracket took.spelled;
      })

  symbol-sound : (v : Sign) (p : ℕ) (ts : List Token) (r : Tree × Input) → reading.primary_symbol nested v (at p (Symbol v ∷ ts)) ≡ Some r
      → Took IsPrim (at p (Symbol v ∷ ts)) r.0 r.1
  unfolding next
  symbol-sound s.Open p ts r e = bracketed-sound p ts r e
  symbol-sound _ p ts r e = no_some e

  primary-sound : (p : ℕ) (l : List Token) (r : Tree × Input) → reading.primary nested (at p l) ≡ Some r → Took IsPrim (at p l) r.0 r.1
  unfolding reading.primary by_token next
  primary-sound p [] r e = no_some e
  primary-sound p (Name n ∷ ts) r e =
      let c = bind_some (column (at p (Name n ∷ ts))) _ r e in
      let took = column-sound (at p (Name n ∷ ts)) c.0 c.1 in
      subst (λ r. Took IsPrim (at p (Name n ∷ ts)) r.0 r.1) (some_same c.2) (record {
        tokens = took.tokens;
        split = took.split;
        place = took.place;
        spelled = grammar.column took.spelled;
      })
  primary-sound p (Word v ∷ ts) r e = word-sound v p ts r e
  primary-sound p (Number z ∷ ts) r e =
      let c = bind_some (number (at p (Number z ∷ ts))) _ r e in
      let found = number_found (at p (Number z ∷ ts)) c.0 c.1 in
      subst (λ r. Took IsPrim (at p (Number z ∷ ts)) r.0 r.1) (some_same c.2) (record {
        tokens = Number (pos found.0) ∷ [];
        split = found.2;
        place = found.3;
        spelled = subst (λ z. IsPrim p (Number (pos found.0) ∷ []) (Literal p (value.Int z))) (sym found.1) grammar.number;
      })
  primary-sound p (Text t ∷ ts) r e = subst (λ r. Took IsPrim (at p (Text t ∷ ts)) r.0 r.1) (some_same e) (record {
    tokens = Text t ∷ [];
    split = refl;
    place = refl;
    spelled = grammar.text;
  })
  primary-sound p (Symbol v ∷ ts) r e = symbol-sound v p ts r e

  factor-sound : (i : Input) (r : Tree × Input) → reading.factor nested i ≡ Some r → Took IsFact i r.0 r.1
  unfolding reading.factor
  factor-sound i r e = elim (symbol_eaten s.Minus i) [
    | ate sees after first place ↦
        let inner = bind_some (nested part.Factor (next i)) _ r (rw (sees, after) at e) in
        let took = sound part.Factor (next i) inner.0 inner.1 in
        subst (λ r. Took IsFact i r.0 r.1) (some_same inner.2) (record {
          tokens = Symbol s.Minus ∷ took.tokens;
          split = first ∙ ap (λ z. Symbol s.Minus ∷ z) took.split;
          place = omega (arith, took.place);
          spelled = minus_fact (subst (λ p. IsFact p took.tokens inner.0.0) place took.spelled);
        })
    | left_it sees after ↦
        let took = primary-sound i.place i.left r (rw (sees, after) at e) in
        record { tokens = took.tokens; split = took.split; place = took.place; spelled = one_prim took.spelled }
  ]

  term-sound : (i : Input) (r : Tree × Input) → reading.term nested i ≡ Some r → Took IsTerm i r.0 r.1
  unfolding reading.term
  term-sound = chain-sound level.Term (reading.factor nested) IsFact IsTerm (λ p ts t. one_fact) term_more factor-sound

  sum-sound : (i : Input) (r : Tree × Input) → reading.sum nested i ≡ Some r → Took IsSum i r.0 r.1
  unfolding reading.sum
  sum-sound = chain-sound level.Sum (reading.term nested) IsTerm IsSum (λ p ts t. one_term) sum_more term-sound

  is_null-sound : (i j k : Input) (left : Tree) (r : Tree × Input) → Took IsSum i left j → j.left ≡ Word w.Is ∷ k.left → k.place ≡ j.place + 1
      → reading.is_null j.place left k ≡ Some r → Took IsPred i r.0 r.1
  unfolding reading.is_null
  is_null-sound i j k left r sum is is_place e = elim (word_eaten w.Not k) [
    | ate sees after not_ place ↦
        let null = bind_some (expect_word w.Null (next k)) _ r (rw (sees, after) at e) in
        let end = word_expected w.Null (next k).place (next k).left null.0 null.1 in
        subst (λ r. Took IsPred i r.0 r.1) (some_same null.2) (record {
          tokens = sum.tokens ++ Word w.Is ∷ Word w.Not ∷ Word w.Null ∷ [];
          split = sum.split ∙ ap (λ z. sum.tokens ++ z) (is ∙ ap (λ z. Word w.Is ∷ z) (not_ ∙ ap (λ z. Word w.Not ∷ z) end.0))
              ∙ sym (append_assoc sum.tokens (Word w.Is ∷ Word w.Not ∷ Word w.Null ∷ []) null.0.1.left);
          place = simp length-append (omega (arith, sum.place, end.1));
          spelled = subst (λ p. IsPred i.place (sum.tokens ++ Word w.Is ∷ Word w.Not ∷ Word w.Null ∷ []) (Not p (IsNull p left))) (sym sum.place) (grammar.is_not_null sum.spelled);
        })
    | left_it sees after ↦
        let null = bind_some (expect_word w.Null k) _ r (rw (sees, after) at e) in
        let end = word_expected w.Null k.place k.left null.0 null.1 in
        subst (λ r. Took IsPred i r.0 r.1) (some_same null.2) (record {
          tokens = sum.tokens ++ Word w.Is ∷ Word w.Null ∷ [];
          split = sum.split ∙ ap (λ z. sum.tokens ++ z) (is ∙ ap (λ z. Word w.Is ∷ z) end.0)
              ∙ sym (append_assoc sum.tokens (Word w.Is ∷ Word w.Null ∷ []) null.0.1.left);
          place = simp length-append (omega (arith, sum.place, end.1));
          spelled = subst (λ p. IsPred i.place (sum.tokens ++ Word w.Is ∷ Word w.Null ∷ []) (IsNull p left)) (sym sum.place) (grammar.is_null sum.spelled);
        })
  ]

  comparison-sound : (i j : Input) (left : Tree) (r : Tree × Input) → Took IsSum i left j → reading.comparison nested j.place left j ≡ Some r → Took IsPred i r.0 r.1
  unfolding reading.comparison
  comparison-sound i j left r sum e = elim (operator_eaten level.Comparison j) [
    | operator x o found after is split place ↦
        let a = bind_some (reading.sum nested (next j)) _ r (rw (found, after) at e) in
        subst (λ r. Took IsPred i r.0 r.1) (some_same a.2)
        (beside IsSum IsSum IsPred level.Comparison compared_more i j (next j) a.0.1 left a.0.0 x o sum is split place (sum-sound (next j) a.0 a.1))
    | no_operator found after ↦
        subst (λ r. Took IsPred i r.0 r.1) (some_same (rw (found, after) at e))
        (record { tokens = sum.tokens; split = sum.split; place = sum.place; spelled = one_sum sum.spelled })
  ]

  predicate-sound : (i : Input) (r : Tree × Input) → reading.predicate nested i ≡ Some r → Took IsPred i r.0 r.1
  unfolding reading.predicate
  predicate-sound i r e =
      let left = bind_some (reading.sum nested i) _ r e in
      let sum = sum-sound i left.0 left.1 in
      elim (word_eaten w.Is left.0.1) [
        | ate sees after is place ↦ is_null-sound i left.0.1 (next left.0.1) left.0.0 r sum is place (rw (sees, after) at left.2)
        | left_it sees after ↦ comparison-sound i left.0.1 left.0.0 r sum (rw (sees, after) at left.2)
      ]

  negation-sound : (i : Input) (r : Tree × Input) → reading.negation nested i ≡ Some r → Took IsNeg i r.0 r.1
  unfolding reading.negation
  negation-sound i r e = elim (word_eaten w.Not i) [
    | ate sees after first place ↦
        let inner = bind_some (nested part.Negation (next i)) _ r (rw (sees, after) at e) in
        let took = sound part.Negation (next i) inner.0 inner.1 in
        subst (λ r. Took IsNeg i r.0 r.1) (some_same inner.2) (record {
          tokens = Word w.Not ∷ took.tokens;
          split = first ∙ ap (λ z. Word w.Not ∷ z) took.split;
          place = omega (arith, took.place);
          spelled = not_neg (subst (λ p. IsNeg p took.tokens inner.0.0) place took.spelled);
        })
    | left_it sees after ↦
        let took = predicate-sound i r (rw (sees, after) at e) in
        record { tokens = took.tokens; split = took.split; place = took.place; spelled = one_pred took.spelled }
  ]

  conjunction-sound : (i : Input) (r : Tree × Input) → reading.conjunction nested i ≡ Some r → Took IsConj i r.0 r.1
  unfolding reading.conjunction
  conjunction-sound = chain-sound level.And (reading.negation nested) IsNeg IsConj (λ p ts t. one_neg) and_more negation-sound

  disjunction-sound : (i : Input) (r : Tree × Input) → reading.disjunction nested i ≡ Some r → Took IsExpr i r.0 r.1
  unfolding reading.disjunction
  disjunction-sound = chain-sound level.Or (reading.conjunction nested) IsConj IsExpr (λ p ts t. one_conj) or_more conjunction-sound

  pub part-sound : Sound (reading.part_by nested)
  part-sound part.Expression i r e = disjunction-sound i r e
  part-sound part.Negation i r e = negation-sound i r e
  part-sound part.Factor i r e = factor-sound i r e
  part-sound part.Aggregate i r e = any_aggregate-sound i.place i.left r e

-- each part that is read is spelled so
pub reads_part-sound : (depth : ℕ) → Sound (reading.reads_part depth)
unfolding reading.reads_part
reads_part-sound zero p i r e = no_some e
reads_part-sound (suc depth) p i r e = part-sound (reading.reads_part depth) (reads_part-sound depth) p i r e
