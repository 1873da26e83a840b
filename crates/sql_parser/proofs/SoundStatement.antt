-- What is read of a statement is spelled so.
use Rattle.std.proofs.Common.{◌≡◌, ℕ, ◌+◌, ◌≤◌, pos, int_le, neg_ℤ, nat_abs, Bool, true, false, ◌&&◌, List, [], ◌∷◌, ◌++◌, length, Option, Some, None, refl, sym, ap, subst, ◌∙◌, arith, append_assoc, append-nil, length-append}
use Rattle.std.proofs.lemmas.Bool.{leb-true}
use Rattle.cal_value.specs.declared.value.Value.{Value}
use Rattle.cal_value.specs.declared.value.Value.TheVariants as value
use Rattle.sql_text.specs.declared.token.Token.{Token}
use Rattle.sql_text.specs.declared.token.Token.TheVariants.{Name, Word, Number, Text, Symbol}
use Rattle.sql_text.specs.declared.token.Reserved.{Reserved}
use Rattle.sql_text.specs.declared.token.Reserved.TheVariants as w
use Rattle.sql_text.specs.declared.token.Symbol.TheVariants as s
use Rattle.sql_tree.specs.declared.tree.Tree.{Tree}
use Rattle.sql_tree.specs.declared.tree.ColumnName.{ColumnName}
use Rattle.sql_tree.specs.declared.select.TableName.{TableName}
use Rattle.sql_tree.specs.declared.select.Select.{Select}
use Rattle.sql_tree.specs.declared.statement.TileText.{TileText}
use Rattle.sql_tree.specs.declared.statement.Statement.{Statement}
use Rattle.sql_tree.specs.declared.statement.Statement.TheVariants as statement
use Rattle.sql_expressions.specs.declared.expression.Part.TheVariants as part
use Rattle.sql_expressions.specs.Input.{Input, pure, next, number, by_token, expect_word, expect_symbol, after_symbol}
use Rattle.sql_expressions.specs.Reading.{column, aggregation}
use Rattle.sql_parser.specs.ReadingList.{separated, table}
use Rattle.sql_parser.specs.ReadingSelect.{select}
use Rattle.sql_parser.specs.ReadingStatement as reading
use Rattle.sql_parser.specs.Grammar as grammar
use Rattle.sql_expressions.specs.Grammar.{IsAgg}
use Rattle.sql_parser.specs.Grammar.{of_column, IsColumnAt, Separated, IsTable, IsSelect, IsLit, IsRow, AreDims, IsMeasure, AreMeasures, IsTile, IsBody, Spells}
use Rattle.sql_expressions.proofs.Steps.{at, no_some, some_same, bind_some, guard_reader, Took, ate, left_it, symbol_eaten, word_eaten, number_found, word_expected, symbol_expected}
use Rattle.sql_expressions.proofs.Sound.{reads_part-sound}
use Rattle.sql_parser.proofs.SoundList.{behind, closed, alone, nothing, seen_as, separated-sound, TableAt, table-sound}
use Rattle.sql_parser.proofs.SoundSelect.{column_at-sound, select-sound}

-- ---- rows

literal_word-sound : (v : Reserved) (p : ℕ) (ts : List Token) (r : Value × Input) → reading.literal_word v (at p (Word v ∷ ts)) ≡ Some r → Took IsLit (at p (Word v ∷ ts)) r.0 r.1
unfolding next
literal_word-sound w.True p ts r e = subst (λ r. Took IsLit (at p (Word w.True ∷ ts)) r.0 r.1) (some_same e) (alone (Word w.True) IsLit _ _ _ grammar.true_lit refl refl)
literal_word-sound w.False p ts r e = subst (λ r. Took IsLit (at p (Word w.False ∷ ts)) r.0 r.1) (some_same e) (alone (Word w.False) IsLit _ _ _ grammar.false_lit refl refl)
literal_word-sound w.Null p ts r e = subst (λ r. Took IsLit (at p (Word w.Null ∷ ts)) r.0 r.1) (some_same e) (alone (Word w.Null) IsLit _ _ _ grammar.null_lit refl refl)
literal_word-sound _ p ts r e = no_some e

plain_literal-sound : (p : ℕ) (l : List Token) (r : Value × Input) → reading.plain_literal (at p l) ≡ Some r → Took IsLit (at p l) r.0 r.1
unfolding reading.plain_literal by_token next
plain_literal-sound p [] r e = no_some e
plain_literal-sound p (Name n ∷ ts) r e = no_some e
plain_literal-sound p (Word v ∷ ts) r e = literal_word-sound v p ts r e
plain_literal-sound p (Number z ∷ ts) r e =
    let a = bind_some (number (at p (Number z ∷ ts))) _ r e in
    let found = number_found (at p (Number z ∷ ts)) a.0 a.1 in
    subst (λ r. Took IsLit (at p (Number z ∷ ts)) r.0 r.1) (some_same a.2)
    (subst (λ m. Took IsLit (at p (Number z ∷ ts)) (value.Int m) a.0.1) (sym found.1) (alone (Number (pos found.0)) IsLit _ _ _ grammar.number_lit found.2 found.3))
plain_literal-sound p (Text t ∷ ts) r e = subst (λ r. Took IsLit (at p (Text t ∷ ts)) r.0 r.1) (some_same e) (alone (Text t) IsLit _ _ _ grammar.text_lit refl refl)
plain_literal-sound p (Symbol s ∷ ts) r e = no_some e

literal-sound : (i : Input) (r : Value × Input) → reading.literal i ≡ Some r → Took IsLit i r.0 r.1
unfolding reading.literal
literal-sound i r e = elim (symbol_eaten s.Minus i) [
  | ate sees after first place ↦
      let a = bind_some (number (next i)) _ r (rw (sees, after) at e) in
      let found = number_found (next i) a.0 a.1 in
      subst (λ r. Took IsLit i r.0 r.1) (some_same a.2)
      (subst (λ z. Took IsLit i (value.Int (neg_ℤ z)) a.0.1) (sym found.1) (negative i (next i) a.0.1 found.0 first place found.2 found.3))
  | left_it sees after ↦ plain_literal-sound i.place i.left r (rw (sees, after) at e)
] where
  negative : (i j k : Input) (n : ℕ) → i.left ≡ Symbol s.Minus ∷ j.left → j.place ≡ i.place + 1 → j.left ≡ Number (pos n) ∷ k.left → k.place ≡ j.place + 1
      → Took IsLit i (value.Int (neg_ℤ (pos n))) k
  negative i j k n first first_place second second_place = record {
    tokens = Symbol s.Minus ∷ Number (pos n) ∷ [];
    split = first ∙ ap (λ l. Symbol s.Minus ∷ l) second;
    place = omega arith;
    spelled = grammar.minus_number_lit;
  }

-- brackets round what was taken
bracketed : {B C : Type 0} (Q : ℕ → List Token → B → Type 0) (R : ℕ → List Token → C → Type 0) (i j k m : Input) (y : B) (z : C)
    → ((us : List Token) → Q (i.place + 1) us y → R i.place (Symbol s.Open ∷ us ++ Symbol s.Close ∷ []) z) → i.left ≡ Symbol s.Open ∷ j.left → j.place ≡ i.place + 1
    → Took Q j y k → k.left ≡ Symbol s.Close ∷ m.left → m.place ≡ k.place + 1 → Took R i z m
bracketed Q R i j k m y z whole first place b end end_place = record {
  tokens = Symbol s.Open ∷ b.tokens ++ Symbol s.Close ∷ [];
  split = first ∙ ap (λ l. Symbol s.Open ∷ l) (b.split ∙ ap (λ l. b.tokens ++ l) end ∙ sym (append_assoc b.tokens (Symbol s.Close ∷ []) m.left));
  place = simp length-append (omega (arith, b.place));
  spelled = whole b.tokens (subst (λ p. Q p b.tokens y) place b.spelled);
}

row-sound : (i : Input) (r : List Value × Input) → reading.row i ≡ Some r → Took IsRow i r.0 r.1
unfolding reading.row
row-sound i r e =
    let a = bind_some (expect_symbol s.Open i) _ r e in
    let first = symbol_expected s.Open i.place i.left a.0 a.1 in
    let b = bind_some (separated reading.literal a.0.1) _ r a.2 in
    let c = bind_some (expect_symbol s.Close b.0.1) _ r b.2 in
    let end = symbol_expected s.Close b.0.1.place b.0.1.left c.0 c.1 in
    subst (λ r. Took IsRow i r.0 r.1) (some_same c.2)
    (bracketed (Separated IsLit) IsRow i a.0.1 b.0.1 c.0.1 b.0.0 b.0.0 (λ us d. grammar.row d) first.0 first.1
    (separated-sound reading.literal IsLit literal-sound a.0.1 b.0 b.1) end.0 end.1)

-- ---- bodies, from the first token on

abbrev pub Body : ℕ → List Token → Statement → Type 0
Body p = IsBody

whole_insert : (i j k m n o : Input) (t : TableName) (rows : List (List Value)) → i.place ≡ 0 → i.left ≡ Word w.Insert ∷ j.left → j.place ≡ i.place + 1
    → j.left ≡ Word w.Into ∷ k.left → k.place ≡ j.place + 1 → Took TableAt k t m → m.left ≡ Word w.Values ∷ n.left → n.place ≡ m.place + 1
    → Took (Separated IsRow) n rows o → Took Body i (statement.Insert t rows) o
whole_insert i j k m n o t rows start first first_place second second_place ts third third_place rs =
    let at_rows : n.place ≡ 2 + length ts.tokens + 1 = omega (arith, ts.place) in
    record {
      tokens = Word w.Insert ∷ Word w.Into ∷ ts.tokens ++ Word w.Values ∷ rs.tokens;
      split = first ∙ ap (λ l. Word w.Insert ∷ l) (second ∙ ap (λ l. Word w.Into ∷ l) (ts.split ∙ ap (λ l. ts.tokens ++ l) (third ∙ ap (λ l. Word w.Values ∷ l) rs.split)
          ∙ sym (append_assoc ts.tokens (Word w.Values ∷ rs.tokens) o.left)));
      place = simp length-append (omega (arith, ts.place, rs.place));
      spelled = grammar.insert ts.spelled (subst (λ p. Separated IsRow p rs.tokens rows) at_rows rs.spelled);
    }

insert-sound : (i j : Input) (r : Statement × Input) → i.place ≡ 0 → i.left ≡ Word w.Insert ∷ j.left → j.place ≡ i.place + 1 → reading.insert j ≡ Some r → Took Body i r.0 r.1
unfolding reading.insert
insert-sound i j r start first place e =
    let a = bind_some (expect_word w.Into j) _ r e in
    let second = word_expected w.Into j.place j.left a.0 a.1 in
    let b = bind_some (table a.0.1) _ r a.2 in
    let c = bind_some (expect_word w.Values b.0.1) _ r b.2 in
    let third = word_expected w.Values b.0.1.place b.0.1.left c.0 c.1 in
    let d = bind_some (separated reading.row c.0.1) _ r c.2 in
    subst (λ r. Took Body i r.0 r.1) (some_same d.2)
    (whole_insert i j a.0.1 b.0.1 c.0.1 d.0.1 b.0.0 d.0.0 start first place second.0 second.1 (table-sound a.0.1 b.0 b.1) third.0 third.1
    (separated-sound reading.row IsRow row-sound c.0.1 d.0 d.1))

-- three words, and what follows them
three_words : {B C : Type 0} (u v x : Reserved) (Q : ℕ → List Token → B → Type 0) (R : ℕ → List Token → C → Type 0) (i j k m o : Input) (y : B) (z : C) → i.place ≡ 0
    → ((us : List Token) → Q 3 us y → R i.place (Word u ∷ Word v ∷ Word x ∷ us) z) → i.left ≡ Word u ∷ j.left → j.place ≡ i.place + 1
    → j.left ≡ Word v ∷ k.left → k.place ≡ j.place + 1 → k.left ≡ Word x ∷ m.left → m.place ≡ k.place + 1 → Took Q m y o → Took R i z o
three_words u v x Q R i j k m o y z start whole first first_place second second_place third third_place b =
    let begins : m.place ≡ 3 = omega arith in
    record {
      tokens = Word u ∷ Word v ∷ Word x ∷ b.tokens;
      split = first ∙ ap (λ l. Word u ∷ l) (second ∙ ap (λ l. Word v ∷ l) (third ∙ ap (λ l. Word x ∷ l) b.split));
      place = omega (arith, b.place);
      spelled = whole b.tokens (subst (λ p. Q p b.tokens y) begins b.spelled);
    }

-- SELECT and what follows it, where the word was expected
select_behind : (n : ℕ) (i : Input) (a : Unit {0} × Input) (r : Select × Input) → expect_word w.Select i ≡ Some a → select n a.1 ≡ Some r → Took IsSelect i r.0 r.1
select_behind n i a r e f = let first = word_expected w.Select i.place i.left a e in select-sound n i a.1 r first.0 first.1 f

explain_plan-sound : (n : ℕ) (i j k : Input) (r : Statement × Input) → i.place ≡ 0 → i.left ≡ Word w.Explain ∷ j.left → j.place ≡ i.place + 1
    → j.left ≡ Word w.Plan ∷ k.left → k.place ≡ j.place + 1 → reading.explain_plan n k ≡ Some r → Took Body i r.0 r.1
unfolding reading.explain_plan
explain_plan-sound n i j k r start first place second second_place e =
    let a = bind_some (expect_word w.For k) _ r e in
    let third = word_expected w.For k.place k.left a.0 a.1 in
    let b = bind_some (expect_word w.Select a.0.1) _ r a.2 in
    let c = bind_some (select n b.0.1) _ r b.2 in
    subst (λ r. Took Body i r.0 r.1) (some_same c.2)
    (three_words w.Explain w.Plan w.For IsSelect Body i j k a.0.1 c.0.1 c.0.0 (statement.ExplainPlan c.0.0) start (λ us d. grammar.explain_plan d) first place second second_place third.0 third.1
    (select_behind n a.0.1 b.0 c.0 b.1 c.1))

explain_memo-sound : (n : ℕ) (i j : Input) (r : Statement × Input) → i.place ≡ 0 → i.left ≡ Word w.Explain ∷ j.left → j.place ≡ i.place + 1
    → reading.explain_memo n j ≡ Some r → Took Body i r.0 r.1
unfolding reading.explain_memo
explain_memo-sound n i j r start first place e =
    let z = bind_some (expect_word w.Memo j) _ r e in
    let second = word_expected w.Memo j.place j.left z.0 z.1 in
    let a = bind_some (expect_word w.For z.0.1) _ r z.2 in
    let third = word_expected w.For z.0.1.place z.0.1.left a.0 a.1 in
    let b = bind_some (expect_word w.Select a.0.1) _ r a.2 in
    let c = bind_some (select n b.0.1) _ r b.2 in
    subst (λ r. Took Body i r.0 r.1) (some_same c.2)
    (three_words w.Explain w.Memo w.For IsSelect Body i j z.0.1 a.0.1 c.0.1 c.0.0 (statement.ExplainMemo c.0.0) start (λ us d. grammar.explain_memo d) first place second.0 second.1 third.0 third.1
    (select_behind n a.0.1 b.0 c.0 b.1 c.1))

explain-sound : (n : ℕ) (i j : Input) (r : Statement × Input) → i.place ≡ 0 → i.left ≡ Word w.Explain ∷ j.left → j.place ≡ i.place + 1 → reading.explain n j ≡ Some r → Took Body i r.0 r.1
unfolding reading.explain
explain-sound n i j r start first place e = elim (word_eaten w.Plan j) [
  | ate sees after second second_place ↦ explain_plan-sound n i j (next j) r start first place second second_place (rw (sees, after) at e)
  | left_it sees after ↦ explain_memo-sound n i j r start first place (rw (sees, after) at e)
]

refresh-sound : (i j : Input) (r : Statement × Input) → i.left ≡ Word w.Refresh ∷ j.left → j.place ≡ i.place + 1 → reading.refresh j ≡ Some r → Took Body i r.0 r.1
unfolding reading.refresh
refresh-sound i j r first place e =
    let a = bind_some (expect_word w.Table j) _ r e in
    let second = word_expected w.Table j.place j.left a.0 a.1 in
    let b = bind_some (table a.0.1) _ r a.2 in
    subst (λ r. Took Body i r.0 r.1) (some_same b.2)
    (whole_refresh i j a.0.1 b.0.1 b.0.0 first place second.0 second.1 (table-sound a.0.1 b.0 b.1)) where
      whole_refresh : (i j k m : Input) (t : TableName) → i.left ≡ Word w.Refresh ∷ j.left → j.place ≡ i.place + 1 → j.left ≡ Word w.Table ∷ k.left → k.place ≡ j.place + 1
          → Took TableAt k t m → Took Body i (statement.Refresh t) m
      whole_refresh i j k m t first first_place second second_place ts = record {
        tokens = Word w.Refresh ∷ Word w.Table ∷ ts.tokens;
        split = first ∙ ap (λ l. Word w.Refresh ∷ l) (second ∙ ap (λ l. Word w.Table ∷ l) ts.split);
        place = omega (arith, ts.place);
        spelled = grammar.refresh ts.spelled;
      }

-- ---- tiles

-- the dimensions and the bracket behind them
pub data Dims : ℕ → List Token → List ColumnName → Type 0 where
  closed_dims : {p : ℕ} {ts : List Token} {cs : List ColumnName} → AreDims p ts cs → Dims p (ts ++ Symbol s.Close ∷ []) cs

dims-sound : (i : Input) (r : List ColumnName × Input) → reading.dims i ≡ Some r → Took Dims i r.0 r.1
unfolding reading.dims
dims-sound i r e = elim (symbol_eaten s.Close i) [
  | ate sees after first place ↦
      subst (λ r. Took Dims i r.0 r.1) (some_same (rw (sees, after) at e)) (alone (Symbol s.Close) Dims i (next i) [] (closed_dims grammar.no_dims) first place)
  | left_it sees after ↦
      let a = bind_some (separated column i) _ r (rw (sees, after) at e) in
      let b = bind_some (expect_symbol s.Close a.0.1) _ r a.2 in
      let end = symbol_expected s.Close a.0.1.place a.0.1.left b.0 b.1 in
      subst (λ r. Took Dims i r.0 r.1) (some_same b.2)
      (closed (Symbol s.Close) (Separated IsColumnAt) Dims i a.0.1 b.0.1 a.0.0 a.0.0 (λ ts d. closed_dims (grammar.dims d))
      (separated-sound column IsColumnAt column_at-sound i a.0 a.1) end.0 end.1)
]

aggregation-sound : (n : ℕ) (i : Input) (r : Tree × Input) → aggregation n i ≡ Some r → Took IsAgg i r.0 r.1
unfolding aggregation
aggregation-sound n i r e = reads_part-sound n part.Aggregate i r e

measure-sound : (n : ℕ) (i : Input) (r : Tree × Input) → reading.measure n i ≡ Some r → Took IsMeasure i r.0 r.1
unfolding reading.measure
measure-sound n i r e =
    let a = bind_some (aggregation n i) _ r e in
    let g = guard_reader (of_column a.0.0) (pure a.0.0) a.0.1 r a.2 in
    subst (λ r. Took IsMeasure i r.0 r.1) (some_same g.1)
    (seen_as IsAgg IsMeasure i a.0.1 a.0.0 a.0.0 (λ ts d. grammar.measure d g.0) (aggregation-sound n i a.0 a.1))

whole_measures : (i j k m o : Input) (ms : List Tree) → i.left ≡ Word w.Measures ∷ j.left → j.place ≡ i.place + 1 → j.left ≡ Symbol s.Open ∷ k.left → k.place ≡ j.place + 1
    → Took (Separated IsMeasure) k ms m → m.left ≡ Symbol s.Close ∷ o.left → o.place ≡ m.place + 1 → Took AreMeasures i (Some ms) o
whole_measures i j k m o ms first first_place second second_place b end end_place =
    let start : k.place ≡ i.place + 2 = omega arith in
    record {
      tokens = Word w.Measures ∷ Symbol s.Open ∷ b.tokens ++ Symbol s.Close ∷ [];
      split = first ∙ ap (λ l. Word w.Measures ∷ l) (second ∙ ap (λ l. Symbol s.Open ∷ l) (b.split ∙ ap (λ l. b.tokens ++ l) end ∙ sym (append_assoc b.tokens (Symbol s.Close ∷ []) o.left)));
      place = simp length-append (omega (arith, b.place));
      spelled = grammar.measures (subst (λ p. Separated IsMeasure p b.tokens ms) start b.spelled);
    }

measures-sound : (n : ℕ) (i : Input) (r : Option (List Tree) × Input) → reading.measures n i ≡ Some r → Took AreMeasures i r.0 r.1
unfolding reading.measures
measures-sound n i r e = elim (word_eaten w.Measures i) [
  | ate sees after first place ↦
      let a = bind_some (expect_symbol s.Open (next i)) _ r (rw (sees, after) at e) in
      let second = symbol_expected s.Open (next i).place (next i).left a.0 a.1 in
      let b = bind_some (separated (reading.measure n) a.0.1) _ r a.2 in
      let c = bind_some (expect_symbol s.Close b.0.1) _ r b.2 in
      let end = symbol_expected s.Close b.0.1.place b.0.1.left c.0 c.1 in
      subst (λ r. Took AreMeasures i r.0 r.1) (some_same c.2)
      (whole_measures i (next i) a.0.1 b.0.1 c.0.1 b.0.0 first place second.0 second.1
      (separated-sound (reading.measure n) IsMeasure (measure-sound n) a.0.1 b.0 b.1) end.0 end.1)
  | left_it sees after ↦ subst (λ r. Took AreMeasures i r.0 r.1) (some_same (rw (sees, after) at e)) (nothing AreMeasures i None grammar.no_measures)
]

-- from the word ON
whole_tile : (i j k m o q : Input) (t : TableName) (cs : List ColumnName) (xs : Option (List Tree)) → i.left ≡ Word w.On ∷ j.left → j.place ≡ i.place + 1 → Took TableAt j t k
    → k.left ≡ Symbol s.Open ∷ m.left → m.place ≡ k.place + 1 → Took Dims m cs o → Took AreMeasures o xs q → Took IsTile i (record { lattice = t; dims = cs; measures = xs }) q
whole_tile i j k m o q t cs xs first first_place ts second second_place ds ms = by_dims ds.tokens ds.split ds.place ds.spelled where
  by_dims : (us : List Token) → m.left ≡ us ++ o.left → o.place ≡ m.place + length us → Dims m.place us cs → Took IsTile i (record { lattice = t; dims = cs; measures = xs }) q
  by_dims us split place (closed_dims {ts = us'} d) =
      let at_dims : m.place ≡ i.place + 1 + length ts.tokens + 1 = omega (arith, ts.place) in
      let length_is : length (us' ++ Symbol s.Close ∷ []) ≡ length us' + 1 = length-append us' (Symbol s.Close ∷ []) in
      let at_measures : o.place ≡ i.place + 1 + length ts.tokens + 1 + length us' + 1 = omega (arith, ts.place, length_is) in
      record {
        tokens = Word w.On ∷ ts.tokens ++ (Symbol s.Open ∷ us' ++ Symbol s.Close ∷ ms.tokens);
        split = first ∙ ap (λ l. Word w.On ∷ l) (ts.split ∙ ap (λ l. ts.tokens ++ l) (second ∙ ap (λ l. Symbol s.Open ∷ l) (split ∙ append_assoc us' (Symbol s.Close ∷ []) o.left
            ∙ ap (λ l. us' ++ Symbol s.Close ∷ l) ms.split ∙ sym (append_assoc us' (Symbol s.Close ∷ ms.tokens) q.left)))
            ∙ sym (append_assoc ts.tokens (Symbol s.Open ∷ us' ++ Symbol s.Close ∷ ms.tokens) q.left));
        place = simp length-append (omega (arith, ts.place, ms.place, at_measures));
        spelled = grammar.tile ts.spelled (subst (λ p. AreDims p us' cs) at_dims d) (subst (λ p. AreMeasures p ms.tokens xs) at_measures ms.spelled);
      }

-- what CREATE and DROP are followed by
pub data TileBehind : ℕ → List Token → TileText → Type 0 where
  tile_behind : {p : ℕ} {ts : List Token} {x : TileText} → IsTile (p + 1) ts x → TileBehind p (Word w.Tile ∷ ts) x

tile-sound : (n : ℕ) (i : Input) (r : TileText × Input) → reading.tile n i ≡ Some r → Took TileBehind i r.0 r.1
unfolding reading.tile
tile-sound n i r e =
    let a = bind_some (expect_word w.Tile i) _ r e in
    let first = word_expected w.Tile i.place i.left a.0 a.1 in
    let b = bind_some (expect_word w.On a.0.1) _ r a.2 in
    let second = word_expected w.On a.0.1.place a.0.1.left b.0 b.1 in
    let c = bind_some (table b.0.1) _ r b.2 in
    let d = bind_some (expect_symbol s.Open c.0.1) _ r c.2 in
    let third = symbol_expected s.Open c.0.1.place c.0.1.left d.0 d.1 in
    let f = bind_some (reading.dims d.0.1) _ r d.2 in
    let g = bind_some (reading.measures n f.0.1) _ r f.2 in
    subst (λ r. Took TileBehind i r.0 r.1) (some_same g.2)
    (behind (Word w.Tile) IsTile TileBehind i a.0.1 g.0.1 _ _ (λ us d. tile_behind d) first.0 first.1
    (whole_tile a.0.1 b.0.1 c.0.1 d.0.1 f.0.1 g.0.1 c.0.0 f.0.0 g.0.0 second.0 second.1 (table-sound b.0.1 c.0 c.1) third.0 third.1 (dims-sound d.0.1 f.0 f.1) (measures-sound n f.0.1 g.0 g.1)))

create_body : (ts : List Token) (x : TileText) → TileBehind 1 ts x → IsBody (Word w.Create ∷ ts) (statement.CreateTile x)
create_body ts x (tile_behind d) = grammar.create_tile d

drop_body : (ts : List Token) (x : TileText) → TileBehind 1 ts x → IsBody (Word w.Drop ∷ ts) (statement.DropTile x)
drop_body ts x (tile_behind d) = grammar.drop_tile d

-- ---- CHOOSE

and_true : (a b : Bool) → (a && b) ≡ true → (a ≡ true) × (b ≡ true)
and_true true b e = (refl, e)
and_true false b e = cc

limit-sound : (i : Input) (r : ℕ × Input) → reading.limit i ≡ Some r → (1 ≤ r.0) × (r.0 ≤ 16) × (i.left ≡ Number (pos r.0) ∷ r.1.left) × (r.1.place ≡ i.place + 1)
unfolding reading.limit
limit-sound i r e =
    let a = bind_some (number i) _ r e in
    let found = number_found i a.0 a.1 in
    let g = guard_reader (int_le (pos 1) a.0.0 && int_le a.0.0 (pos 16)) (pure (nat_abs a.0.0)) a.0.1 r a.2 in
    let both = and_true _ _ g.0 in
    let low : 1 ≤ found.0 = leb-true 1 found.0 (ap (λ z. int_le (pos 1) z) (sym found.1) ∙ both.0) in
    let high : found.0 ≤ 16 = leb-true found.0 16 (ap (λ z. int_le z (pos 16)) (sym found.1) ∙ both.1) in
    let is : found.0 ≡ nat_abs a.0.0 = ap nat_abs (sym found.1) in
    subst (λ r. (1 ≤ r.0) × (r.0 ≤ 16) × (i.left ≡ Number (pos r.0) ∷ r.1.left) × (r.1.place ≡ i.place + 1)) (some_same g.1)
    (subst (λ m. (1 ≤ m) × (m ≤ 16) × (i.left ≡ Number (pos m) ∷ a.0.1.left) × (a.0.1.place ≡ i.place + 1)) is (low, high, found.2, found.3))

whole_choose : (i j k m o q u : Input) (t : TableName) (n : ℕ) → i.left ≡ Word w.Choose ∷ j.left → j.place ≡ i.place + 1 → j.left ≡ Word w.Tiles ∷ k.left → k.place ≡ j.place + 1
    → k.left ≡ Word w.On ∷ m.left → m.place ≡ k.place + 1 → Took TableAt m t o → o.left ≡ Word w.Limit ∷ q.left → q.place ≡ o.place + 1
    → 1 ≤ n → n ≤ 16 → q.left ≡ Number (pos n) ∷ u.left → u.place ≡ q.place + 1 → Took Body i (statement.ChooseTiles t n) u
whole_choose i j k m o q u t n first first_place second second_place third third_place ts fourth fourth_place low high fifth fifth_place = record {
  tokens = Word w.Choose ∷ Word w.Tiles ∷ Word w.On ∷ ts.tokens ++ Word w.Limit ∷ Number (pos n) ∷ [];
  split = first ∙ ap (λ l. Word w.Choose ∷ l) (second ∙ ap (λ l. Word w.Tiles ∷ l) (third ∙ ap (λ l. Word w.On ∷ l) (ts.split
      ∙ ap (λ l. ts.tokens ++ l) (fourth ∙ ap (λ l. Word w.Limit ∷ l) fifth) ∙ sym (append_assoc ts.tokens (Word w.Limit ∷ Number (pos n) ∷ []) u.left))));
  place = simp length-append (omega (arith, ts.place));
  spelled = grammar.choose_tiles ts.spelled low high;
}

choose-sound : (i j : Input) (r : Statement × Input) → i.left ≡ Word w.Choose ∷ j.left → j.place ≡ i.place + 1 → reading.choose j ≡ Some r → Took Body i r.0 r.1
unfolding reading.choose
choose-sound i j r first place e =
    let a = bind_some (expect_word w.Tiles j) _ r e in
    let second = word_expected w.Tiles j.place j.left a.0 a.1 in
    let b = bind_some (expect_word w.On a.0.1) _ r a.2 in
    let third = word_expected w.On a.0.1.place a.0.1.left b.0 b.1 in
    let c = bind_some (table b.0.1) _ r b.2 in
    let d = bind_some (expect_word w.Limit c.0.1) _ r c.2 in
    let fourth = word_expected w.Limit c.0.1.place c.0.1.left d.0 d.1 in
    let f = bind_some (reading.limit d.0.1) _ r d.2 in
    let l = limit-sound d.0.1 f.0 f.1 in
    subst (λ r. Took Body i r.0 r.1) (some_same f.2)
    (whole_choose i j a.0.1 b.0.1 c.0.1 d.0.1 f.0.1 c.0.0 f.0.0 first place second.0 second.1 third.0 third.1 (table-sound b.0.1 c.0 c.1) fourth.0 fourth.1 l.0 l.1 l.2 l.3)

-- ---- the whole

body_word-sound : (n : ℕ) (v : Reserved) (ts : List Token) (r : Statement × Input) → reading.body_word n v (at 0 (Word v ∷ ts)) ≡ Some r → Took Body (at 0 (Word v ∷ ts)) r.0 r.1
unfolding next
body_word-sound n w.Select ts r e =
    let a = bind_some (select n (at 1 ts)) _ r e in
    subst (λ r. Took Body (at 0 (Word w.Select ∷ ts)) r.0 r.1) (some_same a.2)
    (seen_as IsSelect Body _ _ a.0.0 (statement.Select a.0.0) (λ ts d. grammar.query d) (select-sound n (at 0 (Word w.Select ∷ ts)) (at 1 ts) a.0 refl refl a.1))
body_word-sound n w.Explain ts r e = explain-sound n (at 0 (Word w.Explain ∷ ts)) (at 1 ts) r refl refl refl e
body_word-sound n w.Insert ts r e = insert-sound (at 0 (Word w.Insert ∷ ts)) (at 1 ts) r refl refl refl e
body_word-sound n w.Refresh ts r e = refresh-sound (at 0 (Word w.Refresh ∷ ts)) (at 1 ts) r refl refl e
body_word-sound n w.Create ts r e =
    let a = bind_some (reading.tile n (at 1 ts)) _ r e in
    subst (λ r. Took Body (at 0 (Word w.Create ∷ ts)) r.0 r.1) (some_same a.2)
    (behind (Word w.Create) TileBehind Body (at 0 (Word w.Create ∷ ts)) (at 1 ts) a.0.1 a.0.0 (statement.CreateTile a.0.0) (λ us d. create_body us a.0.0 d) refl refl (tile-sound n (at 1 ts) a.0 a.1))
body_word-sound n w.Drop ts r e =
    let a = bind_some (reading.tile n (at 1 ts)) _ r e in
    subst (λ r. Took Body (at 0 (Word w.Drop ∷ ts)) r.0 r.1) (some_same a.2)
    (behind (Word w.Drop) TileBehind Body (at 0 (Word w.Drop ∷ ts)) (at 1 ts) a.0.1 a.0.0 (statement.DropTile a.0.0) (λ us d. drop_body us a.0.0 d) refl refl (tile-sound n (at 1 ts) a.0 a.1))
body_word-sound n w.Choose ts r e = choose-sound (at 0 (Word w.Choose ∷ ts)) (at 1 ts) r refl refl e
body_word-sound n _ ts r e = no_some e

body-sound : (n : ℕ) (l : List Token) (r : Statement × Input) → reading.body n (at 0 l) ≡ Some r → Took Body (at 0 l) r.0 r.1
unfolding reading.body by_token
body-sound n [] r e = no_some e
body-sound n (Name m ∷ ts) r e = no_some e
body-sound n (Word v ∷ ts) r e = body_word-sound n v ts r e
body-sound n (Number m ∷ ts) r e = no_some e
body-sound n (Text t ∷ ts) r e = no_some e
body-sound n (Symbol s ∷ ts) r e = no_some e

nothing_left : (p : ℕ) (l : List Token) (r : Unit {0} × Input) → reading.end (at p l) ≡ Some r → l ≡ []
unfolding reading.end
nothing_left p [] r e = refl
nothing_left p (t ∷ ts) r e = no_some e

whole_statement : (i j : Input) (x : Statement) → Took Body i x j → j.left ≡ [] → Spells i.left x
whole_statement i j x b none =
    subst (λ l. Spells l x) (sym (b.split ∙ ap (λ l. b.tokens ++ l) none ∙ append-nil b.tokens)) (grammar.body b.spelled)

whole_ended : (i j k : Input) (x : Statement) → Took Body i x j → j.left ≡ Symbol s.Semicolon ∷ k.left → k.left ≡ [] → Spells i.left x
whole_ended i j k x b end none =
    subst (λ l. Spells l x) (sym (b.split ∙ ap (λ l. b.tokens ++ l) (end ∙ ap (λ l. Symbol s.Semicolon ∷ l) none))) (grammar.ended b.spelled)

statement-sound : (n : ℕ) (l : List Token) (r : Statement × Input) → reading.statement_reader n (at 0 l) ≡ Some r → Spells l r.0
unfolding reading.statement_reader
statement-sound n l r e =
    let a = bind_some (reading.body n (at 0 l)) _ r e in
    let b = bind_some (reading.end (after_symbol s.Semicolon a.0.1)) _ r a.2 in
    let left : (after_symbol s.Semicolon a.0.1).left ≡ [] = nothing_left (after_symbol s.Semicolon a.0.1).place (after_symbol s.Semicolon a.0.1).left b.0 b.1 in
    let is : a.0.0 ≡ r.0 = ap (λ p. p.0) (some_same b.2) in
    subst (λ x. Spells l x) is (elim (symbol_eaten s.Semicolon a.0.1) [
      | ate sees after first place ↦ whole_ended (at 0 l) a.0.1 (next a.0.1) a.0.0 (body-sound n l a.0 a.1) first (ap (λ j. j.left) (sym after) ∙ left)
      | left_it sees after ↦ whole_statement (at 0 l) a.0.1 a.0.0 (body-sound n l a.0 a.1) (ap (λ j. j.left) (sym after) ∙ left)
    ])

-- what is read is spelled
pub read-spells : (n : ℕ) (l : List Token) (x : Statement) → reading.read_tokens n l ≡ Some x → Spells l x
unfolding reading.read_tokens
read-spells n l x e = by_outcome (reading.statement_reader n (at 0 l)) refl e where
  by_outcome : (o : Option (Statement × Input)) → reading.statement_reader n (at 0 l) ≡ o → reading.read_of o ≡ Some x → Spells l x
  by_outcome None is h = no_some h
  by_outcome (Some r) is h = subst (λ x. Spells l x) (some_same h) (statement-sound n l r is)
