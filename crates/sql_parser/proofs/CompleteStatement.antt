-- What is spelled as a statement is read.
use Rattle.std.proofs.Common.{◌≡◌, ℕ, suc, ◌+◌, ◌<◌, ◌≤◌, pos, neg_ℤ, false, List, [], ◌∷◌, ◌++◌, length, Option, Some, None, refl, sym, ap, ◌∙◌, arith, append_assoc, append-nil, length-append}
use Rattle.std.proofs.Math.Dec.{leb-zero}
use Rattle.std.proofs.lemmas.Bool.{le-leb}
use Rattle.cal_value.specs.declared.value.Value.{Value}
use Rattle.cal_value.specs.declared.value.Value.TheVariants as value
use Rattle.sql_text.specs.declared.token.Token.{Token}
use Rattle.sql_text.specs.declared.token.Token.TheVariants.{Name, Word, Number, Text, Symbol}
use Rattle.sql_text.specs.declared.token.Reserved.TheVariants as w
use Rattle.sql_text.specs.declared.token.Symbol.TheVariants as s
use Rattle.sql_tree.specs.declared.tree.Tree.{Tree}
use Rattle.sql_tree.specs.declared.tree.ColumnName.{ColumnName}
use Rattle.sql_tree.specs.declared.select.TableName.{TableName}
use Rattle.sql_tree.specs.declared.select.Select.{Select}
use Rattle.sql_tree.specs.declared.statement.TileText.{TileText}
use Rattle.sql_tree.specs.declared.statement.Statement.{Statement}
use Rattle.sql_tree.specs.declared.statement.Statement.TheVariants as statement
use Rattle.sql_expressions.specs.Input.{and_then, next, number, begins, is_word, is_symbol, same_word, same_symbol, sees_word, sees_symbol, after_word, after_symbol, expect_word, expect_symbol, by_token}
use Rattle.sql_expressions.specs.Reading.{aggregation}
use Rattle.sql_parser.specs.ReadingList.{separated}
use Rattle.sql_parser.specs.ReadingStatement as reading
use Rattle.sql_parser.specs.Grammar as grammar
use Rattle.sql_parser.specs.Grammar.{of_column, IsColumnAt, Separated, last, comma, IsTable, IsSelect, IsLit, number_lit, minus_number_lit, text_lit, true_lit, false_lit, null_lit, IsRow, row, AreDims, no_dims, dims, IsMeasure, measure, AreMeasures, no_measures, measures, IsTile, tile, IsBody, query, explain_plan, explain_memo, insert, refresh, create_tile, drop_tile, choose_tiles, Spells, body, ended}
use Rattle.sql_expressions.proofs.Steps.{at}
use Rattle.sql_expressions.proofs.Room.{Room, room-left, room-tail, room-behind}
use Rattle.sql_expressions.proofs.Follow.{Opens, before, column-opens, first_opens}
use Rattle.sql_expressions.proofs.Complete.{aggregation-reads}
use Rattle.sql_parser.proofs.CompleteList.{first_stage, past_word, separated-reads, table-reads}
use Rattle.sql_parser.proofs.CompleteSelect.{columns-read, select-reads, SelectReads}

abbrev Any : List Token → Type 0
Any ts = Unit {0}

-- ---- rows

literal-reads : (p : ℕ) (ts : List Token) (v : Value) → IsLit p ts v → (rest : List Token) → reading.literal (at p (ts ++ rest)) ≡ Some (v, at (p + length ts) rest)
unfolding reading.literal reading.plain_literal number by_token after_symbol sees_symbol same_symbol next
literal-reads p ts v (number_lit {n = n}) rest = rw (leb-zero n) refl
literal-reads p ts v (minus_number_lit {n = n}) rest =
    let end : p + 1 + 1 ≡ p + 2 = omega arith in rw (leb-zero n) (ap (λ q. Some (value.Int (neg_ℤ (pos n)), at q rest)) end)
literal-reads p ts v text_lit rest = refl
literal-reads p ts v true_lit rest = refl
literal-reads p ts v false_lit rest = refl
literal-reads p ts v null_lit rest = refl

row-reads : (p : ℕ) (ts : List Token) (vs : List Value) → IsRow p ts vs → (rest : List Token) → reading.row (at p (ts ++ rest)) ≡ Some (vs, at (p + length ts) rest)
unfolding reading.row expect_symbol sees_symbol same_symbol next
row-reads p us vs (row {ts = ts} d) rest =
    let end : p + 1 + length ts + 1 ≡ p + length (Symbol s.Open ∷ ts ++ Symbol s.Close ∷ []) = simp length-append (omega arith) in
    rw (
      append_assoc ts (Symbol s.Close ∷ []) rest,
      separated-reads reading.literal IsLit Any (λ ts us g. tt) (λ ts us g. tt) 30 (omega arith) (λ p ts v d g rest h. literal-reads p ts v d rest) d tt (Symbol s.Close ∷ rest) (omega arith),
    )
    (ap (λ q. Some (vs, at q rest)) end)

rows-read : {p : ℕ} {ts : List Token} {rows : List (List Value)} → Separated IsRow p ts rows → (rest : List Token) → first_stage rest < 9
    → separated reading.row (at p (ts ++ rest)) ≡ Some (rows, at (p + length ts) rest)
rows-read d rest h =
    separated-reads reading.row IsRow Any (λ ts us g. tt) (λ ts us g. tt) 30 (omega arith) (λ p ts v d g rest h. row-reads p ts v d rest) d tt rest h

insert-reads : (ts us : List Token) (t : TableName) (rows : List (List Value)) → IsTable ts t → Separated IsRow (2 + length ts + 1) us rows → (rest : List Token) → first_stage rest < 9
    → reading.insert (at 1 (Word w.Into ∷ ts ++ (Word w.Values ∷ us ++ rest))) ≡ Some (statement.Insert t rows, at (2 + length ts + 1 + length us) rest)
unfolding reading.insert expect_word sees_word same_word next
insert-reads ts us t rows d ds rest h = rw (table-reads d 2 (Word w.Values ∷ us ++ rest) (omega arith), rows-read ds rest h) refl

refresh-reads : (ts : List Token) (t : TableName) → IsTable ts t → (rest : List Token) → first_stage rest < 30
    → reading.refresh (at 1 (Word w.Table ∷ ts ++ rest)) ≡ Some (statement.Refresh t, at (2 + length ts) rest)
unfolding reading.refresh expect_word sees_word same_word next
refresh-reads ts t d rest h = rw (table-reads d 2 rest h) refl

-- ---- tiles

no_close : (l : List Token) → 1 ≤ first_opens l → begins (is_symbol s.Close) l ≡ false
unfolding same_symbol
no_close [] h = refl
no_close (Name n ∷ ts) h = refl
no_close (Word v ∷ ts) h = refl
no_close (Number n ∷ ts) h = refl
no_close (Text t ∷ ts) h = refl
no_close (Symbol s.Close ∷ ts) h = absurd (omega arith)
no_close (Symbol _ ∷ ts) h = refl

columns-open : {p : ℕ} {ts : List Token} {cs : List ColumnName} → Separated IsColumnAt p ts cs → Opens 1 ts
columns-open (last d) = column-opens d
columns-open (comma d ds) = before 1 _ _ (column-opens d)

dims-read : {p : ℕ} {ts : List Token} {cs : List ColumnName} → AreDims p ts cs → (rest : List Token)
    → reading.dims (at p (ts ++ (Symbol s.Close ∷ rest))) ≡ Some (cs, at (p + length ts + 1) rest)
unfolding reading.dims expect_symbol after_symbol sees_symbol same_symbol next
dims-read (no_dims {p = p}) rest = let none : p + 1 ≡ p + 0 + 1 = omega arith in ap (λ q. Some ([], at q rest)) none
dims-read (dims {p = p} {ts = ts} d) rest =
    let o = columns-open d in
    rw (no_close (ts ++ (Symbol s.Close ∷ rest)) (o.some (Symbol s.Close ∷ rest)), columns-read d (Symbol s.Close ∷ rest) (omega arith)) refl

limit-reads : (p n : ℕ) → 1 ≤ n → n ≤ 16 → (rest : List Token) → reading.limit (at p (Number (pos n) ∷ rest)) ≡ Some (n, at (p + 1) rest)
unfolding reading.limit number by_token next
limit-reads p n low high rest = rw (leb-zero n, le-leb 1 n low, le-leb n 16 high) refl

choose-reads : (ts : List Token) (t : TableName) (n : ℕ) → IsTable ts t → 1 ≤ n → n ≤ 16 → (rest : List Token)
    → reading.choose (at 1 (Word w.Tiles ∷ Word w.On ∷ ts ++ (Word w.Limit ∷ Number (pos n) ∷ rest))) ≡ Some (statement.ChooseTiles t n, at (3 + length ts + 1 + 1) rest)
unfolding reading.choose expect_word sees_word same_word next
choose-reads ts t n d low high rest =
    rw (table-reads d 3 (Word w.Limit ∷ Number (pos n) ∷ rest) (omega arith), limit-reads (3 + length ts + 1) n low high rest) refl

module _ (depth : ℕ) where
  abbrev Good : List Token → Type 0
  Good ts = Room 0 depth ts

  measure-reads : (p : ℕ) (ts : List Token) (t : Tree) → IsMeasure p ts t → Good ts → (rest : List Token) → reading.measure (suc depth) (at p (ts ++ rest)) ≡ Some (t, at (p + length ts) rest)
  unfolding reading.measure aggregation
  measure-reads p ts t (measure d e) good rest = rw (aggregation-reads d depth good rest, e) refl

  measures-read : {p : ℕ} {ts : List Token} {ms : Option (List Tree)} → AreMeasures p ts ms → Good ts → (rest : List Token) → first_stage rest < 3
      → reading.measures (suc depth) (at p (ts ++ rest)) ≡ Some (ms, at (p + length ts) rest)
  unfolding reading.measures expect_symbol after_word sees_word sees_symbol same_word same_symbol next
  measures-read (no_measures {p = p}) good rest h = let none : p ≡ p + 0 = omega arith in rw (past_word w.Measures rest h) (ap (λ q. Some (None, at q rest)) none)
  measures-read (measures {p = p} {ts = ts} {ms = ms} d) good rest h =
      let start : p + 1 + 1 ≡ p + 2 = omega arith in
      let end : p + 2 + length ts + 1 ≡ p + length (Word w.Measures ∷ Symbol s.Open ∷ ts ++ Symbol s.Close ∷ []) = simp length-append (omega arith) in
      let inside = room-left 0 depth ts _ (room-behind depth (Symbol s.Open) _ (room-behind depth (Word w.Measures) _ good)) in
      rw (
        append_assoc ts (Symbol s.Close ∷ []) rest,
        start,
        separated-reads (reading.measure (suc depth)) IsMeasure Good (room-left 0 depth) (room-tail depth) 30 (omega arith) (λ p ts t d g rest h. measure-reads p ts t d g rest) d inside (Symbol s.Close ∷ rest) (omega arith),
      )
      (ap (λ q. Some (Some ms, at q rest)) end)

  tile-reads : {p : ℕ} {ts : List Token} {x : TileText} → IsTile p ts x → Good ts → (q : ℕ) → p ≡ q + 1 → (rest : List Token) → first_stage rest < 3
      → reading.tile (suc depth) (at q (Word w.Tile ∷ ts ++ rest)) ≡ Some (x, at (p + length ts) rest)
  unfolding reading.tile expect_word expect_symbol sees_word sees_symbol same_word same_symbol next
  tile-reads (tile {p = p} {ts = ts} {ds = ds} {ms = ms} {t = t} {cs = cs} {xs = xs} d f g) good q e rest h =
      let whole : (ts ++ (Symbol s.Open ∷ ds ++ Symbol s.Close ∷ ms)) ++ rest ≡ ts ++ (Symbol s.Open ∷ ds ++ (Symbol s.Close ∷ ms ++ rest)) =
      append_assoc ts (Symbol s.Open ∷ ds ++ Symbol s.Close ∷ ms) rest ∙ ap (λ l. ts ++ (Symbol s.Open ∷ l)) (append_assoc ds (Symbol s.Close ∷ ms) rest) in
      let end : p + 1 + length ts + 1 + length ds + 1 + length ms ≡ p + length (Word w.On ∷ ts ++ (Symbol s.Open ∷ ds ++ Symbol s.Close ∷ ms)) = simp length-append (omega arith) in
      let good_ms = room-behind depth (Symbol s.Close) ms (room-tail depth ds _ (room-behind depth (Symbol s.Open) _ (room-tail depth ts _ (room-behind depth (Word w.On) _ good)))) in
      rw (whole, sym e, table-reads d (p + 1) (Symbol s.Open ∷ ds ++ (Symbol s.Close ∷ ms ++ rest)) (omega arith), dims-read f (ms ++ rest), measures-read g good_ms rest h)
      (ap (λ z. Some (record { lattice = t; dims = cs; measures = xs }, at z rest)) end)

  explain_plan-reads : (ts : List Token) (q : Select) (rest : List Token) → SelectReads depth 3 ts q rest
      → reading.explain (suc depth) (at 1 (Word w.Plan ∷ Word w.For ∷ ts ++ rest)) ≡ Some (statement.ExplainPlan q, at (3 + length ts) rest)
  unfolding reading.explain reading.explain_plan expect_word after_word sees_word same_word next
  explain_plan-reads ts q rest r = rw (r.first, r.reads) (ap (λ l. Some (statement.ExplainPlan q, at (3 + length l) rest)) r.first)

  explain_memo-reads : (ts : List Token) (q : Select) (rest : List Token) → SelectReads depth 3 ts q rest
      → reading.explain (suc depth) (at 1 (Word w.Memo ∷ Word w.For ∷ ts ++ rest)) ≡ Some (statement.ExplainMemo q, at (3 + length ts) rest)
  unfolding reading.explain reading.explain_memo expect_word after_word sees_word same_word next
  explain_memo-reads ts q rest r = rw (r.first, r.reads) (ap (λ l. Some (statement.ExplainMemo q, at (3 + length l) rest)) r.first)

  query-reads : (ts : List Token) (q : Select) (rest : List Token) → SelectReads depth 0 ts q rest
      → reading.body (suc depth) (at 0 (ts ++ rest)) ≡ Some (statement.Select q, at (length ts) rest)
  unfolding reading.body by_token next
  query-reads ts q rest r =
      let start : 0 + length ts ≡ length ts = omega arith in
      ap (λ l. reading.body (suc depth) (at 0 (l ++ rest))) r.first ∙ rw r.reads (ap (λ z. Some (statement.Select q, at z rest)) start)

  no_insert : {p : ℕ} {ts : List Token} {q : Select} → IsSelect p ts q → (rest : List Token) → begins (is_word w.Insert) (ts ++ rest) ≡ false
  unfolding same_word
  no_insert (grammar.select dd ii ff ww gg hh oo) rest = refl

  body-reads : {ts : List Token} {x : Statement} → IsBody ts x → (rest : List Token) → (begins (is_word w.Insert) (ts ++ rest) ≡ false → Good ts) → first_stage rest < 3
      → reading.body (suc depth) (at 0 (ts ++ rest)) ≡ Some (x, at (length ts) rest)
  unfolding reading.body by_token same_word next
  body-reads (query {ts = ts} {q = q} d) rest good h = query-reads ts q rest (select-reads depth d (good (no_insert d rest)) rest h)
  body-reads (explain_plan {ts = ts} {q = q} d) rest good h =
      let end : 3 + length ts ≡ length (Word w.Explain ∷ Word w.Plan ∷ Word w.For ∷ ts) = omega arith in
      let inside = room-behind depth (Word w.For) ts (room-behind depth (Word w.Plan) _ (room-behind depth (Word w.Explain) _ (good refl))) in
      explain_plan-reads ts q rest (select-reads depth d inside rest h) ∙ ap (λ z. Some (statement.ExplainPlan q, at z rest)) end
  body-reads (explain_memo {ts = ts} {q = q} d) rest good h =
      let end : 3 + length ts ≡ length (Word w.Explain ∷ Word w.Memo ∷ Word w.For ∷ ts) = omega arith in
      let inside = room-behind depth (Word w.For) ts (room-behind depth (Word w.Memo) _ (room-behind depth (Word w.Explain) _ (good refl))) in
      explain_memo-reads ts q rest (select-reads depth d inside rest h) ∙ ap (λ z. Some (statement.ExplainMemo q, at z rest)) end
  body-reads (insert {ts = ts} {us = us} {t = t} {rows = rows} d ds) rest good h =
      let end : 2 + length ts + 1 + length us ≡ length (Word w.Insert ∷ Word w.Into ∷ ts ++ Word w.Values ∷ us) = simp length-append (omega arith) in
      ap (λ l. reading.insert (at 1 (Word w.Into ∷ l))) (append_assoc ts (Word w.Values ∷ us) rest)
      ∙ insert-reads ts us t rows d ds rest (omega arith) ∙ ap (λ z. Some (statement.Insert t rows, at z rest)) end
  body-reads (refresh {ts = ts} {t = t} d) rest good h =
      let end : 2 + length ts ≡ length (Word w.Refresh ∷ Word w.Table ∷ ts) = omega arith in
      refresh-reads ts t d rest (omega arith) ∙ ap (λ z. Some (statement.Refresh t, at z rest)) end
  body-reads (create_tile {ts = ts} {x = x} d) rest good h =
      let end : 2 + length ts ≡ length (Word w.Create ∷ Word w.Tile ∷ ts) = omega arith in
      let inside = room-behind depth (Word w.Tile) ts (room-behind depth (Word w.Create) _ (good refl)) in
      ap (λ o. and_then o (λ text i. Some (statement.CreateTile text, i))) (tile-reads d inside 1 refl rest h) ∙ ap (λ z. Some (statement.CreateTile x, at z rest)) end
  body-reads (drop_tile {ts = ts} {x = x} d) rest good h =
      let end : 2 + length ts ≡ length (Word w.Drop ∷ Word w.Tile ∷ ts) = omega arith in
      let inside = room-behind depth (Word w.Tile) ts (room-behind depth (Word w.Drop) _ (good refl)) in
      ap (λ o. and_then o (λ text i. Some (statement.DropTile text, i))) (tile-reads d inside 1 refl rest h) ∙ ap (λ z. Some (statement.DropTile x, at z rest)) end
  body-reads (choose_tiles {ts = ts} {t = t} {n = n} d low high) rest good h =
      let end : 3 + length ts + 1 + 1 ≡ length (Word w.Choose ∷ Word w.Tiles ∷ Word w.On ∷ ts ++ Word w.Limit ∷ Number (pos n) ∷ []) = simp length-append (omega arith) in
      ap (λ l. reading.choose (at 1 (Word w.Tiles ∷ Word w.On ∷ l))) (append_assoc ts (Word w.Limit ∷ Number (pos n) ∷ []) rest)
      ∙ choose-reads ts t n d low high rest ∙ ap (λ z. Some (statement.ChooseTiles t n, at z rest)) end

  -- ---- the whole

  pub read-complete : {ts : List Token} {x : Statement} → Spells ts x → (begins (is_word w.Insert) ts ≡ false → Good ts) → reading.read_tokens (suc depth) ts ≡ Some x
  unfolding reading.read_tokens reading.statement_reader reading.end after_symbol sees_symbol same_symbol next
  read-complete (body {ts = ts} d) good =
      let whole : ts ++ [] ≡ ts = append-nil ts in
      let read = body-reads d [] (λ e. good (ap (λ l. begins (is_word w.Insert) l) (sym whole) ∙ e)) (omega arith) in
      let from_start : reading.body (suc depth) (at 0 ts) ≡ Some (_, at (length ts) []) = ap (λ l. reading.body (suc depth) (at 0 l)) (sym whole) ∙ read in
      rw from_start refl
  read-complete (ended {ts = ts} d) good =
      rw (body-reads d (Symbol s.Semicolon ∷ []) (λ e. room-left 0 depth ts (Symbol s.Semicolon ∷ []) (good e)) (omega arith)) refl
