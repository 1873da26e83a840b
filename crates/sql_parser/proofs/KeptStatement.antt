-- What a statement is printed as is no worse than the tokens that spell it.
use Rattle.std.proofs.Common.{◌≡◌, ℕ, zero, suc, pos, List, [], ◌∷◌, ◌++◌, Option, refl, sym, ap, subst, ◌∙◌, arith, append_assoc, append-nil}
use Rattle.std.proofs.lemmas.List.Elements.{recursion_from_All}
use Rattle.cal_value.specs.declared.value.Value.{Value}
use Rattle.sql_text.specs.declared.token.Token.{Token}
use Rattle.sql_text.specs.declared.token.Token.TheVariants.{Word, Number, Text, Symbol}
use Rattle.sql_text.specs.declared.token.Reserved.TheVariants as w
use Rattle.sql_text.specs.declared.token.Symbol.TheVariants as s
use Rattle.sql_tree.specs.declared.tree.Tree.{Tree}
use Rattle.sql_tree.specs.declared.tree.ColumnName.{ColumnName}
use Rattle.sql_tree.specs.declared.statement.TileText.{TileText}
use Rattle.sql_tree.specs.declared.statement.Statement.{Statement}
use Rattle.sql_printer.specs.Printing.{listed, in_brackets, column_tokens, value_tokens, row_tokens, tree_tokens, optional, measures_tokens, tile_tokens, printed_tokens, printed}
use Rattle.sql_text.specs.Tokens.{IsToken, HasTokens}
use Rattle.sql_printer.proofs.Alike.{printed_alike}
use Rattle.sql_text.proofs.Reading.{tokens_fit}
use Rattle.sql_printer.proofs.Written.{text_has_tokens}
use Rattle.sql_printer.specs.Writing.{text_of}
use Rattle.sql_expressions.specs.Limits.{is_insert}
use Rattle.sql_parser.specs.Answers.{IsWithinLimits, IsTextOf}
use Rattle.sql_parser.specs.Grammar.{IsLit, number_lit, minus_number_lit, text_lit, true_lit, false_lit, null_lit, IsRow, row, AreDims, no_dims, dims, IsMeasure, measure, AreMeasures, no_measures, measures, IsTile, tile, select, IsBody, query, explain_plan, explain_memo, insert, refresh, create_tile, drop_tile, choose_tiles, Spells, body, ended}
use Rattle.sql_parser.proofs.AgainStatement.{spelled_again}
use Rattle.sql_parser.proofs.Kept.{NoWorse, nothing, token_kept, beside, behind_token, behind_word, left_out, in_both, agg_kept}
use Rattle.sql_parser.proofs.KeptSelect.{listed_kept, table_kept, columns_kept, select_kept}

lit_kept : (p : ℕ) (ts : List Token) (v : Value) → IsLit p ts v → NoWorse ts (value_tokens v)
lit_kept p ts v (number_lit {n = n}) = token_kept (Number (pos n)) (λ k. refl)
lit_kept p ts v (minus_number_lit {n = zero}) = left_out (Symbol s.Minus) (Number (pos zero) ∷ []) (Number (pos zero) ∷ []) (λ k. refl) (token_kept (Number (pos zero)) (λ k. refl))
lit_kept p ts v (minus_number_lit {n = suc n}) = behind_token (Symbol s.Minus) (Number (pos (suc n)) ∷ []) (Number (pos (suc n)) ∷ []) (λ k. refl) (token_kept (Number (pos (suc n))) (λ k. refl))
lit_kept p ts v (text_lit {t = t}) = token_kept (Text t) (λ k. refl)
lit_kept p ts v true_lit = token_kept (Word w.True) (λ k. refl)
lit_kept p ts v false_lit = token_kept (Word w.False) (λ k. refl)
lit_kept p ts v null_lit = token_kept (Word w.Null) (λ k. refl)

row_kept : (p : ℕ) (ts : List Token) (vs : List Value) → IsRow p ts vs → NoWorse ts (row_tokens vs)
row_kept p us vs (row {ts = ts} d) = in_both ts (listed value_tokens vs) (listed_kept value_tokens lit_kept d)

dims_kept : {p : ℕ} {ts : List Token} {cs : List ColumnName} → AreDims p ts cs → NoWorse ts (listed column_tokens cs)
dims_kept no_dims = nothing
dims_kept (dims d) = columns_kept d

measure_kept : (p : ℕ) (ts : List Token) (t : Tree) → IsMeasure p ts t → NoWorse ts (tree_tokens t)
measure_kept p ts t (measure d e) = agg_kept d

measures_kept : {p : ℕ} {ts : List Token} {o : Option (List Tree)} → AreMeasures p ts o → NoWorse ts (optional measures_tokens o)
measures_kept no_measures = nothing
measures_kept (measures {ts = ts} {ms = ms} d) = behind_word w.Measures _ _ (in_both ts (listed tree_tokens ms) (listed_kept tree_tokens measure_kept d))

tile_kept : {p : ℕ} {ts : List Token} {x : TileText} → IsTile p ts x → NoWorse (Word w.Tile ∷ ts) (tile_tokens x)
tile_kept (tile {ds = ds} {ms = ms} {cs = cs} {xs = xs} d f g) =
    let us = optional measures_tokens xs in
    let rest = beside (in_brackets ds) (in_brackets (listed column_tokens cs)) ms us (in_both ds (listed column_tokens cs) (dims_kept f)) (measures_kept g) in
    let first : in_brackets ds ++ ms ≡ Symbol s.Open ∷ (ds ++ Symbol s.Close ∷ ms) = ap (λ us. Symbol s.Open ∷ us) (append_assoc ds (Symbol s.Close ∷ []) ms) in
    behind_word w.Tile _ _ (behind_word w.On _ _ (beside _ _ _ _ (table_kept d) (subst (λ vs. NoWorse vs (in_brackets (listed column_tokens cs) ++ us)) first rest)))

body_kept : {ts : List Token} {x : Statement} → IsBody ts x → NoWorse ts (printed_tokens x)
body_kept (query d) = select_kept d
body_kept (explain_plan d) = behind_word w.Explain _ _ (behind_word w.Plan _ _ (behind_word w.For _ _ (select_kept d)))
body_kept (explain_memo d) = behind_word w.Explain _ _ (behind_word w.Memo _ _ (behind_word w.For _ _ (select_kept d)))
body_kept (insert d ds) = behind_word w.Insert _ _ (behind_word w.Into _ _ (beside _ _ _ _ (table_kept d) (behind_word w.Values _ _ (listed_kept row_tokens row_kept ds))))
body_kept (refresh d) = behind_word w.Refresh _ _ (behind_word w.Table _ _ (table_kept d))
body_kept (create_tile d) = behind_word w.Create _ _ (tile_kept d)
body_kept (drop_tile d) = behind_word w.Drop _ _ (tile_kept d)
body_kept (choose_tiles {n = n} d low high) =
    behind_word w.Choose _ _ (behind_word w.Tiles _ _ (behind_word w.On _ _ (beside _ _ _ _ (table_kept d) (behind_word w.Limit _ _ (token_kept (Number (pos n)) (λ k. refl))))))

spelled_kept : {ts : List Token} {x : Statement} → Spells ts x → NoWorse ts (printed_tokens x)
spelled_kept (body d) = body_kept d
spelled_kept (ended {ts = ts} {x = x} d) =
    subst (λ us. NoWorse (ts ++ Symbol s.Semicolon ∷ []) us) (append-nil (printed_tokens x))
    (beside ts (printed_tokens x) (Symbol s.Semicolon ∷ []) [] (body_kept d) (left_out (Symbol s.Semicolon) [] [] (λ k. refl) nothing))

-- ---- the limits

body_insert : {ts : List Token} {x : Statement} → IsBody ts x → (rest : List Token) → is_insert (ts ++ rest) ≡ is_insert (printed_tokens x)
body_insert (query (select d i f c g h o)) rest = refl
body_insert (explain_plan d) rest = refl
body_insert (explain_memo d) rest = refl
body_insert (insert d ds) rest = refl
body_insert (refresh d) rest = refl
body_insert (create_tile d) rest = refl
body_insert (drop_tile d) rest = refl
body_insert (choose_tiles d low high) rest = refl

spelled_insert : {ts : List Token} {x : Statement} → Spells ts x → is_insert ts ≡ is_insert (printed_tokens x)
spelled_insert (body {ts = ts} d) = ap is_insert (sym (append-nil ts)) ∙ body_insert d []
spelled_insert (ended d) = body_insert d (Symbol s.Semicolon ∷ [])

pub printed_within : (ts : List Token) (x : Statement) → Spells ts x → IsWithinLimits ts → IsWithinLimits (printed_tokens x)
printed_within ts x d limits =
    let k = spelled_kept d in
    record {
      brackets = omega (arith, k.deep 0, limits.brackets);
      few = λ e. omega (arith, k.few, limits.few (spelled_insert d ∙ e));
    }

-- ---- the text

pub printed_text : (cs : List ℕ) (x : Statement) → IsTextOf cs x → IsTextOf (printed x) x
printed_text cs x t =
    let k = spelled_kept t.spelled in
    let fit = k.fit (recursion_from_All IsToken t.tokens (tokens_fit cs t.tokens t.has)) in
    let has : HasTokens (text_of (printed_tokens t.statement)) (printed_tokens t.statement) = text_has_tokens (printed_tokens t.statement) fit in
    let alike : printed_tokens t.statement ≡ printed_tokens x = printed_alike t.statement x t.same in
    let again = spelled_again t.spelled in
    record {
      tokens = printed_tokens t.statement;
      statement = again.0;
      has = subst (λ us. HasTokens (text_of us) (printed_tokens t.statement)) alike has;
      spelled = again.1;
      same = again.2 ∙ t.same;
    }
