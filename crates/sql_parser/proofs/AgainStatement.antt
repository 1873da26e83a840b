-- What a statement is printed as is spelled as that statement again, places aside.
use Rattle.std.proofs.Common.{◌≡◌, ℕ, suc, ◌+◌, pos, negsuc, true, false, List, [], ◌∷◌, ◌++◌, length, map, Option, Some, None, refl, sym, ap, subst, append_assoc}
use Rattle.std.specs.Option.{option_map}
use Rattle.cal_value.specs.declared.value.Value.{Value}
use Rattle.cal_value.specs.declared.value.Value.TheVariants as value
use Rattle.sql_text.specs.declared.token.Token.{Token}
use Rattle.sql_text.specs.declared.token.Token.TheVariants.{Word, Symbol}
use Rattle.sql_text.specs.declared.token.Reserved.TheVariants as w
use Rattle.sql_text.specs.declared.token.Symbol.TheVariants as s
use Rattle.sql_tree.specs.declared.tree.Tree.{Tree}
use Rattle.sql_tree.specs.declared.tree.ColumnName.{ColumnName}
use Rattle.sql_tree.specs.declared.statement.TileText.{TileText}
use Rattle.sql_tree.specs.declared.statement.Statement.{Statement}
use Rattle.sql_tree.specs.declared.statement.Statement.TheVariants as statement
use Rattle.sql_printer.specs.Printing.{Tokens, listed, in_brackets, column_tokens, table_tokens, value_tokens, row_tokens, tree_tokens, optional, measures_tokens, printed_tokens}
use Rattle.sql_tree.specs.Same.{placeless_tree, placeless_tile, placeless}
use Rattle.sql_parser.specs.Grammar.{IsLit, number_lit, minus_number_lit, text_lit, true_lit, false_lit, null_lit, IsRow, row, AreDims, no_dims, dims, IsMeasure, measure, AreMeasures, no_measures, measures, IsTile, tile, IsBody, query, explain_plan, explain_memo, insert, refresh, create_tile, drop_tile, choose_tiles, Spells, body, ended}
use Rattle.sql_parser.proofs.Again.{Respelled, agg_again, measure_same}
use Rattle.sql_parser.proofs.AgainSelect.{listed_again, listed_spelled, table_spelled, columns_spelled, select_again}

lit_spelled : (v : Value) (q : ℕ) → IsLit q (value_tokens v) v
lit_spelled value.Null q = null_lit
lit_spelled (value.Bool true) q = true_lit
lit_spelled (value.Bool false) q = false_lit
lit_spelled (value.Int (pos n)) q = number_lit
lit_spelled (value.Int (negsuc n)) q = minus_number_lit {n = suc n}
lit_spelled (value.Text t) q = text_lit

row_spelled : (p : ℕ) (ts : List Token) (vs : List Value) → IsRow p ts vs → (q : ℕ) → IsRow q (row_tokens vs) vs
row_spelled p ts vs (row d) q = row (listed_spelled value_tokens (λ p ts v e q. lit_spelled v q) d (q + 1))

dims_spelled : {p : ℕ} {ts : List Token} {cs : List ColumnName} → AreDims p ts cs → (q : ℕ) → AreDims q (listed column_tokens cs) cs
dims_spelled no_dims q = no_dims
dims_spelled (dims d) q = dims (columns_spelled d q)

measure_again : (p : ℕ) (ts : List Token) (t : Tree) → IsMeasure p ts t → (q : ℕ) → Respelled IsMeasure placeless_tree q (tree_tokens t) t
measure_again p ts t (measure d e) q =
    let a = agg_again d in
    let r = a.again q in
    record { value = r.value; spelled = measure r.spelled (measure_same r.value t r.same e); same = r.same }

measures_again : {p : ℕ} {ts : List Token} {o : Option (List Tree)} → AreMeasures p ts o → (q : ℕ)
    → Respelled AreMeasures (option_map (map placeless_tree)) q (optional measures_tokens o) o
measures_again no_measures q = record { value = None; spelled = no_measures; same = refl }
measures_again (measures d) q =
    let r = listed_again placeless_tree tree_tokens measure_again d (q + 2) in
    record { value = Some r.value; spelled = measures r.spelled; same = ap Some r.same }

-- behind TILE
abbrev tile_rest : TileText → Tokens
tile_rest x = Word w.On ∷ (table_tokens x.lattice ++ (in_brackets (listed column_tokens x.dims) ++ optional measures_tokens x.measures))

tile_again : {p : ℕ} {ts : List Token} {x : TileText} → IsTile p ts x → (q : ℕ) → Respelled IsTile placeless_tile q (tile_rest x) x
tile_again (tile {t = t} {cs = cs} {xs = xs} d f g) q =
    let ts = table_tokens t in
    let ds = listed column_tokens cs in
    let ms = optional measures_tokens xs in
    let r = measures_again g (q + 1 + length ts + 1 + length ds + 1) in
    let x : TileText = record { lattice = t; dims = cs; measures = r.value } in
    let more : ds ++ Symbol s.Close ∷ ms ≡ (ds ++ Symbol s.Close ∷ []) ++ ms = sym (append_assoc ds (Symbol s.Close ∷ []) ms) in
    record {
      value = x;
      spelled = subst (λ us. IsTile q (Word w.On ∷ ts ++ (Symbol s.Open ∷ us)) x) more (tile (table_spelled t) (dims_spelled f (q + 1 + length ts + 1)) r.spelled);
      same = ap (λ o. record { lattice = t; dims = cs; measures = o }) r.same;
    }

abbrev BodyAt : ℕ → List Token → Statement → Type 0
BodyAt p = IsBody

body_again : {ts : List Token} {x : Statement} → IsBody ts x → Respelled BodyAt placeless 0 (printed_tokens x) x
body_again (query d) = let r = select_again d 0 in record { value = statement.Select r.value; spelled = query r.spelled; same = ap statement.Select r.same }
body_again (explain_plan d) = let r = select_again d 3 in record { value = statement.ExplainPlan r.value; spelled = explain_plan r.spelled; same = ap statement.ExplainPlan r.same }
body_again (explain_memo d) = let r = select_again d 3 in record { value = statement.ExplainMemo r.value; spelled = explain_memo r.spelled; same = ap statement.ExplainMemo r.same }
body_again (insert {t = t} {rows = rows} d ds) =
    record { value = statement.Insert t rows; spelled = insert (table_spelled t) (listed_spelled row_tokens row_spelled ds (2 + length (table_tokens t) + 1)); same = refl }
body_again (refresh {t = t} d) = record { value = statement.Refresh t; spelled = refresh (table_spelled t); same = refl }
body_again (create_tile d) = let r = tile_again d 2 in record { value = statement.CreateTile r.value; spelled = create_tile r.spelled; same = ap statement.CreateTile r.same }
body_again (drop_tile d) = let r = tile_again d 2 in record { value = statement.DropTile r.value; spelled = drop_tile r.spelled; same = ap statement.DropTile r.same }
body_again (choose_tiles {t = t} {n = n} d low high) = record { value = statement.ChooseTiles t n; spelled = choose_tiles (table_spelled t) low high; same = refl }

-- what is printed of a statement that is spelled is spelled as that statement
pub spelled_again : {ts : List Token} {x : Statement} → Spells ts x → (y : Statement) × Spells (printed_tokens x) y × (placeless y ≡ placeless x)
spelled_again (body d) = let r = body_again d in (r.value, body r.spelled, r.same)
spelled_again (ended d) = let r = body_again d in (r.value, body r.spelled, r.same)
