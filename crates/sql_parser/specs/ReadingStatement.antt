-- How a statement is read.
use Rattle.std.specs.Prelude.{ℕ, pos, int_le, neg_ℤ, nat_abs, true, false, ◌&&◌, if◌then◌else◌, List, [], ◌∷◌, Option, Some, None}
use Rattle.cal_value.specs.declared.value.Value.{Value}
use Rattle.cal_value.specs.declared.value.Value.TheVariants as value
use Rattle.sql_text.specs.declared.token.Token.{Token}
use Rattle.sql_text.specs.declared.token.Token.TheVariants.{Name, Word, Number, Text, Symbol}
use Rattle.sql_text.specs.declared.token.Reserved.{Reserved}
use Rattle.sql_text.specs.declared.token.Reserved.TheVariants as w
use Rattle.sql_text.specs.declared.token.Symbol.TheVariants as s
use Rattle.sql_tree.specs.declared.tree.Tree.{Tree}
use Rattle.sql_tree.specs.declared.tree.ColumnName.{ColumnName}
use Rattle.sql_tree.specs.declared.statement.TileText.{TileText}
use Rattle.sql_tree.specs.declared.statement.Statement.{Statement}
use Rattle.sql_tree.specs.declared.statement.Statement.TheVariants as statement
use Rattle.sql_expressions.specs.Input.{Input, Reader, ◌>>=◌, ◌>>◌, pure, refuse, skip, by_token, eat_word, eat_symbol, expect_word, expect_symbol, number}
use Rattle.sql_parser.specs.Grammar.{of_column}
use Rattle.sql_expressions.specs.Reading.{column, aggregation}
use Rattle.sql_parser.specs.ReadingList.{separated, table}
use Rattle.sql_parser.specs.ReadingSelect.{select}

abbrev pub literal_word : Reserved → Reader Value
literal_word w.True = skip >> pure (value.Bool true)
literal_word w.False = skip >> pure (value.Bool false)
literal_word w.Null = skip >> pure value.Null
literal_word _ = refuse

abbrev pub literal_by : Token → Reader Value
literal_by (Name n) = refuse
literal_by (Word v) = literal_word v
literal_by (Number n) = number >>= λ m. pure (value.Int m)
literal_by (Text t) = skip >> pure (value.Text t)
literal_by (Symbol s) = refuse

unfoldable pub plain_literal : Reader Value
plain_literal = by_token literal_by

unfoldable pub literal : Reader Value
literal = do
  is_negative ← eat_symbol s.Minus
  if is_negative then (number >>= λ n. pure (value.Int (neg_ℤ n))) else plain_literal

unfoldable pub row : Reader (List Value)
row = do
  expect_symbol s.Open
  values ← separated literal
  expect_symbol s.Close
  pure values

-- from behind INSERT
unfoldable pub insert : Reader Statement
insert = do
  expect_word w.Into
  t ← table
  expect_word w.Values
  rows ← separated row
  pure (statement.Insert t rows)

unfoldable pub refresh : Reader Statement
refresh = do
  expect_word w.Table
  t ← table
  pure (statement.Refresh t)

-- from behind the opening bracket
unfoldable pub dims : Reader (List ColumnName)
dims = do
  none ← eat_symbol s.Close
  if none then pure [] else (separated column >>= λ found. expect_symbol s.Close >> pure found)

unfoldable pub limit : Reader ℕ
limit = number >>= λ n. if int_le (pos 1) n && int_le n (pos 16) then pure (nat_abs n) else refuse

unfoldable pub choose : Reader Statement
choose = do
  expect_word w.Tiles
  expect_word w.On
  lattice ← table
  expect_word w.Limit
  most ← limit
  pure (statement.ChooseTiles lattice most)

abbrev pub at_end : List Token → Reader (Unit {0})
at_end [] = pure tt
at_end (t ∷ ts) = refuse

-- no token is left
unfoldable pub end : Reader (Unit {0})
end = λ i. at_end i.left i

-- the statement that the whole list is read as
abbrev pub read_of : Option (Statement × Input) → Option Statement
read_of None = None
read_of (Some p) = Some p.0

-- The number bounds how deep expressions nest.
module _ (depth : ℕ) where
  -- from behind EXPLAIN PLAN
  unfoldable pub explain_plan : Reader Statement
  explain_plan = do
    expect_word w.For
    expect_word w.Select
    query ← select depth
    pure (statement.ExplainPlan query)

  unfoldable pub explain_memo : Reader Statement
  explain_memo = do
    expect_word w.Memo
    expect_word w.For
    expect_word w.Select
    query ← select depth
    pure (statement.ExplainMemo query)

  unfoldable pub explain : Reader Statement
  explain = do
    is_plan ← eat_word w.Plan
    if is_plan then explain_plan else explain_memo

  unfoldable pub measure : Reader Tree
  measure = aggregation depth >>= λ t. if of_column t then pure t else refuse

  unfoldable pub measures : Reader (Option (List Tree))
  measures = do
    found ← eat_word w.Measures
    if found then (do expect_symbol s.Open; listed ← separated measure; expect_symbol s.Close; pure (Some listed)) else pure None

  -- from the word TILE on
  unfoldable pub tile : Reader TileText
  tile = do
    expect_word w.Tile
    expect_word w.On
    lattice ← table
    expect_symbol s.Open
    columns ← dims
    listed ← measures
    pure (record { lattice = lattice; dims = columns; measures = listed })

  abbrev pub body_word : Reserved → Reader Statement
  body_word w.Select = skip >> select depth >>= λ query. pure (statement.Select query)
  body_word w.Explain = skip >> explain
  body_word w.Insert = skip >> insert
  body_word w.Refresh = skip >> refresh
  body_word w.Create = skip >> tile >>= λ text. pure (statement.CreateTile text)
  body_word w.Drop = skip >> tile >>= λ text. pure (statement.DropTile text)
  body_word w.Choose = skip >> choose
  body_word _ = refuse

  abbrev pub body_by : Token → Reader Statement
  body_by (Name n) = refuse
  body_by (Word v) = body_word v
  body_by (Number n) = refuse
  body_by (Text t) = refuse
  body_by (Symbol s) = refuse

  unfoldable pub body : Reader Statement
  body = by_token body_by

  unfoldable pub statement_reader : Reader Statement
  statement_reader = do
    read ← body
    eat_symbol s.Semicolon
    end
    pure read

  unfoldable pub read_tokens : List Token → Option Statement
  read_tokens ts = read_of (statement_reader (record { place = 0; left = ts }))
