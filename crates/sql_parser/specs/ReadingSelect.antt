-- How a SELECT is read.
use Rattle.std.specs.Prelude.{ℕ, zero, suc, Bool, true, false, if◌then◌else◌, List, [], ◌∷◌, ◌++◌, length, unwrap_or, Option, Some, None}
use Rattle.sql_text.specs.declared.token.Token.{Token}
use Rattle.sql_text.specs.declared.token.Token.TheVariants.{Name, Word, Number, Text, Symbol}
use Rattle.sql_text.specs.declared.token.Reserved.{Reserved}
use Rattle.sql_text.specs.declared.token.Reserved.TheVariants as w
use Rattle.sql_text.specs.declared.token.Symbol.{Symbol as Sign}
use Rattle.sql_text.specs.declared.token.Symbol.TheVariants as s
use Rattle.sql_tree.specs.declared.tree.Tree.{Tree}
use Rattle.sql_tree.specs.declared.tree.ColumnName.{ColumnName}
use Rattle.sql_tree.specs.declared.select.TableName.{TableName}
use Rattle.sql_tree.specs.declared.select.Item.{Item}
use Rattle.sql_tree.specs.declared.select.Items.{Items}
use Rattle.sql_tree.specs.declared.select.Items.TheVariants.{Star, Listed}
use Rattle.sql_tree.specs.declared.select.Cond.{Cond}
use Rattle.sql_tree.specs.declared.select.Cond.TheVariants.{On, Using}
use Rattle.sql_tree.specs.declared.select.How.{How}
use Rattle.sql_tree.specs.declared.select.How.TheVariants as how
use Rattle.sql_tree.specs.declared.select.FromEntry.{FromEntry}
use Rattle.sql_tree.specs.declared.select.KeyBy.{KeyBy}
use Rattle.sql_tree.specs.declared.select.KeyBy.TheVariants as by
use Rattle.sql_tree.specs.declared.select.OrderKey.{OrderKey}
use Rattle.sql_tree.specs.declared.select.Select.{Select}
use Rattle.sql_parser.specs.declared.select.JoinKind.{JoinKind}
use Rattle.sql_parser.specs.declared.select.JoinKind.TheVariants as kind
use Rattle.sql_expressions.specs.Input.{Reader, ◌>>=◌, ◌>>◌, pure, skip, here, look, sees_number, eat_word, eat_symbol, expect_word, expect_symbol, number}
use Rattle.sql_expressions.specs.Reading.{column, expression}
use Rattle.sql_parser.specs.ReadingList.{separated, table, using_name, alias}

unfoldable pub using : Reader Cond
using = do
  expect_word w.Using
  expect_symbol s.Open
  names ← separated using_name
  expect_symbol s.Close
  pure (Using names)

-- JOIN, which comes next, and how it joins
unfoldable pub join_as : JoinKind → Reader (Option JoinKind)
join_as k = expect_word w.Join >> pure (Some k)

unfoldable pub left_join : Reader (Option JoinKind)
left_join = eat_word w.Outer >> join_as kind.Left

abbrev pub join_word : Reserved → Reader (Option JoinKind)
join_word w.Cross = skip >> join_as kind.Cross
join_word w.Join = join_as kind.Inner
join_word w.Inner = skip >> join_as kind.Inner
join_word w.Left = skip >> left_join
join_word _ = pure None

abbrev pub join_symbol : Sign → Reader (Option JoinKind)
join_symbol s.Comma = skip >> pure (Some kind.Cross)
join_symbol _ = pure None

abbrev pub join_first : List Token → Reader (Option JoinKind)
join_first [] = pure None
join_first (Name n ∷ ts) = pure None
join_first (Word v ∷ ts) = join_word v
join_first (Number n ∷ ts) = pure None
join_first (Text t ∷ ts) = pure None
join_first (Symbol s ∷ ts) = join_symbol s

-- what joins a further entry, if one comes next
unfoldable pub join_kind : Reader (Option JoinKind)
join_kind = λ i. join_first i.left i

-- an entry without an alias has its table's name
abbrev pub entry_of : TableName → Option (List ℕ) → How → FromEntry
entry_of t named h = record { table = t; alias = unwrap_or named t.name; how = h }

abbrev pub if_some : {A B : Type 0} → Option A → Reader B → (A → Reader B) → Reader B
if_some None stop go = stop
if_some (Some x) stop go = go x

unfoldable pub first_entry : Reader FromEntry
first_entry = do
  t ← table
  named ← alias
  pure (entry_of t named how.First)

unfoldable pub groups : Reader (List ColumnName)
groups = do
  found ← eat_word w.Group
  if found then expect_word w.By >> separated column else pure []

unfoldable pub key_by : Reader KeyBy
key_by = do
  is_number ← look sees_number
  if is_number then (number >>= λ n. pure (by.Place n)) else (column >>= λ c. pure (by.Column c))

unfoldable pub direction : Reader Bool
direction = do
  is_descending ← eat_word w.Desc
  if is_descending then pure true else eat_word w.Asc >> pure false

unfoldable pub first_or_last : Reader Bool
first_or_last = do
  is_first ← eat_word w.First
  if is_first then pure true else expect_word w.Last >> pure false

-- whether NULL comes first: where nothing is said, in descending order
unfoldable pub nulls : Bool → Reader Bool
nulls descending = do
  found ← eat_word w.Nulls
  if found then first_or_last else pure descending

unfoldable pub key : Reader OrderKey
key = do
  place ← here
  by ← key_by
  descending ← direction
  nulls_first ← nulls descending
  pure (record { place = place; by = by; descending = descending; nulls_first = nulls_first })

unfoldable pub order : Reader (List OrderKey)
order = do
  found ← eat_word w.Order
  if found then expect_word w.By >> separated key else pure []

-- The number bounds how deep expressions nest.
module _ (depth : ℕ) where
  unfoldable pub item : Reader Item
  item = do
    tree ← expression depth
    named ← alias
    pure (record { tree = tree; alias = named })

  unfoldable pub items : Reader Items
  items = do
    all ← eat_symbol s.Star
    if all then pure Star else (separated item >>= λ found. pure (Listed found))

  unfoldable pub cond : Reader Cond
  cond = do
    is_on ← eat_word w.On
    if is_on then (expression depth >>= λ tree. pure (On tree)) else using

  unfoldable pub how_by : JoinKind → Reader How
  how_by kind.Cross = pure how.Cross
  how_by kind.Inner = cond >>= λ c. pure (how.Inner c)
  how_by kind.Left = cond >>= λ c. pure (how.Left c)

  unfoldable pub joined : JoinKind → Reader FromEntry
  joined k = do
    t ← table
    named ← alias
    h ← how_by k
    pure (entry_of t named h)

  -- The number bounds the joins.
  unfoldable pub joins_from : ℕ → List FromEntry → Reader (List FromEntry)
  joins_from zero found = pure found
  joins_from (suc n) found = do
    kind ← join_kind
    if_some kind (pure found) (λ k. joined k >>= λ entry. joins_from n (found ++ entry ∷ []))

  unfoldable pub from : Reader (List FromEntry)
  from = do
    first ← first_entry
    λ i. joins_from (length i.left) (first ∷ []) i

  -- the expression behind this word, if it comes next
  unfoldable pub clause : Reserved → Reader (Option Tree)
  clause word = do
    found ← eat_word word
    if found then (expression depth >>= λ tree. pure (Some tree)) else pure None

  -- from behind SELECT
  unfoldable pub select : Reader Select
  select = do
    distinct ← eat_word w.Distinct
    shown ← items
    expect_word w.From
    entries ← from
    filter ← clause w.Where
    grouped ← groups
    having ← clause w.Having
    keys ← order
    pure (record { distinct = distinct; items = shown; from = entries; filter = filter; groups = grouped; having = having; order = keys })
