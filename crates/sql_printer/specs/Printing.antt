-- Which tokens a statement is printed as. A node of an expression stands in brackets where it binds less tightly than its place asks.
use Rattle.std.specs.Prelude.{ℕ, ℤ, pos, negsuc, suc, Bool, true, false, nat_lt, ◌==◌, if◌then◌else◌, Option, Some, None, List, [], ◌∷◌, ◌++◌, length}
use Rattle.std.specs.List.{flat_map}
use Rattle.std.specs.Str.{bytes_eq}
use Rattle.cal_value.specs.declared.operator.Op.{Op}
use Rattle.cal_value.specs.declared.operator.Op.TheVariants as op
use Rattle.cal_value.specs.declared.operator.Agg.{Agg}
use Rattle.cal_value.specs.declared.operator.Agg.TheVariants as agg
use Rattle.cal_value.specs.declared.value.Value.{Value}
use Rattle.cal_value.specs.declared.value.Value.TheVariants as value
use Rattle.sql_text.specs.declared.token.Reserved.{Reserved}
use Rattle.sql_text.specs.declared.token.Reserved.TheVariants as word
use Rattle.sql_text.specs.declared.token.Symbol.TheVariants as symbol
use Rattle.sql_text.specs.declared.token.Token.{Token}
use Rattle.sql_text.specs.declared.token.Token.TheVariants.{Name, Word, Number, Text, Symbol}
use Rattle.sql_tree.specs.declared.tree.ColumnName.{ColumnName}
use Rattle.sql_tree.specs.declared.tree.Tree.{Tree}
use Rattle.sql_tree.specs.declared.tree.Tree.TheFolds.{fold-Tree}
use Rattle.sql_tree.specs.declared.tree.Tree.TheOpen.{Tree-F}
use Rattle.sql_tree.specs.declared.select.TableName.{TableName}
use Rattle.sql_tree.specs.declared.select.Item.{Item}
use Rattle.sql_tree.specs.declared.select.Items.{Items}
use Rattle.sql_tree.specs.declared.select.Items.TheVariants.{Star, Listed}
use Rattle.sql_tree.specs.declared.select.UsingName.{UsingName}
use Rattle.sql_tree.specs.declared.select.Cond.{Cond}
use Rattle.sql_tree.specs.declared.select.Cond.TheVariants.{On, Using}
use Rattle.sql_tree.specs.declared.select.How.{How}
use Rattle.sql_tree.specs.declared.select.How.TheVariants.{First, Cross, Inner, Left}
use Rattle.sql_tree.specs.declared.select.FromEntry.{FromEntry}
use Rattle.sql_tree.specs.declared.select.KeyBy.{KeyBy}
use Rattle.sql_tree.specs.declared.select.KeyBy.TheVariants.{Place, Column}
use Rattle.sql_tree.specs.declared.select.OrderKey.{OrderKey}
use Rattle.sql_tree.specs.declared.select.Select.{Select}
use Rattle.sql_tree.specs.declared.statement.TileText.{TileText}
use Rattle.sql_tree.specs.declared.statement.Statement.{Statement}
use Rattle.sql_tree.specs.declared.statement.Statement.TheVariants.{Select as SelectOf, ExplainPlan, ExplainMemo, Insert, Refresh, CreateTile, DropTile, ChooseTiles}
use Rattle.sql_printer.specs.Writing.{text_of}

abbrev pub Tokens : Type 0
Tokens = List Token

-- with a comma between
abbrev pub listed : {A : Type 0} → (A → Tokens) → List A → Tokens
listed f [] = []
listed f (x ∷ xs) = f x ++ flat_map (λ y. Symbol symbol.Comma ∷ f y) xs

abbrev pub in_brackets : Tokens → Tokens
in_brackets ts = Symbol symbol.Open ∷ (ts ++ Symbol symbol.Close ∷ [])

-- ---- names and values

-- the second part, behind the first and a point where there is one
abbrev pub dotted : Option (List ℕ) → List ℕ → Tokens
dotted None name = Name name ∷ []
dotted (Some front) name = Name front ∷ Symbol symbol.Dot ∷ Name name ∷ []

abbrev pub column_tokens : ColumnName → Tokens
column_tokens column = dotted column.alias column.name

abbrev pub table_tokens : TableName → Tokens
table_tokens table = dotted table.schema table.name

abbrev pub using_tokens : UsingName → Tokens
using_tokens name = Name name.name ∷ []

abbrev pub integer_tokens : ℤ → Tokens
integer_tokens (pos n) = Number (pos n) ∷ []
integer_tokens (negsuc n) = Symbol symbol.Minus ∷ Number (pos (suc n)) ∷ []

abbrev pub value_tokens : Value → Tokens
value_tokens value.Null = Word word.Null ∷ []
value_tokens (value.Bool b) = Word (if b then word.True else word.False) ∷ []
value_tokens (value.Int n) = integer_tokens n
value_tokens (value.Text text) = Text text ∷ []

abbrev pub row_tokens : List Value → Tokens
row_tokens row = in_brackets (listed value_tokens row)

-- ---- expressions

-- how tightly a node binds: OR 0, AND 1, NOT 2, comparison and IS NULL 3, sum 4, product 5, negation 6, all else 7
abbrev pub op_level : Op → ℕ
op_level op.Or = 0
op_level op.And = 1
op_level op.Equal = 3
op_level op.NotEqual = 3
op_level op.Less = 3
op_level op.LessEqual = 3
op_level op.Greater = 3
op_level op.GreaterEqual = 3
op_level op.Add = 4
op_level op.Subtract = 4
op_level op.Multiply = 5
op_level op.Divide = 5

-- what the left operand needs: chains group to the left, and a comparison has no chain
abbrev pub left_level : Op → ℕ
left_level o = if op_level o == 3 then 4 else op_level o

abbrev pub op_token : Op → Token
op_token op.Or = Word word.Or
op_token op.And = Word word.And
op_token op.Equal = Symbol symbol.Equal
op_token op.NotEqual = Symbol symbol.NotEqual
op_token op.Less = Symbol symbol.Less
op_token op.LessEqual = Symbol symbol.LessEqual
op_token op.Greater = Symbol symbol.Greater
op_token op.GreaterEqual = Symbol symbol.GreaterEqual
op_token op.Add = Symbol symbol.Plus
op_token op.Subtract = Symbol symbol.Minus
op_token op.Multiply = Symbol symbol.Star
op_token op.Divide = Symbol symbol.Slash

abbrev pub agg_token : Agg → Token
agg_token agg.Count = Word word.Count
agg_token agg.Sum = Word word.Sum
agg_token agg.Sum0 = Word word.Sum
agg_token agg.Min = Word word.Min
agg_token agg.Max = Word word.Max

abbrev pub value_level : Value → ℕ
value_level (value.Int (negsuc n)) = 6
value_level v = 7

-- a level, and the tokens without brackets
abbrev pub Printed : Type 0
Printed = ℕ × Tokens

abbrev pub at_least : ℕ → Printed → Tokens
at_least least p = if nat_lt p.0 least then in_brackets p.1 else p.1

abbrev pub argument_tokens : Option Printed → Tokens
argument_tokens None = Symbol symbol.Star ∷ []
argument_tokens (Some p) = p.1

abbrev pub binary_tokens : Op → Printed → Printed → Tokens
binary_tokens o p q = at_least (left_level o) p ++ op_token o ∷ at_least (suc (op_level o)) q

abbrev pub null_test_tokens : Printed → Tokens
null_test_tokens p = at_least 4 p ++ Word word.Is ∷ Word word.Null ∷ []

abbrev pub call_tokens : Agg → Option Printed → Tokens
call_tokens a argument = agg_token a ∷ in_brackets (argument_tokens argument)

abbrev pub node : Tree-F Printed → Printed
node (Tree-F.Column place name) = (7, column_tokens name)
node (Tree-F.Literal place v) = (value_level v, value_tokens v)
node (Tree-F.Negate place p) = (6, Symbol symbol.Minus ∷ at_least 6 p)
node (Tree-F.Binary place o p q) = (op_level o, binary_tokens o p q)
node (Tree-F.Not place p) = (2, Word word.Not ∷ at_least 2 p)
node (Tree-F.IsNull place p) = (3, null_test_tokens p)
node (Tree-F.Aggregate place a argument) = (7, call_tokens a argument)

abbrev pub printed_tree : Tree → Printed
printed_tree tree = fold-Tree Printed node tree

abbrev pub tree_tokens : Tree → Tokens
tree_tokens tree = (printed_tree tree).1

-- ---- a SELECT

-- words and a list, where it isn't empty
abbrev pub clause : {A : Type 0} → Tokens → (A → Tokens) → List A → Tokens
clause words f xs = if length xs == 0 then [] else words ++ listed f xs

abbrev pub optional : {A : Type 0} → (A → Tokens) → Option A → Tokens
optional f None = []
optional f (Some x) = f x

abbrev pub item_tokens : Item → Tokens
item_tokens item = tree_tokens item.tree ++ optional (λ alias. Word word.As ∷ Name alias ∷ []) item.alias

abbrev pub items_tokens : Items → Tokens
items_tokens Star = Symbol symbol.Star ∷ []
items_tokens (Listed items) = listed item_tokens items

abbrev pub cond_tokens : Cond → Tokens
cond_tokens (On tree) = Word word.On ∷ tree_tokens tree
cond_tokens (Using names) = Word word.Using ∷ in_brackets (listed using_tokens names)

abbrev pub join_tokens : How → Tokens
join_tokens First = []
join_tokens Cross = Word word.Cross ∷ Word word.Join ∷ []
join_tokens (Inner cond) = Word word.Join ∷ []
join_tokens (Left cond) = Word word.Left ∷ Word word.Join ∷ []

abbrev pub how_tokens : How → Tokens
how_tokens First = []
how_tokens Cross = []
how_tokens (Inner cond) = cond_tokens cond
how_tokens (Left cond) = cond_tokens cond

-- the alias, where it isn't the table's name
abbrev pub alias_tokens : List ℕ → List ℕ → Tokens
alias_tokens name alias = if bytes_eq alias name then [] else Word word.As ∷ Name alias ∷ []

abbrev pub entry_tokens : FromEntry → Tokens
entry_tokens entry = join_tokens entry.how ++ (table_tokens entry.table ++ (alias_tokens entry.table.name entry.alias ++ how_tokens entry.how))

abbrev pub word_if : Reserved → Bool → Tokens
word_if w wanted = if wanted then Word w ∷ [] else []

abbrev pub by_tokens : KeyBy → Tokens
by_tokens (Place n) = integer_tokens n
by_tokens (Column column) = column_tokens column

-- NULL comes last in an ascending order and first in a descending one, where nothing else is said
abbrev pub nulls_tokens : Bool → Bool → Tokens
nulls_tokens false false = []
nulls_tokens true true = []
nulls_tokens false true = Word word.Nulls ∷ Word word.First ∷ []
nulls_tokens true false = Word word.Nulls ∷ Word word.Last ∷ []

abbrev pub key_tokens : OrderKey → Tokens
key_tokens key = by_tokens key.by ++ (word_if word.Desc key.descending ++ nulls_tokens key.descending key.nulls_first)

abbrev pub tail_tokens : Select → Tokens
tail_tokens s =
    optional (λ tree. Word word.Where ∷ tree_tokens tree) s.filter
    ++ (clause (Word word.Group ∷ Word word.By ∷ []) column_tokens s.groups
    ++ (optional (λ tree. Word word.Having ∷ tree_tokens tree) s.having
    ++ clause (Word word.Order ∷ Word word.By ∷ []) key_tokens s.order))

abbrev pub select_tokens : Select → Tokens
select_tokens s = Word word.Select ∷ (word_if word.Distinct s.distinct ++ (items_tokens s.items ++ Word word.From ∷ (flat_map entry_tokens s.from ++ tail_tokens s)))

-- ---- a statement

abbrev pub measures_tokens : List Tree → Tokens
measures_tokens measures = Word word.Measures ∷ in_brackets (listed tree_tokens measures)

abbrev pub tile_tokens : TileText → Tokens
tile_tokens tile = Word word.Tile ∷ Word word.On ∷ (table_tokens tile.lattice ++ (in_brackets (listed column_tokens tile.dims) ++ optional measures_tokens tile.measures))

abbrev pub explain_tokens : Reserved → Tokens
explain_tokens what = Word word.Explain ∷ Word what ∷ Word word.For ∷ []

abbrev pub insert_tokens : TableName → List (List Value) → Tokens
insert_tokens table rows = Word word.Insert ∷ Word word.Into ∷ (table_tokens table ++ Word word.Values ∷ listed row_tokens rows)

abbrev pub choose_tokens : TableName → ℕ → Tokens
choose_tokens lattice most = Word word.Choose ∷ Word word.Tiles ∷ Word word.On ∷ (table_tokens lattice ++ Word word.Limit ∷ Number (pos most) ∷ [])

abbrev pub printed_tokens : Statement → Tokens
printed_tokens (SelectOf select) = select_tokens select
printed_tokens (ExplainPlan select) = explain_tokens word.Plan ++ select_tokens select
printed_tokens (ExplainMemo select) = explain_tokens word.Memo ++ select_tokens select
printed_tokens (Insert table rows) = insert_tokens table rows
printed_tokens (Refresh table) = Word word.Refresh ∷ Word word.Table ∷ table_tokens table
printed_tokens (CreateTile tile) = Word word.Create ∷ tile_tokens tile
printed_tokens (DropTile tile) = Word word.Drop ∷ tile_tokens tile
printed_tokens (ChooseTiles lattice most) = choose_tokens lattice most

-- the characters that a statement is printed as
abbrev pub printed : Statement → List ℕ
printed statement = text_of (printed_tokens statement)
