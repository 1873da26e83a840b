-- When two statements are the same: places aside.
use Rattle.std.specs.Prelude.{◌≡◌, option_map, map}
use Rattle.sql_tree.specs.declared.tree.Tree.{Tree}
use Rattle.sql_tree.specs.declared.tree.Tree.TheFolds.{fold-Tree}
use Rattle.sql_tree.specs.declared.tree.Tree.TheOpen.{Tree-F}
use Rattle.sql_tree.specs.declared.tree.Tree.TheVariants.{Column as ColumnNode, Literal, Negate, Binary, Not, IsNull, Aggregate}
use Rattle.sql_tree.specs.declared.select.Item.{Item}
use Rattle.sql_tree.specs.declared.select.Items.{Items}
use Rattle.sql_tree.specs.declared.select.Items.TheVariants.{Star, Listed}
use Rattle.sql_tree.specs.declared.select.UsingName.{UsingName}
use Rattle.sql_tree.specs.declared.select.Cond.{Cond}
use Rattle.sql_tree.specs.declared.select.Cond.TheVariants.{On, Using}
use Rattle.sql_tree.specs.declared.select.How.{How}
use Rattle.sql_tree.specs.declared.select.How.TheVariants.{First, Cross, Inner, Left}
use Rattle.sql_tree.specs.declared.select.FromEntry.{FromEntry}
use Rattle.sql_tree.specs.declared.select.OrderKey.{OrderKey}
use Rattle.sql_tree.specs.declared.select.Select.{Select}
use Rattle.sql_tree.specs.declared.statement.TileText.{TileText}
use Rattle.sql_tree.specs.declared.statement.Statement.{Statement}
use Rattle.sql_tree.specs.declared.statement.Statement.TheVariants.{Select as SelectOf, ExplainPlan, ExplainMemo, Insert, Refresh, CreateTile, DropTile, ChooseTiles}

abbrev pub placeless_node : Tree-F Tree → Tree
placeless_node (Tree-F.Column place name) = ColumnNode 0 name
placeless_node (Tree-F.Literal place value) = Literal 0 value
placeless_node (Tree-F.Negate place operand) = Negate 0 operand
placeless_node (Tree-F.Binary place op left right) = Binary 0 op left right
placeless_node (Tree-F.Not place operand) = Not 0 operand
placeless_node (Tree-F.IsNull place operand) = IsNull 0 operand
placeless_node (Tree-F.Aggregate place agg argument) = Aggregate 0 agg argument

-- each node at place 0
abbrev pub placeless_tree : Tree → Tree
placeless_tree tree = fold-Tree Tree placeless_node tree

abbrev pub placeless_item : Item → Item
placeless_item item = record item { tree = placeless_tree item.tree }

abbrev pub placeless_items : Items → Items
placeless_items Star = Star
placeless_items (Listed items) = Listed (map placeless_item items)

abbrev pub placeless_using : UsingName → UsingName
placeless_using name = record name { place = 0 }

abbrev pub placeless_cond : Cond → Cond
placeless_cond (On tree) = On (placeless_tree tree)
placeless_cond (Using names) = Using (map placeless_using names)

abbrev pub placeless_how : How → How
placeless_how First = First
placeless_how Cross = Cross
placeless_how (Inner cond) = Inner (placeless_cond cond)
placeless_how (Left cond) = Left (placeless_cond cond)

abbrev pub placeless_entry : FromEntry → FromEntry
placeless_entry entry = record entry { how = placeless_how entry.how }

abbrev pub placeless_key : OrderKey → OrderKey
placeless_key key = record key { place = 0 }

abbrev pub placeless_select : Select → Select
placeless_select select = record select {
  items = placeless_items select.items;
  from = map placeless_entry select.from;
  filter = option_map placeless_tree select.filter;
  having = option_map placeless_tree select.having;
  order = map placeless_key select.order;
}

abbrev pub placeless_tile : TileText → TileText
placeless_tile tile = record tile { measures = option_map (map placeless_tree) tile.measures }

abbrev pub placeless : Statement → Statement
placeless (SelectOf select) = SelectOf (placeless_select select)
placeless (ExplainPlan select) = ExplainPlan (placeless_select select)
placeless (ExplainMemo select) = ExplainMemo (placeless_select select)
placeless (Insert table rows) = Insert table rows
placeless (Refresh table) = Refresh table
placeless (CreateTile tile) = CreateTile (placeless_tile tile)
placeless (DropTile tile) = DropTile (placeless_tile tile)
placeless (ChooseTiles lattice limit) = ChooseTiles lattice limit

-- one statement, whatever the places of its tokens are
abbrev pub IsSame : Statement → Statement → Type 0
IsSame a b = placeless a ≡ placeless b
