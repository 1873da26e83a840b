-- The expression over numbered columns that a tree stands for.
use Rattle.std.specs.Prelude.{◌≡◌, List, length, All}
use Rattle.std.specs.List.{flat_map}
use Rattle.cal_value.specs.declared.value.Value.{Value}
use Rattle.cal_value.specs.declared.value.Value.TheVariants.{Null}
use Rattle.cal_expr.specs.declared.expr.Expr.{Expr}
use Rattle.cal_expr.specs.declared.expr.Expr.TheVariants.{Column, Literal, Negate, Binary, Not, IsNull}
use Rattle.sql_tree.specs.declared.tree.Tree.{Tree}
use Rattle.sql_tree.specs.declared.tree.Tree.TheFolds.{fold-Tree}
use Rattle.sql_tree.specs.declared.tree.Tree.TheOpen.{Tree-F}
use Rattle.sql_meaning.specs.Scope.{Header, column_at}
use Rattle.sql_meaning.specs.Value.{EntryRow}

-- one level, with what each part stands for in its place. It speaks of trees without an aggregate
abbrev pub numbered_step : List Header → Tree-F Expr → Expr
numbered_step scope (Tree-F.Column place name) = Column (column_at scope name)
numbered_step scope (Tree-F.Literal place v) = Literal v
numbered_step scope (Tree-F.Negate place a) = Negate a
numbered_step scope (Tree-F.Binary place op a b) = Binary op a b
numbered_step scope (Tree-F.Not place a) = Not a
numbered_step scope (Tree-F.IsNull place a) = IsNull a
numbered_step scope (Tree-F.Aggregate place agg a) = Literal Null

abbrev pub numbered : List Header → Tree → Expr
numbered scope tree = fold-Tree Expr (numbered_step scope) tree

-- the rows of the entries, one after another
abbrev pub flat : List EntryRow → List Value
flat env = flat_map (λ b. b.row) env

-- the row has a value for each column of its entry
abbrev pub IsFull : EntryRow → Type 0
IsFull b = length b.row ≡ length b.header.table.columns

abbrev pub AreFull : List EntryRow → Type 0
AreFull env = All IsFull env
