-- A relational tree as plain data: a leaf, a node over one input or over two, or a hole.
use Rattle.std.specs.Prelude.{ℕ, List}
use Rattle.cal_value.specs.declared.kind.SqlType.{SqlType}
use Rattle.cal_expr.specs.declared.expr.Expr.{Expr}
use Rattle.cal_schema.specs.declared.agg_call.AggCall.{AggCall}
use Rattle.cal_schema.specs.declared.join_kind.JoinKind.{JoinKind}
use Rattle.cal_rel.specs.declared.rel.Rel.{Rel}
use Rattle.cal_rel.specs.declared.rel.Rel.TheOpen.{Rel-F}
use Rattle.cal_rel.specs.declared.rel.Rel.TheFolds.{fold-Rel}

pub data Leaf : Type 0 where
  scan : ℕ → Leaf
  tile_scan : ℕ → Leaf
  star_scan : ℕ → Leaf
  empty_of : List SqlType → Leaf

pub data Unary : Type 0 where
  filter_by : Expr → Unary
  project_to : List Expr → Unary
  aggregate_by : List ℕ → List AggCall → Unary

pub data Binary : Type 0 where
  join_on : JoinKind → Expr → Binary

pub data Tree : Type 0 where
  leaf : Leaf → Tree
  unary : Unary → Tree → Tree
  binary : Binary → Tree → Tree → Tree
  hole : ℕ → Tree

-- one level, with the tree of each input in its place
abbrev pub tree_step : Rel-F Tree → Tree
tree_step (Rel-F.Scan table) = leaf (scan table)
tree_step (Rel-F.TileScan at) = leaf (tile_scan at)
tree_step (Rel-F.StarScan lattice) = leaf (star_scan lattice)
tree_step (Rel-F.Filter t predicate) = unary (filter_by predicate) t
tree_step (Rel-F.Project t items) = unary (project_to items) t
tree_step (Rel-F.Join kind a b on) = binary (join_on kind on) a b
tree_step (Rel-F.Aggregate t groups calls) = unary (aggregate_by groups calls) t
tree_step (Rel-F.Empty types) = leaf (empty_of types)
tree_step (Rel-F.Hole set) = hole set

-- the tree that a `Rel` is
unfoldable pub tree_of : Rel → Tree
tree_of = fold-Rel Tree tree_step
