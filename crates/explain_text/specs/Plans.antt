-- The printed text of plans.
use Rattle.std.specs.Prelude.{ℕ, List, [], ◌++◌, codes, decimal}
use Rattle.cal_schema.specs.declared.join_kind.JoinKind.TheVariants.{Inner}
use Rattle.cal_schema.specs.declared.schema.Schema.{Schema}
use Rattle.plan_nodes.specs.declared.nodes.PlanNode.{PlanNode}
use Rattle.plan_nodes.specs.declared.nodes.PlanNode.TheVariants.{MemScan, CsvScan, TileRead, MemFilter, MemProject, CsvProject, ToEnumerable, Filter, Project, NestedLoopJoin, HashJoin, MergeJoin, HashAggregate, SortedAggregate, EmptyRows, Sort}
use Rattle.plan_nodes.specs.PlanTrees.{PlanTree, nothing, plan, cost}
use Rattle.explain_text.specs.Details.{named, table_name, tile_text, items_text, join_text, aggregate_text, sort_text}
use Rattle.explain_text.specs.Expressions.{expression_text}

-- the name of a node, and its details in brackets
abbrev pub node_text : Schema → PlanNode → List ℕ
node_text schema (MemScan table) = named (codes "MemScan") (table_name schema table)
node_text schema (CsvScan table) = named (codes "CsvScan") (table_name schema table)
node_text schema (TileRead tile) = named (codes "TileRead") (tile_text tile)
node_text schema (MemFilter predicate) = named (codes "MemFilter") (expression_text predicate)
node_text schema (MemProject items) = named (codes "MemProject") (items_text items)
node_text schema (CsvProject items) = named (codes "CsvProject") (items_text items)
node_text schema ToEnumerable = codes "ToEnumerable"
node_text schema (Filter predicate) = named (codes "Filter") (expression_text predicate)
node_text schema (Project items) = named (codes "Project") (items_text items)
node_text schema (NestedLoopJoin kind on) = named (codes "NestedLoopJoin") (join_text kind on)
node_text schema (HashJoin kind on) = named (codes "HashJoin") (join_text kind on)
node_text schema (MergeJoin on) = named (codes "MergeJoin") (join_text Inner on)
node_text schema (HashAggregate groups calls) = named (codes "HashAggregate") (aggregate_text groups calls)
node_text schema (SortedAggregate groups calls) = named (codes "SortedAggregate") (aggregate_text groups calls)
node_text schema (EmptyRows types) = codes "EmptyRows"
node_text schema (Sort keys) = named (codes "Sort") (sort_text keys)

-- a node with the estimate of its set and the cost of its subtree
abbrev pub node_line : List ℕ → ℕ → ℕ → List ℕ
node_line node rows cost = node ++ (codes " rows=" ++ decimal rows ++ codes " cost=" ++ decimal cost ++ codes "\n")

-- behind a margin, the line of the root
abbrev pub root_line : Schema → List ℕ → PlanTree → List ℕ
root_line schema margin nothing = []
root_line schema margin (plan node rows part a b) = margin ++ node_line (node_text schema node) rows (cost (plan node rows part a b))

-- the line of the root, then those of its inputs two spaces deeper
abbrev pub plan_lines : Schema → List ℕ → PlanTree → List ℕ
plan_lines schema margin nothing = []
plan_lines schema margin (plan node rows part a b) =
    root_line schema margin (plan node rows part a b) ++ (plan_lines schema (margin ++ codes "  ") a ++ plan_lines schema (margin ++ codes "  ") b)

abbrev pub plan_text : Schema → PlanTree → List ℕ
plan_text schema tree = plan_lines schema [] tree
