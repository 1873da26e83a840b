-- What nodes weigh.
use Rattle.std.specs.Prelude.{ℕ, zero, suc, ◌+◌, ◌*◌, ◌/◌, ◌^◌, nat_lt, min, if◌then◌else◌}
use Rattle.plan_nodes.specs.declared.nodes.PlanNode.{PlanNode}
use Rattle.plan_nodes.specs.declared.nodes.PlanNode.TheVariants.{MemScan, CsvScan, TileRead, MemFilter, MemProject, CsvProject, ToEnumerable, Filter, Project, NestedLoopJoin, HashJoin, MergeJoin, HashAggregate, SortedAggregate, EmptyRows, Sort}

-- no cost is greater than 2^100
abbrev pub cut : ℕ → ℕ
cut n = min n (2 ^ 100)

-- the binary digits of a number that has at most so many
abbrev pub digits : ℕ → ℕ → ℕ
digits zero n = 0
digits (suc most) n = if nat_lt 0 n then 1 + digits most (n / 2) else 0

-- the number of binary digits, 0 of 0; estimates are below 2^128
unfoldable pub bits : ℕ → ℕ
bits n = digits 128 n

-- over the estimate e of the node's set, l and r of its inputs' sets, and the rows p of the part that it reads
abbrev pub weight : PlanNode → ℕ → ℕ → ℕ → ℕ → ℕ
weight (MemScan table) e l r p = p + 2
weight (CsvScan table) e l r p = 2 * p + 3
weight (TileRead tile) e l r p = p + 1
weight (MemFilter predicate) e l r p = 1
weight (MemProject items) e l r p = 1
weight (CsvProject items) e l r p = 1
weight ToEnumerable e l r p = e + 1
weight (Filter predicate) e l r p = l + 1
weight (Project items) e l r p = l + 1
weight (NestedLoopJoin kind on) e l r p = l * r + l + r + 1
weight (HashJoin kind on) e l r p = 2 * (l + r) + e + 1
weight (MergeJoin on) e l r p = l + r + e + 1
weight (HashAggregate groups calls) e l r p = 2 * l + e + 2
weight (SortedAggregate groups calls) e l r p = l + e + 1
weight (EmptyRows types) e l r p = 1
weight (Sort keys) e l r p = e * bits e + 1
