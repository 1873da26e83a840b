-- The plans of a set.
use Rattle.std.specs.Prelude.{◌≡◌, ◌≤◌, ℕ, IsTrue, List, Option, Some, None, slice_get}
use Rattle.cal_value.specs.declared.order.KeyOrder.{KeyOrder}
use Rattle.plan_nodes.specs.Orders.{is_prefix}
use Rattle.plan_nodes.specs.PlanTrees.{PlanTree, nothing, plan, order_of, cost}
use Rattle.phys_plan.specs.declared.ways.Want.TheVariants.{Rows}
use Rattle.phys_plan.specs.declared.ways.Ask.{Ask}
use Rattle.phys_plan.specs.declared.ways.Way.{Way}
use Rattle.phys_plan.specs.Spaces.{Space, estimate, part_len}
use Rattle.phys_plan.specs.Ways.{fits, ways}

-- For proofs, by recursion on the plan; `Realised` says the same by a rule for each case. The plan's root is one of the set's, of the kind
-- that is asked; its inputs realise what it asks; what it gives begins with the asked order.
abbrev pub Realises : Space → Option Ask → PlanTree → Type 0
Realises space ask nothing = ask ≡ None
Realises space ask (plan node rows part a b) =
    (q : Ask) × (i : ℕ) × (w : Way) × (ask ≡ Some q) × (slice_get (ways space q.set q.order) i ≡ Some w) × (node ≡ w.node)
    × IsTrue (fits q.want node) × (rows ≡ estimate space q.set) × (part ≡ part_len space node)
    × IsTrue (is_prefix q.order (order_of space.info (plan node rows part a b))) × Realises space w.first a × Realises space w.second b

-- enumerable rows of the set, in the asked order
abbrev pub rows_asked : ℕ → List KeyOrder → Ask
rows_asked set order = record { set = set; want = Rows; order = order }
