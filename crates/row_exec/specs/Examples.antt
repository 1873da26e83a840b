-- For the tests: a plan that counts no rows, and passes that go over rows of types.
use Rattle.std.specs.Prelude.{List, [], ◌∷◌, All, IfSome, IsSome, None}
use Rattle.cal_value.specs.declared.kind.SqlType.{SqlType}
use Rattle.cal_value.specs.declared.operator.Agg.TheVariants.{Count}
use Rattle.cal_expr.specs.Typing.{type_of}
use Rattle.cal_schema.specs.declared.agg_call.AggCall.{AggCall}
use Rattle.plan_nodes.specs.declared.nodes.PlanNode.TheVariants.{EmptyRows, HashAggregate}
use Rattle.plan_nodes.specs.PlanTrees.{PlanTree, nothing, plan}
use Rattle.row_exec.specs.Passes.{Pass}

abbrev pub count : AggCall
count = record { agg = Count; argument = None }

abbrev pub empty : PlanTree
empty = plan (EmptyRows []) 0 0 nothing nothing

abbrev pub counted : PlanTree
counted = plan (HashAggregate [] (count ∷ [])) 1 0 empty nothing

-- the condition and the items, where there are some, have types
pub record HasValues (types : List SqlType) (pass : Pass) : Type 0 where
  pub tested : IfSome pass.condition (λ e. IsSome (type_of e types))
  pub computed : IfSome pass.items (λ es. All (λ e. IsSome (type_of e types)) es)
