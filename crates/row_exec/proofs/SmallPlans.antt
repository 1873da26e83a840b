-- The plan and the passes of the tests can be run.
use Rattle.std.proofs.Common.{◌≡◌, ℕ, pos, List, [], ◌∷◌, false, length, map, All, IfSome, IsSome, Option, Some, None, ◌∙◌, refl, sym, ap, subst, arith}
use Rattle.std.specs.Int.Signed.{≤ℤ_refl}
use Rattle.std.proofs.lemmas.List.Elements.{All-nil, All-cons, All-weaker}
use Rattle.cal_value.specs.declared.kind.Kind.TheVariants.{Integer}
use Rattle.cal_value.specs.declared.kind.SqlType.{SqlType}
use Rattle.cal_value.specs.declared.value.Value.TheVariants.{Int}
use Rattle.cal_value.specs.Types.{HasTypes}
use Rattle.cal_aggregate.specs.ResultType.{counts}
use Rattle.cal_expr.specs.declared.expr.Expr.{Expr}
use Rattle.cal_expr.specs.Typing.{type_of}
use Rattle.cal_expr.specs.WellFormed as expressions
use Rattle.cal_schema.specs.declared.agg_call.AggCall.{AggCall}
use Rattle.cal_schema.specs.declared.database.Db.{Db}
use Rattle.cal_schema.specs.declared.rel_type.RelType.{RelType}
use Rattle.cal_schema.specs.declared.schema.Schema.{Schema}
use Rattle.cal_rel.specs.Info.{Info}
use Rattle.cal_rel.specs.Operators.{Row}
use Rattle.cal_snapshot.specs.declared.part.Part.TheVariants.{Table}
use Rattle.cal_snapshot.specs.Parts.{Parts, rows_in, rows_of, start_of}
use Rattle.plan_nodes.specs.declared.nodes.PlanNode.TheVariants.{EmptyRows, HashAggregate}
use Rattle.plan_nodes.specs.declared.plan.Plan.{Plan, roll-Plan}
use Rattle.plan_nodes.specs.PlanTrees.{PlanTree}
use Rattle.plan_nodes.specs.Seen.{plan_tree, planned}
use Rattle.plan_nodes.proofs.PlanLemmas.{tree-roll}
use Rattle.plan_meaning.specs.WellFormed.{IsTypeOfRows, IsWellFormed}
use Rattle.plan_scans.specs.Scans.{HoldsTiles, info_over, tables_of}
use Rattle.row_exec.specs.Examples.{HasValues, count, counted, empty}
use Rattle.row_exec.specs.Passes.{CanGoOver, CanPass, Pass}
use Rattle.row_exec.specs.Run.{CanRun}
use Rattle.row_exec.proofs.Typed.{each-well_formed}

-- rows without columns, of which there are none
no-rows : (t : RelType) → t.columns ≡ [] → IsTypeOfRows t 0 []
no-rows t e = record {
  true = record { typed = All-nil (λ row. HasTypes row t.columns); few = λ l. omega arith };
  columns = ap length e;
}

pub counted-formed : (info : Info) (db : Db) → IsWellFormed info db counted
counted-formed info db =
    let none : RelType = record { columns = []; bound = 0 } in
    let own : RelType = record { columns = record { kind = Integer; nullable = false; interval = counts 0 } ∷ []; bound = 1 } in (
      record {
        inputs = record { first = record { kind = refl; sorted = refl }; second = refl };
        reads = refl;
        form = tt;
        types = record {
          left = none;
          right = none;
          own = own;
          left_is = no-rows none refl;
          right_is = no-rows none refl;
          own_is = record {
            typed = All-cons (λ row. HasTypes row own.columns) (Int (pos 0) ∷ []) [] ((refl, (≤ℤ_refl (pos 0), ≤ℤ_refl (pos 0))), tt) (All-nil (λ row. HasTypes row own.columns));
            few = λ l. omega arith;
          };
          typed = refl;
        };
      },
      (
        record {
          inputs = record { first = refl; second = refl };
          reads = refl;
          form = tt;
          types = record {
            left = none;
            right = none;
            own = none;
            left_is = no-rows none refl;
            right_is = no-rows none refl;
            own_is = (no-rows none refl).true;
            typed = refl;
          };
        },
        tt,
        tt,
      ),
      tt,
    )

pub tree-empty : (types : List SqlType) (items : List Plan) → types ≡ [] → items ≡ []
    → plan_tree (roll-Plan (record { node = EmptyRows types; inputs = items; rows = 0; part_rows = 0 })) ≡ Some empty
tree-empty types items e f =
    tree-roll (EmptyRows types) items 0 0 ∙ ap (λ (ts : List SqlType). planned (EmptyRows ts) 0 0 (map plan_tree items)) e
    ∙ ap (λ (ps : List Plan). planned (EmptyRows []) 0 0 (map plan_tree ps)) f

pub tree-counted : (groups : List ℕ) (calls : List AggCall) (items : List Plan) (p : Plan) → groups ≡ [] → calls ≡ count ∷ [] → items ≡ p ∷ [] → plan_tree p ≡ Some empty
    → plan_tree (roll-Plan (record { node = HashAggregate groups calls; inputs = items; rows = 1; part_rows = 0 })) ≡ Some counted
tree-counted groups calls items p e f g h =
    tree-roll (HashAggregate groups calls) items 1 0 ∙ ap (λ (gs : List ℕ). planned (HashAggregate gs calls) 1 0 (map plan_tree items)) e
    ∙ ap (λ (cs : List AggCall). planned (HashAggregate [] cs) 1 0 (map plan_tree items)) f
    ∙ ap (λ (ps : List Plan). planned (HashAggregate [] (count ∷ [])) 1 0 (map plan_tree ps)) g
    ∙ ap (λ (t : Option PlanTree). planned (HashAggregate [] (count ∷ [])) 1 0 (t ∷ [])) h

pub can-run-counted : (schema : Schema) (parts : Parts) (p : Plan) → plan_tree p ≡ Some counted → CanRun schema parts p
can-run-counted schema parts p e = record { tree = counted; is = e; formed = counted-formed (info_over schema parts) (tables_of parts) }

-- there is no tile
pub no-tiles : (schema : Schema) (parts : Parts) (tables : List (List Row)) → parts ≡ start_of tables → HoldsTiles schema parts
no-tiles schema parts tables e = subst (HoldsTiles schema) (sym e) (record { rows = λ instance tile found. absurd (cc) })

-- ---- passes over the one table

module _ (types : List SqlType) (row : Row) (typed : HasTypes row types) where
  test-ready : (o : Option Expr) → IfSome o (λ e. IsSome (type_of e types)) → IfSome o (λ e. expressions.IsWellFormed e row)
  test-ready None h = h
  test-ready (Some e) h = record { types = types; has_types = typed; typed = h }

  items-ready : (o : Option (List Expr)) → IfSome o (λ es. All (λ e. IsSome (type_of e types)) es) → IfSome o (λ es. All (λ e. expressions.IsWellFormed e row) es)
  items-ready None h = h
  items-ready (Some es) h = each-well_formed es types row typed h

  can-pass : (pass : Pass) → HasValues types pass → CanPass pass row
  can-pass pass h = record { tested = test-ready pass.condition h.tested; computed = λ _. items-ready pass.items h.computed }

pub can-go-over : (types : List SqlType) (pass : Pass) (rows : List Row) (parts : Parts) → parts ≡ start_of (rows ∷ []) → pass.table ≡ 0 → HasValues types pass → All (λ row. HasTypes row types) rows
    → CanGoOver parts pass
can-go-over types pass rows parts e first values typed =
    subst (λ (ps : Parts). CanGoOver ps pass) (sym e)
    (record {
      there = subst (λ (n : ℕ). IsSome (rows_of (start_of (rows ∷ [])) (Table n))) (sym first) refl;
      ready = subst (λ (n : ℕ). All (CanPass pass) (rows_in (start_of (rows ∷ [])) n)) (sym first)
          (All-weaker (λ row. HasTypes row types) (CanPass pass) (λ row k. can-pass types row k pass values) rows typed);
    })
