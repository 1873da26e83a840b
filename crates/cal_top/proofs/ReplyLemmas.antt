-- The reply to a text over the same tables, and the plan that it tells.
use Rattle.std.proofs.Common.{◌≡◌, ℕ, List, Option, Some, inl, inr, sym, subst, refl}
use Rattle.std.specs.Prelude.{IsSome}
use Rattle.cal_schema.specs.declared.schema.Schema.{Schema}
use Rattle.cal_snapshot.specs.Parts.{Parts, start_of}
use Rattle.cal_value.specs.declared.value.Value.{Value}
use Rattle.plan_nodes.specs.PlanTrees.{PlanTree}
use Rattle.rule_hep.specs.Meaning.{Meaning}
use Rattle.session_lane.specs.declared.reply.Reply.{Reply}
use Rattle.session_lane.specs.declared.reply.Reply.TheVariants.{Rows, Plan, Memo, Refused}
use Rattle.session_lane.specs.Replies.{IsReplyTo}
use Rattle.cal_top.specs.Texts.{IsSpelled}

pub same_tables : (rules : List Meaning) (budget : ℕ) (schema : Schema) (text : List ℕ) (reply : Reply) (tables others : List (List (List Value))) → tables ≡ others
    → IsReplyTo rules budget schema (start_of tables) text reply → IsReplyTo rules budget schema (start_of others) text reply
same_tables rules budget schema text reply tables others e is = subst (λ (t : List (List (List Value))). IsReplyTo rules budget schema (start_of t) text reply) e is

there : (o : Option PlanTree) (tree : PlanTree) → o ≡ Some tree → IsSome o
there o tree e = subst IsSome (sym e) refl

pub spelled : (rules : List Meaning) (budget : ℕ) (schema : Schema) (parts : Parts) (text : List ℕ) (reply : Reply) → IsReplyTo rules budget schema parts text reply → IsSpelled reply
spelled rules budget schema parts text (Rows at names answer) is = tt
spelled rules budget schema parts text (Plan at planning) (inl p) = there _ p.answers.planned.cheapest.cheapest.tree p.answers.planned.cheapest.cheapest.is
spelled rules budget schema parts text (Plan at planning) (inr never) = absurd never
spelled rules budget schema parts text (Memo at planning) is = tt
spelled rules budget schema parts text (Refused at cause) is = tt
