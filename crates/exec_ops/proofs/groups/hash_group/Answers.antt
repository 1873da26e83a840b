use Rattle.std.proofs.Common.{◌≡◌, [], List, ℕ, sym, ap, ◌∙◌, true≢false}
use Rattle.std.proofs.lemmas.Result.{IfOk-weaker}
use Rattle.cal_value.specs.declared.value.Value.{Value}
use Rattle.exec_ops.specs.Group.{by_key, group_rows}
use Rattle.exec_ops.specs.Steps.{grouped_at}
use Rattle.exec_ops.proofs.GroupLemmas.{by_key-group_rows, can_call_groups, grouped-is}
use Rattle.exec_ops.proofs.groups.hash_group.Goals as goal

pub groups_of-requires-clause-typed : goal.groups_of-requires-clause-typed
groups_of-requires-clause-typed c = can_call_groups c.args.calls.now c.requires c.in_ok-index.ensures

pub returns : goal.returns
returns c =
    let rows = c.args.rows.now in
    let groups = c.args.groups.now in
    let calls = c.args.calls.now in
    let index = c.in_ok-index.index in
    let some : groups ≡ [] → ⊥ = λ e. true≢false (sym (c.is_empty.ensures.1 e) ∙ c.if-is_empty.false) in
    let is : (made : List (List Value)) → made ≡ grouped_at calls rows index.keys.keys index.places.items → made ≡ group_rows groups calls rows =
    λ made e. e ∙ grouped-is calls c.in_ok-index.ensures ∙ ap (λ (gs : List ℕ). by_key gs calls rows) c.as_slice.ensures ∙ by_key-group_rows groups calls rows some in
    IfOk-weaker c.groups_of.result _ _ is c.groups_of.ensures
