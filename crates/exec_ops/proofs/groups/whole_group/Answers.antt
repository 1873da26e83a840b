use Rattle.std.proofs.Common.{◌≡◌, ◌∷◌, ◌++◌, [], List, sym, ap, ◌∙◌, subst}
use Rattle.std.specs.List.{range_with_len}
use Rattle.cal_value.specs.declared.value.Value.{Value}
use Rattle.exec_ops.specs.Group.{called}
use Rattle.exec_ops.specs.Places.{ArePlacesIn, rows_at}
use Rattle.exec_ops.specs.Ready.{CanCallEach}
use Rattle.exec_ops.proofs.GroupLemmas.{can_call_whole, rows-all, within-all}
use Rattle.exec_ops.proofs.groups.whole_group.Goals as goal

pub group_row-requires-clause-within : goal.group_row-requires-clause-within
group_row-requires-clause-within c =
    let rows = c.args.rows.now in
    subst (ArePlacesIn rows) (sym (c.as_slice.ensures ∙ c.in_ok-places.ensures)) (within-all rows c.len.result c.len.ensures)

pub group_row-requires-clause-typed : goal.group_row-requires-clause-typed
group_row-requires-clause-typed c =
    let rows = c.args.rows.now in
    let all : rows_at rows c.as_slice.result.now ≡ rows = ap (rows_at rows) (c.as_slice.ensures ∙ c.in_ok-places.ensures) ∙ rows-all rows c.len.result c.len.ensures in
    subst (CanCallEach c.args.calls.now) (sym all) (can_call_whole c.args.calls.now rows c.requires)

pub returns : goal.returns
returns c =
    let rows = c.args.rows.now in
    let calls = c.args.calls.now in
    let all : rows_at rows c.as_slice.result.now ≡ rows = ap (rows_at rows) (c.as_slice.ensures ∙ c.in_ok-places.ensures) ∙ rows-all rows c.len.result c.len.ensures in
    c.in_ok-push.ensures.ok ∙ ap (λ (groups : List (List Value)). groups ++ c.in_ok-row.row ∷ []) c.new-groups.ensures
    ∙ ap (λ (row : List Value). row ∷ []) (c.in_ok-row.ensures ∙ ap (λ (key : List Value). key ++ called calls (rows_at rows c.as_slice.result.now)) c.new.ensures ∙ ap (called calls) all)
