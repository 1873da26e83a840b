use Rattle.std.proofs.Common.{◌≡◌, ◌-◌, ◌++◌, List, [], get_or, take, drop, sym, ap, ◌∙◌, subst, arith}
use Rattle.std.proofs.lemmas.List.{get_or_read}
use Rattle.std.proofs.lemmas.Result.{IfOk-weaker}
use Rattle.cal_value.specs.declared.value.Value.{Value}
use Rattle.cal_value.specs.Order.{columns_of}
use Rattle.exec_ops.specs.Group.{called}
use Rattle.exec_ops.specs.Places.{rows_at}
use Rattle.exec_ops.specs.Ready.{CanCallEach}
use Rattle.exec_ops.proofs.GroupLemmas.{can_call_between, rows-between, within-between}
use Rattle.exec_ops.proofs.sorted_groups.group_between.Goals as goal

pub group_row-requires-clause-within : goal.group_row-requires-clause-within
group_row-requires-clause-within c = within-between c.args.rows.now c.args.places.now (c.args.end - c.args.start) c.args.start c.requires.places

pub group_row-requires-clause-typed : goal.group_row-requires-clause-typed
group_row-requires-clause-typed c =
    let rows = c.args.rows.now in
    let size = c.args.end - c.args.start in
    subst (CanCallEach c.args.calls.now) (sym (rows-between rows c.args.places.now size c.args.start c.requires.places)) (can_call_between c.args.calls.now rows size c.args.start c.requires.ready)

pub returns : goal.returns
returns c =
    let rows = c.args.rows.now in
    let places = c.args.places.now in
    let calls = c.args.calls.now in
    let groups = c.args.groups.now in
    let start = c.args.start in
    let size = c.args.end - start in
    let first = c.index-as_slice-start.result in
    let is : first ≡ get_or rows start [] = get_or_read rows start first (omega arith) (rw (← c.as_slice.ensures) c.index-as_slice-start.is) [] in
    let key : c.in_ok-key.key ≡ columns_of (get_or rows start []) groups = c.in_ok-key.ensures ∙ ap (λ (r : List Value). columns_of r groups) is in
    let group : rows_at rows (take size (drop start places)) ≡ take size (drop start rows) = rows-between rows places size start c.requires.places in
    let made : (row : List Value) → row ≡ c.in_ok-key.key ++ called calls (rows_at rows (take size (drop start places))) → row ≡ columns_of (get_or rows start []) groups ++ called calls (take size (drop start rows)) =
    λ row e. e ∙ (λ i. key i ++ called calls (group i)) in
    IfOk-weaker c.group_row.result _ _ made c.group_row.ensures
