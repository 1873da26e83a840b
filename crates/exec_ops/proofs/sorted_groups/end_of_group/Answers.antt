use Rattle.std.proofs.Common.{◌≡◌, ◌<◌, ◌+◌, ◌-◌, ℕ, [], get_or, length, take, drop, subst, sym, ap, ◌∙◌}
use Rattle.std.specs.List.{prefix_len}
use Rattle.std.proofs.lemmas.List.{get_or_read, take_rest}
use Rattle.exec_ops.specs.Group.{same_key}
use Rattle.exec_ops.proofs.SortedLemmas.{length-take_while, run-some}
use Rattle.exec_ops.proofs.sorted_groups.end_of_group.Goals as goal

pub returns-clause-after : goal.returns-clause-after
returns-clause-after c =
    let rows = c.args.rows.now in
    let columns = c.args.columns.now in
    let start = c.args.start in
    let seen = c.as_slice-rows.result.now in
    let all : seen ≡ rows = c.as_slice-rows.ensures in
    let x = c.index-rows-start.result in
    let is : x ≡ get_or rows start [] = get_or_read rows start x c.requires (rw (← all) c.index-rows-start.is) [] in
    let left : take (length seen - start) (drop start seen) ≡ drop start rows = take_rest seen start ∙ ap (drop start) all in
    let run : c.count_same.result ≡ prefix_len (same_key columns (get_or rows start [])) (drop start rows) =
    c.count_same.ensures ∙ length-take_while (same_key columns x) (take (length seen - start) (drop start seen)) ∙ (λ i. prefix_len (same_key columns (is i)) (left i)) in
    subst (λ (n : ℕ). start < start + n) (sym run) (run-some columns rows start c.requires)
