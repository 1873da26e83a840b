use Rattle.std.proofs.Common.{◌≡◌, ◌<◌, ◌∷◌, List, ℕ, length, sym, ap, ◌∙◌, subst, arith}
use Rattle.std.proofs.lemmas.Map.Iter.{rest_more}
use Rattle.exec_ops.specs.Places.{rows_at}
use Rattle.exec_ops.specs.Ready.{CanCallEach}
use Rattle.exec_ops.proofs.groups.groups_of.Goals as goal

pub group_row-requires-clause-typed : goal.group_row-requires-clause-typed
group_row-requires-clause-typed c =
    let places = c.args.index.places.items in
    let left = ap length (rest_more (λ x. x) c.loop-key.key-iterator c.next.new.self c.next.result c.in-Some.key c.in-Some.is c.next.ensures.steps) in
    let within : c.len.result < length places = omega (arith, left, c.loop-key.invariant.left, c.len.ensures) in
    subst (λ (ps : List ℕ). CanCallEach c.args.calls.now (rows_at c.args.rows.now ps)) (sym (c.as_slice-places.ensures ∙ c.index.ensures)) (c.requires.typed c.len.result c.index.result.now within)
