use Rattle.std.proofs.Common.{◌≡◌, [], ◌∷◌, rules}
use Rattle.row_exec.proofs.SmallPlans.{tree-counted}
use Rattle.row_exec.proofs.small.counted_rows.Goals as goal

pub returns : goal.returns
returns c =
    let one : c.from_vec.result ≡ c.no_rows.result ∷ [] = search rules in
    tree-counted c.new-groups.result c.in_ok-calls.calls c.from_vec.result c.no_rows.result c.new-groups.ensures c.in_ok-calls.ensures one c.no_rows.ensures
