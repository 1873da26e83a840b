use Rattle.std.proofs.Common.{◌≡◌, [], rules}
use Rattle.row_exec.proofs.SmallPlans.{tree-empty}
use Rattle.row_exec.proofs.small.no_rows.Goals as goal

pub returns : goal.returns
returns c =
    let none : c.from_vec.result ≡ [] = search rules in
    tree-empty c.new-types.result c.from_vec.result c.new-types.ensures none
