-- What contracts see of a lock and of a pass: a record each.
use Rattle.std.specs.Prelude.{ℕ, List}
use Rattle.atomic_table.specs.Seated.{TableId}

-- which lock it is, and for how many seats
pub record Lock : Type 0 where
  pub id : TableId
  pub seats : ℕ

-- of which lock the pass is, what the history begins from, the prefix of the history that it has seen, the places of its own commits, and its actors
pub record Known (E B : Type 0) : Type 0 where
  pub lock : TableId
  pub base : B
  pub prefix : List E
  pub commits : List ℕ
  pub actors : List ℕ
