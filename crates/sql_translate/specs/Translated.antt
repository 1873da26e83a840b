-- What the tree of an accepted SELECT is for.
use Rattle.std.specs.Prelude.{◌≡◌, ℕ, List, IsSome}
use Rattle.cal_schema.specs.declared.database.Db.{Db}
use Rattle.cal_schema.specs.declared.schema.Schema.{Schema}
use Rattle.cal_schema.specs.Fits.{Fits}
use Rattle.cal_rel.specs.Bag.{bag}
use Rattle.cal_rel.specs.Info.{Info}
use Rattle.cal_rel.specs.Operators.{Row}
use Rattle.cal_rel.specs.Tree.{Tree}
use Rattle.cal_rel.specs.Typing.{type_of}
use Rattle.sql_tree.specs.declared.select.Select.{Select}
use Rattle.sql_meaning.specs.Direct.{direct}
use Rattle.sql_validator.specs.Checked.{IsChecked}
use Rattle.sql_validator.specs.declared.checked.CheckedSelect.{CheckedSelect}

-- nothing refuses the SELECT, behind so many tokens, and this is what it has
pub record IsAccepted (schema : Schema) (made : CheckedSelect) : Type 0 where
  pub before : ℕ
  pub checked : IsChecked schema before made.select made

-- whatever tiles and sets there are, the tree is well formed, and over each database that fits it has the rows that the SELECT means, in the same order
pub record MeansTheSelect (schema : Schema) (select : Select) (tree : Tree) : Type 0 where
  pub well_formed : (info : Info) → info.schema ≡ schema → IsSome (type_of info tree)
  pub rows : (info : Info) (db : Db) (holes : ℕ → List Row) → info.schema ≡ schema → Fits db schema → bag info db holes tree ≡ direct select schema db
