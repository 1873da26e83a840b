-- What an answer to a SELECT is: its rows in any order that ORDER BY leaves.
use Rattle.std.specs.Prelude.{List}
use Rattle.cal_value.specs.declared.value.Value.{Value}
use Rattle.cal_value.specs.Order.{SameBag, IsInOrder}
use Rattle.cal_schema.specs.declared.database.Db.{Db}
use Rattle.cal_schema.specs.declared.schema.Schema.{Schema}
use Rattle.sql_tree.specs.declared.select.Select.{Select}
use Rattle.sql_meaning.specs.Direct.{direct}
use Rattle.sql_meaning.specs.Order.{keys_of}
use Rattle.sql_meaning.specs.Scope.{scope_of}

-- each row as often as it is meant, and no row that is out of order with the next one
pub record IsAnswer (select : Select) (schema : Schema) (db : Db) (rows : List (List Value)) : Type 0 where
  pub bag : SameBag rows (direct select schema db)
  pub order : IsInOrder (keys_of (scope_of schema select) select) rows
