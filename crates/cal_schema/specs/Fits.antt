-- When rows fit a table, and the tables of a database a schema.
use Rattle.std.specs.Prelude.{◌≡◌, ◌≢◌, ◌≤◌, false, List, [], ◌∷◌, length, map, All, AllPairs, ⊤}
use Rattle.cal_value.specs.declared.kind.SqlType.{SqlType}
use Rattle.cal_value.specs.declared.value.Value.{Value}
use Rattle.cal_value.specs.Logic.{is_null}
use Rattle.cal_value.specs.Order.{columns_of}
use Rattle.cal_value.specs.Types.{HasTypes}
use Rattle.cal_schema.specs.declared.database.Db.{Db}
use Rattle.cal_schema.specs.declared.table.TableDef.{TableDef}
use Rattle.cal_schema.specs.declared.schema.Schema.{Schema}

-- the types of a table's columns, in order
abbrev pub types_of : TableDef → List SqlType
types_of table = map (λ c. c.kind) table.columns

-- a row's values in the columns of the primary key, in the order of the key
abbrev pub key_of : TableDef → List Value → List Value
key_of table row = columns_of row table.primary_key

-- no two rows have one key, where there is a primary key
abbrev pub HasKeysApart : TableDef → List (List Value) → Type 0
HasKeysApart table rows = table.primary_key ≢ [] → AllPairs (λ a b. key_of table a ≢ key_of table b) rows

pub record IsFilledBy (table : TableDef) (rows : List (List Value)) : Type 0 where
  pub typed : All (λ row. HasTypes row (types_of table)) rows
  pub few : length rows ≤ table.max_rows
  pub keys : HasKeysApart table rows

-- NULL stands in no column of the row's key
abbrev pub HasWholeKey : TableDef → List Value → Type 0
HasWholeKey table row = All (λ v. is_null v ≡ false) (key_of table row)

-- as many lists of rows as tables, each of which fits its table
abbrev pub AreFilledBy : List TableDef → List (List (List Value)) → Type 0
AreFilledBy [] [] = ⊤
AreFilledBy [] (r ∷ rs) = ⊥
AreFilledBy (t ∷ ts) [] = ⊥
AreFilledBy (t ∷ ts) (r ∷ rs) = IsFilledBy t r × AreFilledBy ts rs

-- the rows fit the schema
abbrev pub Fits : Db → Schema → Type 0
Fits db schema = AreFilledBy schema.tables db.tables
