-- The items of a primary key as they are read, for contracts alone.
use Rattle.std.specs.Prelude.{ℕ, List, Result}
use Rattle.serde_json.specs.Data.{Data}
use Rattle.serde_json.specs.Find.{as_str}
use Rattle.cal_schema.specs.declared.column.ColumnDef.{ColumnDef}
use Rattle.model_fields.specs.declared.fault.ModelFault.{ModelFault}
use Rattle.model_fields.specs.Reading.{◌>>=◌, each}
use Rattle.model_fields.specs.Kinds.{a_list}
use Rattle.model_fields.specs.Rows.{key_column}

abbrev pub key_item : List ColumnDef → List ℕ → Data → Result ℕ ModelFault
key_item cs before d = key_column cs before (as_str d)

abbrev pub key_items : List ColumnDef → Data → Result (List ℕ) ModelFault
key_items cs d = a_list d >>= each (key_item cs)
