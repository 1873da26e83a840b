-- The tables of a model, with the files that they are read from.
use Rattle.std.specs.Prelude.{List, [], map, Result, Ok, Err}
use Rattle.serde_json.specs.Data.{Data}
use Rattle.model_json.specs.declared.draft.Draft.{Draft}
use Rattle.model_json.specs.declared.draft.Drafts.{Drafts}
use Rattle.model_fields.specs.declared.fault.ModelFault.{ModelFault}
use Rattle.model_json.specs.declared.source.TableSource.{TableSource}
use Rattle.model_json.specs.ModelOf.{file_name}
use Rattle.model_json.specs.Schemas.{first_walk}

abbrev pub source_of : Draft → TableSource
source_of t = record { schema = t.table.schema; name = t.table.name; file = file_name t }

abbrev pub sources_in : Result Drafts ModelFault → List TableSource
sources_in (Ok drafts) = map source_of drafts.tables
sources_in (Err e) = []

-- the tables of a document that the first walk finds no fault in
abbrev pub sources_of : Data → List TableSource
sources_of d = sources_in (first_walk d)
