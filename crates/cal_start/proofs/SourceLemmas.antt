-- The names of the files of tables.
use Rattle.std.proofs.Common.{◌≡◌, List, [], ◌∷◌, Result, Ok, Err, refl, ap, map}
use Rattle.model_json.specs.ModelOf.{FilesAre, file_name}
use Rattle.model_json.specs.Schemas.{first_walk}
use Rattle.model_json.specs.Sources.{source_of, sources_in}
use Rattle.model_json.specs.declared.draft.Draft.{Draft}
use Rattle.model_json.specs.declared.draft.Drafts.{Drafts}
use Rattle.model_fields.specs.declared.fault.ModelFault.{ModelFault}
use Rattle.model_json.specs.declared.source.TableSource.{TableSource}
use Rattle.serde_json.specs.Data.{Data}
use Rattle.cal_start.specs.Parts.{file_names}

names_are : (ts : List Draft) → map (λ (t : TableSource). t.file) (map source_of ts) ≡ map file_name ts
names_are [] = refl
names_are (t ∷ ts) = ap (λ names. file_name t ∷ names) (names_are ts)

found : (r : Result Drafts ModelFault) (drafts : Drafts) → r ≡ Ok drafts → FilesAre (map (λ (t : TableSource). t.file) (sources_in r)) r
found (Ok ds) drafts is = names_are ds.tables
found (Err e) drafts is = absurd cc

pub files_are : (d : Data) (drafts : Drafts) → first_walk d ≡ Ok drafts → FilesAre (file_names d) (first_walk d)
files_are d drafts is = found (first_walk d) drafts is
