-- The model of a document is valid, and its rows fill their tables.
use Rattle.std.proofs.Common.{◌≡◌, ◌≤◌, ℕ, suc, List, [], ◌∷◌, ◌++◌, length, map, slice_get, Option, Some, None, option_and_then, Result, Ok, Err, IfOk, IfSome, All, AllPairs, refl, sym, ap, subst, ◌∙◌, arith, append_assoc, decimal, codes}
use Rattle.std.specs.Prelude.{unwrap_or}
use Rattle.std.specs.List.{AllZip}
use Rattle.std.proofs.lemmas.List.{append-nil, length_push}
use Rattle.std.proofs.lemmas.List.Elements.{All-nil, All-cons, All-head, All-tail, All-push}
use Rattle.std.proofs.lemmas.List.Kept.{AllPairs-cons}
use Rattle.serde_json.specs.Data.{Data}
use Rattle.cal_value.specs.declared.limits.TheConstants.{COLUMN_LIMIT, NAME_LIMIT}
use Rattle.cal_value.specs.declared.value.Value.{Value}
use Rattle.cal_schema.specs.declared.column.ColumnDef.{ColumnDef}
use Rattle.cal_schema.specs.declared.table.AdapterKind.{AdapterKind}
use Rattle.cal_schema.specs.declared.table.AdapterKind.TheVariants.{Csv}
use Rattle.cal_schema.specs.declared.table.TableDef.{TableDef}
use Rattle.cal_schema.specs.Valid.{IsHeader, IsValidTable, IsValidSchema, HaveTwoNames}
use Rattle.model_json.specs.declared.draft.Draft.{Draft}
use Rattle.model_json.specs.declared.draft.Drafts.{Drafts}
use Rattle.model_fields.specs.declared.fault.ModelFault.{ModelFault}
use Rattle.model_json.specs.declared.model.Model.{Model}
use Rattle.model_fields.specs.Reading.{◌>>=◌, under, Gives}
use Rattle.cal_value.specs.declared.memory.NoMemory.{NoMemory}
use Rattle.model_json.specs.declared.source.TableSource.{TableSource}
use Rattle.model_fields.specs.Rows.{member_key}
use Rattle.model_json.specs.Schemas.{first_walk}
use Rattle.model_json.specs.Sources.{source_of, sources_in, sources_of}
use Rattle.model_json.specs.ModelOf.{with_columns, file_key_at, table_with, header_at, whole_table, tables_after, second_walk, third_walk, inline_rows, model, resolved, resolve, if_file, file_name, files, FilesAre, IsHeaderOf, AreHeadersOf, file_by, file_of, IsInlineOf, AreInlineFilled, AreShort}
use Rattle.model_fields.proofs.AnswerLemmas.{steps, under-is}
use Rattle.model_json.proofs.DraftLemmas.{IsFile, IsLimit, HasRows, IsOneOf, IsDraft, IsShortName, IsWhole, HaveTwo, walk-drafts, walk-is}
use Rattle.model_fields.proofs.FilledLemmas.{fills-table}
use Rattle.model_fields.proofs.KeyLemmas.{HasColumns, IsKeyOf, member_key-is, header-keyed}

-- ---- one table

-- the table keeps what the draft says of it, but for columns and key
pub record Completes (t : Draft) (w : TableDef) : Type 0 where
  pub schema : w.schema ≡ t.table.schema
  pub name : w.name ≡ t.table.name
  pub adapter : w.adapter ≡ t.table.adapter
  pub file : w.file ≡ t.table.file
  pub max_rows : w.max_rows ≡ t.table.max_rows
  pub inline : IsInlineOf w t.rows

inline-file : (t : Draft) (o : Option (List (List Value))) → t.rows ≡ o → IsDraft t → (cs : List ColumnDef) (w : TableDef) → table_with t cs o ≡ Ok w → Completes t w
inline-file t None is draft cs w e =
    let key = steps (file_key_at t cs) (λ ks. made ks) w e in
    let same : with_columns t.table cs key.found ≡ w = Prim.cc (key.then) in
    let csv : t.table.adapter ≡ Csv = subst (IsOneOf t.table.adapter t.table.columns t.table.primary_key t.table.max_rows) is draft.rows in
    subst (Completes t) same (record { schema = refl; name = refl; adapter = refl; file = refl; max_rows = refl; inline = subst (IsInlineOf (with_columns t.table cs key.found)) (sym is) csv })
  where
    made : List ℕ → Result TableDef ModelFault
    made ks = Ok (with_columns t.table cs ks)
inline-file t (Some rs) is draft cs w e =
    let same : t.table ≡ w = Prim.cc in
    let rows : HasRows t.table.adapter t.table.columns t.table.primary_key t.table.max_rows rs = subst (IsOneOf t.table.adapter t.table.columns t.table.primary_key t.table.max_rows) is draft.rows in
    subst (Completes t) same (record { schema = refl; name = refl; adapter = refl; file = refl; max_rows = refl; inline = subst (IsInlineOf t.table) (sym is) (rows.in_model, fills-table t.table rs rows.filled) })

valid-table : (w : TableDef) → length w.schema ≤ NAME_LIMIT → length w.name ≤ NAME_LIMIT → IsFile w.adapter w.file → IsLimit w.max_rows → HasColumns w.columns w.primary_key → IsValidTable w
valid-table w schema name file limit has = record {
  schema_short = schema;
  name_short = name;
  some_columns = has.some_columns;
  few_columns = has.few_columns;
  columns_named = has.columns_named;
  columns_short = has.columns_short;
  columns_apart = has.columns_apart;
  typed = has.typed;
  nulls = has.nulls;
  file_short = file.short;
  file_there = file.there;
  some_rows = limit.some;
  few_rows = limit.few;
  key_there = has.key_there;
  key_apart = has.key_apart;
}

key_at-is : (t : Draft) (cs : List ColumnDef) (ks : List ℕ) → file_key_at t cs ≡ Ok ks → IsKeyOf cs ks
key_at-is t cs ks e =
    let key = member_key cs t.key in
    let operand = under (codes "operand") key in
    let table = under (decimal t.table_at) operand in
    let tables = under (codes "tables") table in
    let schema = under (decimal t.schema_at) tables in
    member_key-is cs t.key ks
    (under-is (codes "operand") key ks (under-is (decimal t.table_at) operand ks (under-is (codes "tables") table ks (under-is (decimal t.schema_at) tables ks (under-is (codes "schemas") schema ks e)))))

-- the header of the table, where it is read from a file
pub record HasHeader (o : Option (List (List Value))) (cs : List ColumnDef) : Type 0 where
  pub header : o ≡ None → IsHeader cs

table-valid : (t : Draft) (o : Option (List (List Value))) → t.rows ≡ o → IsWhole t → (cs : List ColumnDef) → HasHeader o cs → (w : TableDef) → table_with t cs o ≡ Ok w → IsValidTable w
table-valid t None is whole cs has w e =
    let key = steps (file_key_at t cs) (λ ks. made ks) w e in
    let same : with_columns t.table cs key.found ≡ w = Prim.cc (key.then) in
    subst IsValidTable same
    (valid-table (with_columns t.table cs key.found) whole.1 whole.0.name_short whole.0.file whole.0.limit (header-keyed cs key.found (has.header refl) (key_at-is t cs key.found key.first)))
  where
    made : List ℕ → Result TableDef ModelFault
    made ks = Ok (with_columns t.table cs ks)
table-valid t (Some rs) is whole cs has w e =
    let same : t.table ≡ w = Prim.cc in
    let rows : HasRows t.table.adapter t.table.columns t.table.primary_key t.table.max_rows rs = subst (IsOneOf t.table.adapter t.table.columns t.table.primary_key t.table.max_rows) is whole.0.rows in
    subst IsValidTable same (valid-table t.table whole.1 whole.0.name_short whole.0.file whole.0.limit rows.valid)

-- ---- all tables

-- so many more tables, each of its draft
pub record Completed (done : List TableDef) (ts : List Draft) (all : List TableDef) : Type 0 where
  pub rest : List TableDef
  pub all_is : all ≡ done ++ rest
  pub each : AllZip Completes ts rest

walked : (headers : List (Option (List ColumnDef))) (done : List TableDef) (ts : List Draft) (all : List TableDef) → All IsWhole ts → tables_after headers done ts ≡ Ok all → Completed done ts all
walked headers done [] all whole e = let same : done ≡ all = Prim.cc in record { rest = []; all_is = sym same ∙ sym (append-nil done); each = tt }
walked headers done (t ∷ ts) all whole e =
    let s = steps (whole_table headers (length done) t) (λ w. tables_after headers (done ++ w ∷ []) ts) all e in
    let later = walked headers (done ++ s.found ∷ []) ts all (All-tail IsWhole t ts whole) s.then in
    record {
      rest = s.found ∷ later.rest;
      all_is = later.all_is ∙ append_assoc done (s.found ∷ []) later.rest;
      each = (inline-file t t.rows refl (All-head IsWhole t ts whole).0 (header_at headers (length done)) s.found s.first, later.each);
    }

placed : {X : Type 0} (front : List X) (x : X) (xs : List X) → slice_get (front ++ x ∷ xs) (length front) ≡ Some x
placed [] x xs = refl
placed (f ∷ fs) x xs = placed fs x xs

named-header : (t : Draft) (o : Option (List (List Value))) (h : Option (List ColumnDef)) → IsHeaderOf (if_file t.table.file o) h → HasHeader o (unwrap_or h [])
named-header t None None is = absurd is
named-header t None (Some cs) is = record { header = λ e. is }
named-header t (Some rs) h is = record { header = λ e. absurd (Prim.cc) }

walk-valid : (headers front hs : List (Option (List ColumnDef))) (done : List TableDef) (ts : List Draft) (all : List TableDef) → headers ≡ front ++ hs → length front ≡ length done
    → All IsWhole ts → AreHeadersOf (map file_name ts) hs → All IsValidTable done → tables_after headers done ts ≡ Ok all → All IsValidTable all
walk-valid headers front hs done [] all is l whole named valid e = let same : done ≡ all = Prim.cc in subst (All IsValidTable) same valid
walk-valid headers front [] done (t ∷ ts) all is l whole named valid e = absurd named
walk-valid headers front (h ∷ hs) done (t ∷ ts) all is l whole named valid e =
    let s = steps (whole_table headers (length done) t) (λ w. tables_after headers (done ++ w ∷ []) ts) all e in
    let there : slice_get headers (length done) ≡ Some h = ap (λ (u : List (Option (List ColumnDef))). slice_get u (length done)) is ∙ ap (slice_get (front ++ h ∷ hs)) (sym l) ∙ placed front h hs in
    let columns : header_at headers (length done) ≡ unwrap_or h [] = ap (λ (o : Option (Option (List ColumnDef))). unwrap_or (option_and_then (λ header. header) o) []) there in
    let has : HasHeader t.rows (header_at headers (length done)) = subst (HasHeader t.rows) (sym columns) (named-header t t.rows h named.0) in
    let one = table-valid t t.rows refl (All-head IsWhole t ts whole) (header_at headers (length done)) has s.found s.first in
    walk-valid headers (front ++ h ∷ []) hs (done ++ s.found ∷ []) ts all (is ∙ sym (append_assoc front (h ∷ []) hs)) (omega (arith, length_push front h, length_push done s.found, l))
    (All-tail IsWhole t ts whole) named.1 (All-push IsValidTable done s.found valid one) s.then

zip-all : (t : Draft) (w : TableDef) → Completes t w → (ts : List Draft) (ws : List TableDef) → AllZip Completes ts ws → All (HaveTwo t) ts → All (HaveTwoNames w) ws
zip-all t w one [] [] each h = All-nil (HaveTwoNames w)
zip-all t w one [] (v ∷ ws) each h = absurd each
zip-all t w one (u ∷ ts) [] each h = absurd each
zip-all t w one (u ∷ ts) (v ∷ ws) each h =
    All-cons (HaveTwoNames w) v ws
    (λ schema name. All-head (HaveTwo t) u ts h (sym one.schema ∙ schema ∙ each.0.schema) (sym one.name ∙ name ∙ each.0.name))
    (zip-all t w one ts ws each.1 (All-tail (HaveTwo t) u ts h))

zip-apart : (ts : List Draft) (ws : List TableDef) → AllZip Completes ts ws → AllPairs HaveTwo ts → AllPairs HaveTwoNames ws
zip-apart [] [] each h = λ i j d lt within. absurd (omega arith)
zip-apart [] (w ∷ ws) each h = absurd each
zip-apart (t ∷ ts) [] each h = absurd each
zip-apart (t ∷ ts) (w ∷ ws) each h =
    AllPairs-cons HaveTwoNames w ws
    (zip-all t w each.0 ts ws each.1 (λ k d lt. h 0 (suc k) d (omega arith) (omega arith)))
    (zip-apart ts ws each.1 (λ i j d lt within. h (suc i) (suc j) d (omega arith) (omega arith)))

zip-length : (ts : List Draft) (ws : List TableDef) → AllZip Completes ts ws → length ws ≡ length ts
zip-length [] [] each = refl
zip-length [] (w ∷ ws) each = absurd each
zip-length (t ∷ ts) [] each = absurd each
zip-length (t ∷ ts) (w ∷ ws) each = ap suc (zip-length ts ws each.1)

zip-inline : (ts : List Draft) (ws : List TableDef) → AllZip Completes ts ws → AreInlineFilled ws (map inline_rows ts)
zip-inline [] [] each = tt
zip-inline [] (w ∷ ws) each = absurd each
zip-inline (t ∷ ts) [] each = absurd each
zip-inline (t ∷ ts) (w ∷ ws) each = (each.0.inline, zip-inline ts ws each.1)

one-file : (t : Draft) (w : TableDef) (o : Option (List (List Value))) → w.file ≡ t.table.file → IsInlineOf w o → if_file t.table.file o ≡ file_of w
one-file t w None file inline = ap Some (sym file) ∙ ap (λ (a : AdapterKind). file_by a w.file) (sym inline)
one-file t w (Some rs) file inline = ap (λ (a : AdapterKind). file_by a w.file) (sym inline.0)

zip-files : (ts : List Draft) (ws : List TableDef) → AllZip Completes ts ws → map file_name ts ≡ map file_of ws
zip-files [] [] each = refl
zip-files [] (w ∷ ws) each = absurd each
zip-files (t ∷ ts) [] each = absurd each
zip-files (t ∷ ts) (w ∷ ws) each =
    let here = one-file t w t.rows each.0.file each.0.inline in
    let later = zip-files ts ws each.1 in
    λ i. here i ∷ later i

-- ---- the whole

pub record Resolved (d : Data) (headers : List (Option (List ColumnDef))) (m : Model) : Type 0 where
  pub drafts : Drafts
  pub first : first_walk d ≡ Ok drafts
  pub default : drafts.default_schema ≡ m.schema.default_schema
  pub tables : tables_after headers [] drafts.tables ≡ Ok m.schema.tables
  pub inline : m.inline ≡ map inline_rows drafts.tables

resolved-is : (d : Data) (headers : List (Option (List ColumnDef))) (m : Model) → resolve d headers ≡ Ok m → Resolved d headers m
resolved-is d headers m e =
    let walk = steps (first_walk d) (resolved d headers) m e in
    let drafts = walk.found in
    let all = steps (second_walk headers drafts.tables) (λ tables. third_walk d >>= λ u. made drafts tables) m walk.then in
    let last = steps (third_walk d) (λ u. made drafts all.found) m all.then in
    let same : model drafts.default_schema all.found drafts.tables ≡ m = Prim.cc (last.then) in
    record {
      drafts = drafts;
      first = walk.first;
      default = ap (λ (w : Model). w.schema.default_schema) same;
      tables = all.first ∙ ap (λ (w : Model). good w.schema.tables) same;
      inline = sym (ap (λ (w : Model). w.inline) same);
    }
  where
    good : List TableDef → Result (List TableDef) ModelFault
    good ts = Ok ts

    made : Drafts → List TableDef → Result Model ModelFault
    made drafts tables = Ok (model drafts.default_schema tables drafts.tables)

completed : (d : Data) (headers : List (Option (List ColumnDef))) (m : Model) (r : Resolved d headers m) → AllZip Completes r.drafts.tables m.schema.tables
completed d headers m r =
    let w = walked headers [] r.drafts.tables m.schema.tables (walk-drafts d r.drafts r.first).drafts r.tables in
    subst (AllZip Completes r.drafts.tables) (sym w.all_is) w.each

names-are : (names : List (Option (List ℕ))) (w : Result Drafts ModelFault) (drafts : Drafts) → w ≡ Ok drafts → FilesAre names w → names ≡ map file_name drafts.tables
names-are names (Ok ds) drafts is h = let same : ds ≡ drafts = Prim.cc in h ∙ ap (λ (w : Drafts). files w) same
names-are names (Err fault) drafts is h = absurd h

inline-is : (d : Data) (headers : List (Option (List ColumnDef))) (m : Model) → resolve d headers ≡ Ok m → AreInlineFilled m.schema.tables m.inline
inline-is d headers m e =
    let r = resolved-is d headers m e in
    subst (AreInlineFilled m.schema.tables) (sym r.inline) (zip-inline r.drafts.tables m.schema.tables (completed d headers m r))

files-are : (d : Data) (headers : List (Option (List ColumnDef))) (m : Model) → resolve d headers ≡ Ok m → (names : List (Option (List ℕ))) → FilesAre names (first_walk d) → names ≡ map file_of m.schema.tables
files-are d headers m e names h =
    let r = resolved-is d headers m e in
    names-are names (first_walk d) r.drafts r.first h ∙ zip-files r.drafts.tables m.schema.tables (completed d headers m r)

schema-valid : (d : Data) (headers : List (Option (List ColumnDef))) (m : Model) → resolve d headers ≡ Ok m → (names : List (Option (List ℕ))) → FilesAre names (first_walk d) → AreHeadersOf names headers → IsValidSchema m.schema
schema-valid d headers m e names h given =
    let r = resolved-is d headers m e in
    let walk = walk-is d r.drafts r.first in
    let drafts = walk.tables in
    let each = completed d headers m r in
    let named : AreHeadersOf (map file_name r.drafts.tables) headers = subst (λ (ns : List (Option (List ℕ))). AreHeadersOf ns headers) (names-are names (first_walk d) r.drafts r.first h) given in
    record {
      default_short = subst IsShortName r.default walk.default;
      few_tables = omega (arith, zip-length r.drafts.tables m.schema.tables each, drafts.few);
      tables = walk-valid headers [] headers [] r.drafts.tables m.schema.tables refl refl drafts.drafts named (All-nil IsValidTable) r.tables;
      apart = zip-apart r.drafts.tables m.schema.tables each drafts.apart;
    }

-- the rows of the model's tables
pub model-inline : (d : Data) (headers : List (Option (List ColumnDef))) (answer : Result Model ModelFault) → Gives (λ (m : Model). m) answer (resolve d headers) → IfOk answer (λ m. AreInlineFilled m.schema.tables m.inline)
model-inline d headers (Ok m) e = inline-is d headers m e
model-inline d headers (Err fault) e = tt

-- the files of the model's tables
pub model-files : (d : Data) (headers : List (Option (List ColumnDef))) (answer : Result Model ModelFault) → Gives (λ (m : Model). m) answer (resolve d headers)
    → (names : List (Option (List ℕ))) → FilesAre names (first_walk d) → IfOk answer (λ m. names ≡ map file_of m.schema.tables)
model-files d headers (Ok m) e = files-are d headers m e
model-files d headers (Err fault) e = λ names h. tt

-- the schema of the model
pub model-valid : (d : Data) (headers : List (Option (List ColumnDef))) (answer : Result Model ModelFault) → Gives (λ (m : Model). m) answer (resolve d headers)
    → (names : List (Option (List ℕ))) → FilesAre names (first_walk d) → AreHeadersOf names headers → IfOk answer (λ m. IsValidSchema m.schema)
model-valid d headers (Ok m) e = schema-valid d headers m e
model-valid d headers (Err fault) e = λ names h given. tt

-- ---- headers, one after another

pub headers-push : (names : List (Option (List ℕ))) (headers : List (Option (List ColumnDef))) (name : Option (List ℕ)) (header : Option (List ColumnDef))
    → AreHeadersOf names headers → IsHeaderOf name header → AreHeadersOf (names ++ name ∷ []) (headers ++ header ∷ [])
headers-push [] [] name header are is = (is, tt)
headers-push [] (h ∷ hs) name header are is = absurd are
headers-push (n ∷ ns) [] name header are is = absurd are
headers-push (n ∷ ns) (h ∷ hs) name header are is = (are.0, headers-push ns hs name header are.1 is)

one-short : (name : Option (List ℕ)) (header : Option (List ColumnDef)) → IsHeaderOf name header → IfSome header (λ cs. length cs ≤ COLUMN_LIMIT)
one-short name None is = tt
one-short None (Some cs) is = absurd is
one-short (Some name) (Some cs) is = is.few_columns

pub headers-short : (names : List (Option (List ℕ))) (headers : List (Option (List ColumnDef))) → AreHeadersOf names headers → AreShort headers
headers-short [] [] are = All-nil (λ header. IfSome header (λ cs. length cs ≤ COLUMN_LIMIT))
headers-short [] (h ∷ hs) are = absurd are
headers-short (n ∷ ns) [] are = absurd are
headers-short (n ∷ ns) (h ∷ hs) are = All-cons (λ header. IfSome header (λ cs. length cs ≤ COLUMN_LIMIT)) h hs (one-short n h are.0) (headers-short ns hs are.1)

-- ---- what the call answers

pub after-walk : (d : Data) (headers : List (Option (List ColumnDef))) (drafts : Drafts) (answer : Result Model ModelFault) → first_walk d ≡ Ok drafts → Gives (λ (m : Model). m) answer (resolved d headers drafts) → Gives (λ (m : Model). m) answer (resolve d headers)
after-walk d headers drafts answer e h = subst (λ (w : Result Drafts ModelFault). Gives (λ (m : Model). m) answer (w >>= resolved d headers)) (sym e) h

-- ---- the tables with their files

pub sources-walked : (d : Data) (drafts : Drafts) (answer : Result (List TableSource) NoMemory) → first_walk d ≡ Ok drafts → IfOk answer (λ all. all ≡ map source_of drafts.tables) → IfOk answer (λ all. all ≡ sources_of d)
sources-walked d drafts answer e h = subst (λ (w : Result Drafts ModelFault). IfOk answer (λ all. all ≡ sources_in w)) (sym e) h
