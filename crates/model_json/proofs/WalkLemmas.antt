-- The document, and going over its tables.
use Rattle.std.proofs.Common.{◌≡◌, ◌<◌, ℕ, ◌+◌, List, [], ◌∷◌, ◌++◌, Bool, true, false, Option, Some, None, Result, Ok, Err, refl, sym, ap, ◌∙◌, length, drop, get_or, arith, ◌≤◌}
use Rattle.std.specs.Prelude.{if◌then◌else◌}
use Rattle.std.specs.Str.{IsUtf8, is_utf8}
use Rattle.std.proofs.lemmas.Str.{is_utf8-from_IsUtf8, IsUtf8-from_is_utf8}
use Rattle.std.proofs.lemmas.List.{at_drop_more, at_drop_all}
use Rattle.serde_json.specs.Data.{Data}
use Rattle.serde_json.specs.Read.{read}
use Rattle.serde_json.specs.View.{items_view}
use Rattle.serde_json.specs.declared.value.Value.{Value}
use Rattle.cal_schema.specs.declared.column.ColumnDef.{ColumnDef}
use Rattle.cal_schema.specs.declared.table.TableDef.{TableDef}
use Rattle.model_json.specs.declared.draft.Draft.{Draft}
use Rattle.model_fields.specs.declared.fault.ModelFault.{ModelFault}
use Rattle.model_fields.specs.declared.fault.ModelFault.TheVariants.{NotJson}
use Rattle.model_fields.specs.declared.fault.ModelCause.TheVariants.{NotYet}
use Rattle.model_fields.specs.Reading.{◌>>=◌, bad}
use Rattle.model_json.specs.Schemas.{first_walk}
use Rattle.model_json.specs.ModelOf.{document, json, second_walk, tables_after, whole_table, no_lattices, checked, resolve, resolved, read_model, model_of}

pub document_some : (bytes : List ℕ) (d : Data) → IsUtf8 bytes → read bytes ≡ Some d → document bytes ≡ Ok d
document_some bytes d utf8 is = rw (is_utf8-from_IsUtf8 bytes utf8) (ap json is)

pub document_none : (bytes : List ℕ) → (IsUtf8 bytes → read bytes ≡ None) → document bytes ≡ Err NotJson
document_none bytes none = by_test (is_utf8 bytes) refl
  where
    by_test : (b : Bool) → is_utf8 bytes ≡ b → json (if b then read bytes else None) ≡ Err NotJson
    by_test true e = ap json (none (IsUtf8-from_is_utf8 bytes e))
    by_test false e = refl

pub lattices_some : (vs : List Value) → 1 ≤ length vs → no_lattices (items_view vs) ≡ bad NotYet
lattices_some [] h = absurd (omega (arith, h))
lattices_some (v ∷ vs) h = refl

-- ---- the whole

abbrev ok_data : Data → Result Data ModelFault
ok_data d = Ok d

first_then : {A : Type 0} (w : Result A ModelFault) (d e : Data) → (w >>= λ x. ok_data d) ≡ ok_data e → d ≡ e
first_then (Ok x) d e is = cc
first_then (Err f) d e is = absurd cc

first_fault : {A B : Type 0} (w : Result A ModelFault) (d : Data) (f : A → Result B ModelFault) (fault : ModelFault) → (w >>= λ x. ok_data d) ≡ Err fault → (w >>= f) ≡ Err fault
first_fault (Ok x) d f fault is = absurd cc
first_fault (Err e) d f fault is = cc

after_read : (o : Result Data ModelFault) (headers : List (Option (List ColumnDef))) (d : Data) → (o >>= checked) ≡ Ok d → (o >>= λ e. resolve e headers) ≡ resolve d headers
after_read (Ok e) headers d is = ap (λ u. resolve u headers) (first_then (first_walk e) e d is)
after_read (Err e) headers d is = absurd cc

after_fault : (o : Result Data ModelFault) (headers : List (Option (List ColumnDef))) (fault : ModelFault) → (o >>= checked) ≡ Err fault → (o >>= λ e. resolve e headers) ≡ Err fault
after_fault (Ok e) headers fault is = first_fault (first_walk e) e (resolved e headers) fault is
after_fault (Err e) headers fault is = cc

-- the model of the bytes is that of the document that was read
pub model_when_read : (bytes : List ℕ) (headers : List (Option (List ColumnDef))) (d : Data) → read_model bytes ≡ Ok d → model_of bytes headers ≡ resolve d headers
model_when_read bytes headers d is = after_read (document bytes) headers d is

-- a fault that reading tells is the fault of the bytes, whatever the headers
pub model_when_fault : (bytes : List ℕ) (headers : List (Option (List ColumnDef))) (fault : ModelFault) → read_model bytes ≡ Err fault → model_of bytes headers ≡ Err fault
model_when_fault bytes headers fault is = after_fault (document bytes) headers fault is

-- ---- the second walk

pub record TablesRead (headers : List (Option (List ColumnDef))) (ts : List Draft) (done : List TableDef) (i : ℕ) : Type 0 where
  pub so_far : second_walk headers ts ≡ tables_after headers done (drop i ts)

pub tables_none : (headers : List (Option (List ColumnDef))) (ts : List Draft) → TablesRead headers ts [] 0
tables_none headers ts = record { so_far = refl }

tables_at : (headers : List (Option (List ColumnDef))) (ts : List Draft) (done : List TableDef) (i : ℕ) (t : Draft) → i < length ts → t ≡ get_or ts i t
    → tables_after headers done (drop i ts) ≡ (whole_table headers (length done) t >>= λ whole. tables_after headers (done ++ whole ∷ []) (drop (i + 1) ts))
tables_at headers ts done i t h is =
    at_drop_more (λ us. tables_after headers done us) ts i t h
    ∙ ap (λ u. whole_table headers (length done) u >>= λ whole. tables_after headers (done ++ whole ∷ []) (drop (i + 1) ts)) (sym is)

pub tables_one : (headers : List (Option (List ColumnDef))) (ts : List Draft) (done : List TableDef) (i : ℕ) (t : Draft) (whole : TableDef)
    → i < length ts → t ≡ get_or ts i t → whole_table headers (length done) t ≡ Ok whole → TablesRead headers ts done i → TablesRead headers ts (done ++ whole ∷ []) (i + 1)
tables_one headers ts done i t whole h is e r = record {
  so_far = r.so_far ∙ tables_at headers ts done i t h is ∙ ap (λ o. o >>= λ whole. tables_after headers (done ++ whole ∷ []) (drop (i + 1) ts)) e;
}

pub tables_stopped : (headers : List (Option (List ColumnDef))) (ts : List Draft) (done : List TableDef) (i : ℕ) (t : Draft) (fault : ModelFault)
    → i < length ts → t ≡ get_or ts i t → whole_table headers (length done) t ≡ Err fault → TablesRead headers ts done i → second_walk headers ts ≡ Err fault
tables_stopped headers ts done i t fault h is e r =
    r.so_far ∙ tables_at headers ts done i t h is ∙ ap (λ o. o >>= λ whole. tables_after headers (done ++ whole ∷ []) (drop (i + 1) ts)) e

pub tables_all : (headers : List (Option (List ColumnDef))) (ts : List Draft) (done : List TableDef) → TablesRead headers ts done (length ts) → second_walk headers ts ≡ Ok done
tables_all headers ts done r = r.so_far ∙ at_drop_all (λ us. tables_after headers done us) ts (length ts) (omega arith)
