-- One more row of a scan.
use Rattle.std.proofs.Common.{◌≡◌, ◌<◌, ◌+◌, ℕ, Bool, true, false, cond, List, [], ◌∷◌, ◌++◌, length, map, drop, Option, Some, None, sym, ap, ◌∙◌, refl, add-one, append_assoc, unwrap_or, filter, get_or, drop-cons}
use Rattle.std.proofs.lemmas.Option.{slice_get_within, get_or_from_slice_get}
use Rattle.std.specs.Prelude.{slice_get}
use Rattle.std.specs.Option.{option_and_then}
use Rattle.cal_value.specs.declared.value.Value.{Value}
use Rattle.cal_value.specs.Order.{columns_of}
use Rattle.cal_snapshot.specs.Parts.{Parts, row_at, rows_in}
use Rattle.cal_snapshot.proofs.Rows.{from-place, row-in}
use Rattle.cal_snapshot.specs.declared.part.Part.TheVariants.{Table}
use Rattle.adapters.specs.declared.request.ScanRequest.{ScanRequest}
use Rattle.adapters.specs.Scan.{meets_all, scanned}

scanned-cons : (request : ScanRequest) (row : List Value) (rest : List (List Value)) → scanned request (row ∷ rest) ≡ scanned request (row ∷ []) ++ scanned request rest
scanned-cons request row rest = by (meets_all request.tests row)
  where
    by : (b : Bool) → map (λ r. columns_of r request.columns) (cond b (row ∷ filter (meets_all request.tests) rest) (filter (meets_all request.tests) rest))
        ≡ map (λ r. columns_of r request.columns) (cond b (row ∷ []) []) ++ scanned request rest
    by true = refl
    by false = refl

-- the rows so far and those of the row are all but those of the rows after it
pub scan-step : (parts : Parts) (table at : ℕ) (request : ScanRequest) (rows : List (List Value)) (row : List Value) → row_at parts (Table table) at ≡ Some row
    → (rows ++ scanned request (row ∷ [])) ++ scanned request (drop (at + 1) (rows_in parts table)) ≡ rows ++ scanned request (drop at (rows_in parts table))
scan-step parts table at request rows row e =
    append_assoc rows (scanned request (row ∷ [])) (scanned request (drop (at + 1) (rows_in parts table)))
    ∙ ap (λ (rs : List (List Value)). rows ++ rs) (sym (scanned-cons request row (drop (at + 1) (rows_in parts table))))
    ∙ ap (λ (rs : List (List Value)). rows ++ scanned request rs) (sym (from-place (rows_in parts table) at row (row-in parts table at row e)))
