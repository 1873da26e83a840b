-- The walk over the records after the header.
use Rattle.std.proofs.Common.{◌≡◌, ◌≤◌, ◌<◌, ◌+◌, ℕ, Bool, true, false, ◌&&◌, List, [], ◌∷◌, ◌++◌, length, map, Some, None, Result, Ok, Err, sym, ap, subst, ◌∙◌, refl, append_assoc, if◌then◌else◌}
use Rattle.std.specs.List.{list_any}
use Rattle.std.proofs.lemmas.Bool.{lt-ltb, le-ltb}
use Rattle.std.proofs.lemmas.List.{append-nil}
use Rattle.cal_value.specs.Equal.{row_eq}
use Rattle.cal_value.specs.declared.value.Value.{Value}
use Rattle.cal_schema.specs.declared.table.TableDef.{TableDef}
use Rattle.cal_schema.specs.Fits.{key_of}
use Rattle.csv_tables.specs.declared.fault.CsvCause.TheVariants.{KeyTaken}
use Rattle.csv_tables.specs.declared.fault.CsvFault.{CsvFault}
use Rattle.csv_tables.specs.declared.fault.CsvFault.TheVariants.{CsvBad, TableFull, NoMemory}
use Rattle.csv_tables.specs.Header.{Answers, told, fault_at}
use Rattle.csv_tables.specs.Left.{IsNext}
use Rattle.csv_tables.specs.Table.{count_cause, field_faults, has_key, key_cause, record_faults, row_faults, row_of, rows_after_header, rows_faults, table_header_faults, table_in}

pub found-next : (left : List (List (List ℕ))) (found : Bool) (fields : List (List ℕ)) (rest : List (List (List ℕ))) → found ≡ true → IsNext left found fields rest → left ≡ fields ∷ rest
found-next [] found fields rest e h = absurd (Prim.cc h)
found-next (r ∷ rs) found fields rest e h = Prim.cc (h.1, h.2)

pub told-ok : {X : Type 0} (faults : List CsvFault) (x y : X) → told faults x ≡ Ok y → (faults ≡ []) × (x ≡ y)
told-ok [] x y e = (refl, Prim.cc)
told-ok (f ∷ fs) x y e = absurd (Prim.cc)

told-err : {X Y : Type 0} (faults more : List CsvFault) (x : X) (y : Y) (fault : CsvFault) → told faults x ≡ Err fault → told (faults ++ more) y ≡ Err fault
told-err [] more x y fault e = absurd (Prim.cc)
told-err (f ∷ fs) more x y fault e = let same : f ≡ fault = Prim.cc in ap Err same

-- a fault that is first stays first, whatever faults follow
pub first-stays : {X Y : Type 0} (faults more : List CsvFault) (x : X) (y : Y) (fault : CsvFault) → Answers (told faults x) (Err fault) → Answers (told (faults ++ more) y) (Err fault)
first-stays faults more x y (CsvBad number column cause) e = told-err faults more x y (CsvBad number column cause) e
first-stays faults more x y (TableFull limit) e = told-err faults more x y (TableFull limit) e
first-stays faults more x y NoMemory e = tt

-- the earlier keys say something only where there is a key
pub same-taken : (table : TableDef) (number : ℕ) (keys taken : List (List Value)) (fields : List (List ℕ)) → (has_key table ≡ true → keys ≡ taken)
    → record_faults table number keys fields ≡ record_faults table number taken fields
same-taken table number keys taken fields h = ap (λ c. fault_at number 0 (count_cause table fields) ++ field_faults number 1 table.columns fields ++ fault_at number 0 c) (by (has_key table) refl)
  where
    by : (b : Bool) → has_key table ≡ b → key_cause table keys fields ≡ key_cause table taken fields
    by true e = ap (λ ks. key_cause table ks fields) (h e)
    by false e = ap (λ b. if b && list_any (row_eq (key_of table (row_of table fields))) keys then Some KeyTaken else None) e
        ∙ sym (ap (λ b. if b && list_any (row_eq (key_of table (row_of table fields))) taken then Some KeyTaken else None) e)

-- these rows were read, without a fault, and these records are left
pub record Walked (table : TableDef) (all left : List (List (List ℕ))) (rows : List (List Value)) : Type 0 where
  pub faults : rows_faults table rows left ≡ rows_faults table [] all
  pub so_far : rows ++ map (row_of table) left ≡ map (row_of table) all

pub walked-none : (table : TableDef) (all : List (List (List ℕ))) → Walked table all all []
walked-none table all = record { faults = refl; so_far = refl }

pub all-read : (table : TableDef) (all left : List (List (List ℕ))) (rows : List (List Value)) → Walked table all left rows → left ≡ [] → rows_after_header table all ≡ Ok rows
all-read table all left rows w e =
    let none : rows_faults table [] all ≡ [] = sym w.faults ∙ ap (rows_faults table rows) e in
    let is : map (row_of table) all ≡ rows = sym w.so_far ∙ ap (λ (l : List (List (List ℕ))). rows ++ map (row_of table) l) e ∙ append-nil rows in
    ap (λ (fs : List CsvFault). told fs (map (row_of table) all)) none ∙ ap Ok is

room : (table : TableDef) (rows : List (List Value)) (fields : List (List ℕ)) → length rows < table.max_rows
    → row_faults table rows fields ≡ record_faults table (length rows + 2) (map (key_of table) rows) fields
room table rows fields lt = ap (λ b. if b then record_faults table (length rows + 2) (map (key_of table) rows) fields else TableFull table.max_rows ∷ []) (lt-ltb (length rows) table.max_rows lt)

pub one-more : (table : TableDef) (all left rest : List (List (List ℕ))) (rows : List (List Value)) (fields : List (List ℕ)) (row : List Value)
    → Walked table all left rows → left ≡ fields ∷ rest → length rows < table.max_rows
    → told (record_faults table (length rows + 2) (map (key_of table) rows) fields) (row_of table fields) ≡ Ok row
    → Walked table all rest (rows ++ row ∷ [])
one-more table all left rest rows fields row w e lt ok =
    let t = told-ok (record_faults table (length rows + 2) (map (key_of table) rows) fields) (row_of table fields) row ok in
    let none : row_faults table rows fields ≡ [] = room table rows fields lt ∙ t.0 in
    let step : rows_faults table rows left ≡ rows_faults table (rows ++ row ∷ []) rest =
    ap (rows_faults table rows) e ∙ ap (λ (fs : List CsvFault). fs ++ rows_faults table (rows ++ row_of table fields ∷ []) rest) none
    ∙ ap (λ (r : List Value). rows_faults table (rows ++ r ∷ []) rest) t.1 in
    let joined : (rows ++ row ∷ []) ++ map (row_of table) rest ≡ rows ++ map (row_of table) left =
    append_assoc rows (row ∷ []) (map (row_of table) rest)
    ∙ ap (λ (r : List Value). rows ++ r ∷ map (row_of table) rest) (sym t.1)
    ∙ ap (λ (l : List (List (List ℕ))). rows ++ map (row_of table) l) (sym e) in
    record { faults = sym step ∙ w.faults; so_far = joined ∙ w.so_far }

pub stopped : (table : TableDef) (all left rest : List (List (List ℕ))) (rows : List (List Value)) (fields : List (List ℕ)) (fault : CsvFault)
    → Walked table all left rows → left ≡ fields ∷ rest → length rows < table.max_rows
    → Answers (told (record_faults table (length rows + 2) (map (key_of table) rows) fields) (row_of table fields)) (Err fault)
    → Answers (rows_after_header table all) (Err fault)
stopped table all left rest rows fields fault w e lt err =
    let F = record_faults table (length rows + 2) (map (key_of table) rows) fields in
    let is : F ++ rows_faults table (rows ++ row_of table fields ∷ []) rest ≡ rows_faults table [] all =
    ap (λ (fs : List CsvFault). fs ++ rows_faults table (rows ++ row_of table fields ∷ []) rest) (sym (room table rows fields lt))
    ∙ ap (rows_faults table rows) (sym e) ∙ w.faults in
    subst (λ (fs : List CsvFault). Answers (told fs (map (row_of table) all)) (Err fault)) is
    (first-stays F (rows_faults table (rows ++ row_of table fields ∷ []) rest) (row_of table fields) (map (row_of table) all) fault err)

pub full : (table : TableDef) (all left rest : List (List (List ℕ))) (rows : List (List Value)) (fields : List (List ℕ))
    → Walked table all left rows → left ≡ fields ∷ rest → table.max_rows ≤ length rows
    → rows_after_header table all ≡ Err (TableFull table.max_rows)
full table all left rest rows fields w e ge =
    let over : row_faults table rows fields ≡ TableFull table.max_rows ∷ [] =
    ap (λ b. if b then record_faults table (length rows + 2) (map (key_of table) rows) fields else TableFull table.max_rows ∷ []) (le-ltb (length rows) table.max_rows ge) in
    let is : rows_faults table [] all ≡ TableFull table.max_rows ∷ rows_faults table (rows ++ row_of table fields ∷ []) rest =
    sym w.faults ∙ ap (rows_faults table rows) e ∙ ap (λ (fs : List CsvFault). fs ++ rows_faults table (rows ++ row_of table fields ∷ []) rest) over in
    ap (λ (fs : List CsvFault). told fs (map (row_of table) all)) is

-- after a header without a fault the file has the rows and faults of the records after it
pub with_header : {X : Type 0} (x y : X) (table : TableDef) (records : List (List (List ℕ))) (fields : List (List ℕ)) (rest : List (List (List ℕ))) (answer : Result (List (List Value)) CsvFault)
    → records ≡ fields ∷ rest → told (table_header_faults table fields) x ≡ Ok y → Answers (rows_after_header table rest) answer → Answers (table_in table records) answer
with_header x y table records fields rest answer e ok h =
    let t = told-ok (table_header_faults table fields) x y ok in
    let is : rows_after_header table rest ≡ table_in table records =
    ap (λ (fs : List CsvFault). told (fs ++ rows_faults table [] rest) (map (row_of table) rest)) (sym t.0) ∙ ap (table_in table) (sym e) in
    subst (λ (wanted : Result (List (List Value)) CsvFault). Answers wanted answer) is h
