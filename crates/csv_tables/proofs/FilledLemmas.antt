-- What a file without a fault holds: the columns of a header, and the rows of a filled table.
use Rattle.std.proofs.Common.{◌≡◌, ◌≢◌, ◌≤◌, ◌<◌, ◌+◌, ◌==◌, ℕ, zero, suc, ℤ, Bool, true, false, not, ◌&&◌, cond, List, [], ◌∷◌, ◌++◌, length, map, get_or, Option, Some, None, Result, Ok, Err, IfOk, refl, sym, ap, subst, ◌∙◌, arith, nat_lt, nat_le, int_le, append_assoc, if◌then◌else◌}
use Rattle.std.specs.Prelude.{unwrap_or}
use Rattle.std.specs.List.{list_any}
use Rattle.std.specs.Str.{chars, is_utf8}
use Rattle.std.proofs.lemmas.Bool.{ltb-true, eqb-true, and_parts, ne_eqb}
use Rattle.std.proofs.lemmas.Int.{ints}
use Rattle.std.proofs.lemmas.List.{append-nil, length_push, length-map, get_or-map}
use Rattle.std.proofs.lemmas.List.Elements.{All-nil, All-push}
use Rattle.std.proofs.lemmas.List.Quantifiers.{all_pairs_push}
use Rattle.csv.specs.Machine.{next_record, step, is_end, fields_after, field_after, ends_at_end, Read}
use Rattle.csv.specs.Reading.{default_config, records, records_from, records_next, strip_bom}
use Rattle.csv.specs.declared.parser.Action.{Action}
use Rattle.csv.specs.declared.parser.Action.TheVariants.{Skip, Copy, EndField, EndRecord}
use Rattle.csv.specs.declared.parser.State.{State}
use Rattle.csv.specs.declared.parser.State.TheVariants.{StartRecord}
use Rattle.cal_value.specs.Equal.{row_eq}
use Rattle.cal_value.specs.EqualLaws.{row_eq-Decides}
use Rattle.cal_value.specs.Interval.{Holds, holds}
use Rattle.cal_value.specs.declared.limits.TheConstants.{COLUMN_LIMIT}
use Rattle.cal_value.specs.Types.{HasTypes, IsOfType, text_type}
use Rattle.cal_value.specs.declared.interval.Interval.{Interval}
use Rattle.cal_value.specs.declared.interval.Interval.TheVariants.{Never, Range}
use Rattle.cal_value.specs.declared.kind.Kind.{Kind}
use Rattle.cal_value.specs.declared.kind.Kind.TheVariants.{Boolean, Integer, Text as TextKind}
use Rattle.cal_value.specs.declared.kind.SqlType.{SqlType}
use Rattle.cal_value.specs.declared.value.Value.{Value}
use Rattle.cal_value.specs.declared.value.Value.TheVariants.{Null, Bool as BoolValue, Int}
use Rattle.cal_schema.specs.declared.column.ColumnDef.{ColumnDef}
use Rattle.cal_schema.specs.declared.column.ColumnFault.{ColumnFault}
use Rattle.cal_schema.specs.declared.table.TableDef.{TableDef}
use Rattle.cal_schema.specs.Column.{column_of, word_part, type_named}
use Rattle.cal_schema.specs.Fits.{types_of, key_of, IsFilledBy}
use Rattle.cal_schema.specs.Lookup.{is_same_name}
use Rattle.cal_schema.specs.Valid.{IsHeader}
use Rattle.cal_schema.proofs.ColumnLemmas.{past_if, into_if, none_passes, column_of-is, column_of-parts, AreColumns, columns_none, columns_push, header_of_columns}
use Rattle.csv_tables.specs.declared.fault.CsvCause.{CsvCause}
use Rattle.csv_tables.specs.declared.fault.CsvCause.TheVariants.{NullValue, BadBoolean, BadInteger, NotUtf8, WrongCount, KeyTaken, TooManyColumns, Repeated}
use Rattle.csv_tables.specs.declared.fault.CsvFault.{CsvFault}
use Rattle.csv_tables.specs.declared.fault.CsvFault.TheVariants.{TableFull}
use Rattle.csv_tables.specs.Field.{is_empty, is_boolean, is_integer, is_number, number_of, value_of, null_cause, typed_cause, field_cause}
use Rattle.csv_tables.specs.Header.{Answers, all_records, fault_at, column_in, named_cause, header_cause, header_faults, columns_of, header_of}
use Rattle.csv_tables.specs.Table.{values_of, row_of, field_faults, count_cause, has_key, key_cause, record_faults, row_faults, rows_faults, table_header_faults, table_in, table_of}
use Rattle.csv_tables.proofs.HeaderLemmas.{header-room}
use Rattle.csv_tables.proofs.RowsLemmas.{told-ok}

-- ---- lists of faults

no_faults : (a b : List CsvFault) → a ++ b ≡ [] → (a ≡ []) × (b ≡ [])
no_faults [] b e = (refl, e)
no_faults (f ∷ fs) b e = absurd (Prim.cc)

no_cause : (number column : ℕ) (cause : Option CsvCause) → fault_at number column cause ≡ [] → cause ≡ None
no_cause number column None e = refl
no_cause number column (Some cause) e = absurd (Prim.cc)

-- ---- one field

null_value : (t : SqlType) → null_cause t ≡ None → IsOfType Null t
null_value t e = (into_if t.nullable None (Some NullValue) None (λ f. Prim.cc) e).0

within-holds : (i : Interval) (n : ℤ) → holds i n ≡ true → Holds i n
within-holds Never n e = Prim.cc
within-holds (Range lo hi) n e =
    let p = and_parts (int_le lo n) (int_le n hi) e in
    let low : int_le lo n ≡ true = p.0 in
    let high : int_le n hi ≡ true = p.1 in
    (grind (arith, ints), grind (arith, ints))

typed-boolean : (t : SqlType) (field : List ℕ) (empty : Bool) → t.kind ≡ Boolean → cond empty (null_cause t) (cond (is_boolean field) None (Some BadBoolean)) ≡ None
    → (v : Value) (b : Bool) → v ≡ cond empty Null (BoolValue b) → IsOfType v t
typed-boolean t field true k e v b is = subst (λ w. IsOfType w t) (sym is) (null_value t e)
typed-boolean t field false k e v b is = subst (λ w. IsOfType w t) (sym is) k

typed-integer : (t : SqlType) (field : List ℕ) (empty : Bool) → t.kind ≡ Integer → cond empty (null_cause t) (cond (is_integer t.interval field) None (Some BadInteger)) ≡ None
    → IsOfType (cond empty Null (Int (number_of field))) t
typed-integer t field true k e = null_value t e
typed-integer t field false k e =
    let inside = into_if (is_integer t.interval field) None (Some BadInteger) None (λ f. Prim.cc) e in
    (k, within-holds t.interval (number_of field) (and_parts (is_number field) (holds t.interval (number_of field)) inside.0).1)

typed : (kind : Kind) (t : SqlType) (field : List ℕ) → t.kind ≡ kind → typed_cause kind t field ≡ None → IsOfType (value_of kind field) t
typed TextKind t field k e = k
typed Boolean t field k e = typed-boolean t field (is_empty field) k e (value_of Boolean field) _ refl
typed Integer t field k e = typed-integer t field (is_empty field) k e

-- a field without a cause is a value of its column
pub field-typed : (t : SqlType) (field : List ℕ) → field_cause t field ≡ None → IsOfType (value_of t.kind field) t
field-typed t field e =
    let text = into_if (is_utf8 field) (typed_cause t.kind t field) (Some NotUtf8) None (λ f. Prim.cc) e in
    typed t.kind t field refl text.1

-- ---- one record

values-typed : (number column : ℕ) (cs : List ColumnDef) (fs : List (List ℕ)) → length fs ≡ length cs → field_faults number column cs fs ≡ []
    → HasTypes (values_of cs fs) (map (λ c. c.kind) cs)
values-typed number column [] fs l e = tt
values-typed number column (c ∷ cs) [] l e = absurd (omega (arith, l))
values-typed number column (c ∷ cs) (f ∷ fs) l e =
    let p = no_faults (fault_at number column (field_cause c.kind f)) (field_faults number (column + 1) cs fs) e in
    (field-typed c.kind f (no_cause number column (field_cause c.kind f) p.0), values-typed number (column + 1) cs fs (omega (arith, l)) p.1)

some-key : (table : TableDef) → table.primary_key ≢ [] → has_key table ≡ true
some-key table h = by table.primary_key h
  where
    by : (ks : List ℕ) → ks ≢ [] → not (length ks == 0) ≡ true
    by [] h = absurd (h refl)
    by (k ∷ ks) h = let ne : (length (k ∷ ks) == 0) ≡ false = ne_eqb (length (k ∷ ks)) 0 (λ e. omega (arith, e)) in ap not ne

key-free : (table : TableDef) (taken : List (List Value)) (fields : List (List ℕ)) → has_key table ≡ true → key_cause table taken fields ≡ None
    → list_any (row_eq (key_of table (row_of table fields))) taken ≡ false
key-free table taken fields some e =
    let free = past_if (has_key table && list_any (row_eq (key_of table (row_of table fields))) taken) (Some KeyTaken) None None (λ f. Prim.cc) e in
    sym (ap (λ b. b && list_any (row_eq (key_of table (row_of table fields))) taken) some) ∙ free.0

-- one more row, which has no fault
one-filled : (table : TableDef) (rows : List (List Value)) (fields : List (List ℕ)) → IsFilledBy table rows → row_faults table rows fields ≡ [] → IsFilledBy table (rows ++ row_of table fields ∷ [])
one-filled table rows fields filled e =
    let row = row_of table fields in
    let taken = map (key_of table) rows in
    let number = length rows + 2 in
    let room = into_if (nat_lt (length rows) table.max_rows) (record_faults table number taken fields) (TableFull table.max_rows ∷ []) [] (λ f. Prim.cc) e in
    let lt : length rows < table.max_rows = ltb-true (length rows) table.max_rows room.0 in
    let keyed = no_faults (fault_at number 0 (count_cause table fields) ++ field_faults number 1 table.columns fields) (fault_at number 0 (key_cause table taken fields)) room.1 in
    let counted = no_faults (fault_at number 0 (count_cause table fields)) (field_faults number 1 table.columns fields) keyed.0 in
    let same = into_if (length fields == length table.columns) None (Some WrongCount) None (λ f. Prim.cc) (no_cause number 0 (count_cause table fields) counted.0) in
    let long : length fields ≡ length table.columns = eqb-true (length fields) (length table.columns) same.0 in
    let free = no_cause number 0 (key_cause table taken fields) keyed.1 in
    record {
      typed = All-push (λ r. HasTypes r (types_of table)) rows row filled.typed (values-typed number 1 table.columns fields long counted.1);
      few = omega (arith, length_push rows row, lt);
      keys = λ some. all_pairs_push (λ a b. key_of table a ≢ key_of table b) rows row (filled.keys some)
          (λ k d within same_key. unlike k d within (key-free table taken fields (some-key table some) free) same_key);
    }
  where
    unlike : (k : ℕ) (d : List Value) → k < length rows → list_any (row_eq (key_of table (row_of table fields))) (map (key_of table) rows) ≡ false
        → key_of table (get_or rows k d) ≡ key_of table (row_of table fields) → ⊥
    unlike k d within free same =
        let key = key_of table (row_of table fields) in
        let there : get_or (map (key_of table) rows) k key ≡ key = get_or-map (key_of table) rows k d key within ∙ same in
        none_passes (row_eq key) (map (key_of table) rows) free k key (omega (arith, length-map rows (key_of table)))
        ((row_eq-Decides key (get_or (map (key_of table) rows) k key)).1 (sym there))

none-filled : (table : TableDef) → IsFilledBy table []
none-filled table = record {
  typed = All-nil (λ r. HasTypes r (types_of table));
  few = omega arith;
  keys = λ some i j d lt within. absurd (omega arith);
}

-- records without a fault fill the table
rows-filled : (table : TableDef) (rows : List (List Value)) (records : List (List (List ℕ))) → IsFilledBy table rows → rows_faults table rows records ≡ [] → IsFilledBy table (rows ++ map (row_of table) records)
rows-filled table rows [] filled e = subst (IsFilledBy table) (sym (append-nil rows)) filled
rows-filled table rows (fields ∷ records) filled e =
    let p = no_faults (row_faults table rows fields) (rows_faults table (rows ++ row_of table fields ∷ []) records) e in
    subst (IsFilledBy table) (append_assoc rows (row_of table fields ∷ []) (map (row_of table) records))
    (rows-filled table (rows ++ row_of table fields ∷ []) records (one-filled table rows fields filled p.0) p.1)

table-filled : (table : TableDef) (records : List (List (List ℕ))) (rows : List (List Value)) → table_in table records ≡ Ok rows → IsFilledBy table rows
table-filled table [] rows e = absurd (Prim.cc)
table-filled table (fields ∷ records) rows e =
    let t = told-ok (table_header_faults table fields ++ rows_faults table [] records) (map (row_of table) records) rows e in
    let p = no_faults (table_header_faults table fields) (rows_faults table [] records) t.0 in
    subst (IsFilledBy table) t.1 (rows-filled table [] records (none-filled table) p.1)

-- the rows of a table's file fill the table
pub file-filled : (bytes : List ℕ) (table : TableDef) (answer : Result (List (List Value)) CsvFault) → Answers (table_of bytes table) answer → IfOk answer (IsFilledBy table)
file-filled bytes table (Ok rows) e = table-filled table (all_records bytes) rows e
file-filled bytes table (Err fault) e = tt

-- ---- the header

ended : (a : Action) (fields : List (List ℕ)) (field : List ℕ) → is_end a ≡ true → 0 < length (fields_after a fields field)
ended EndRecord fields field e = omega (arith, length_push fields field)
ended Skip fields field e = absurd (Prim.cc)
ended Copy fields field e = absurd (Prim.cc)
ended EndField fields field e = absurd (Prim.cc)

-- a record has one field at least
pub record-some : (s : State) (fields : List (List ℕ)) (field text : List ℕ) (p : Read) → next_record default_config s fields field text ≡ Some p → 0 < length p.0
unfolding next_record
record-some s fields field [] p e =
    let there = into_if (ends_at_end s) (Some (fields ++ (field ∷ []), StartRecord, [])) None (Some p) (λ f. Prim.cc) e in
    let is : fields ++ (field ∷ []) ≡ p.0 = Prim.cc in
    omega (arith, ap length is, length_push fields field)
record-some s fields field (c ∷ rest) p e =
    let a = step default_config s c in
    goes a fields field c rest p (record-some a.0 (fields_after a.1 fields field) (field_after a.1 c field) rest p) (is_end a.1) refl e
  where
    goes : (a : State × Action) (fields : List (List ℕ)) (field : List ℕ) (c : ℕ) (rest : List ℕ) (p : Read) → (next_record default_config a.0 (fields_after a.1 fields field) (field_after a.1 c field) rest ≡ Some p → 0 < length p.0) → (b : Bool) → is_end a.1 ≡ b
        → (if b then Some (fields_after a.1 fields field, a.0, rest) else next_record default_config a.0 (fields_after a.1 fields field) (field_after a.1 c field) rest) ≡ Some p → 0 < length p.0
    goes a fields field c rest p later true end is =
        let first : fields_after a.1 fields field ≡ p.0 = Prim.cc in
        omega (arith, ap length first, ended a.1 fields field end)
    goes a fields field c rest p later false end is = later is

records-some : (n : ℕ) (s : State) (text : List ℕ) (fields : List (List ℕ)) (rest : List (List (List ℕ))) → records_from default_config n s text ≡ fields ∷ rest → 0 < length fields
unfolding records_from
records-some zero s text fields rest e = absurd (Prim.cc)
records-some (suc n) s text fields rest e = by (next_record default_config s [] [] text) refl e
  where
    by : (o : Option Read) → next_record default_config s [] [] text ≡ o → records_next (records_from default_config n) o ≡ fields ∷ rest → 0 < length fields
    by None is e = absurd (Prim.cc)
    by (Some p) is e = let same : p.0 ≡ fields = Prim.cc in subst (λ (fs : List (List ℕ)). 0 < length fs) same (record-some s [] [] text p is)

-- the column of a field that names one
pub column_in-is : (field : List ℕ) (c : ColumnDef) → column_of (chars field) ≡ Ok c → column_in field ≡ c
column_in-is field c e =
    let p = column_of-parts (chars field) c e in
    ap (λ (n : List ℕ). let k : ColumnDef = record { name = n; kind = unwrap_or (type_named (word_part (chars field))) (text_type true) } in k) p.0
    ∙ ap (λ (o : Option SqlType). let k : ColumnDef = record { name = c.name; kind = unwrap_or o (text_type true) } in k) p.1

column-added : (earlier : List ColumnDef) (field : List ℕ) → AreColumns earlier → (o : Result ColumnDef ColumnFault) → column_of (chars field) ≡ o → named_cause earlier o ≡ None → AreColumns (earlier ++ column_in field ∷ [])
column-added earlier field are (Err fault) is e = absurd (Prim.cc)
column-added earlier field are (Ok c) is e =
    let free = past_if (list_any (λ e. is_same_name e.name c.name) earlier) (Some Repeated) None None (λ f. Prim.cc) e in
    subst (λ (k : ColumnDef). AreColumns (earlier ++ k ∷ [])) (sym (column_in-is field c is))
    (columns_push earlier c are (column_of-is (chars field) c is) free.0)

header-added : (earlier : List ColumnDef) (field : List ℕ) → AreColumns earlier → header_cause earlier field ≡ None → AreColumns (earlier ++ column_in field ∷ [])
header-added earlier field are e =
    let few = past_if (nat_le COLUMN_LIMIT (length earlier)) (Some TooManyColumns) (if is_utf8 field then named_cause earlier (column_of (chars field)) else Some NotUtf8) None (λ f. Prim.cc) e in
    let text = into_if (is_utf8 field) (named_cause earlier (column_of (chars field))) (Some NotUtf8) None (λ f. Prim.cc) few.1 in
    column-added earlier field are (column_of (chars field)) refl text.1

pub record IsNamed (cs : List ColumnDef) : Type 0 where
  pub columns : AreColumns cs
  pub few : length cs ≤ COLUMN_LIMIT

header-named : (earlier : List ColumnDef) (fields : List (List ℕ)) → IsNamed earlier → header_faults earlier fields ≡ [] → IsNamed (earlier ++ map column_in fields)
header-named earlier [] are e = subst IsNamed (sym (append-nil earlier)) are
header-named earlier (field ∷ fields) are e =
    let p = no_faults (fault_at 1 (length earlier + 1) (header_cause earlier field)) (header_faults (earlier ++ column_in field ∷ []) fields) e in
    let free = no_cause 1 (length earlier + 1) (header_cause earlier field) p.0 in
    let next : IsNamed (earlier ++ column_in field ∷ []) = record {
      columns = header-added earlier field are.columns free;
      few = omega (arith, length_push earlier (column_in field), header-room earlier field free);
    } in
    subst IsNamed (append_assoc earlier (column_in field ∷ []) (map column_in fields)) (header-named (earlier ++ column_in field ∷ []) fields next p.1)

columns-header : (bytes : List ℕ) (records : List (List (List ℕ))) (cs : List ColumnDef) → all_records bytes ≡ records → columns_of records ≡ Ok cs → IsHeader cs
columns-header bytes [] cs is e = absurd (Prim.cc)
columns-header bytes (fields ∷ rest) cs is e =
    let t = told-ok (header_faults [] fields) (map column_in fields) cs e in
    let named : IsNamed cs = subst IsNamed t.1 (header-named [] fields (record { columns = columns_none; few = omega arith }) t.0) in
    let some : 0 < length fields = records-some (length (strip_bom bytes) + 1) StartRecord (strip_bom bytes) fields rest is in
    header_of_columns cs named.columns (omega (arith, ap length t.1, length-map fields column_in, some)) named.few

-- the columns that a file names are those of a header
pub file-header : (bytes : List ℕ) (answer : Result (List ColumnDef) CsvFault) → Answers (header_of bytes) answer → IfOk answer IsHeader
file-header bytes (Ok cs) e = columns-header bytes (all_records bytes) cs refl e
file-header bytes (Err fault) e = tt
