-- What the first walk answers: tables that are valid but for the columns of files.
use Rattle.std.proofs.Common.{◌≡◌, ◌<◌, ◌≤◌, ◌+◌, ◌&&◌, ℕ, suc, true, false, List, [], ◌∷◌, ◌++◌, length, get_or, Option, Some, None, Result, Ok, IfSome, All, AllPairs, refl, sym, ap, subst, ◌∙◌, arith, inl, inr, nat_lt, nat_le, codes, if◌then◌else◌}
use Rattle.std.specs.List.{list_any}
use Rattle.std.specs.Str.{chars}
use Rattle.std.proofs.lemmas.Bool.{ltb-false, leb-true, and_parts, or_left, or_right}
use Rattle.std.proofs.lemmas.List.{length-append}
use Rattle.std.proofs.lemmas.List.Elements.{All-nil, All-push, All-append, All-weaker}
use Rattle.std.proofs.lemmas.List.Folds.{list_any-append}
use Rattle.std.proofs.lemmas.List.Kept.{AllPairs-cons}
use Rattle.std.proofs.lemmas.List.Quantifiers.{all_pairs_push}
use Rattle.serde_json.specs.Data.{Data, Items}
use Rattle.serde_json.specs.Find.{as_number, as_str, as_u64}
use Rattle.cal_value.specs.declared.limits.TheConstants.{NAME_LIMIT, ROW_LIMIT, TABLE_LIMIT, TEXT_LIMIT}
use Rattle.cal_value.specs.declared.value.Value.{Value}
use Rattle.cal_schema.specs.declared.column.ColumnDef.{ColumnDef}
use Rattle.cal_schema.specs.declared.table.AdapterKind.{AdapterKind}
use Rattle.cal_schema.specs.declared.table.AdapterKind.TheVariants.{Csv, Mem}
use Rattle.cal_schema.specs.File.{IsFileOf, is_compressed}
use Rattle.cal_schema.specs.Lookup.{is_same_name}
use Rattle.cal_schema.specs.Valid.{IsHeader, HaveTwoNames}
use Rattle.cal_schema.proofs.ColumnLemmas.{past_if, into_if, none_passes, is_same}
use Rattle.model_json.specs.declared.draft.Contents.{Contents}
use Rattle.model_json.specs.declared.draft.Draft.{Draft}
use Rattle.model_json.specs.declared.draft.Drafts.{Drafts}
use Rattle.model_fields.specs.declared.fault.ModelCause.TheVariants.{BadValue, Repeated, TooMany, Compressed, NoSuchName, TextTooLong}
use Rattle.model_fields.specs.declared.fault.ModelFault.{ModelFault}
use Rattle.model_fields.specs.Reading.{◌>>=◌, bad, each, optional, under}
use Rattle.model_fields.specs.Kinds.{of_kind, a_list, an_object, name, text, short, word, count}
use Rattle.model_fields.specs.Rows.{columns, rows, key_member, primary_key, keyed, keys_apart}
use Rattle.model_json.specs.Tables.{row_limit, max_rows, most_rows, file, file_at, csv_operand, columns_at, rows_at, row_key, mem_operand, contents_of, operand, operand_at, is_draft_named, table_name, name_at, factory_at, draft_of, table, table_list, tables}
use Rattle.model_json.specs.Schemas.{Seen, seen, with_name, schema_name, schema_name_at, name_added, tables_at, schema, nothing_seen, schemas, schema_tables, all_schemas, a_document, has_schema, schema_named, schemas_at, default_schema, default_at, first_walk}
use Rattle.model_fields.proofs.AnswerLemmas.{steps, under-is, field-is, optional-is, each-keeps, each-count, turns-keep}
use Rattle.model_fields.proofs.KeyLemmas.{columns-header, primary_key-is, header-keyed, HasColumns, IsKeyOf}
use Rattle.model_fields.proofs.FilledLemmas.{Fills, AreRowsOf, header-nulls, rows-typed, rows-fill}

-- ---- names and limits

short-is : (limit : ℕ) (s t : List ℕ) → short limit s ≡ Ok t → length (chars t) ≤ limit
short-is limit s t e =
    let p = past_if (nat_lt limit (length (chars s))) (bad TextTooLong) (Ok s) (Ok t) (λ f. Prim.cc) e in
    let same : s ≡ t = Prim.cc (p.1) in
    subst (λ (u : List ℕ). length (chars u) ≤ limit) same (ltb-false limit (length (chars s)) p.0)

name-short : (d : Data) (s : List ℕ) → name d ≡ Ok s → length (chars s) ≤ NAME_LIMIT
name-short d s e = let p = steps (of_kind (as_str d)) (short NAME_LIMIT) s e in short-is NAME_LIMIT p.found s p.then

text-short : (d : Data) (s : List ℕ) → text d ≡ Ok s → length (chars s) ≤ TEXT_LIMIT
text-short d s e = let p = steps (of_kind (as_str d)) (short TEXT_LIMIT) s e in short-is TEXT_LIMIT p.found s p.then

-- at least one row, and at most 2^20
pub record IsLimit (n : ℕ) : Type 0 where
  pub some : 0 < n
  pub few : n ≤ ROW_LIMIT

row_limit-is : (o : Option ℕ) (n : ℕ) → row_limit o ≡ Ok n → IsLimit n
row_limit-is None n e = absurd (Prim.cc)
row_limit-is (Some m) n e =
    let p = into_if (nat_le 1 m && nat_le m ROW_LIMIT) (Ok m) (bad BadValue) (Ok n) (λ f. Prim.cc) e in
    let both = and_parts (nat_le 1 m) (nat_le m ROW_LIMIT) p.0 in
    let low : 1 ≤ m = leb-true 1 m both.0 in
    let high : m ≤ ROW_LIMIT = leb-true m ROW_LIMIT both.1 in
    let same : m ≡ n = Prim.cc (p.1) in
    subst IsLimit same (record { some = omega arith; few = omega arith })

most-limit : (operand : Data) (n : ℕ) → most_rows operand ≡ Ok n → IsLimit n
most-limit operand n e = elim (optional-is (codes "maxRows") ROW_LIMIT max_rows n operand e) [
  | inl default ↦ subst IsLimit default (record { some = omega arith; few = omega arith })
  | inr read ↦ let p = steps (of_kind (as_number read.value)) (λ m. row_limit (as_u64 m)) n read.is in row_limit-is (as_u64 p.found) n p.then
]

-- ---- files

-- the file of a table that is read in this way
pub record IsFile (adapter : AdapterKind) (file : List ℕ) : Type 0 where
  pub short : length file ≤ TEXT_LIMIT
  pub there : IsFileOf adapter file

file-is : (operand : Data) (n : List ℕ) → file_at operand ≡ Ok n → IsFile Csv n
file-is operand n e =
    let ruled = field-is (codes "file") file n operand e in
    let read = steps (text ruled.value) (λ s. if is_compressed (chars s) then bad Compressed else Ok (chars s)) n ruled.is in
    let free = past_if (is_compressed (chars read.found)) (bad Compressed) (Ok (chars read.found)) (Ok n) (λ f. Prim.cc) read.then in
    let same : chars read.found ≡ n = Prim.cc (free.1) in
    record {
      short = subst (λ (u : List ℕ). length u ≤ TEXT_LIMIT) same (text-short ruled.value read.found read.first);
      there = subst (λ (u : List ℕ). is_compressed u ≡ false) same free.0;
    }

-- ---- contents

-- rows that stand in the model, with columns and a key
pub record HasRows (adapter : AdapterKind) (columns : List ColumnDef) (key : List ℕ) (most : ℕ) (rs : List (List Value)) : Type 0 where
  pub in_model : adapter ≡ Mem
  pub valid : HasColumns columns key
  pub filled : Fills columns key most rs

-- rows exactly where the table is no table of a file
abbrev pub IsOneOf : AdapterKind → List ColumnDef → List ℕ → ℕ → Option (List (List Value)) → Type 0
IsOneOf adapter columns key most None = adapter ≡ Csv
IsOneOf adapter columns key most (Some rs) = HasRows adapter columns key most rs

pub record IsContents (adapter : AdapterKind) (c : Contents) : Type 0 where
  pub limit : IsLimit c.max_rows
  pub file : IsFile adapter c.file
  pub rows : IsOneOf adapter c.columns c.primary_key c.max_rows c.rows

csv-contents : (d : Data) (c : Contents) → csv_operand d ≡ Ok c → IsContents Csv c
csv-contents d c e =
    let file = steps (file_at d) (λ name. most_rows d >>= λ most. Ok (record { file = name; max_rows = most; columns = []; primary_key = []; key = key_member d; rows = None })) c e in
    let most = steps (most_rows d) (λ most. Ok (record { file = file.found; max_rows = most; columns = []; primary_key = []; key = key_member d; rows = None })) c file.then in
    let made : Contents = record { file = file.found; max_rows = most.found; columns = []; primary_key = []; key = key_member d; rows = None } in
    let same : made ≡ c = Prim.cc (most.then) in
    subst (IsContents Csv) same (record { limit = most-limit d most.found most.first; file = file-is d file.found file.first; rows = refl })

abbrev mem_contents : ℕ → List ColumnDef → List (List Value) → List ℕ → Contents
mem_contents most cs rs ks = record { file = []; max_rows = most; columns = keyed ks cs; primary_key = ks; key = None; rows = Some rs }

abbrev mem_made : ℕ → List ColumnDef → List (List Value) → List ℕ → Result Contents ModelFault
mem_made most cs rs ks = Ok (mem_contents most cs rs ks)

mem-is : (most : ℕ) (cs : List ColumnDef) (rs : List (List Value)) (ks : List ℕ) (c : Contents) → IsLimit most → IsHeader cs → IsKeyOf cs ks → AreRowsOf cs most rs → keys_apart ks rs ≡ Ok tt → mem_contents most cs rs ks ≡ c → IsContents Mem c
mem-is most cs rs ks c limit header key typed apart same = subst (IsContents Mem) same (record {
  limit = limit;
  file = record { short = omega arith; there = refl };
  rows = record { in_model = refl; valid = header-keyed cs ks header key; filled = rows-fill cs ks most rs typed apart };
})

mem-contents : (d : Data) (c : Contents) → mem_operand d ≡ Ok c → IsContents Mem c
mem-contents d c e =
    let most = steps (most_rows d) (λ n. columns_at d >>= λ cs. rows_at cs n d >>= λ rs. row_key cs rs d >>= λ ks. mem_made n cs rs ks) c e in
    let n = most.found in
    let listed = steps (columns_at d) (λ cs. rows_at cs n d >>= λ rs. row_key cs rs d >>= λ ks. mem_made n cs rs ks) c most.then in
    let cs = listed.found in
    let standing = steps (rows_at cs n d) (λ rs. row_key cs rs d >>= λ ks. mem_made n cs rs ks) c listed.then in
    let rs = standing.found in
    let keyed_by = steps (row_key cs rs d) (λ ks. mem_made n cs rs ks) c standing.then in
    let ks = keyed_by.found in
    let names = field-is (codes "columns") columns cs d listed.first in
    let header : IsHeader cs = columns-header names.value cs names.is in
    let cells = field-is (codes "rows") (rows cs n) rs d standing.first in
    let key = row-key cs rs d ks keyed_by.first in
    mem-is n cs rs ks c (most-limit d n most.first) header (primary_key-is cs d ks key.0) (rows-typed cs n (header-nulls cs header.nullable) cells.value rs cells.is) key.1 (Prim.cc (keyed_by.then))
  where
    row-key : (cs : List ColumnDef) (rs : List (List Value)) (d : Data) (ks : List ℕ) → row_key cs rs d ≡ Ok ks → (primary_key cs d ≡ Ok ks) × (keys_apart ks rs ≡ Ok tt)
    row-key cs rs d ks e =
        let key = steps (primary_key cs d) (λ k. under (codes "rows") (keys_apart k rs) >>= λ u. Ok k) ks e in
        let apart = steps (under (codes "rows") (keys_apart key.found rs)) (λ u. Ok key.found) ks key.then in
        let same : key.found ≡ ks = Prim.cc (apart.then) in
        let judged : keys_apart key.found rs ≡ Ok tt = under-is (codes "rows") (keys_apart key.found rs) apart.found apart.first in
        (key.first ∙ ap (λ (k : List ℕ). Ok k) same, subst (λ (k : List ℕ). keys_apart k rs ≡ Ok tt) same judged)

contents-is : (adapter : AdapterKind) (d : Data) (c : Contents) → contents_of adapter d ≡ Ok c → IsContents adapter c
contents-is Csv d c e = csv-contents d c e
contents-is Mem d c e = mem-contents d c e

-- ---- one table

pub record IsDraft (t : Draft) : Type 0 where
  pub name_short : length t.table.name ≤ NAME_LIMIT
  pub limit : IsLimit t.table.max_rows
  pub file : IsFile t.table.adapter t.table.file
  pub rows : IsOneOf t.table.adapter t.table.columns t.table.primary_key t.table.max_rows t.rows

-- a table of this schema, which no other one before has the name of
pub record IsNext (schema : List ℕ) (before : List Draft) (t : Draft) : Type 0 where
  pub draft : IsDraft t
  pub of_schema : t.table.schema ≡ schema
  pub fresh : list_any (is_draft_named t.table.name) before ≡ false

named : (before : List Draft) (d : Data) (s : List ℕ) → table_name before d ≡ Ok s → (length s ≤ NAME_LIMIT) × (list_any (is_draft_named s) before ≡ false)
named before d s e =
    let read = steps (name d) (λ u. if list_any (is_draft_named (chars u)) before then bad Repeated else Ok (chars u)) s e in
    let free = past_if (list_any (is_draft_named (chars read.found)) before) (bad Repeated) (Ok (chars read.found)) (Ok s) (λ f. Prim.cc) read.then in
    let same : chars read.found ≡ s = Prim.cc (free.1) in
    (subst (λ (u : List ℕ). length u ≤ NAME_LIMIT) same (name-short d read.found read.first), subst (λ (u : List ℕ). list_any (is_draft_named u) before ≡ false) same free.0)

next-is : (schema_at : ℕ) (schema : List ℕ) (before : List Draft) (n : List ℕ) (a : AdapterKind) (c : Contents) (t : Draft) → length n ≤ NAME_LIMIT → list_any (is_draft_named n) before ≡ false → IsContents a c
    → draft_of schema_at schema (length before) n a c ≡ t → IsNext schema before t
next-is schema_at schema before n a c t short free is same =
    subst (IsNext schema before) same (record { draft = record { name_short = short; limit = is.limit; file = is.file; rows = is.rows }; of_schema = refl; fresh = free })

table-next : (schema_at : ℕ) (schema : List ℕ) (before : List Draft) (d : Data) (t : Draft) → table schema_at schema before d ≡ Ok t → IsNext schema before t
table-next schema_at schema before d t e =
    let object = steps (an_object d) (λ o. name_at before o >>= λ n. optional (codes "type") tt (word (codes "custom")) o >>= λ u. factory_at o >>= λ a. operand_at a o >>= λ c. made n a c) t e in
    let o = object.found in
    let name' = steps (name_at before o) (λ n. optional (codes "type") tt (word (codes "custom")) o >>= λ u. factory_at o >>= λ a. operand_at a o >>= λ c. made n a c) t object.then in
    let n = name'.found in
    let custom = steps (optional (codes "type") tt (word (codes "custom")) o) (λ u. factory_at o >>= λ a. operand_at a o >>= λ c. made n a c) t name'.then in
    let factory = steps (factory_at o) (λ a. operand_at a o >>= λ c. made n a c) t custom.then in
    let a = factory.found in
    let contents = steps (operand_at a o) (λ c. made n a c) t factory.then in
    let c = contents.found in
    let called = field-is (codes "name") (table_name before) n o name'.first in
    let new = named before called.value n called.is in
    let ruled = field-is (codes "operand") (operand a) c o contents.first in
    let shown = steps (an_object ruled.value) (contents_of a) c ruled.is in
    next-is schema_at schema before n a c t new.0 new.1 (contents-is a shown.found c shown.then) (Prim.cc (contents.then))
  where
    made : List ℕ → AdapterKind → Contents → Result Draft ModelFault
    made n a c = Ok (draft_of schema_at schema (length before) n a c)

-- ---- the tables of one schema

abbrev pub IsOf : List ℕ → Draft → Type 0
IsOf schema t = IsDraft t × (t.table.schema ≡ schema)

abbrev pub HaveTwo : Draft → Draft → Type 0
HaveTwo a b = HaveTwoNames a.table b.table

pub record AreOf (schema : List ℕ) (ts : List Draft) : Type 0 where
  pub each : All (IsOf schema) ts
  pub apart : AllPairs HaveTwo ts

no_tables : (schema : List ℕ) → AreOf schema []
no_tables schema = record { each = All-nil (IsOf schema); apart = λ i j d lt within. absurd (omega arith) }

tables-more : (schema_at : ℕ) (schema : List ℕ) (before : List Draft) (d : Data) (t : Draft) → AreOf schema before → table schema_at schema before d ≡ Ok t → AreOf schema (before ++ t ∷ [])
tables-more schema_at schema before d t are e =
    let next = table-next schema_at schema before d t e in
    record {
      each = All-push (IsOf schema) before t are.each (next.draft, next.of_schema);
      apart = all_pairs_push HaveTwo before t are.apart (λ k o lt one same. none_passes (is_draft_named t.table.name) before next.fresh k o lt (is_same (get_or before k o).table.name t.table.name same));
    }

-- the tables of a schema after so many of other schemas
pub record AreTables (schema : List ℕ) (before : ℕ) (ts : List Draft) : Type 0 where
  pub tables : AreOf schema ts
  pub few : before + length ts ≤ TABLE_LIMIT

tables-are : (schema_at : ℕ) (schema : List ℕ) (before : ℕ) (d : Data) (ts : List Draft) → tables schema_at schema before d ≡ Ok ts → AreTables schema before ts
tables-are schema_at schema before d ts e =
    let s = steps (a_list d) (table_list schema_at schema before) ts e in
    let few = past_if (nat_lt TABLE_LIMIT (before + count s.found)) (bad TooMany) (each (table schema_at schema) s.found) (Ok ts) (λ f. Prim.cc) s.then in
    let counted : length ts ≡ 0 + count s.found = each-count (table schema_at schema) [] s.found ts few.1 in
    record {
      tables = each-keeps (AreOf schema) (table schema_at schema) (tables-more schema_at schema) [] s.found ts (no_tables schema) few.1;
      few = omega (arith, counted, ltb-false TABLE_LIMIT (before + count s.found) few.0);
    }

tables_at-are : (number : ℕ) (s : List ℕ) (before : ℕ) (d : Data) (ts : List Draft) → before ≤ TABLE_LIMIT → tables_at number s before d ≡ Ok ts → AreTables s before ts
tables_at-are number s before d ts few e = elim (optional-is (codes "tables") [] (tables number s before) ts d e) [
  | inl none ↦ subst (AreTables s before) none (record { tables = no_tables s; few = omega (arith, few) })
  | inr read ↦ tables-are number s before read.value ts read.is
]

-- ---- all schemas

abbrev pub IsKnown : List (List ℕ) → Draft → Type 0
IsKnown names t = list_any (is_same_name t.table.schema) names ≡ true

-- a table of a valid schema, but for the columns of files
abbrev pub IsWhole : Draft → Type 0
IsWhole t = IsDraft t × (length t.table.schema ≤ NAME_LIMIT)

pub record AreSeen (s : Seen) : Type 0 where
  pub drafts : All IsWhole s.tables
  pub known : All (IsKnown s.names) s.tables
  pub few : length s.tables ≤ TABLE_LIMIT
  pub apart : AllPairs HaveTwo s.tables

none_seen : AreSeen nothing_seen
none_seen = record { drafts = All-nil IsWhole; known = All-nil (IsKnown []); few = omega arith; apart = λ i j d lt within. absurd (omega arith) }

-- the pairs of two lists, where those across are pairs too
pairs_across : {X : Type 0} (R : X → X → Type 0) (xs ys : List X) → AllPairs R xs → AllPairs R ys → ((i : ℕ) (d : X) → i < length xs → All (R (get_or xs i d)) ys) → AllPairs R (xs ++ ys)
pairs_across R [] ys h k across = k
pairs_across R (x ∷ xs) ys h k across =
    AllPairs-cons R x (xs ++ ys)
    (All-append (R x) xs ys (λ j d lt. h 0 (suc j) d (omega arith) (omega arith)) (across 0 x (omega arith)))
    (pairs_across R xs ys (λ i j d lt within. h (suc i) (suc j) d (omega arith) (omega arith)) k (λ i d lt. across (suc i) d (omega arith)))

-- a name that is none of the names, and with which it is one
known-more : (names : List (List ℕ)) (s : List ℕ) (t : Draft) → IsKnown names t → IsKnown (names ++ s ∷ []) t
known-more names s t h = list_any-append (is_same_name t.table.schema) names (s ∷ []) ∙ or_left (list_any (is_same_name t.table.schema) names) (list_any (is_same_name t.table.schema) (s ∷ [])) h

known-here : (names : List (List ℕ)) (s : List ℕ) (t : Draft) → IsOf s t → IsKnown (names ++ s ∷ []) t
known-here names s t is =
    let here : list_any (is_same_name t.table.schema) (s ∷ []) ≡ true = or_left (is_same_name t.table.schema s) false (is_same t.table.schema s is.1) in
    list_any-append (is_same_name t.table.schema) names (s ∷ []) ∙ or_right (list_any (is_same_name t.table.schema) names) (list_any (is_same_name t.table.schema) (s ∷ [])) here

-- a table of an earlier schema and one of a new schema
two_schemas : (names : List (List ℕ)) (s : List ℕ) (a b : Draft) → IsKnown names a → IsOf s b → list_any (is_same_name s) names ≡ false → HaveTwo a b
two_schemas names s a b known is free =
    λ same name. let seen : list_any (is_same_name s) names ≡ true = sym (ap (λ (u : List ℕ). list_any (is_same_name u) names) (same ∙ is.1)) ∙ known in Prim.cc

-- a schema more, of a new name
seen-more : (before : Seen) (s : List ℕ) (ts : List Draft) → AreSeen before → length s ≤ NAME_LIMIT → list_any (is_same_name s) before.names ≡ false → AreTables s (length before.tables) ts → AreSeen (seen (before.names ++ s ∷ []) (before.tables ++ ts))
seen-more before s ts are short free new = record {
  drafts = All-append IsWhole before.tables ts are.drafts (All-weaker (IsOf s) IsWhole (λ t is. (is.0, subst (λ (u : List ℕ). length u ≤ NAME_LIMIT) (sym is.1) short)) ts new.tables.each);
  known = All-append (IsKnown (before.names ++ s ∷ [])) before.tables ts
      (All-weaker (IsKnown before.names) (IsKnown (before.names ++ s ∷ [])) (known-more before.names s) before.tables are.known)
      (All-weaker (IsOf s) (IsKnown (before.names ++ s ∷ [])) (known-here before.names s) ts new.tables.each);
  few = omega (arith, length-append before.tables ts, new.few);
  apart = pairs_across HaveTwo before.tables ts are.apart new.tables.apart
      (λ i d lt j e within. two_schemas before.names s (get_or before.tables i d) (get_or ts j e) (are.known i d lt) (new.tables.each j e within) free);
}

schema-named : (o : Data) (s : List ℕ) → schema_name_at o ≡ Ok s → length s ≤ NAME_LIMIT
schema-named o s e =
    let ruled = field-is (codes "name") schema_name s o e in
    let read = steps (name ruled.value) (λ u. Ok (chars u)) s ruled.is in
    let same : chars read.found ≡ s = Prim.cc (read.then) in
    subst (λ (u : List ℕ). length u ≤ NAME_LIMIT) same (name-short ruled.value read.found read.first)

name-new : (before names : List (List ℕ)) (s : List ℕ) → name_added before s ≡ Ok names → (list_any (is_same_name s) before ≡ false) × (before ++ s ∷ [] ≡ names)
name-new before names s e =
    let free = past_if (list_any (is_same_name s) before) (bad Repeated) (Ok (before ++ s ∷ [])) (Ok names) (λ f. Prim.cc) (under-is (codes "name") (with_name before s) names e) in
    (free.0, Prim.cc (free.1))

seen-is : (names more : List (List ℕ)) (ts : List Draft) (next : Seen) → names ≡ more → seen more ts ≡ next → AreSeen (seen names ts) → AreSeen next
seen-is names more ts next same is are = subst AreSeen (ap (λ (u : List (List ℕ)). seen u ts) same ∙ is) are

schema-seen : (number : ℕ) (before : Seen) (d : Data) (next : Seen) → AreSeen before → schema number before d ≡ Ok next → AreSeen next
schema-seen number before d next are e =
    let object = steps (an_object d) (λ o. schema_name_at o >>= λ s. name_added before.names s >>= λ names. optional (codes "type") tt (word (codes "map")) o >>= λ u. tables_at number s (length before.tables) o >>= λ ts. made names ts) next e in
    let o = object.found in
    let called = steps (schema_name_at o) (λ s. name_added before.names s >>= λ names. optional (codes "type") tt (word (codes "map")) o >>= λ u. tables_at number s (length before.tables) o >>= λ ts. made names ts) next object.then in
    let s = called.found in
    let added = steps (name_added before.names s) (λ names. optional (codes "type") tt (word (codes "map")) o >>= λ u. tables_at number s (length before.tables) o >>= λ ts. made names ts) next called.then in
    let typed = steps (optional (codes "type") tt (word (codes "map")) o) (λ u. tables_at number s (length before.tables) o >>= λ ts. made added.found ts) next added.then in
    let listed = steps (tables_at number s (length before.tables) o) (λ ts. made added.found ts) next typed.then in
    let ts = listed.found in
    let new = name-new before.names added.found s added.first in
    seen-is (before.names ++ s ∷ []) added.found (before.tables ++ ts) next new.1 (Prim.cc (listed.then))
    (seen-more before s ts are (schema-named o s called.first) new.0 (tables_at-are number s (length before.tables) o ts are.few listed.first))
  where
    made : List (List ℕ) → List Draft → Result Seen ModelFault
    made names ts = Ok (seen names (before.tables ++ ts))

-- the tables of a document
pub record AreDrafts (ts : List Draft) : Type 0 where
  pub drafts : All IsWhole ts
  pub few : length ts ≤ TABLE_LIMIT
  pub apart : AllPairs HaveTwo ts

schemas-drafts : (ds : Items) (ts : List Draft) → all_schemas ds ≡ Ok ts → AreDrafts ts
schemas-drafts ds ts e =
    let s = steps (schemas ds) (λ all. Ok all.tables) ts (under-is (codes "schemas") (schema_tables ds) ts e) in
    let are = turns-keep AreSeen schema schema-seen 0 nothing_seen ds s.found none_seen s.first in
    let same : (s.found).tables ≡ ts = Prim.cc (s.then) in
    subst AreDrafts same (record { drafts = are.drafts; few = are.few; apart = are.apart })

abbrev pub IsShortName : Option (List ℕ) → Type 0
IsShortName o = IfSome o (λ s. length s ≤ NAME_LIMIT)

default-short : (ds : Items) (root : Data) (o : Option (List ℕ)) → default_at ds root ≡ Ok o → IsShortName o
default-short ds root o e = elim (optional-is (codes "defaultSchema") None (default_schema ds) o root e) [
  | inl none ↦ subst IsShortName none tt
  | inr read ↦ named_short ds read.value o read.is
]
  where
    named_short : (ds : Items) (d : Data) (o : Option (List ℕ)) → default_schema ds d ≡ Ok o → IsShortName o
    named_short ds d o e =
        let read = steps (text d) (schema_named ds) o e in
        let s = read.found in
        let is = into_if (nat_le (length (chars s)) NAME_LIMIT && has_schema s ds) (Ok (Some (chars s))) (bad NoSuchName) (Ok o) (λ f. Prim.cc) read.then in
        let both = and_parts (nat_le (length (chars s)) NAME_LIMIT) (has_schema s ds) is.0 in
        let short : length (chars s) ≤ NAME_LIMIT = leb-true (length (chars s)) NAME_LIMIT both.0 in
        let same : Some (chars s) ≡ o = Prim.cc (is.1) in
        subst IsShortName same short

-- what the first walk gives
pub record IsWalk (drafts : Drafts) : Type 0 where
  pub tables : AreDrafts drafts.tables
  pub default : IsShortName drafts.default_schema

walk-made : (whole drafts : Drafts) → whole ≡ drafts → AreDrafts whole.tables → IsShortName whole.default_schema → IsWalk drafts
walk-made whole drafts same are short = subst IsWalk same (record { tables = are; default = short })

pub walk-is : (d : Data) (drafts : Drafts) → first_walk d ≡ Ok drafts → IsWalk drafts
walk-is d drafts e =
    let root = steps (a_document d) (λ r. optional (codes "version") tt (word (codes "1.0")) r >>= λ u. schemas_at r >>= λ ds. default_at ds r >>= λ default. all_schemas ds >>= λ ts. made default ts) drafts e in
    let r = root.found in
    let version = steps (optional (codes "version") tt (word (codes "1.0")) r) (λ u. schemas_at r >>= λ ds. default_at ds r >>= λ default. all_schemas ds >>= λ ts. made default ts) drafts root.then in
    let listed = steps (schemas_at r) (λ ds. default_at ds r >>= λ default. all_schemas ds >>= λ ts. made default ts) drafts version.then in
    let ds = listed.found in
    let default = steps (default_at ds r) (λ o. all_schemas ds >>= λ ts. made o ts) drafts listed.then in
    let all = steps (all_schemas ds) (λ ts. made default.found ts) drafts default.then in
    walk-made (record { default_schema = default.found; tables = all.found }) drafts (Prim.cc (all.then)) (schemas-drafts ds all.found all.first) (default-short ds r default.found default.first)
  where
    made : Option (List ℕ) → List Draft → Result Drafts ModelFault
    made default ts = Ok (record { default_schema = default; tables = ts })

pub walk-drafts : (d : Data) (drafts : Drafts) → first_walk d ≡ Ok drafts → AreDrafts drafts.tables
walk-drafts d drafts e = (walk-is d drafts e).tables
