-- The rows of FROM have values of the types of their columns.
use Rattle.std.proofs.Common.{◌≡◌, ℕ, zero, suc, Bool, true, false, cond, List, [], ◌∷◌, ◌++◌, map, filter, length, replicate, All, Option, Some, None, slice_get, refl, sym, ◌∙◌, ap, subst, arith}
use Rattle.std.specs.Prelude.{unwrap_or}
use Rattle.std.specs.List.{flat_map}
use Rattle.std.specs.Option.{option_and_then}
use Rattle.std.proofs.lemmas.List.{append_assoc, append-nil, map-append}
use Rattle.std.proofs.lemmas.List.Elements.{All-nil, All-cons, All-head, All-tail, All-append, All-weaker, All-map, All-filter}
use Rattle.cal_value.specs.declared.kind.SqlType.{SqlType}
use Rattle.cal_value.specs.declared.value.Value.{Value}
use Rattle.cal_value.specs.declared.value.Value.TheVariants.{Null, Bool as BoolValue, Int, Text}
use Rattle.cal_value.specs.Types.{IsOfType, HasTypes}
use Rattle.cal_schema.specs.declared.column.ColumnDef.{ColumnDef}
use Rattle.cal_schema.specs.declared.database.Db.{Db}
use Rattle.cal_schema.specs.declared.schema.Schema.{Schema}
use Rattle.cal_schema.specs.declared.table.TableDef.{TableDef}
use Rattle.cal_schema.specs.Fits.{IsFilledBy, AreFilledBy, Fits}
use Rattle.sql_tree.specs.declared.select.FromEntry.{FromEntry}
use Rattle.sql_tree.specs.declared.select.How.{How}
use Rattle.sql_tree.specs.declared.select.How.TheVariants.{First, Cross, Inner, Left}
use Rattle.sql_tree.specs.declared.select.Select.{Select}
use Rattle.sql_meaning.specs.Direct.{rows_of, entry_row, pairs, goes, nulls, or_alone, padded, partners, loops, keeps, found}
use Rattle.sql_meaning.specs.Scope.{Header, number_of, no_table, table_of, header_of, scope_of, is_padded, nullable, type_of_column, types_in}
use Rattle.sql_meaning.specs.Value.{EntryRow}
use Rattle.typed_meaning.specs.Rows.{IsFilled, IsTypedRow}
use Rattle.typed_meaning.proofs.Lists.{All-flat_map}

-- ---- tables

-- what stands for a table that isn't there has no rows
empty-filled : IsFilledBy no_table []
empty-filled = record { typed = All-nil (λ row. HasTypes row []); few = omega arith; keys = λ some. absurd (some refl) }

filled-at : (tables : List TableDef) (lists : List (List (List Value))) (n : ℕ) → AreFilledBy tables lists → IsFilledBy (unwrap_or (slice_get tables n) no_table) (unwrap_or (slice_get lists n) [])
filled-at [] [] n h = empty-filled
filled-at [] (rows ∷ lists) n h = absurd h
filled-at (t ∷ tables) [] n h = absurd h
filled-at (t ∷ tables) (rows ∷ lists) zero h = h.0
filled-at (t ∷ tables) (rows ∷ lists) (suc n) h = filled-at tables lists n h.1

pub table-filled : (schema : Schema) (db : Db) (entry : FromEntry) → Fits db schema → IsFilledBy (table_of schema entry.table) (rows_of schema db entry)
table-filled schema db entry fits = by (number_of schema entry.table)
  where
    by : (o : Option ℕ) → IsFilledBy (unwrap_or (option_and_then (slice_get schema.tables) o) no_table) (unwrap_or (option_and_then (slice_get db.tables) o) [])
    by None = empty-filled
    by (Some n) = filled-at schema.tables db.tables n fits

-- ---- the rows of an entry

of_nullable : (v : Value) (t : SqlType) → IsOfType v t → IsOfType v (nullable t)
of_nullable Null t h = refl
of_nullable (BoolValue b) t h = h
of_nullable (Int n) t h = h
of_nullable (Text s) t h = h

of_column : (h : Header) (c : ColumnDef) (v : Value) → IsOfType v c.kind → IsOfType v (type_of_column h c)
of_column h c v k = by (is_padded h.entry.how)
  where
    by : (b : Bool) → IsOfType v (cond b (nullable c.kind) c.kind)
    by true = of_nullable v c.kind k
    by false = k

pub of_columns : (h : Header) (cs : List ColumnDef) (row : List Value) → HasTypes row (map (λ c. c.kind) cs) → HasTypes row (map (type_of_column h) cs)
of_columns h [] [] k = tt
of_columns h [] (v ∷ row) k = absurd k
of_columns h (c ∷ cs) [] k = absurd k
of_columns h (c ∷ cs) (v ∷ row) k = (of_column h c v k.0, of_columns h cs row k.1)

null-column : (h : Header) (c : ColumnDef) → is_padded h.entry.how ≡ true → IsOfType Null (type_of_column h c)
null-column h c e = let P : Bool → Type 0 = λ b. IsOfType Null (cond b (nullable c.kind) c.kind) in subst P (sym e) refl

null-columns : (h : Header) (cs : List ColumnDef) → is_padded h.entry.how ≡ true → HasTypes (replicate (length cs) Null) (map (type_of_column h) cs)
null-columns h [] e = tt
null-columns h (c ∷ cs) e = (null-column h c e, null-columns h cs e)

-- ---- one entry more

pub row-more : (before : List Header) (env : List EntryRow) (b : EntryRow) → IsTypedRow before env → IsFilled b → IsTypedRow (before ++ b.header ∷ []) (env ++ b ∷ [])
row-more before env b h k = record {
  headers = map-append (λ (b : EntryRow). b.header) env (b ∷ []) ∙ ap (λ hs. hs ++ b.header ∷ []) h.headers;
  filled = All-append IsFilled env (b ∷ []) h.filled (All-cons IsFilled b [] k (All-nil IsFilled));
}

-- before the first entry
pub no-rows : IsTypedRow [] []
no-rows = record { headers = refl; filled = All-nil IsFilled }

or_alone-all : {A : Type 0} (P : A → Type 0) (alone : A) (xs : List A) → P alone → All P xs → All P (or_alone alone xs)
or_alone-all P alone [] h all = All-cons P alone [] h all
or_alone-all P alone (x ∷ xs) h all = all

padded-all : (P : List EntryRow → Type 0) (how : How) (alone : List EntryRow) (envs : List (List EntryRow)) → (is_padded how ≡ true → P alone) → All P envs → All P (padded how alone envs)
padded-all P First alone envs h all = all
padded-all P Cross alone envs h all = all
padded-all P (Inner cond) alone envs h all = all
padded-all P (Left cond) alone envs h all = or_alone-all P alone envs (h refl) all

module _ (schema : Schema) (db : Db) (fits : Fits db schema) where
  pub pairs-typed : (before : List Header) (entry : FromEntry) (env : List EntryRow) → IsTypedRow before env → All (IsTypedRow (before ++ header_of schema entry ∷ [])) (pairs schema db entry env)
  pairs-typed before entry env h =
      All-map (IsTypedRow (before ++ header_of schema entry ∷ [])) (λ row. env ++ entry_row schema entry row ∷ []) (rows_of schema db entry)
      (All-weaker (λ row. HasTypes row (map (λ c. c.kind) (table_of schema entry.table).columns)) (λ row. IsTypedRow (before ++ header_of schema entry ∷ []) (env ++ entry_row schema entry row ∷ []))
      (λ row k. row-more before env (entry_row schema entry row) h (of_columns (header_of schema entry) (table_of schema entry.table).columns row k))
      (rows_of schema db entry) (table-filled schema db entry fits).typed)

  pub partners-typed : (before : List Header) (entry : FromEntry) (env : List EntryRow) → IsTypedRow before env → All (IsTypedRow (before ++ header_of schema entry ∷ [])) (partners schema db entry env)
  partners-typed before entry env h =
      padded-all (IsTypedRow (before ++ header_of schema entry ∷ [])) entry.how (env ++ entry_row schema entry (nulls schema entry) ∷ []) (filter (goes entry) (pairs schema db entry env))
      (λ e. row-more before env (entry_row schema entry (nulls schema entry)) h (null-columns (header_of schema entry) (table_of schema entry.table).columns e))
      (All-filter (goes entry) (IsTypedRow (before ++ header_of schema entry ∷ [])) (pairs schema db entry env) (pairs-typed before entry env h))

  pub loops-behind : (entries : List FromEntry) (before : List Header) (env : List EntryRow) → IsTypedRow before env → All (IsTypedRow (before ++ map (header_of schema) entries)) (loops schema db entries env)
  loops-behind [] before env h = All-cons (IsTypedRow (before ++ [])) env [] (subst (λ hs. IsTypedRow hs env) (sym (append-nil before)) h) (All-nil (IsTypedRow (before ++ [])))
  loops-behind (entry ∷ entries) before env h =
      let one = before ++ header_of schema entry ∷ [] in
      All-flat_map (IsTypedRow (before ++ map (header_of schema) (entry ∷ entries))) (loops schema db entries) (IsTypedRow one)
      (λ x k. subst (λ hs. All (IsTypedRow hs) (loops schema db entries x)) (append_assoc before (header_of schema entry ∷ []) (map (header_of schema) entries)) (loops-behind entries one x k))
      (partners schema db entry env) (partners-typed before entry env h)

  pub loops-typed : (select : Select) → All (IsTypedRow (scope_of schema select)) (loops schema db select.from [])
  loops-typed select = loops-behind select.from [] [] no-rows

  pub found-typed : (select : Select) → All (IsTypedRow (scope_of schema select)) (found schema db select)
  found-typed select = All-filter (keeps select.filter) (IsTypedRow (scope_of schema select)) (loops schema db select.from []) (loops-typed select)

-- ---- all values, one entry after another

abbrev pub flat : List EntryRow → List Value
flat env = flat_map (λ b. b.row) env

abbrev pub headers : List EntryRow → List Header
headers env = map (λ b. b.header) env

pub types-append : (a b : List Value) (ss ts : List SqlType) → HasTypes a ss → HasTypes b ts → HasTypes (a ++ b) (ss ++ ts)
types-append [] b [] ts h k = k
types-append [] b (s ∷ ss) ts h k = absurd h
types-append (v ∷ a) b [] ts h k = absurd h
types-append (v ∷ a) b (s ∷ ss) ts h k = (h.0, types-append a b ss ts h.1 k)

pub types-length : (a : List Value) (ts : List SqlType) → HasTypes a ts → length a ≡ length ts
types-length [] [] h = refl
types-length [] (t ∷ ts) h = absurd h
types-length (v ∷ a) [] h = absurd h
types-length (v ∷ a) (t ∷ ts) h = ap suc (types-length a ts h.1)

pub filled-types : (env : List EntryRow) → All IsFilled env → HasTypes (flat env) (types_in (headers env))
filled-types [] all = tt
filled-types (b ∷ bs) all =
    types-append b.row (flat bs) (map (type_of_column b.header) b.header.table.columns) (types_in (headers bs))
    (All-head IsFilled b bs all) (filled-types bs (All-tail IsFilled b bs all))

pub row-types : (scope : List Header) (env : List EntryRow) → IsTypedRow scope env → HasTypes (flat env) (types_in scope)
row-types scope env h = subst (λ hs. HasTypes (flat env) (types_in hs)) h.headers (filled-types env h.filled)
