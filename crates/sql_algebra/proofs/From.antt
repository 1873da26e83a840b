-- The loops over FROM are the joins from left to right, and WHERE is a Filter over them.
use Rattle.std.proofs.Common.{◌≡◌, ℕ, true, cond, ◌&&◌, List, [], ◌∷◌, ◌++◌, map, filter, length, replicate, All, Option, Some, None, option_map, unwrap_or, slice_get, refl, sym, ◌∙◌, ap, subst}
use mathlib.Core.Path.{ap₂, fun_ext}
use Rattle.std.specs.List.{flat_map, list_all}
use Rattle.std.specs.Option.{option_and_then}
use Rattle.std.proofs.lemmas.Grind.{flat_map-append}
use Rattle.std.proofs.lemmas.List.{append_assoc, append-nil, map-id, length-map}
use Rattle.std.proofs.lemmas.List.Elements.{All-filter, All-weaker}
use Rattle.cal_value.specs.declared.value.Value.TheVariants.{Null}
use Rattle.cal_value.specs.Logic.{is_true}
use Rattle.cal_expr.specs.declared.expr.Expr.{Expr}
use Rattle.cal_expr.specs.Meaning.{meaning_of}
use Rattle.cal_schema.specs.declared.database.Db.{Db}
use Rattle.cal_schema.specs.declared.schema.Schema.{Schema}
use Rattle.cal_schema.specs.declared.table.TableDef.{TableDef}
use Rattle.cal_schema.specs.Fits.{AreFilledBy, Fits}
use Rattle.cal_rel.specs.Bag.{bag, table_width}
use Rattle.cal_rel.specs.Info.{Info}
use Rattle.cal_rel.specs.Operators.{Row, holds, joined, partners as join_partners}
use Rattle.cal_rel.specs.Tiles.{table_rows}
use Rattle.cal_rel.specs.Tree.{Tree as RelTree}
use Rattle.sql_tree.specs.declared.select.FromEntry.{FromEntry}
use Rattle.sql_tree.specs.declared.select.How.{How}
use Rattle.sql_tree.specs.declared.select.How.TheVariants.{First, Cross, Inner, Left}
use Rattle.sql_tree.specs.declared.tree.Tree.{Tree}
use Rattle.sql_meaning.specs.Direct.{rows_of, entry_row, pairs, goes, nulls, padded, partners, loops, keeps}
use Rattle.sql_meaning.specs.Parts.{conditions}
use Rattle.sql_meaning.specs.Refused.{is_first}
use Rattle.sql_meaning.specs.Scope.{Header, number_of, no_table, table_of, header_of, type_of_column}
use Rattle.sql_meaning.specs.Value.{EntryRow, value}
use Rattle.sql_to_rel.specs.Numbered.{numbered, flat, IsFull, AreFull}
use Rattle.sql_to_rel.proofs.Values.{meaning_of-numbered}
use Rattle.typed_meaning.specs.Rows.{IsFilled, IsTypedRow}
use Rattle.typed_meaning.proofs.Lists.{All-flat_map, flat_map-twice}
use Rattle.typed_meaning.proofs.Rows.{pairs-typed, partners-typed, no-rows, types-length}
use Rattle.expr_parts.proofs.ConjunctLaws.{conjunction-true}
use Rattle.sql_algebra.specs.Algebra.{scan_of, join_condition, join_kind, joined_with, joins, from_tree, kept}
use Rattle.sql_algebra.specs.Formed.{begins_first}
use Rattle.sql_algebra.proofs.Lists.{map-filter, map-flat_map, flat_map-one, all-kept}
use Rattle.cal_rel.proofs.Reorders.{map-map}

-- ---- values over rows

pub full : (env : List EntryRow) → All IsFilled env → AreFull env
full env h = All-weaker IsFilled IsFull (λ b k. types-length b.row (map (type_of_column b.header) b.header.table.columns) k ∙ length-map b.header.table.columns (type_of_column b.header)) env h

pub row-value : (scope : List Header) (env : List EntryRow) → IsTypedRow scope env → (tree : Tree) → value env tree ≡ meaning_of (numbered scope tree) (flat env)
row-value scope env h tree = sym (meaning_of-numbered env (full env h.filled) tree) ∙ ap (λ hs. meaning_of (numbered hs tree) (flat env)) h.headers

-- ---- several conditions

each-holds : (scope : List Header) (env : List EntryRow) → IsTypedRow scope env → (trees : List Tree)
    → list_all (λ tree. is_true (value env tree)) trees ≡ list_all (λ e. holds e (flat env)) (map (numbered scope) trees)
each-holds scope env h [] = refl
each-holds scope env h (tree ∷ trees) = ap₂ (λ a b. a && b) (ap is_true (row-value scope env h tree)) (each-holds scope env h trees)

goes-holds : (scope : List Header) (env : List EntryRow) → IsTypedRow scope env → (entry : FromEntry) → goes entry env ≡ holds (join_condition scope entry) (flat env)
goes-holds scope env h entry = each-holds scope env h (conditions entry) ∙ sym (conjunction-true (map (numbered scope) (conditions entry)) (flat env))

-- ---- tables

rows-past : (tables : List TableDef) (lists : List (List Row)) → AreFilledBy tables lists → unwrap_or (slice_get lists (length tables)) [] ≡ []
rows-past [] [] h = refl
rows-past [] (rows ∷ lists) h = absurd h
rows-past (t ∷ tables) [] h = absurd h
rows-past (t ∷ tables) (rows ∷ lists) h = rows-past tables lists h.1

width-past : (tables : List TableDef) → unwrap_or (option_map (λ (t : TableDef). length t.columns) (slice_get tables (length tables))) 0 ≡ 0
width-past [] = refl
width-past (t ∷ tables) = width-past tables

scanned : (schema : Schema) (db : Db) (entry : FromEntry) → Fits db schema → table_rows db (unwrap_or (number_of schema entry.table) (length schema.tables)) ≡ rows_of schema db entry
scanned schema db entry fits = by (number_of schema entry.table)
  where
    by : (o : Option ℕ) → unwrap_or (slice_get db.tables (unwrap_or o (length schema.tables))) [] ≡ unwrap_or (option_and_then (slice_get db.tables) o) []
    by None = rows-past schema.tables db.tables fits
    by (Some n) = refl

scanned-width : (schema : Schema) (entry : FromEntry) → table_width schema (unwrap_or (number_of schema entry.table) (length schema.tables)) ≡ length (table_of schema entry.table).columns
scanned-width schema entry = by (number_of schema entry.table)
  where
    at_table : (o : Option TableDef) → unwrap_or (option_map (λ (t : TableDef). length t.columns) o) 0 ≡ length (unwrap_or o no_table).columns
    at_table None = refl
    at_table (Some t) = refl

    by : (o : Option ℕ) → table_width schema (unwrap_or o (length schema.tables)) ≡ length (unwrap_or (option_and_then (slice_get schema.tables) o) no_table).columns
    by None = width-past schema.tables
    by (Some n) = at_table (slice_get schema.tables n)

-- ---- one entry

flat-entry : (schema : Schema) (entry : FromEntry) (env : List EntryRow) (row : Row) → flat (env ++ entry_row schema entry row ∷ []) ≡ flat env ++ row
flat-entry schema entry env row = flat_map-append (λ (b : EntryRow). b.row) env (entry_row schema entry row ∷ []) ∙ ap (λ r. flat env ++ r) (append-nil row)

flat-pairs : (schema : Schema) (db : Db) (entry : FromEntry) (env : List EntryRow) → map flat (pairs schema db entry env) ≡ map (λ y. flat env ++ y) (rows_of schema db entry)
flat-pairs schema db entry env =
    map-map flat (λ row. env ++ entry_row schema entry row ∷ []) (rows_of schema db entry)
    ∙ ap (λ f. map f (rows_of schema db entry)) (fun_ext (flat-entry schema entry env))

flat-padded : (how : How) (alone : List EntryRow) (envs : List (List EntryRow)) (on : Expr) (n : ℕ) (right : List Row) (x : Row)
    → map flat envs ≡ join_partners on right x → flat alone ≡ x ++ replicate n Null → map flat (padded how alone envs) ≡ joined (join_kind how) on n right x
flat-padded First alone envs on n right x e f = e
flat-padded Cross alone envs on n right x e f = e
flat-padded (Inner cond) alone envs on n right x e f = e
flat-padded (Left cond) alone envs on n right x e f = flat-or_alone envs ∙ ap₂ Rattle.cal_rel.specs.Operators.or_alone f e
  where
    flat-or_alone : (envs : List (List EntryRow)) → map flat (Rattle.sql_meaning.specs.Direct.or_alone alone envs) ≡ Rattle.cal_rel.specs.Operators.or_alone (flat alone) (map flat envs)
    flat-or_alone [] = refl
    flat-or_alone (env ∷ envs) = refl

module _ (info : Info) (db : Db) (holes : ℕ → List Row) (fits : Fits db info.schema) where
  abbrev pub rows : RelTree → List Row
  rows tree = bag info db holes tree

  -- what a join makes of one left row
  abbrev partners_of : List Header → FromEntry → Row → List Row
  partners_of scope entry x = joined (join_kind entry.how) (join_condition scope entry) (table_width info.schema (unwrap_or (number_of info.schema entry.table) (length info.schema.tables))) (table_rows db (unwrap_or (number_of info.schema entry.table) (length info.schema.tables))) x

  flat-partners : (before : List Header) (entry : FromEntry) (env : List EntryRow) → IsTypedRow before env
      → map flat (partners info.schema db entry env) ≡ partners_of (before ++ header_of info.schema entry ∷ []) entry (flat env)
  flat-partners before entry env h =
      let scope = before ++ header_of info.schema entry ∷ [] in
      flat-padded entry.how (env ++ entry_row info.schema entry (nulls info.schema entry) ∷ []) (filter (goes entry) (pairs info.schema db entry env)) (join_condition scope entry)
      (length (table_of info.schema entry.table).columns) (rows_of info.schema db entry) (flat env)
      (map-filter flat (goes entry) (holds (join_condition scope entry)) (pairs info.schema db entry env)
      (All-weaker (IsTypedRow scope) (λ pair. goes entry pair ≡ holds (join_condition scope entry) (flat pair)) (λ pair k. goes-holds scope pair k entry) (pairs info.schema db entry env) (pairs-typed info.schema db fits before entry env h))
      ∙ ap (filter (holds (join_condition scope entry))) (flat-pairs info.schema db entry env))
      (flat-entry info.schema entry env (nulls info.schema entry))
      ∙ ap₂ (λ n right. joined (join_kind entry.how) (join_condition scope entry) n right (flat env)) (sym (scanned-width info.schema entry)) (sym (scanned info.schema db entry fits))

  -- ---- the entries from left to right

  -- the rows of a tree are these, which are typed
  pub record Walks (scope : List Header) (tree : RelTree) (envs : List (List EntryRow)) : Type 0 where
    pub same : map flat envs ≡ bag info db holes tree
    pub typed : All (IsTypedRow scope) envs

  walks-one : (before : List Header) (tree : RelTree) (envs : List (List EntryRow)) (entry : FromEntry) → Walks before tree envs
      → Walks (before ++ header_of info.schema entry ∷ []) (joined_with info.schema (before ++ header_of info.schema entry ∷ []) tree entry) (flat_map (partners info.schema db entry) envs)
  walks-one before tree envs entry w =
      let scope = before ++ header_of info.schema entry ∷ [] in
      record {
        same = map-flat_map flat (partners info.schema db entry) flat (partners_of scope entry) envs
            (All-weaker (IsTypedRow before) (λ env. map flat (partners info.schema db entry env) ≡ partners_of scope entry (flat env)) (λ env k. flat-partners before entry env k) envs w.typed)
            ∙ ap (flat_map (partners_of scope entry)) w.same;
        typed = All-flat_map (IsTypedRow scope) (partners info.schema db entry) (IsTypedRow before) (λ env k. partners-typed info.schema db fits before entry env k) envs w.typed;
      }

  walks-all : (entries : List FromEntry) (before : List Header) (tree : RelTree) (envs : List (List EntryRow)) → Walks before tree envs
      → Walks (before ++ map (header_of info.schema) entries) (joins info.schema before tree entries) (flat_map (loops info.schema db entries) envs)
  walks-all [] before tree envs w = record {
    same = ap (map flat) (flat_map-one envs) ∙ w.same;
    typed = subst (All (IsTypedRow (before ++ []))) (sym (flat_map-one envs)) (subst (λ s. All (IsTypedRow s) envs) (sym (append-nil before)) w.typed);
  }
  walks-all (entry ∷ entries) before tree envs w =
      let scope = before ++ header_of info.schema entry ∷ [] in
      let step = flat_map (partners info.schema db entry) envs in
      let next = walks-all entries scope (joined_with info.schema scope tree entry) step (walks-one before tree envs entry w) in
      let again : flat_map (loops info.schema db (entry ∷ entries)) envs ≡ flat_map (loops info.schema db entries) step = flat_map-twice (partners info.schema db entry) (loops info.schema db entries) envs in
      record {
        same = ap (map flat) again ∙ next.same;
        typed = subst (All (IsTypedRow (before ++ map (header_of info.schema) (entry ∷ entries)))) (sym again)
            (subst (λ s. All (IsTypedRow s) (flat_map (loops info.schema db entries) step)) (append_assoc before (header_of info.schema entry ∷ []) (map (header_of info.schema) entries)) next.typed);
      }

  first-padded : (how : How) (alone : List EntryRow) (envs : List (List EntryRow)) → is_first how ≡ true → padded how alone envs ≡ envs
  first-padded First alone envs h = refl
  first-padded Cross alone envs h = refl
  first-padded (Inner cond) alone envs h = refl
  first-padded (Left cond) alone envs h = absurd (cc)

  first-goes : (how : How) (alias : List ℕ) (env : List EntryRow) → is_first how ≡ true → list_all (λ tree. is_true (value env tree)) (Rattle.sql_meaning.specs.Parts.conditions_by alias how) ≡ true
  first-goes First alias env h = refl
  first-goes Cross alias env h = refl
  first-goes (Inner cond) alias env h = absurd (cc)
  first-goes (Left cond) alias env h = absurd (cc)

  first-partners : (entry : FromEntry) (env : List EntryRow) → is_first entry.how ≡ true → partners info.schema db entry env ≡ pairs info.schema db entry env
  first-partners entry env h =
      first-padded entry.how (env ++ entry_row info.schema entry (nulls info.schema entry) ∷ []) (filter (goes entry) (pairs info.schema db entry env)) h
      ∙ ap (λ p. filter p (pairs info.schema db entry env)) (fun_ext (λ env. first-goes entry.how entry.alias env h))
      ∙ all-kept (pairs info.schema db entry env)

  pub walks-from : (entries : List FromEntry) → begins_first entries ≡ true → Walks (map (header_of info.schema) entries) (from_tree info.schema entries) (loops info.schema db entries [])
  walks-from [] h = absurd (cc)
  walks-from (entry ∷ entries) h =
      subst (λ envs. Walks (map (header_of info.schema) (entry ∷ entries)) (from_tree info.schema (entry ∷ entries)) (flat_map (loops info.schema db entries) envs)) (sym (first-partners entry [] h))
      (walks-all entries (header_of info.schema entry ∷ []) (scan_of info.schema entry) (pairs info.schema db entry []) (record {
        same = flat-pairs info.schema db entry [] ∙ map-id (rows_of info.schema db entry) ∙ sym (scanned info.schema db entry fits);
        typed = pairs-typed info.schema db fits [] entry [] no-rows;
      }))

  -- ---- WHERE

  pub walks-where : (scope : List Header) (condition : Option Tree) (tree : RelTree) (envs : List (List EntryRow)) → Walks scope tree envs
      → Walks scope (kept (numbered scope) condition tree) (filter (keeps condition) envs)
  walks-where scope None tree envs w = subst (Walks scope tree) (sym (all-kept envs)) w
  walks-where scope (Some t) tree envs w = record {
    same = map-filter flat (λ env. is_true (value env t)) (holds (numbered scope t)) envs
        (All-weaker (IsTypedRow scope) (λ env. is_true (value env t) ≡ holds (numbered scope t) (flat env)) (λ env k. ap is_true (row-value scope env k t)) envs w.typed)
        ∙ ap (filter (holds (numbered scope t))) w.same;
    typed = All-filter (λ env. is_true (value env t)) (IsTypedRow scope) envs w.typed;
  }
