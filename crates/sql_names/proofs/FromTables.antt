-- The tables of the entries of FROM.
use Rattle.std.proofs.Common.{◌≡◌, ◌≢◌, ◌<◌, ◌≤◌, ◌+◌, ◌∙◌, ap, sym, subst, refl, arith, ℕ, zero, suc, add-one, Bool, true, false, cond, List, [], ◌∷◌, ◌++◌, length, map, take, drop, get_or, drop-cons, find, Option, Some, None, option_map, slice_index_or}
use Rattle.std.specs.Option.{is_none}
use Rattle.std.proofs.Math.Seq.{take-suc}
use Rattle.std.proofs.lemmas.List.{map-append, take-append-drop}
use Rattle.std.proofs.lemmas.List.Folds.{find-append}
use Rattle.cal_schema.specs.declared.refusal.Refusal.{Refusal}
use Rattle.cal_schema.specs.declared.refusal.Refusal.TheVariants.{UnknownTable}
use Rattle.cal_schema.specs.declared.schema.Schema.{Schema}
use Rattle.cal_schema.specs.declared.table.TableDef.{TableDef}
use Rattle.cal_schema.specs.Lookup.{is_named}
use Rattle.cal_schema.proofs.NameLemmas.{position-below}
use Rattle.sql_tree.specs.declared.select.FromEntry.{FromEntry}
use Rattle.sql_meaning.specs.Refused.{is_unknown_table, table_name}
use Rattle.sql_meaning.specs.Scope.{Header, header, header_of, number_of}
use Rattle.sql_meaning.proofs.OneEntry.{table-known}
use Rattle.sql_meaning.proofs.Pushed.{map-turn}
use Rattle.sql_names.specs.Tables.{first_unknown, AreNumbered}

-- ---- numbers

pub numbered-at : (schema : Schema) (from : List FromEntry) (numbers : List ℕ) (i : ℕ) (entry : FromEntry) → AreNumbered schema from numbers → entry ≡ get_or from i entry → i < length from
    → Some (slice_index_or numbers i 0) ≡ number_of schema entry.table
numbered-at schema [] numbers i entry are is lt = absurd (omega arith)
numbered-at schema (e ∷ from) [] i entry are is lt = absurd (cc)
numbered-at schema (e ∷ from) (n ∷ numbers) zero entry are is lt = let same : Some n ≡ number_of schema e.table = cc in same ∙ ap (λ (x : FromEntry). number_of schema x.table) (sym is)
numbered-at schema (e ∷ from) (n ∷ numbers) (suc i) entry are is lt = numbered-at schema from numbers i entry (cc) is (omega arith)

-- a table that has a number is there
pub number-within : (schema : Schema) (entry : FromEntry) (number : ℕ) → Some number ≡ number_of schema entry.table → number < length schema.tables
number-within schema entry number e = position-below (is_named schema entry.table.schema entry.table.name) schema.tables number (sym e)

-- ---- of a loop that looks up each table

unknown-append : (schema : Schema) (xs ys : List FromEntry) → first_unknown schema xs ≡ None → first_unknown schema (xs ++ ys) ≡ first_unknown schema ys
unknown-append schema [] ys e = refl
unknown-append schema (x ∷ xs) ys e = by (is_unknown_table schema x) e (unknown-append schema xs ys)
  where
    told : FromEntry → Refusal
    told x = UnknownTable (table_name x.table)

    by : (b : Bool) → option_map told (cond b (Some x) (find (is_unknown_table schema) xs)) ≡ None → (first_unknown schema xs ≡ None → first_unknown schema (xs ++ ys) ≡ first_unknown schema ys)
        → option_map told (cond b (Some x) (find (is_unknown_table schema) (xs ++ ys))) ≡ first_unknown schema ys
    by true f later = absurd (cc)
    by false f later = later f

known-here : (schema : Schema) (entry : FromEntry) (number : ℕ) → Some number ≡ number_of schema entry.table → first_unknown schema (entry ∷ []) ≡ None
known-here schema entry number e = ap (λ o. option_map (λ (x : FromEntry). UnknownTable (table_name x.table)) (cond (is_none o) (Some entry) None)) (sym e)

unknown-here : (schema : Schema) (entry : FromEntry) (rest : List FromEntry) → number_of schema entry.table ≡ None → first_unknown schema (entry ∷ rest) ≡ Some (UnknownTable (table_name entry.table))
unknown-here schema entry rest e = ap (λ o. option_map (λ (x : FromEntry). UnknownTable (table_name x.table)) (cond (is_none o) (Some entry) (find (is_unknown_table schema) rest))) e

-- one more that has a number
pub known-turn : (schema : Schema) (from : List FromEntry) (i : ℕ) (entry : FromEntry) (number : ℕ) → entry ≡ get_or from i entry → i < length from → first_unknown schema (take i from) ≡ None → Some number ≡ number_of schema entry.table
    → first_unknown schema (take (i + 1) from) ≡ None
known-turn schema from i entry number is lt before e =
    ap (λ n. first_unknown schema (take n from)) (add-one i)
    ∙ ap (first_unknown schema) (take-suc from i entry lt)
    ∙ unknown-append schema (take i from) (get_or from i entry ∷ []) before
    ∙ ap (λ x. first_unknown schema (x ∷ [])) (sym is)
    ∙ known-here schema entry number e

pub numbers-turn : (schema : Schema) (from : List FromEntry) (i : ℕ) (entry : FromEntry) (number : ℕ) (numbers new : List ℕ) → entry ≡ get_or from i entry → i < length from → AreNumbered schema (take i from) numbers
    → Some number ≡ number_of schema entry.table → new ≡ numbers ++ number ∷ [] → AreNumbered schema (take (i + 1) from) new
numbers-turn schema from i entry number numbers new is lt before e en =
    ap (map (λ n. Some n)) en
    ∙ map-append (λ n. Some n) numbers (number ∷ [])
    ∙ ap (λ ns. ns ++ Some number ∷ []) before
    ∙ ap (λ n. map (λ (x : FromEntry). number_of schema x.table) (take i from) ++ n ∷ []) (e ∙ ap (λ (x : FromEntry). number_of schema x.table) is)
    ∙ sym (ap (λ n. map (λ (x : FromEntry). number_of schema x.table) (take n from)) (add-one i)
    ∙ ap (map (λ (x : FromEntry). number_of schema x.table)) (take-suc from i entry lt)
    ∙ map-append (λ (x : FromEntry). number_of schema x.table) (take i from) (get_or from i entry ∷ []))

-- the first without a number
pub unknown-first : (schema : Schema) (from : List FromEntry) (i : ℕ) (entry : FromEntry) → entry ≡ get_or from i entry → i < length from → first_unknown schema (take i from) ≡ None → number_of schema entry.table ≡ None
    → first_unknown schema from ≡ Some (UnknownTable (table_name entry.table))
unknown-first schema from i entry is lt before e =
    ap (first_unknown schema) (sym (take-append-drop i from))
    ∙ unknown-append schema (take i from) (drop i from) before
    ∙ ap (first_unknown schema) (drop-cons from i entry lt)
    ∙ ap (λ x. first_unknown schema (x ∷ drop (suc i) from)) (sym is)
    ∙ unknown-here schema entry (drop (suc i) from) e

-- ---- of a loop that makes entries

pub entry-turn : (schema : Schema) (from : List FromEntry) (numbers : List ℕ) (i : ℕ) (entry : FromEntry) (table : TableDef) (h : Header) (scope new : List Header) → AreNumbered schema from numbers → entry ≡ get_or from i entry → i < length from
    → table ≡ get_or schema.tables (slice_index_or numbers i 0) table → h ≡ header entry table → scope ≡ map (header_of schema) (take i from) → new ≡ scope ++ h ∷ [] → new ≡ map (header_of schema) (take (i + 1) from)
entry-turn schema from numbers i entry table h scope new are is lt it eh e en =
    let number = numbered-at schema from numbers i entry are is lt in
    let known = table-known schema entry.table (slice_index_or numbers i 0) table number (number-within schema entry (slice_index_or numbers i 0) number) it in
    map-turn (header_of schema) from i entry [] scope new is lt e (en ∙ ap (λ x. scope ++ x ∷ []) (eh ∙ ap (header entry) (sym known)))
