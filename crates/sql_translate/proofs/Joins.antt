-- The joins of FROM, one entry after another.
use Rattle.std.proofs.Common.{◌≡◌, ◌≢◌, ◌<◌, ◌≤◌, ◌+◌, ◌∙◌, ℕ, zero, suc, refl, ap, sym, arith, add-one, drop-cons, List, [], ◌∷◌, ◌++◌, length, map, take, drop, get_or, slice_index_or, Some, unwrap_or}
use Rattle.std.proofs.Math.ListN.{drop_of_length-le}
use Rattle.std.proofs.Math.Seq.{take-suc}
use Rattle.std.proofs.lemmas.List.{length-map, get_or-map}
use Rattle.cal_schema.specs.declared.schema.Schema.{Schema}
use Rattle.cal_rel.specs.declared.rel.Rel.{Rel}
use Rattle.cal_rel.specs.declared.rel.Rel.TheVariants.{Scan}
use Rattle.cal_rel.specs.Tree.{Tree, leaf, binary, scan, join_on, tree_of}
use Rattle.cal_rel.proofs.TreeSteps.{tree-Scan}
use Rattle.sql_tree.specs.declared.select.FromEntry.{FromEntry}
use Rattle.sql_meaning.specs.Scope.{Header, header_of, number_of}
use Rattle.sql_names.specs.Tables.{AreNumbered}
use Rattle.sql_names.proofs.FromTables.{numbered-at}
use Rattle.sql_algebra.specs.Algebra.{scan_of, join_kind, join_condition, joined_with, joins, from_tree}

-- what each turn of the loop keeps
abbrev pub IsJoined : List FromEntry → List ℕ → List Header → ℕ → Tree → Type 0
IsJoined from tables scope at tree =
    (schema : Schema) → AreNumbered schema from tables → scope ≡ map (header_of schema) from → joins schema (take at scope) tree (drop at from) ≡ from_tree schema from

pub scan-numbered : (schema : Schema) (entry : FromEntry) (table : ℕ) → Some table ≡ number_of schema entry.table → scan_of schema entry ≡ leaf (scan table)
scan-numbered schema entry table e = ap (λ o. leaf (scan (unwrap_or o (length schema.tables)))) (sym e)

pub joins-start : (from : List FromEntry) (tables : List ℕ) (scope : List Header) (table : ℕ) (tree : Rel) → from ≢ [] → table ≡ slice_index_or tables 0 0 → tree ≡ Scan table → IsJoined from tables scope 1 (tree_of tree)
joins-start [] tables scope table tree some is made = λ schema are seen. absurd (some refl)
joins-start (entry ∷ from) tables scope table tree some is made = λ schema are seen.
    let first : Some table ≡ number_of schema entry.table = ap Some is ∙ numbered-at schema (entry ∷ from) tables 0 entry are refl (omega arith) in
    ap (λ hs. joins schema (take 1 hs) (tree_of tree) from) seen
    ∙ ap (λ t. joins schema (header_of schema entry ∷ []) t from) (ap tree_of made ∙ tree-Scan table ∙ sym (scan-numbered schema entry table first))

pub joins-turn : (from : List FromEntry) (tables : List ℕ) (scope seen : List Header) (at : ℕ) (entry : FromEntry) (table : ℕ) (tree next : Tree) → at < length from → entry ≡ get_or from at entry → table ≡ slice_index_or tables at 0
    → seen ≡ take (at + 1) scope → next ≡ binary (join_on (join_kind entry.how) (join_condition seen entry)) tree (leaf (scan table)) → IsJoined from tables scope at tree → IsJoined from tables scope (at + 1) next
joins-turn from tables scope seen at entry table tree next lt is it shown made before = λ schema are whole.
    let number : Some table ≡ number_of schema entry.table = ap Some it ∙ numbered-at schema from tables at entry are is lt in
    let within : at < length scope = (let same : length scope ≡ length from = ap length whole ∙ length-map from (header_of schema) in omega arith) in
    let h = header_of schema entry in
    let last : take (at + 1) scope ≡ take at scope ++ header_of schema entry ∷ [] =
    ap (λ n. take n scope) (add-one at) ∙ take-suc scope at h within
    ∙ ap (λ x. take at scope ++ x ∷ []) (ap (λ hs. get_or hs at h) whole ∙ get_or-map (header_of schema) from at entry h lt ∙ ap (header_of schema) (sym is)) in
    let front : drop at from ≡ entry ∷ drop (at + 1) from = drop-cons from at entry lt ∙ ap (λ e. e ∷ drop (suc at) from) (sym is) ∙ ap (λ n. entry ∷ drop n from) (sym (add-one at)) in
    let one : joined_with schema (take at scope ++ header_of schema entry ∷ []) tree entry ≡ next =
    ap (λ t. binary (join_on (join_kind entry.how) (join_condition (take at scope ++ header_of schema entry ∷ []) entry)) tree t) (scan-numbered schema entry table number)
    ∙ ap (λ s. binary (join_on (join_kind entry.how) (join_condition s entry)) tree (leaf (scan table))) (sym last ∙ sym shown)
    ∙ sym made in
    ap (λ hs. joins schema hs next (drop (at + 1) from)) last
    ∙ ap (λ t. joins schema (take at scope ++ header_of schema entry ∷ []) t (drop (at + 1) from)) (sym one)
    ∙ ap (λ es. joins schema (take at scope) tree es) (sym front)
    ∙ before schema are whole

pub joins-end : (from : List FromEntry) (tables : List ℕ) (scope : List Header) (at : ℕ) (tree : Tree) → length from ≤ at → IsJoined from tables scope at tree
    → (schema : Schema) → AreNumbered schema from tables → scope ≡ map (header_of schema) from → tree ≡ from_tree schema from
joins-end from tables scope at tree past h = λ schema are whole.
    sym (ap (λ es. joins schema (take at scope) tree es) (drop_of_length-le from past)) ∙ h schema are whole
