-- The items of a query without groups are a Project.
use Rattle.std.proofs.Common.{◌≡◌, ℕ, ◌+◌, Bool, true, false, cond, List, [], ◌∷◌, ◌++◌, map, length, All, refl, sym, ◌∙◌, ap, arith}
use mathlib.Core.Path.{ap₂, fun_ext}
use Rattle.std.proofs.lemmas.List.{append_assoc, length-append, map-append}
use Rattle.std.proofs.lemmas.List.Elements.{All-head, All-tail, All-weaker}
use Rattle.cal_value.specs.declared.value.Value.{Value}
use Rattle.cal_value.specs.Order.{column_of}
use Rattle.cal_expr.specs.declared.expr.Expr.TheVariants.{Column}
use Rattle.cal_expr.specs.Meaning.{meaning_of, meaning_step}
use Rattle.cal_schema.specs.declared.column.ColumnDef.{ColumnDef}
use Rattle.cal_rel.specs.Operators.{Row, projected}
use Rattle.cal_rel.proofs.Reorders.{map-map}
use Rattle.sql_tree.specs.declared.select.Item.{Item}
use Rattle.sql_tree.specs.declared.select.Items.{Items}
use Rattle.sql_tree.specs.declared.select.Items.TheVariants.{Star, Listed}
use Rattle.sql_meaning.specs.Direct.{shown, star_values, item_values}
use Rattle.sql_meaning.specs.Names.{places_from, star_places}
use Rattle.sql_meaning.specs.Scope.{Header, hidden_by, is_among}
use Rattle.sql_meaning.specs.Value.{EntryRow}
use Rattle.sql_to_rel.specs.Numbered.{numbered, flat, IsFull, AreFull}
use Rattle.sql_to_rel.proofs.Rolls.{fold-Column}
use Rattle.typed_meaning.specs.Rows.{IsTypedRow}
use Rattle.sql_algebra.specs.Algebra.{row_items}
use Rattle.sql_algebra.proofs.From.{full, row-value}
use Rattle.sql_algebra.proofs.Lists.{map-ext}

-- ---- columns as expressions

pub column-meaning : (row : Row) (at : ℕ) → meaning_of (Column at) row ≡ column_of row at
column-meaning row at = fold-Column (meaning_step row) at

pub columns-meaning : (row : Row) (ats : List ℕ) → projected (map Column ats) row ≡ map (column_of row) ats
columns-meaning row ats = map-map (λ e. meaning_of e row) Column ats ∙ ap (λ f. map f ats) (fun_ext (column-meaning row))

-- ---- the columns that `*` stands for

pub value-at : (before : Row) (v : Value) (rest : Row) → column_of (before ++ v ∷ rest) (length before) ≡ v
value-at [] v rest = refl
value-at (w ∷ before) v rest = value-at before v rest

shown-at : (hidden : List (List ℕ)) (cs : List ColumnDef) (before row rest : Row) → length row ≡ length cs
    → shown hidden cs row ≡ map (column_of (before ++ (row ++ rest))) (shown hidden cs (places_from (length before) cs))
shown-at hidden [] before row rest h = refl
shown-at hidden (c ∷ cs) before [] rest h = absurd (omega arith)
shown-at hidden (c ∷ cs) before (v ∷ row) rest h =
    by (is_among c.name hidden)
    (shown-at hidden cs (before ++ v ∷ []) row rest (omega arith)
    ∙ ap₂ (λ whole n. map (column_of whole) (shown hidden cs (places_from n cs))) (append_assoc before (v ∷ []) (row ++ rest)) (length-append before (v ∷ [])))
  where
    by : (b : Bool) → shown hidden cs row ≡ map (column_of (before ++ (v ∷ (row ++ rest)))) (shown hidden cs (places_from (length before + 1) cs))
        → cond b (shown hidden cs row) (v ∷ shown hidden cs row)
        ≡ map (column_of (before ++ (v ∷ (row ++ rest)))) (cond b (shown hidden cs (places_from (length before + 1) cs)) (length before ∷ shown hidden cs (places_from (length before + 1) cs)))
    by true e = e
    by false e = ap₂ (λ w ws. w ∷ ws) (sym (value-at before v (row ++ rest))) e

star-at : (env : List EntryRow) → AreFull env → (before : Row) → star_values env ≡ map (column_of (before ++ flat env)) (star_places (length before) (map (λ (b : EntryRow). b.header) env))
star-at [] h before = refl
star-at (b ∷ env) h before =
    ap₂ (λ xs ys. xs ++ ys) (shown-at hidden columns before b.row (flat env) (All-head IsFull b env h))
    (star-at env (All-tail IsFull b env h) (before ++ b.row)
    ∙ ap₂ (λ whole n. map (column_of whole) (star_places n (map (λ (b : EntryRow). b.header) env))) (append_assoc before b.row (flat env))
    (length-append before b.row ∙ ap (λ n. length before + n) (All-head IsFull b env h)))
    ∙ sym (map-append (column_of (before ++ (b.row ++ flat env))) (shown hidden columns (places_from (length before) columns)) (star_places (length before + length columns) (map (λ (b : EntryRow). b.header) env)))
  where
    hidden : List (List ℕ)
    hidden = hidden_by b.header.entry.how

    columns : List ColumnDef
    columns = b.header.table.columns

pub star-columns : (scope : List Header) (env : List EntryRow) → IsTypedRow scope env → star_values env ≡ map (column_of (flat env)) (star_places 0 scope)
star-columns scope env h = star-at env (full env h.filled) [] ∙ ap (λ hs. map (column_of (flat env)) (star_places 0 hs)) h.headers

-- ---- the items

pub row-items : (scope : List Header) (env : List EntryRow) → IsTypedRow scope env → (items : Items) → item_values items env ≡ projected (row_items scope items) (flat env)
row-items scope env h Star = star-columns scope env h ∙ sym (columns-meaning (flat env) (star_places 0 scope))
row-items scope env h (Listed items) =
    ap (λ f. map f items) (fun_ext (λ (item : Item). row-value scope env h item.tree))
    ∙ sym (map-map (λ e. meaning_of e (flat env)) (λ (item : Item). numbered scope item.tree) items)

pub row-answers : (scope : List Header) (items : Items) (envs : List (List EntryRow)) → All (IsTypedRow scope) envs
    → map (item_values items) envs ≡ map (projected (row_items scope items)) (map flat envs)
row-answers scope items envs h =
    map-ext (item_values items) (λ env. projected (row_items scope items) (flat env)) envs
    (All-weaker (IsTypedRow scope) (λ env. item_values items env ≡ projected (row_items scope items) (flat env)) (λ env k. row-items scope env k items) envs h)
    ∙ sym (map-map (projected (row_items scope items)) flat envs)
