-- The Aggregate, over a Project or not, makes of rows what calls of expressions make of them.
use Rattle.std.proofs.Common.{◌≡◌, ℕ, zero, suc, pos, Bool, true, false, cond, ◌&&◌, List, [], ◌∷◌, ◌++◌, map, length, All, Option, Some, None, option_map, unwrap_or, refl, sym, ◌∙◌, ap, subst}
use mathlib.Core.Path.{ap₂, fun_ext}
use Rattle.std.specs.Prelude.{is_some}
use Rattle.std.specs.Bool.{Decides}
use Rattle.std.specs.List.{flat_map, list_all}
use Rattle.std.proofs.lemmas.Bool.Decides.{Decides-eqb, Decides-like, Decides-and}
use Rattle.std.proofs.lemmas.List.{length-map, map-id}
use Rattle.std.proofs.lemmas.List.Elements.{All-nil, All-cons, All-head, All-append, All-map, All-weaker}
use Rattle.cal_value.specs.declared.operator.Agg.{Agg}
use Rattle.cal_value.specs.declared.operator.Agg.TheVariants.{Count, Sum, Sum0, Min, Max}
use Rattle.cal_value.specs.declared.value.Value.{Value}
use Rattle.cal_value.specs.declared.value.Value.TheVariants.{Int}
use Rattle.cal_value.specs.Equal.{row_eq}
use Rattle.cal_value.specs.Order.{column_of, columns_of}
use Rattle.cal_aggregate.specs.Aggregate.{aggregated}
use Rattle.cal_aggregate.specs.Parts.{Part, members, parts}
use Rattle.cal_expr.specs.declared.expr.Expr.{Expr, out-Expr}
use Rattle.cal_expr.specs.declared.expr.Expr.TheOpen.{Expr-F}
use Rattle.cal_expr.specs.declared.expr.Expr.TheVariants.{Column, rolls-Column}
use Rattle.cal_expr.specs.declared.expr.Expr.TheViews.{roll-Expr, out-roll-Expr, roll-out-Expr}
use Rattle.cal_expr.specs.Equal.{expr_eq}
use Rattle.cal_expr.specs.EqualLaws.{expr_eq-Decides}
use Rattle.cal_expr.specs.Meaning.{meaning_of}
use Rattle.cal_schema.specs.declared.database.Db.{Db}
use Rattle.cal_rel.specs.Bag.{bag}
use Rattle.cal_rel.specs.Equal.{agg_index, agg_eq}
use Rattle.cal_rel.specs.Info.{Info}
use Rattle.cal_rel.specs.Operators.{Row, projected, aggregate_of, called, same_key, grouped}
use Rattle.cal_rel.specs.Tree.{Tree as RelTree, unary, project_to}
use Rattle.cal_rel.proofs.Reorders.{map-map}
use Rattle.sql_meaning.specs.Parts.{listed}
use Rattle.typed_meaning.proofs.Nothing.{All-front, All-back, All-of_map}
use Rattle.sql_algebra.specs.declared.layout.ExprCall.{ExprCall}
use Rattle.sql_algebra.specs.declared.layout.Layout.{Layout}
use Rattle.sql_algebra.specs.Algebra.{place_among, same_argument, same_call, column_node, column_in, takes_column, call_over, aggregate_at, inputs, aggregate_tree}
use Rattle.sql_algebra.proofs.Items.{column-meaning}
use Rattle.sql_algebra.proofs.Lists.{mapped, parts-map, map-ext}
use Rattle.sql_algebra.proofs.Places.{IsAmong, found, all-distinct}

-- ---- the test of calls decides

agg_at : ℕ → Agg
agg_at zero = Count
agg_at (suc zero) = Sum
agg_at (suc (suc zero)) = Sum0
agg_at (suc (suc (suc zero))) = Min
agg_at (suc (suc (suc (suc n)))) = Max

agg_at-index : (a : Agg) → agg_at (agg_index a) ≡ a
unfolding agg_at
agg_at-index Count = refl
agg_at-index Sum = refl
agg_at-index Sum0 = refl
agg_at-index Min = refl
agg_at-index Max = refl

agg_eq-Decides : (a b : Agg) → Decides (agg_eq a b) (a ≡ b)
agg_eq-Decides a b = Decides-like (agg_eq a b) (λ e. sym (agg_at-index a) ∙ ap agg_at e ∙ agg_at-index b) (ap agg_index) (Decides-eqb (agg_index a) (agg_index b))

same_argument-Decides : (a b : Option Expr) → Decides (same_argument a b) (a ≡ b)
same_argument-Decides None None = (λ e. refl, λ e. refl)
same_argument-Decides None (Some b) = (λ e. absurd (cc), λ e. absurd (cc))
same_argument-Decides (Some a) None = (λ e. absurd (cc), λ e. absurd (cc))
same_argument-Decides (Some a) (Some b) = Decides-like (expr_eq a b) (λ h. ap Some h) (λ h. cc) (expr_eq-Decides a b)

call_made : Agg → Option Expr → ExprCall
call_made a argument = record { agg = a; argument = argument }

pub same_call-Decides : (a b : ExprCall) → Decides (same_call a b) (a ≡ b)
unfolding call_made
same_call-Decides a b =
    Decides-like (same_call a b)
    (λ h. ap (λ x. call_made x a.argument) h.0 ∙ ap (λ y. call_made b.agg y) h.1)
    (λ e. (ap (λ (c : ExprCall). c.agg) e, ap (λ (c : ExprCall). c.argument) e))
    (Decides-and _ _ (agg_eq-Decides a.agg b.agg) (same_argument-Decides a.argument b.argument))

-- ---- what calls of expressions make of rows

abbrev pub value_over : List Row → ExprCall → Value
value_over rows call = unwrap_or (option_map (λ e. aggregated call.agg (map (meaning_of e) rows)) call.argument) (Int (pos (length rows)))

abbrev pub values_over : List ExprCall → List Row → Row
values_over calls rows = map (value_over rows) calls

-- ---- where arguments stand in columns

-- the expression stands in a column of the other row
abbrev IsPlaced : (Row → Row) → (Expr → ℕ) → Expr → Type 0
IsPlaced f place e = (row : Row) → column_of (f row) (place e) ≡ meaning_of e row

abbrev arguments : List ExprCall → List Expr
arguments calls = flat_map (λ call. listed call.argument) calls

module _ (f : Row → Row) (place : Expr → ℕ) where
  over-one : (rows : List Row) (agg : Agg) (argument : Option Expr) → All (IsPlaced f place) (listed argument)
      → aggregate_of agg (option_map place argument) (map f rows) ≡ unwrap_or (option_map (λ e. aggregated agg (map (meaning_of e) rows)) argument) (Int (pos (length rows)))
  over-one rows agg None h = ap (λ n. Int (pos n)) (length-map rows f)
  over-one rows agg (Some e) h =
      ap (aggregated agg) (map-map (λ row. column_of row (place e)) f rows ∙ ap (λ g. map g rows) (fun_ext (All-head (IsPlaced f place) e [] h)))

  over-all : (rows : List Row) (calls : List ExprCall) → All (IsPlaced f place) (arguments calls) → called (map (call_over place) calls) (map f rows) ≡ values_over calls rows
  over-all rows [] h = refl
  over-all rows (call ∷ calls) h =
      ap₂ (λ v vs. v ∷ vs) (over-one rows call.agg call.argument (All-front (IsPlaced f place) (listed call.argument) (arguments calls) h))
      (over-all rows calls (All-back (IsPlaced f place) (listed call.argument) (arguments calls) h))

  columns-placed : (row : Row) (columns : List ℕ) → All (IsPlaced f place) (map Column columns) → columns_of (f row) (map (λ column. place (Column column)) columns) ≡ columns_of row columns
  columns-placed row columns h =
      map-map (column_of (f row)) (λ column. place (Column column)) columns
      ∙ map-ext (λ column. column_of (f row) (place (Column column))) (column_of row) columns
      (All-weaker (λ column. IsPlaced f place (Column column)) (λ column. column_of (f row) (place (Column column)) ≡ column_of row column) (λ column k. k row ∙ column-meaning row column) columns
      (All-of_map (IsPlaced f place) Column columns h))

grouped-placed : (i : ℕ → ℕ) (columns : List ℕ) (f : Row → Row) (calls above : List Row → Row) → ((row : Row) → columns_of (f row) (map i columns) ≡ columns_of row columns)
    → ((rows : List Row) → calls (map f rows) ≡ above rows) → (rows : List Row) → grouped (map i columns) calls (map f rows) ≡ grouped columns above rows
grouped-placed i [] f calls above p q rows = ap (λ row. row ∷ []) (q rows)
grouped-placed i (column ∷ columns) f calls above p q rows =
    let all = column ∷ columns in
    let under = map i (column ∷ columns) in
    let made : Part Row → Row = λ part. columns_of part.first under ++ calls (members part) in
    ap (map made) (parts-map (same_key under) f rows)
    ∙ map-map made (mapped f) (parts (λ a b. same_key under (f a) (f b)) rows)
    ∙ ap₂ (λ g s. map g (parts s rows)) (fun_ext (λ (part : Part Row). ap₂ (λ a b. a ++ b) (p part.first) (q (members part)))) (fun_ext (λ a. fun_ext (λ b. ap₂ row_eq (p a) (p b))))

-- ---- both forms of the Aggregate

pub column_in-Column : (column : ℕ) → column_in (Column column) ≡ Some column
column_in-Column column = ap column_node (ap out-Expr (sym (rolls-Column column)) ∙ out-roll-Expr (Expr-F.Column column))

-- an expression that is a column stands in it
abbrev own_column : Expr → ℕ
own_column e = unwrap_or (column_in e) 0

column-placed : (column : ℕ) → IsPlaced (λ row. row) own_column (Column column)
column-placed column row = ap (λ o. column_of row (unwrap_or o 0)) (column_in-Column column) ∙ sym (column-meaning row column)

node-placed : (node : Expr-F Expr) → is_some (column_node node) ≡ true → IsPlaced (λ row. row) own_column (roll-Expr node)
node-placed (Expr-F.Column column) h = subst (IsPlaced (λ row. row) own_column) (sym (rolls-Column column)) (column-placed column)
node-placed (Expr-F.Literal v) h = absurd (cc)
node-placed (Expr-F.Negate a) h = absurd (cc)
node-placed (Expr-F.Binary op a b) h = absurd (cc)
node-placed (Expr-F.Not a) h = absurd (cc)
node-placed (Expr-F.IsNull a) h = absurd (cc)

own-placed : (e : Expr) → is_some (column_in e) ≡ true → IsPlaced (λ row. row) own_column e
own-placed e h = subst (IsPlaced (λ row. row) own_column) (roll-out-Expr e) (node-placed (out-Expr e) h)

pub both-true : (a b : Bool) → (a && b) ≡ true → (a ≡ true) × (b ≡ true)
both-true true b e = (refl, e)
both-true false b e = absurd (cc)

argument-placed : (argument : Option Expr) → unwrap_or (option_map (λ e. is_some (column_in e)) argument) true ≡ true → All (IsPlaced (λ row. row) own_column) (listed argument)
argument-placed None h = All-nil (IsPlaced (λ row. row) own_column)
argument-placed (Some e) h = All-cons (IsPlaced (λ row. row) own_column) e [] (own-placed e h) (All-nil (IsPlaced (λ row. row) own_column))

arguments-placed : (calls : List ExprCall) → list_all takes_column calls ≡ true → All (IsPlaced (λ row. row) own_column) (arguments calls)
arguments-placed [] h = All-nil (IsPlaced (λ row. row) own_column)
arguments-placed (call ∷ calls) h =
    let both = both-true (takes_column call) (list_all takes_column calls) h in
    All-append (IsPlaced (λ row. row) own_column) (listed call.argument) (arguments calls) (argument-placed call.argument both.0) (arguments-placed calls both.1)

own-columns : (columns : List ℕ) → All (IsPlaced (λ row. row) own_column) (map Column columns)
own-columns columns = All-map (IsPlaced (λ row. row) own_column) Column columns (λ k d lt. column-placed (Rattle.std.specs.Prelude.slice_index_or columns k d))

module _ (info : Info) (db : Db) (holes : ℕ → List Row) where
  aggregate-placed : (f : Row → Row) (place : Expr → ℕ) (layout : Layout) (tree : RelTree) (rows : List Row) → bag info db holes tree ≡ map f rows
      → All (IsPlaced f place) (map Column layout.groups) → All (IsPlaced f place) (arguments layout.calls)
      → bag info db holes (aggregate_at place layout tree) ≡ grouped layout.groups (values_over layout.calls) rows
  aggregate-placed f place layout tree rows e g a =
      ap (grouped (map (λ column. place (Column column)) layout.groups) (called (map (call_over place) layout.calls))) e
      ∙ grouped-placed (λ column. place (Column column)) layout.groups f (called (map (call_over place) layout.calls)) (values_over layout.calls)
      (λ row. columns-placed f place row layout.groups g) (λ rows. over-all f place rows layout.calls a) rows

  pub aggregate-rows : (layout : Layout) (tree : RelTree) → bag info db holes (aggregate_tree layout tree) ≡ grouped layout.groups (values_over layout.calls) (bag info db holes tree)
  aggregate-rows layout tree = by (list_all takes_column layout.calls) refl
    where
      all_placed : All (IsPlaced (projected (inputs layout)) (λ e. place_among expr_eq e (inputs layout))) (map Column layout.groups ++ arguments layout.calls)
      all_placed =
          All-weaker (IsAmong expr_eq (inputs layout)) (IsPlaced (projected (inputs layout)) (λ e. place_among expr_eq e (inputs layout)))
          (λ e h row. found expr_eq expr_eq-Decides (λ item. meaning_of item row) e (inputs layout) h)
          (map Column layout.groups ++ arguments layout.calls) (all-distinct expr_eq expr_eq-Decides (map Column layout.groups ++ arguments layout.calls))

      by : (b : Bool) → list_all takes_column layout.calls ≡ b
          → bag info db holes (cond b (aggregate_at (λ e. unwrap_or (column_in e) 0) layout tree) (aggregate_at (λ e. place_among expr_eq e (inputs layout)) layout (unary (project_to (inputs layout)) tree)))
          ≡ grouped layout.groups (values_over layout.calls) (bag info db holes tree)
      by true h =
          aggregate-placed (λ row. row) own_column layout tree (bag info db holes tree) (sym (map-id (bag info db holes tree))) (own-columns layout.groups) (arguments-placed layout.calls h)
      by false h =
          aggregate-placed (projected (inputs layout)) (λ e. place_among expr_eq e (inputs layout)) layout (unary (project_to (inputs layout)) tree) (bag info db holes tree) refl
          (All-front (IsPlaced (projected (inputs layout)) (λ e. place_among expr_eq e (inputs layout))) (map Column layout.groups) (arguments layout.calls) all_placed)
          (All-back (IsPlaced (projected (inputs layout)) (λ e. place_among expr_eq e (inputs layout))) (map Column layout.groups) (arguments layout.calls) all_placed)
