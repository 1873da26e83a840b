-- Groups of rows of FROM are rows of the Aggregate.
use Rattle.std.proofs.Common.{◌≡◌, ℕ, zero, suc, pos, ◌+◌, ◌<◌, ◌==◌, Bool, true, false, ◌&&◌, List, [], ◌∷◌, ◌++◌, map, length, All, Some, None, refl, sym, ◌∙◌, ap, subst, arith, zero-add}
use mathlib.Core.Path.{ap₂, fun_ext}
use Rattle.std.specs.List.{list_all}
use Rattle.std.proofs.lemmas.Bool.Decides.{Decides-eqb}
use Rattle.std.proofs.lemmas.List.{length-map}
use Rattle.std.proofs.lemmas.List.Elements.{All-nil, All-cons, All-head, All-map, All-weaker}
use Rattle.cal_value.specs.declared.value.Value.{Value}
use Rattle.cal_value.specs.declared.value.Value.TheVariants.{Null, Bool as BoolValue, Int}
use Rattle.cal_value.specs.Equal.{value_eq, row_eq}
use Rattle.cal_value.specs.Logic.{not3, truth_of, value_of, is_null}
use Rattle.cal_value.specs.Order.{column_of, columns_of}
use Rattle.cal_value.specs.declared.operator.Agg.TheVariants.{Count}
use Rattle.cal_aggregate.specs.Aggregate.{aggregated}
use Rattle.cal_aggregate.specs.Parts.{Part, members, parts, distinct}
use Rattle.cal_expr.specs.Meaning.{meaning_of, meaning_step, applied, negated}
use Rattle.cal_rel.specs.Operators.{Row, same_key, grouped}
use Rattle.cal_rel.proofs.Reorders.{map-map}
use Rattle.sql_tree.specs.declared.tree.ColumnName.{ColumnName}
use Rattle.sql_tree.specs.declared.tree.Tree.{Tree}
use Rattle.sql_tree.specs.declared.tree.Tree.TheFolds.{fold-roll-Tree, ind-Tree, map-Tree}
use Rattle.sql_tree.specs.declared.tree.Tree.TheOpen.{Tree-F}
use Rattle.sql_tree.specs.declared.tree.Tree.TheViews.{roll-Tree}
use Rattle.sql_meaning.specs.Direct.{same_group, groups_of}
use Rattle.sql_meaning.specs.Groups.{is_grouped, ungrouped, ungrouped_step}
use Rattle.sql_meaning.specs.Kinds.{unless}
use Rattle.sql_meaning.specs.Scope.{Header, column_at}
use Rattle.sql_meaning.specs.Value.{EntryRow, look_up, first_value, Meant, meant, meant_step, group_value}
use Rattle.sql_meaning.proofs.Nothing.{both-empty}
use Rattle.sql_to_rel.specs.Numbered.{flat}
use Rattle.sql_to_rel.proofs.Rolls.{fold-Column, fold-Literal, fold-Negate, fold-Binary, fold-Not, fold-IsNull}
use Rattle.sql_to_rel.proofs.Values.{look_up-flat}
use Rattle.typed_meaning.specs.Rows.{IsTypedRow}
use Rattle.typed_meaning.proofs.Nothing.{All-front, All-back}
use Rattle.sql_algebra.specs.declared.layout.ExprCall.{ExprCall}
use Rattle.sql_algebra.specs.declared.layout.Layout.{Layout}
use Rattle.sql_algebra.specs.Algebra.{place_among, same_call, Placed, call_at, group_at, placed, placed_step}
use Rattle.sql_algebra.proofs.Calls.{same_call-Decides, value_over, values_over}
use Rattle.sql_algebra.proofs.From.{full}
use Rattle.sql_algebra.proofs.Lists.{map-ext, mapped, parts-map, parts-members, parts-ext}
use Rattle.sql_algebra.proofs.Places.{IsAmong, found, place-below, among-distinct, all-once}

-- ---- keys

equal-by : (f g : ℕ → Value) (ks : List ℕ) → row_eq (map f ks) (map g ks) ≡ list_all (λ k. value_eq (f k) (g k)) ks
equal-by f g [] = refl
equal-by f g (k ∷ ks) = ap (λ b. value_eq (f k) (g k) && b) (equal-by f g ks)

-- a column twice is a column once
key-once : (ks : List ℕ) (a b : Row) → same_key (distinct ◌==◌ ks) a b ≡ same_key ks a b
key-once ks a b =
    equal-by (column_of a) (column_of b) (distinct ◌==◌ ks)
    ∙ all-once ◌==◌ Decides-eqb (λ k. value_eq (column_of a k) (column_of b k)) ks
    ∙ sym (equal-by (column_of a) (column_of b) ks)

pub column-value : (scope : List Header) (env : List EntryRow) → IsTypedRow scope env → (c : ColumnName) → look_up env c ≡ column_of (flat env) (column_at scope c)
column-value scope env h c = sym (look_up-flat env c (full env h.filled)) ∙ ap (λ hs. column_of (flat env) (column_at hs c)) h.headers

key-columns : (scope : List Header) (env : List EntryRow) → IsTypedRow scope env → (columns : List ColumnName) → map (look_up env) columns ≡ columns_of (flat env) (map (column_at scope) columns)
key-columns scope env h columns = ap (λ f. map f columns) (fun_ext (column-value scope env h)) ∙ sym (map-map (column_of (flat env)) (column_at scope) columns)

key-same : (scope : List Header) (columns : List ColumnName) (a b : List EntryRow) → IsTypedRow scope a → IsTypedRow scope b
    → same_key (distinct ◌==◌ (map (column_at scope) columns)) (flat a) (flat b) ≡ same_group columns a b
key-same scope columns a b h k =
    key-once (map (column_at scope) columns) (flat a) (flat b)
    ∙ ap₂ row_eq (sym (key-columns scope a h columns)) (sym (key-columns scope b k columns))

-- ---- groups

abbrev pub first_row : List (List EntryRow) → List EntryRow
first_row [] = []
first_row (env ∷ envs) = env

-- the Aggregate's row for a group
abbrev pub group_row : Layout → List (List EntryRow) → Row
group_row layout group = columns_of (flat (first_row group)) layout.groups ++ values_over layout.calls (map flat group)

abbrev pub layout_by : List ℕ → List ExprCall → Layout
layout_by columns calls = record { groups = distinct ◌==◌ columns; calls = calls }

pub groups-rows : (scope : List Header) (columns : List ColumnName) (calls : List ExprCall) (envs : List (List EntryRow)) → All (IsTypedRow scope) envs
    → grouped (distinct ◌==◌ (map (column_at scope) columns)) (values_over calls) (map flat envs) ≡ map (group_row (layout_by (map (column_at scope) columns) calls)) (groups_of columns envs)
groups-rows scope [] calls envs h = refl
groups-rows scope (c ∷ cs) calls envs h =
    let keys = distinct ◌==◌ (map (column_at scope) (c ∷ cs)) in
    let made : Part Row → Row = λ part. columns_of part.first keys ++ values_over calls (members part) in
    ap (map made) (parts-map (same_key keys) flat envs)
    ∙ map-map made (mapped flat) (parts (λ a b. same_key keys (flat a) (flat b)) envs)
    ∙ ap (map (λ (part : Part (List EntryRow)). group_row (layout_by (map (column_at scope) (c ∷ cs)) calls) (members part)))
    (parts-ext (IsTypedRow scope) (λ a b. same_key keys (flat a) (flat b)) (same_group (c ∷ cs)) (key-same scope (c ∷ cs)) envs h)
    ∙ sym (map-map (group_row (layout_by (map (column_at scope) (c ∷ cs)) calls)) members (parts (same_group (c ∷ cs)) envs))

-- a group has a row where there are keys
abbrev pub HasFirst : List ℕ → List (List EntryRow) → Type 0
HasFirst columns (env ∷ envs) = Unit {0}
HasFirst [] [] = Unit {0}
HasFirst (column ∷ columns) [] = ⊥

pub record IsTypedGroup (scope : List Header) (columns : List ℕ) (group : List (List EntryRow)) : Type 0 where
  pub typed : All (IsTypedRow scope) group
  pub has_first : HasFirst columns group

no-keys : (group : List (List EntryRow)) → HasFirst [] group
no-keys [] = tt
no-keys (env ∷ envs) = tt

pub groups-typed : (scope : List Header) (columns : List ColumnName) (envs : List (List EntryRow)) → All (IsTypedRow scope) envs
    → All (IsTypedGroup scope (map (column_at scope) columns)) (groups_of columns envs)
groups-typed scope [] envs h = All-cons (IsTypedGroup scope []) envs [] (record { typed = h; has_first = no-keys envs }) (All-nil (IsTypedGroup scope []))
groups-typed scope (c ∷ cs) envs h =
    All-map (IsTypedGroup scope (map (column_at scope) (c ∷ cs))) members (parts (same_group (c ∷ cs)) envs)
    (All-weaker (λ (part : Part (List EntryRow)). All (IsTypedRow scope) (members part)) (λ part. IsTypedGroup scope (map (column_at scope) (c ∷ cs)) (members part))
    (λ part k. record { typed = k; has_first = tt }) (parts (same_group (c ∷ cs)) envs) (parts-members (IsTypedRow scope) (same_group (c ∷ cs)) envs h))

-- ---- columns of the Aggregate's row

value-front : (row rest : Row) (at : ℕ) → at < length row → column_of (row ++ rest) at ≡ column_of row at
value-front [] rest at lt = absurd (omega arith)
value-front (v ∷ row) rest zero lt = refl
value-front (v ∷ row) rest (suc at) lt = value-front row rest at (omega arith)

value-behind : (row rest : Row) (at : ℕ) → column_of (row ++ rest) (length row + at) ≡ column_of rest at
value-behind [] rest at = ap (column_of rest) (zero-add at)
value-behind (v ∷ row) rest at =
    let next : length (v ∷ row) + at ≡ suc (length row + at) = omega arith in
    ap (column_of (v ∷ (row ++ rest))) next ∙ value-behind row rest at

pub right-of_unless : (right : Bool) (place : ℕ) → unless right place ≡ [] → right ≡ true
right-of_unless true place h = refl
right-of_unless false place h = absurd (cc)

module _ (scope : List Header) (columns : List ℕ) (calls : List ExprCall) where
  abbrev layout : Layout
  layout = layout_by columns calls

  -- a column of the group's first row
  pub key-value : (row rest : Row) (at : ℕ) → is_grouped columns at ≡ true → column_of row at ≡ meaning_of (group_at (layout_by columns calls) at) (columns_of row (distinct ◌==◌ columns) ++ rest)
  key-value row rest at h =
      let among = among-distinct ◌==◌ Decides-eqb at columns h in
      let place = place_among ◌==◌ at (distinct ◌==◌ columns) in
      let below : place < length (columns_of row (distinct ◌==◌ columns)) = subst (λ n. place_among ◌==◌ at (distinct ◌==◌ columns) < n) (sym (length-map (distinct ◌==◌ columns) (column_of row))) (place-below ◌==◌ Decides-eqb at (distinct ◌==◌ columns) among) in
      sym (found ◌==◌ Decides-eqb (column_of row) at (distinct ◌==◌ columns) among)
      ∙ sym (value-front (columns_of row (distinct ◌==◌ columns)) rest place below)
      ∙ sym (fold-Column (meaning_step (columns_of row (distinct ◌==◌ columns) ++ rest)) place)

  call-value : (group : List (List EntryRow)) (call : ExprCall) → IsAmong same_call calls call
      → value_over (map flat group) call ≡ meaning_of (call_at (layout_by columns calls) call) (group_row (layout_by columns calls) group)
  call-value group call h =
      let keys = columns_of (flat (first_row group)) (distinct ◌==◌ columns) in
      let values = values_over calls (map flat group) in
      let place = place_among same_call call calls in
      sym (found same_call same_call-Decides (value_over (map flat group)) call calls h)
      ∙ sym (value-behind keys values place)
      ∙ ap (λ n. column_of (keys ++ values) (n + place)) (length-map (distinct ◌==◌ columns) (column_of (flat (first_row group))))
      ∙ sym (fold-Column (meaning_step (keys ++ values)) (length (distinct ◌==◌ columns) + place))

  -- ---- expressions

  -- what an expression means is the value of what it stands for, over rows and over groups
  record Stands (m : Meant) (p : Placed) (outside : List ℕ) : Type 0 where
    row : (env : List EntryRow) → IsTypedRow scope env → m.row env ≡ meaning_of p.row (flat env)
    group : (group : List (List EntryRow)) → IsTypedGroup scope columns group → outside ≡ [] → All (IsAmong same_call calls) p.calls
        → m.group group ≡ meaning_of (p.group (layout_by columns calls)) (group_row (layout_by columns calls) group)

  abbrev DoesStand : Tree → Type 0
  DoesStand tree = Stands (meant tree) (placed scope tree) (ungrouped scope columns tree)

  abbrev DoesStandLevel : Tree-F Tree → Type 0
  DoesStandLevel x = Stands (meant_step (map-Tree Tree Meant meant x)) (placed_step scope (map-Tree Tree Placed (placed scope) x)) (ungrouped_step scope columns (map-Tree Tree (List ℕ) (ungrouped scope columns) x))

  first-key : (group : List (List EntryRow)) (c : ColumnName) → IsTypedGroup scope columns group → is_grouped columns (column_at scope c) ≡ true
      → first_value group c ≡ meaning_of (group_at (layout_by columns calls) (column_at scope c)) (group_row (layout_by columns calls) group)
  first-key [] c h k = absurd (by columns h.has_first k)
    where
      by : (ks : List ℕ) → HasFirst ks [] → is_grouped ks (column_at scope c) ≡ true → ⊥
      by [] f e = absurd (cc)
      by (x ∷ xs) f e = f
  first-key (env ∷ envs) c h k =
      column-value scope env (All-head (IsTypedRow scope) env envs h.typed) c
      ∙ key-value (flat env) (values_over calls (map flat (env ∷ envs))) (column_at scope c) k

  level : (y : Tree-F ((t : Tree) × DoesStand t)) → DoesStandLevel (map-Tree ((t : Tree) × DoesStand t) Tree (λ t. t.0) y)
  level (Tree-F.Column place name) = record {
    row = λ env h. column-value scope env h name ∙ sym (fold-Column (meaning_step (flat env)) (column_at scope name));
    group = λ group h e among. first-key group name h (right-of_unless (is_grouped columns (column_at scope name)) place e);
  }
  level (Tree-F.Literal place v) = record {
    row = λ env h. sym (fold-Literal (meaning_step (flat env)) v);
    group = λ group h e among. sym (fold-Literal (meaning_step (group_row (layout_by columns calls) group)) v);
  }
  level (Tree-F.Negate place a) = record {
    row = λ env h. ap negated (a.1.row env h) ∙ sym (fold-Negate (meaning_step (flat env)) (placed scope a.0).row);
    group = λ group h e among. ap negated (a.1.group group h e among) ∙ sym (fold-Negate (meaning_step (group_row (layout_by columns calls) group)) ((placed scope a.0).group (layout_by columns calls)));
  }
  level (Tree-F.Binary place op a b) = record {
    row = λ env h. ap₂ (applied op) (a.1.row env h) (b.1.row env h) ∙ sym (fold-Binary (meaning_step (flat env)) op (placed scope a.0).row (placed scope b.0).row);
    group = λ group h e among.
        let none = both-empty (ungrouped scope columns a.0) (ungrouped scope columns b.0) e in
        ap₂ (applied op)
        (a.1.group group h none.0 (All-front (IsAmong same_call calls) (placed scope a.0).calls (placed scope b.0).calls among))
        (b.1.group group h none.1 (All-back (IsAmong same_call calls) (placed scope a.0).calls (placed scope b.0).calls among))
        ∙ sym (fold-Binary (meaning_step (group_row (layout_by columns calls) group)) op ((placed scope a.0).group (layout_by columns calls)) ((placed scope b.0).group (layout_by columns calls)));
  }
  level (Tree-F.Not place a) = record {
    row = λ env h. ap (λ v. value_of (not3 (truth_of v))) (a.1.row env h) ∙ sym (fold-Not (meaning_step (flat env)) (placed scope a.0).row);
    group = λ group h e among.
        ap (λ v. value_of (not3 (truth_of v))) (a.1.group group h e among) ∙ sym (fold-Not (meaning_step (group_row (layout_by columns calls) group)) ((placed scope a.0).group (layout_by columns calls)));
  }
  level (Tree-F.IsNull place a) = record {
    row = λ env h. ap (λ v. BoolValue (is_null v)) (a.1.row env h) ∙ sym (fold-IsNull (meaning_step (flat env)) (placed scope a.0).row);
    group = λ group h e among.
        ap (λ v. BoolValue (is_null v)) (a.1.group group h e among) ∙ sym (fold-IsNull (meaning_step (group_row (layout_by columns calls) group)) ((placed scope a.0).group (layout_by columns calls)));
  }
  level (Tree-F.Aggregate place agg None) = record {
    row = λ env h. sym (fold-Literal (meaning_step (flat env)) Null);
    group = λ group h e among.
        ap (λ n. Int (pos n)) (sym (length-map group flat))
        ∙ call-value group (record { agg = Count; argument = None }) (All-head (IsAmong same_call calls) (record { agg = Count; argument = None }) [] among);
  }
  level (Tree-F.Aggregate place agg (Some a)) = record {
    row = λ env h. sym (fold-Literal (meaning_step (flat env)) Null);
    group = λ group h e among.
        ap (aggregated agg)
        (map-ext (meant a.0).row (λ env. meaning_of (placed scope a.0).row (flat env)) group
        (All-weaker (IsTypedRow scope) (λ env. (meant a.0).row env ≡ meaning_of (placed scope a.0).row (flat env)) (λ env k. a.1.row env k) group h.typed)
        ∙ sym (map-map (meaning_of (placed scope a.0).row) flat group))
        ∙ call-value group (record { agg = agg; argument = Some (placed scope a.0).row }) (All-head (IsAmong same_call calls) (record { agg = agg; argument = Some (placed scope a.0).row }) [] among);
  }

  at_roll : (x : Tree-F Tree) → DoesStandLevel x → DoesStand (roll-Tree x)
  at_roll x l =
      subst (λ m. Stands m (placed scope (roll-Tree x)) (ungrouped scope columns (roll-Tree x))) (sym (fold-roll-Tree Meant meant_step x))
      (subst (λ p. Stands (meant_step (map-Tree Tree Meant meant x)) p (ungrouped scope columns (roll-Tree x))) (sym (fold-roll-Tree Placed (placed_step scope) x))
      (subst (Stands (meant_step (map-Tree Tree Meant meant x)) (placed_step scope (map-Tree Tree Placed (placed scope) x))) (sym (fold-roll-Tree (List ℕ) (ungrouped_step scope columns) x)) l))

  stands : (tree : Tree) → DoesStand tree
  stands = ind-Tree DoesStand (λ x y is. subst (λ z. DoesStand (roll-Tree z)) is (at_roll _ (level y)))

  pub group-value : (tree : Tree) (group : List (List EntryRow)) → IsTypedGroup scope columns group → ungrouped scope columns tree ≡ [] → All (IsAmong same_call calls) (placed scope tree).calls
      → group_value group tree ≡ meaning_of ((placed scope tree).group (layout_by columns calls)) (group_row (layout_by columns calls) group)
  group-value tree group h e among = (stands tree).group group h e among
