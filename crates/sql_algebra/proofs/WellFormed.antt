-- The tree of an accepted SELECT is well formed.
use Rattle.std.proofs.Common.{◌≡◌, ℕ, zero, suc, ◌+◌, ◌<◌, ◌≤◌, Bool, true, false, cond, not, ◌||◌, List, [], ◌∷◌, ◌++◌, map, filter, length, All, Option, Some, None, option_map, unwrap_or, slice_get, refl, sym, ◌∙◌, ap, subst, arith, one-add, zero-add}
use mathlib.Core.Path.{ap₂}
use Rattle.std.specs.Bool.{Decides}
use Rattle.std.specs.Prelude.{is_some}
use Rattle.std.specs.List.{flat_map, list_any, list_all}
use Rattle.std.specs.Option.{option_and_then}
use Rattle.std.proofs.lemmas.List.Elements.{All-nil, All-cons, All-head, All-tail, All-append, All-map, All-filter, All-weaker}
use Rattle.std.proofs.lemmas.Option.{same_Some}
use Rattle.cal_value.specs.declared.kind.SqlType.{SqlType}
use Rattle.cal_value.specs.declared.operator.Agg.{Agg}
use Rattle.cal_value.specs.Narrower.{StillTyped}
use Rattle.cal_value.specs.Types.{IsAtMostAsWide, AreAtMostAsWide, IsProperType}
use Rattle.cal_value.proofs.TypeLaws.{wide-refl}
use Rattle.cal_aggregate.specs.Parts.{distinct}
use Rattle.cal_aggregate.specs.ResultType.{agg_type}
use Rattle.cal_aggregate.proofs.AggregateLaws.{agg_type-narrower}
use Rattle.cal_expr.specs.declared.expr.Expr.{Expr, out-Expr}
use Rattle.cal_expr.specs.declared.expr.Expr.TheOpen.{Expr-F}
use Rattle.cal_expr.specs.declared.expr.Expr.TheVariants.{Column, rolls-Column}
use Rattle.cal_expr.specs.declared.expr.Expr.TheViews.{roll-Expr, roll-out-Expr}
use Rattle.cal_expr.specs.Equal.{expr_eq}
use Rattle.cal_expr.specs.EqualLaws.{expr_eq-Decides}
use Rattle.cal_expr.specs.Typing as expressions
use Rattle.cal_expr.proofs.Ranges.{proper_type}
use Rattle.cal_rel.specs.Info.{Info}
use Rattle.cal_rel.specs.Ranges.{IsInRange}
use Rattle.cal_rel.specs.Tree.{Tree as RelTree, unary, project_to}
use Rattle.cal_rel.specs.Typing.{of_both, types_by, of_columns, group_bound, aggregate_type, argument_type, call_type, type_of}
use Rattle.cal_rel.proofs.Narrower.{StillSome, AllWithin}
use Rattle.cal_rel.proofs.RowLemmas.{of_both-some}
use Rattle.sql_meaning.specs.Parts.{listed}
use Rattle.typed_meaning.proofs.Nothing.{All-front, All-back, All-of_map}
use Rattle.sql_algebra.specs.declared.layout.ExprCall.{ExprCall}
use Rattle.sql_algebra.specs.declared.layout.Layout.{Layout}
use Rattle.sql_algebra.specs.Algebra.{place_among, column_node, column_in, takes_column, call_over, aggregate_at, inputs, aggregate_tree}
use Rattle.sql_algebra.proofs.Calls.{column_in-Column, both-true}
use Rattle.sql_algebra.proofs.GroupTypes.{argument_over, over_type}
use Rattle.sql_algebra.proofs.Output.{column-type, types-same, project-type}
use Rattle.sql_algebra.proofs.Places.{IsAmong, all-distinct}

-- ---- lists of types

pub record HasAll (o : Option (List SqlType)) : Type 0 where
  pub types : List SqlType
  pub is : o ≡ Some types

both-some : (o : Option SqlType) (p : Option (List SqlType)) → is_some o ≡ true → HasAll p → HasAll (of_both (λ t ts. Some (t ∷ ts)) o p)
both-some None p h all = absurd (cc)
both-some (Some t) p h all = record { types = t ∷ all.types; is = ap (of_both (λ t ts. Some (t ∷ ts)) (Some t)) all.is }

pub types-all : {A : Type 0} (f : A → Option SqlType) (xs : List A) → All (λ x. is_some (f x) ≡ true) xs → HasAll (types_by f xs)
types-all f [] h = record { types = []; is = refl }
types-all f (x ∷ xs) h = both-some (f x) (types_by f xs) (All-head (λ x. is_some (f x) ≡ true) x xs h) (types-all f xs (All-tail (λ x. is_some (f x) ≡ true) x xs h))

pub types-place : {K : Type 0} (same : K → K → Bool) → ((x y : K) → Decides (same x y) (x ≡ y)) → (f : K → Option SqlType) (x : K) (xs : List K) (ts : List SqlType) → types_by f xs ≡ Some ts → IsAmong same xs x
    → slice_get ts (place_among same x xs) ≡ f x
types-place same decides f x [] ts e h = absurd (cc)
types-place {K} same decides f x (y ∷ xs) ts e h =
    let b = of_both-some (λ t ts. Some (t ∷ ts)) (f y) (types_by f xs) ts e in
    ap (λ us. slice_get us (place_among same x (y ∷ xs))) (sym (same_Some (b.first ∷ b.second) ts b.is))
    ∙ by b.first b.second b.first_is (same y x) refl (types-place same decides f x xs b.second b.second_is) h
  where
    by : (t : SqlType) (us : List SqlType) → f y ≡ Some t → (b : Bool) → same y x ≡ b → (IsAmong same xs x → slice_get us (place_among same x xs) ≡ f x) → (b || list_any (λ y. same y x) xs) ≡ true
        → slice_get (t ∷ us) (cond (not b) (1 + place_among same x xs) 0) ≡ f x
    by t us g true k more m = sym g ∙ ap f ((decides y x).0 k)
    by t us g false k more m = ap (slice_get (t ∷ us)) (one-add (place_among same x xs)) ∙ more m

pub get-front : (ss ts : List SqlType) (at : ℕ) → at < length ss → slice_get (ss ++ ts) at ≡ slice_get ss at
get-front [] ts at lt = absurd (omega arith)
get-front (s ∷ ss) ts zero lt = refl
get-front (s ∷ ss) ts (suc at) lt = get-front ss ts at (omega arith)

pub get-behind : (ss ts : List SqlType) (at : ℕ) → slice_get (ss ++ ts) (length ss + at) ≡ slice_get ts at
get-behind [] ts at = ap (slice_get ts) (zero-add at)
get-behind (s ∷ ss) ts at =
    let next : length (s ∷ ss) + at ≡ suc (length ss + at) = omega arith in
    ap (slice_get (s ∷ (ss ++ ts))) next ∙ get-behind ss ts at

pub distinct-all : {A : Type 0} (P : A → Type 0) (alike : A → A → Bool) (xs : List A) → All P xs → All P (distinct alike xs)
distinct-all P alike [] all = all
distinct-all P alike (x ∷ xs) all =
    All-cons P x (filter (λ y. not (alike x y)) (distinct alike xs)) (All-head P x xs all) (All-filter (λ y. not (alike x y)) P (distinct alike xs) (distinct-all P alike xs (All-tail P x xs all)))

still-some : (o p : Option SqlType) (t : SqlType) → StillTyped o p → p ≡ Some t → StillSome o t
still-some o None t h e = absurd (cc)
still-some None (Some s) t h e = absurd h
still-some (Some r) (Some s) t h e = record { found = r; is = refl; within = subst (IsAtMostAsWide r) (same_Some s t e) h }

pub types-narrow : {A : Type 0} (f g : A → Option SqlType) → ((x : A) → StillTyped (f x) (g x)) → (xs : List A) (ts : List SqlType) → types_by g xs ≡ Some ts → AllWithin (types_by f xs) ts
types-narrow f g h [] ts e = record { found = []; is = refl; within = subst (AreAtMostAsWide []) (same_Some [] ts e) tt }
types-narrow f g h (x ∷ xs) ts e =
    let b = of_both-some (λ t ts. Some (t ∷ ts)) (g x) (types_by g xs) ts e in
    let one = still-some (f x) (g x) b.first (h x) b.first_is in
    let rest = types-narrow f g h xs b.second b.second_is in
    record {
      found = one.found ∷ rest.found;
      is = ap₂ (of_both (λ t ts. Some (t ∷ ts))) one.is rest.is;
      within = subst (AreAtMostAsWide (one.found ∷ rest.found)) (same_Some (b.first ∷ b.second) ts b.is) (one.within, rest.within);
    }

pub proper-at : (ts : List SqlType) → All IsProperType ts → (at : ℕ) → StillTyped (slice_get ts at) (slice_get ts at)
proper-at [] h at = tt
proper-at (t ∷ ts) h zero = wide-refl t (All-head IsProperType t ts h)
proper-at (t ∷ ts) h (suc at) = proper-at ts (All-tail IsProperType t ts h) at

still-itself : (o : Option SqlType) → ((t : SqlType) → o ≡ Some t → IsProperType t) → StillTyped o o
still-itself None h = tt
still-itself (Some t) h = wide-refl t (h t refl)

still-agg : (agg : Agg) (o : Option SqlType) (m n : ℕ) → StillTyped o o → m ≤ n → StillTyped (option_and_then (λ t. agg_type agg (Some t) m) o) (option_and_then (λ t. agg_type agg (Some t) n) o)
still-agg agg None m n h lt = tt
still-agg agg (Some t) m n h lt = agg_type-narrower (Some t) (Some t) m n h lt agg

-- over fewer rows
pub still-over : (ts : List SqlType) → All IsProperType ts → (m n : ℕ) → m ≤ n → (agg : Agg) (argument : Option Expr) → StillTyped (argument_over ts m agg argument) (argument_over ts n agg argument)
still-over ts proper m n lt agg None = agg_type-narrower None None m n tt lt agg
still-over ts proper m n lt agg (Some e) = still-agg agg (expressions.type_of e ts) m n (still-itself (expressions.type_of e ts) (λ t f. proper_type ts e t proper f)) lt

-- ---- the Aggregate

own-column : (node : Expr-F Expr) → is_some (column_node node) ≡ true → (k : ℕ) × (Column k ≡ roll-Expr node)
own-column (Expr-F.Column at) h = (at, sym (rolls-Column at))
own-column (Expr-F.Literal v) h = absurd (cc)
own-column (Expr-F.Negate a) h = absurd (cc)
own-column (Expr-F.Binary op a b) h = absurd (cc)
own-column (Expr-F.Not a) h = absurd (cc)
own-column (Expr-F.IsNull a) h = absurd (cc)

-- the type of the expression stands in its place
abbrev IsTypeAt : List SqlType → List SqlType → (Expr → ℕ) → Expr → Type 0
IsTypeAt ts us place e = slice_get us (place e) ≡ expressions.type_of e ts

own-place : (ts : List SqlType) → All IsInRange ts → (k : ℕ) → IsTypeAt ts ts (λ e. unwrap_or (column_in e) 0) (Column k)
own-place ts range k = ap (λ o. slice_get ts (unwrap_or o 0)) (column_in-Column k) ∙ sym (column-type ts range k)

own-argument : (ts : List SqlType) → All IsInRange ts → (argument : Option Expr) → unwrap_or (option_map (λ e. is_some (column_in e)) argument) true ≡ true → All (IsTypeAt ts ts (λ e. unwrap_or (column_in e) 0)) (listed argument)
own-argument ts range None h = All-nil (IsTypeAt ts ts (λ e. unwrap_or (column_in e) 0))
own-argument ts range (Some e) h =
    let k = own-column (out-Expr e) h in
    All-cons (IsTypeAt ts ts (λ e. unwrap_or (column_in e) 0)) e [] (subst (IsTypeAt ts ts (λ e. unwrap_or (column_in e) 0)) (k.1 ∙ roll-out-Expr e) (own-place ts range k.0)) (All-nil (IsTypeAt ts ts (λ e. unwrap_or (column_in e) 0)))

own-arguments : (ts : List SqlType) → All IsInRange ts → (calls : List ExprCall) → list_all takes_column calls ≡ true → All (IsTypeAt ts ts (λ e. unwrap_or (column_in e) 0)) (flat_map (λ call. listed call.argument) calls)
own-arguments ts range [] h = All-nil (IsTypeAt ts ts (λ e. unwrap_or (column_in e) 0))
own-arguments ts range (call ∷ calls) h =
    let both = both-true (takes_column call) (list_all takes_column calls) h in
    All-append (IsTypeAt ts ts (λ e. unwrap_or (column_in e) 0)) (listed call.argument) (flat_map (λ call. listed call.argument) calls) (own-argument ts range call.argument both.0) (own-arguments ts range calls both.1)

pub each-of_all : {A B : Type 0} (P : B → Type 0) (f : A → List B) (xs : List A) → All P (flat_map f xs) → All (λ x. All P (f x)) xs
each-of_all P f [] h = All-nil (λ x. All P (f x))
each-of_all P f (x ∷ xs) h = All-cons (λ y. All P (f y)) x xs (All-front P (f x) (flat_map f xs) h) (each-of_all P f xs (All-back P (f x) (flat_map f xs) h))

pub all-of_each : {A B : Type 0} (P : B → Type 0) (f : A → List B) (xs : List A) → All (λ x. All P (f x)) xs → All P (flat_map f xs)
all-of_each P f [] h = All-nil P
all-of_each P f (x ∷ xs) h = All-append P (f x) (flat_map f xs) (All-head (λ x. All P (f x)) x xs h) (all-of_each P f xs (All-tail (λ x. All P (f x)) x xs h))

pub record HasColumns (info : Info) (tree : RelTree) (ts : List SqlType) : Type 0 where
  pub bound : ℕ
  pub is : type_of info tree ≡ Some (of_columns bound ts)

module _ (info : Info) (ts : List SqlType) (range : All IsInRange ts) (bound : ℕ) (layout : Layout) (keys values : List SqlType)
    (of_keys : types_by (slice_get ts) layout.groups ≡ Some keys) (of_values : types_by (over_type ts bound) layout.calls ≡ Some values) where
  argument-at : (us : List SqlType) (place : Expr → ℕ) (agg : Agg) (argument : Option Expr) → All (IsTypeAt ts us place) (listed argument) → argument_type agg us bound (option_map place argument) ≡ argument_over ts bound agg argument
  argument-at us place agg None h = refl
  argument-at us place agg (Some e) h = ap (option_and_then (λ t. agg_type agg (Some t) bound)) (All-head (IsTypeAt ts us place) e [] h)

  aggregate-at : (us : List SqlType) (place : Expr → ℕ) (tree : RelTree) → type_of info tree ≡ Some (of_columns bound us)
      → All (IsTypeAt ts us place) (map Column layout.groups) → All (IsTypeAt ts us place) (flat_map (λ call. listed call.argument) layout.calls)
      → HasColumns info (aggregate_at place layout tree) (keys ++ values)
  aggregate-at us place tree e g a =
      let groups = map (λ column. place (Column column)) layout.groups in
      let calls = map (call_over place) layout.calls in
      let first : types_by (slice_get us) (map (λ column. place (Column column)) layout.groups) ≡ Some keys =
      types-same (slice_get us) (slice_get ts) (λ column. place (Column column)) layout.groups
      (All-weaker (λ column. IsTypeAt ts us place (Column column)) (λ column. slice_get us (place (Column column)) ≡ slice_get ts column) (λ column k. k ∙ column-type ts range column) layout.groups
      (All-of_map (IsTypeAt ts us place) Column layout.groups g))
      ∙ of_keys in
      let second : types_by (call_type us bound) (map (call_over place) layout.calls) ≡ Some values =
      types-same (call_type us bound) (over_type ts bound) (call_over place) layout.calls
      (All-weaker (λ (call : ExprCall). All (IsTypeAt ts us place) (listed call.argument)) (λ call. call_type us bound (call_over place call) ≡ over_type ts bound call)
      (λ call k. argument-at us place call.agg call.argument k) layout.calls (each-of_all (IsTypeAt ts us place) (λ (call : ExprCall). listed call.argument) layout.calls a))
      ∙ of_values in
      record {
        bound = group_bound groups bound;
        is = ap (option_and_then (aggregate_type groups calls)) e
            ∙ ap₂ (λ o p. option_map (of_columns (group_bound groups bound)) (of_both (λ keys values. Some (keys ++ values)) o p)) first second;
      }

  pub aggregate-type : (tree : RelTree) → type_of info tree ≡ Some (of_columns bound ts) → All (λ call. All (λ e. is_some (expressions.type_of e ts) ≡ true) (listed call.argument)) layout.calls → All (λ at. is_some (slice_get ts at) ≡ true) layout.groups
      → HasColumns info (aggregate_tree layout tree) (keys ++ values)
  aggregate-type tree e arguments groups = by (list_all takes_column layout.calls) refl
    where
      by : (b : Bool) → list_all takes_column layout.calls ≡ b
          → HasColumns info (cond b (aggregate_at (λ e. unwrap_or (column_in e) 0) layout tree) (aggregate_at (λ e. place_among expr_eq e (inputs layout)) layout (unary (project_to (inputs layout)) tree))) (keys ++ values)
      by true h =
          aggregate-at ts (λ e. unwrap_or (column_in e) 0) tree e
          (All-map (IsTypeAt ts ts (λ e. unwrap_or (column_in e) 0)) Column layout.groups (λ i d lt. own-place ts range _)) (own-arguments ts range layout.calls h)
      by false h =
          let One : Expr → Type 0 = λ e. is_some (expressions.type_of e ts) ≡ true in
          let f : Expr → Option SqlType = λ e. expressions.type_of e ts in
          let args = flat_map (λ call. listed call.argument) layout.calls in
          let all = map Column layout.groups ++ args in
          let ones = All-append One (map Column layout.groups) args
          (All-map One Column layout.groups (All-weaker (λ at. is_some (slice_get ts at) ≡ true) (λ at. One (Column at)) (λ at k. ap is_some (column-type ts range at) ∙ k) layout.groups groups))
          (all-of_each One (λ (call : ExprCall). listed call.argument) layout.calls arguments) in
          let us = types-all f (inputs layout) (distinct-all One expr_eq all ones) in
          let placed = All-weaker (IsAmong expr_eq (inputs layout)) (IsTypeAt ts us.types (λ e. place_among expr_eq e (inputs layout)))
          (λ e k. types-place expr_eq expr_eq-Decides f e (inputs layout) us.types us.is k) all (all-distinct expr_eq expr_eq-Decides all) in
          aggregate-at us.types (λ e. place_among expr_eq e (inputs layout)) (unary (project_to (inputs layout)) tree)
          (project-type info (inputs layout) tree (of_columns bound ts) us.types e us.is)
          (All-front (IsTypeAt ts us.types (λ e. place_among expr_eq e (inputs layout))) (map Column layout.groups) args placed)
          (All-back (IsTypeAt ts us.types (λ e. place_among expr_eq e (inputs layout))) (map Column layout.groups) args placed)
