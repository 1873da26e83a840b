-- What the types of the rows of its inputs give a node.
use Rattle.std.proofs.Common.{◌≡◌, ℕ, true, false, List, [], ◌∷◌, ◌++◌, length, All, Option, Some, None, IfSome, IsSome, Result, Ok, Err, IfOk, OnOk, refl, sym, ◌∙◌, ap, subst}
use Rattle.std.specs.Prelude.{option_map, unwrap_or, slice_get}
use Rattle.std.proofs.lemmas.List.Elements.{All-nil, All-cons, All-weaker}
use Rattle.std.proofs.lemmas.Option.{cond_some}
use Rattle.cal_value.specs.declared.kind.SqlType.{SqlType}
use Rattle.cal_value.specs.Order.{SameBag}
use Rattle.cal_value.specs.Types.{HasTypes, is_boolean}
use Rattle.cal_expr.specs.declared.expr.Expr.{Expr}
use Rattle.cal_expr.specs.Typing as expressions
use Rattle.cal_expr.specs.WellFormed.{IsWellFormed}
use Rattle.cal_schema.specs.declared.agg_call.AggCall.{AggCall}
use Rattle.cal_schema.specs.declared.join_kind.JoinKind.{JoinKind}
use Rattle.cal_schema.specs.declared.rel_type.RelType.{RelType}
use Rattle.cal_schema.specs.RelType.{IsTrueOf}
use Rattle.cal_rel.specs.Bag.{binary_bag}
use Rattle.cal_rel.specs.Operators.{Row}
use Rattle.cal_rel.specs.Tree.{join_on}
use Rattle.cal_rel.specs.Typing.{Keyed, argument_type, call_type, filter_type, group_bound, group_columns, is_condition, join_bound, join_columns, join_type, of_columns, project_type, aggregate_type, types_by}
use Rattle.cal_rel.proofs.MoreLaws.{true-same}
use Rattle.cal_rel.proofs.RowLemmas.{of_both-some, types-length}
use Rattle.cal_rel.proofs.TrueTypes.{option_map-some}
use Rattle.exec_ops.specs.declared.join_on.JoinOn.{JoinOn}
use Rattle.exec_ops.specs.Join as joins
use Rattle.exec_ops.specs.Ready.{CanGroup, CanJoin, HasCallType}
use Rattle.plan_meaning.specs.WellFormed.{IsTypeOfRows}
use Rattle.row_exec.specs.Ready.{CanJoinOn}
use Rattle.row_exec.specs.Split.{Splits}
use Rattle.row_exec.proofs.SameRows.{join-same}

-- ---- the same bag

turned : (a b : List Row) → SameBag a b → SameBag b a
turned a b h = λ r. sym (h r)

-- the type of the rows that an input means is true of the same bag
pub true-of_run : (t : RelType) (width : ℕ) (meant rows : List Row) → IsTypeOfRows t width meant → SameBag rows meant → IsTrueOf t rows
true-of_run t width meant rows h same = true-same t meant rows (turned rows meant same) h.true

pub wide-of_run : (t : RelType) (width : ℕ) (meant rows : List Row) → IsTypeOfRows t width meant → SameBag rows meant → All (λ row. length row ≡ width) rows
wide-of_run t width meant rows h same =
    All-weaker (λ row. HasTypes row t.columns) (λ row. length row ≡ width) (λ row k. types-length row t.columns k ∙ h.columns) rows (true-of_run t width meant rows h same).typed

-- ---- expressions over rows of types

some_of : {A : Type 0} (o : Option A) (x : A) → o ≡ Some x → IsSome o
some_of None x e = absurd (cc)
some_of (Some y) x e = refl

condition-typed : (e : Expr) (columns : List SqlType) → is_condition e columns ≡ true → IsSome (expressions.type_of e columns)
condition-typed e columns h = by (expressions.type_of e columns) h
  where
    by : (o : Option SqlType) → unwrap_or (option_map is_boolean o) false ≡ true → IsSome o
    by None h = absurd (cc)
    by (Some t) h = refl

items-typed : {A : Type 0} (f : A → Option SqlType) (xs : List A) (ts : List SqlType) → types_by f xs ≡ Some ts → All (λ x. IsSome (f x)) xs
items-typed f [] ts e = All-nil (λ x. IsSome (f x))
items-typed f (x ∷ xs) ts e =
    let b = of_both-some (λ t ts. Some (t ∷ ts)) (f x) (types_by f xs) ts e in
    All-cons (λ x. IsSome (f x)) x xs (some_of (f x) b.first b.first_is) (items-typed f xs b.second b.second_is)

pub each-well_formed : (items : List Expr) (columns : List SqlType) (row : Row) → HasTypes row columns → All (λ e. IsSome (expressions.type_of e columns)) items → All (λ e. IsWellFormed e row) items
each-well_formed items columns row h all =
    All-weaker (λ e. IsSome (expressions.type_of e columns)) (λ e. IsWellFormed e row) (λ e k. record { types = columns; has_types = h; typed = k }) items all

-- ---- one input

pub filter-ready : (predicate : Expr) (s own : RelType) (rows : List Row) → filter_type predicate s ≡ Some own → IsTrueOf s rows → All (λ row. IsWellFormed predicate row) rows
filter-ready predicate s own rows e h =
    let c = (cond_some (is_condition predicate s.columns) s own e).0 in
    All-weaker (λ row. HasTypes row s.columns) (λ row. IsWellFormed predicate row) (λ row k. record { types = s.columns; has_types = k; typed = condition-typed predicate s.columns c }) rows h.typed

pub project-ready : (items : List Expr) (s own : RelType) (rows : List Row) → project_type items s ≡ Some own → IsTrueOf s rows → All (λ row. All (λ e. IsWellFormed e row) items) rows
project-ready items s own rows e h =
    let m = option_map-some (of_columns s.bound) (types_by (λ item. expressions.type_of item s.columns) items) own e in
    let each = items-typed (λ item. expressions.type_of item s.columns) items m.from m.found in
    All-weaker (λ row. HasTypes row s.columns) (λ row. All (λ e. IsWellFormed e row) items) (λ row k. each-well_formed items s.columns row k each) rows h.typed

has_call_type : (t : RelType) (call : AggCall) (argument : Option ℕ) → IsSome (argument_type call.agg t.columns t.bound argument) → HasCallType t call.agg argument
has_call_type t call None h = tt
has_call_type t call (Some column) h = h

pub group-ready : (groups : List ℕ) (calls : List AggCall) (s own : RelType) (rows : List Row) → aggregate_type groups calls s ≡ Some own → IsTrueOf s rows → CanGroup calls rows
group-ready groups calls s own rows e h =
    let m = option_map-some (of_columns (group_bound groups s.bound)) (group_columns groups calls s) own e in
    let b = of_both-some (λ keys values. Some (keys ++ values)) (types_by (slice_get s.columns) groups) (types_by (call_type s.columns s.bound) calls) m.from m.found in
    record {
      row_type = s;
      true_of = h;
      typed = All-weaker (λ call. IsSome (call_type s.columns s.bound call)) (λ call. HasCallType s call.agg call.argument) (λ call k. has_call_type s call call.argument k) calls
          (items-typed (call_type s.columns s.bound) calls b.second b.second_is);
    }

-- ---- two inputs

pub join-ready : (kind : JoinKind) (on : Expr) (by : Keyed) (width : ℕ) (s t own : RelType) (left right : List Row) → join_type kind on by s t ≡ Some own → length s.columns ≡ width
    → IsTrueOf s left → IsTrueOf t right → CanJoinOn on width left right
join-ready kind on by width s t own left right e wide h k =
    let made : RelType = of_columns (join_bound kind by s.bound t.bound) (join_columns kind s.columns t.columns) in
    record {
      left_columns = s.columns;
      right_columns = t.columns;
      left_typed = h.typed;
      right_typed = k.typed;
      condition = (cond_some (is_condition on (s.columns ++ t.columns)) made own e).0;
      wide = wide;
    }

rest-ready : (rest : Option Expr) (types : List SqlType) → IfSome rest (λ e. is_condition e types ≡ true) → IfSome rest (λ e. IsSome (expressions.type_of e types))
rest-ready None types h = h
rest-ready (Some e) types h = condition-typed e types h

pub split-ready : (on : Expr) (width : ℕ) (split : JoinOn) (left right : List Row) → CanJoinOn on width left right
    → ((types : List SqlType) → is_condition on types ≡ true → IfSome split.rest (λ e. is_condition e types ≡ true)) → CanJoin split left right
split-ready on width split left right h typed = record {
  left_columns = h.left_columns;
  right_columns = h.right_columns;
  left_typed = h.left_typed;
  right_typed = h.right_typed;
  rest = rest-ready split.rest (h.left_columns ++ h.right_columns) (typed (h.left_columns ++ h.right_columns) h.condition);
}

pub split-rows : (kind : JoinKind) (on : Expr) (width right_width : ℕ) (split : JoinOn) (left right : List Row) → CanJoinOn on width left right → Splits on width split → split.right_width ≡ right_width
    → joins.join_rows kind split left right ≡ binary_bag (join_on kind on) right_width left right
split-rows kind on width right_width split left right h s e =
    sym (join-same kind on split left right width (All-weaker (λ row. HasTypes row h.left_columns) (λ row. length row ≡ width) (λ row k. types-length row h.left_columns k ∙ h.wide) left h.left_typed) s)
    ∙ ap (λ n. binary_bag (join_on kind on) n left right) e

-- ---- answers

pub answered : {E : Type 0} (o : Result (List Row) E) (made meant : List Row) → made ≡ meant → IfOk o (λ rows. rows ≡ made) → IfOk o (λ rows. rows ≡ meant)
answered o made meant e h = subst (λ x. IfOk o (λ rows. rows ≡ x)) e h

pub ok-always : {X E P : Type 0} (o : Result X E) → P → OnOk o P
ok-always (Ok x) h = h
ok-always (Err e) h = tt
