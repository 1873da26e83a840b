-- What the type of a join says of its sides and its condition. For proofs alone.
use Rattle.std.proofs.Common.{◌≡◌, ◌+◌, ◌<◌, true, false, List, ◌++◌, length, All, Option, Some, None, refl, ◌∙◌, subst, unwrap_or, length-append}
use mathlib.Core.Path.{ap₂}
use Rattle.std.specs.Option.{option_map}
use Rattle.cal_value.specs.declared.kind.SqlType.{SqlType}
use Rattle.cal_value.specs.Types.{is_boolean}
use Rattle.cal_value.proofs.TypeLemmas.{split_if}
use Rattle.cal_expr.specs.declared.expr.Expr.{Expr}
use Rattle.cal_expr.specs.Typing as expressions
use Rattle.cal_schema.specs.declared.join_kind.JoinKind.{JoinKind}
use Rattle.cal_schema.specs.declared.rel_type.RelType.{RelType}
use Rattle.cal_rel.specs.Bag.{width}
use Rattle.cal_rel.specs.Info.{Info}
use Rattle.cal_rel.specs.Tree.{Tree, join_on, binary}
use Rattle.cal_rel.specs.Typing.{is_condition, of_columns, join_columns, join_bound, keyed, binary_type, type_of}
use Rattle.cal_rel.proofs.RowLemmas.{of_both-some}
use Rattle.cal_rel.proofs.TrueTypes.{type-width}
use Rattle.expr_parts.specs.Columns.{columns_read}
use Rattle.expr_parts.proofs.ColumnLaws.{well_formed-reads}
use Rattle.filter_images.specs.FilterIntoJoinLawful.{IsTyped}

condition-some : (o : Option SqlType) → unwrap_or (option_map is_boolean o) false ≡ true → (t : SqlType) × (o ≡ Some t)
condition-some None e = absurd (cc)
condition-some (Some t) e = (t, refl)

condition-reads : (on : Expr) (columns : List SqlType) → is_condition on columns ≡ true → All (λ at. at < length columns) (columns_read on)
condition-reads on columns e =
    let typed = condition-some (expressions.type_of on columns) e in
    well_formed-reads on columns typed.0 typed.1

-- both sides have types, and the condition reads columns of theirs
pub record IsJoin (info : Info) (on : Expr) (s t : Tree) : Type 0 where
  pub left : IsTyped info s
  pub right : IsTyped info t
  pub reads : All (λ at. at < width info s + width info t) (columns_read on)

pub join-typed : (info : Info) (kind : JoinKind) (on : Expr) (s t : Tree) (u : RelType) → type_of info (binary (join_on kind on) s t) ≡ Some u → IsJoin info on s t
join-typed info kind on s t u e =
    let b = of_both-some (binary_type info (join_on kind on) s t) (type_of info s) (type_of info t) u e in
    let left = b.first.columns in
    let right = b.second.columns in
    let by = keyed info (length left) on s t in
    let is = split_if (is_condition on (left ++ right)) (Some (of_columns (join_bound kind by b.first.bound b.second.bound) (join_columns kind left right))) u b.is in
    record {
      left = record { own = b.first; is = b.first_is };
      right = record { own = b.second; is = b.second_is };
      reads = subst (λ n. All (λ at. at < n) (columns_read on))
          (length-append left right ∙ ap₂ (λ m n. m + n) (type-width info s b.first b.first_is) (type-width info t b.second b.second_is))
          (condition-reads on (left ++ right) is.0);
    }
