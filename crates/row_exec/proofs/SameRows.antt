-- The operators of a tree and those of lists of rows make the same.
use Rattle.std.proofs.Common.{◌≡◌, ℕ, Bool, true, false, cond, List, [], ◌∷◌, ◌++◌, map, filter, length, replicate, All, Option, Some, None, refl, ◌∙◌, ap}
use Rattle.std.specs.List.{flat_map}
use Rattle.std.proofs.lemmas.List.Elements.{All-head, All-tail}
use Rattle.cal_value.specs.declared.value.Value.TheVariants.{Null}
use Rattle.cal_expr.specs.declared.expr.Expr.{Expr}
use Rattle.cal_schema.specs.declared.agg_call.AggCall.{AggCall}
use Rattle.cal_schema.specs.declared.join_kind.JoinKind.{JoinKind}
use Rattle.cal_schema.specs.declared.join_kind.JoinKind.TheVariants.{Inner, Left}
use Rattle.cal_rel.specs.Bag.{binary_bag}
use Rattle.cal_rel.specs.Operators.{Row, holds}
use Rattle.cal_rel.specs.Operators as tree
use Rattle.cal_rel.specs.Tree.{join_on}
use Rattle.exec_ops.specs.declared.join_on.JoinOn.{JoinOn}
use Rattle.exec_ops.specs.Group as groups
use Rattle.exec_ops.specs.Join as joins
use Rattle.exec_ops.specs.Join.{goes_together}
use Rattle.row_exec.specs.Split.{Splits}

-- ---- joins

partners-same : (on : Expr) (split : JoinOn) (x : Row) → ((y : Row) → goes_together split x y ≡ holds on (x ++ y)) → (right : List Row) → tree.partners on right x ≡ joins.partners split right x
partners-same on split x h [] = refl
partners-same on split x h (y ∷ right) =
    by (holds on (x ++ y)) (goes_together split x y) (h y) (partners-same on split x h right)
  where
    by : (a b : Bool) → b ≡ a → tree.partners on right x ≡ joins.partners split right x
        → cond a ((x ++ y) ∷ tree.partners on right x) (tree.partners on right x) ≡ map (λ z. x ++ z) (cond b (y ∷ filter (goes_together split x) right) (filter (goes_together split x) right))
    by true true e rest = ap (λ rows. (x ++ y) ∷ rows) rest
    by true false e rest = absurd (cc)
    by false true e rest = absurd (cc)
    by false false e rest = rest

or_alone-same : (alone : Row) (rows : List Row) → tree.or_alone alone rows ≡ joins.or_alone alone rows
or_alone-same alone [] = refl
or_alone-same alone (row ∷ rows) = refl

joined-same : (kind : JoinKind) (on : Expr) (split : JoinOn) (x : Row) → ((y : Row) → goes_together split x y ≡ holds on (x ++ y)) → (right : List Row)
    → tree.joined kind on split.right_width right x ≡ joins.joined kind split right x
joined-same Inner on split x h right = partners-same on split x h right
joined-same Left on split x h right =
    ap (tree.or_alone (x ++ replicate split.right_width Null)) (partners-same on split x h right) ∙ or_alone-same (x ++ replicate split.right_width Null) (joins.partners split right x)

flat-same : (f g : Row → List Row) (P : Row → Type 0) → ((x : Row) → P x → f x ≡ g x) → (xs : List Row) → All P xs → flat_map f xs ≡ flat_map g xs
flat-same f g P h [] all = refl
flat-same f g P h (x ∷ xs) all = ap (λ rows. rows ++ flat_map f xs) (h x (All-head P x xs all)) ∙ ap (λ rows. g x ++ rows) (flat-same f g P h xs (All-tail P x xs all))

pub join-same : (kind : JoinKind) (on : Expr) (split : JoinOn) (left right : List Row) (n : ℕ) → All (λ row. length row ≡ n) left → Splits on n split
    → binary_bag (join_on kind on) split.right_width left right ≡ joins.join_rows kind split left right
join-same kind on split left right n all h =
    flat-same (tree.joined kind on split.right_width right) (joins.joined kind split right) (λ row. length row ≡ n) (λ x l. joined-same kind on split x (λ y. h.same x y l) right) left all

-- ---- groups

value-same : (call : AggCall) (argument : Option ℕ) (rows : List Row) → tree.aggregate_of call.agg argument rows ≡ groups.aggregate_of call.agg argument rows
value-same call None rows = refl
value-same call (Some column) rows = refl

called-same : (calls : List AggCall) (rows : List Row) → tree.called calls rows ≡ groups.called calls rows
called-same [] rows = refl
called-same (call ∷ calls) rows = ap (λ v. v ∷ tree.called calls rows) (value-same call call.argument rows) ∙ ap (λ vs. groups.aggregate_of call.agg call.argument rows ∷ vs) (called-same calls rows)

pub group-same : (keys : List ℕ) (calls : List AggCall) (rows : List Row) → tree.grouped keys (tree.called calls) rows ≡ groups.group_rows keys calls rows
group-same [] calls rows = ap (λ row. row ∷ []) (called-same calls rows)
group-same (key ∷ keys) calls rows = ap (λ f. tree.by_key (key ∷ keys) f rows) (λ i rows. called-same calls rows i)
