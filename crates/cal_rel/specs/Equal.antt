-- Equality of trees, as a test that decides `≡`.
use Rattle.std.specs.Prelude.{ℕ, Bool, true, false, ◌==◌, ◌&&◌, Option, Some, None}
use Rattle.std.specs.Cmp.Lexicographic.{pointwise}
use Rattle.std.specs.Ordering.{int_eq}
use Rattle.cal_value.specs.Equal.{bool_eq}
use Rattle.cal_value.specs.Types.{same_kind}
use Rattle.cal_value.specs.declared.interval.Interval.{Interval}
use Rattle.cal_value.specs.declared.interval.Interval.TheVariants.{Never, Range}
use Rattle.cal_value.specs.declared.kind.SqlType.{SqlType}
use Rattle.cal_value.specs.declared.operator.Agg.{Agg}
use Rattle.cal_value.specs.declared.operator.Agg.TheVariants.{Count, Sum, Sum0, Min, Max}
use Rattle.cal_expr.specs.Equal.{expr_eq}
use Rattle.cal_schema.specs.declared.agg_call.AggCall.{AggCall}
use Rattle.cal_schema.specs.declared.join_kind.JoinKind.{JoinKind}
use Rattle.cal_schema.specs.declared.join_kind.JoinKind.TheVariants.{Inner, Left}
use Rattle.cal_rel.specs.declared.rel.Rel.{Rel, out-Rel}
use Rattle.cal_rel.specs.declared.rel.Rel.TheOpen.{Rel-F}
use Rattle.cal_rel.specs.declared.rel.Rel.TheFolds.{fold-Rel}

abbrev pub interval_eq : Interval → Interval → Bool
interval_eq Never Never = true
interval_eq (Range a b) (Range c d) = int_eq a c && int_eq b d
interval_eq i j = false

abbrev pub type_eq : SqlType → SqlType → Bool
type_eq s t = same_kind s.kind t.kind && bool_eq s.nullable t.nullable && interval_eq s.interval t.interval

abbrev pub agg_index : Agg → ℕ
agg_index Count = 0
agg_index Sum = 1
agg_index Sum0 = 2
agg_index Min = 3
agg_index Max = 4

abbrev pub agg_eq : Agg → Agg → Bool
agg_eq a b = agg_index a == agg_index b

abbrev pub argument_eq : Option ℕ → Option ℕ → Bool
argument_eq None None = true
argument_eq (Some a) (Some b) = a == b
argument_eq a b = false

abbrev pub call_eq : AggCall → AggCall → Bool
call_eq a b = agg_eq a.agg b.agg && argument_eq a.argument b.argument

abbrev pub join_kind_eq : JoinKind → JoinKind → Bool
join_kind_eq Inner Inner = true
join_kind_eq Left Left = true
join_kind_eq a b = false

-- one level, where each input of the first is a test of an input of the second
abbrev pub eq_step : Rel-F (Rel → Bool) → Rel-F Rel → Bool
eq_step (Rel-F.Scan a) (Rel-F.Scan b) = a == b
eq_step (Rel-F.TileScan a) (Rel-F.TileScan b) = a == b
eq_step (Rel-F.StarScan a) (Rel-F.StarScan b) = a == b
eq_step (Rel-F.Filter p e) (Rel-F.Filter t f) = expr_eq e f && p t
eq_step (Rel-F.Project p es) (Rel-F.Project t fs) = pointwise expr_eq es fs && p t
eq_step (Rel-F.Join k p q e) (Rel-F.Join l s t f) = join_kind_eq k l && expr_eq e f && p s && q t
eq_step (Rel-F.Aggregate p gs cs) (Rel-F.Aggregate t hs ds) = pointwise ◌==◌ gs hs && pointwise call_eq cs ds && p t
eq_step (Rel-F.Empty ss) (Rel-F.Empty ts) = pointwise type_eq ss ts
eq_step (Rel-F.Hole a) (Rel-F.Hole b) = a == b
eq_step x y = false

abbrev pub rel_eq : Rel → Rel → Bool
rel_eq = fold-Rel (Rel → Bool) (λ x t. eq_step x (out-Rel t))
