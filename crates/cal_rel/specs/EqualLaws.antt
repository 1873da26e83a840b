-- `rel_eq` decides `≡`.
use Rattle.std.specs.Prelude.{◌≡◌, ℕ, zero, suc, Bool, ◌==◌, ◌&&◌, List, Option, Some, None, refl}
use Rattle.std.specs.Bool.{Decides}
use Rattle.std.specs.Cmp.{IsEquivalence}
use Rattle.std.specs.Cmp.Lexicographic.{pointwise}
use Rattle.std.specs.Ordering.{int_eq}
use Rattle.std.proofs.Common.{sym, ap, subst, ◌∙◌}
use Rattle.std.proofs.lemmas.Bool.Decides.{Decides-eqb, Decides-int_eq, Decides-like, Decides-at, Decides-and}
use Rattle.std.proofs.lemmas.Slice.Eq.{slice_eq-Decides}
use Rattle.cal_value.specs.EqualLaws.{bool_eq-Decides, equivalence_from_Decides}
use Rattle.cal_value.specs.Types.{same_kind}
use Rattle.cal_value.specs.declared.interval.Interval.{Interval}
use Rattle.cal_value.specs.declared.interval.Interval.TheVariants.{Never, Range}
use Rattle.cal_value.specs.declared.kind.Kind.{Kind}
use Rattle.cal_value.specs.declared.kind.Kind.TheVariants.{Boolean, Integer, Text}
use Rattle.cal_value.specs.declared.kind.SqlType.{SqlType}
use Rattle.cal_value.specs.declared.operator.Agg.{Agg}
use Rattle.cal_value.specs.declared.operator.Agg.TheVariants.{Count, Sum, Sum0, Min, Max}
use Rattle.cal_expr.specs.Equal.{expr_eq}
use Rattle.cal_expr.specs.EqualLaws.{expr_eq-Decides}
use Rattle.cal_schema.specs.declared.agg_call.AggCall.{AggCall}
use Rattle.cal_schema.specs.declared.join_kind.JoinKind.{JoinKind}
use Rattle.cal_schema.specs.declared.join_kind.JoinKind.TheVariants.{Inner, Left}
use Rattle.cal_rel.specs.declared.rel.Rel.{Rel}
use Rattle.cal_rel.specs.declared.rel.Rel.TheOpen.{Rel-F}
use Rattle.cal_rel.specs.declared.rel.Rel.TheViews.{out-Rel, roll-Rel, out-roll-Rel, roll-out-Rel}
use Rattle.cal_rel.specs.declared.rel.Rel.TheFolds.{fold-roll-Rel, ind-Rel, map-Rel}
use Rattle.cal_rel.specs.Equal.{interval_eq, type_eq, agg_index, agg_eq, argument_eq, call_eq, join_kind_eq, eq_step, rel_eq}

-- ---- lists

lists : {A : Type 0} (E : A → A → Bool) → ((a b : A) → Decides (E a b) (a ≡ b)) → (xs ys : List A) → Decides (pointwise E xs ys) (xs ≡ ys)
lists E d xs ys = slice_eq-Decides d xs ys (pointwise E xs ys) refl

-- ---- types

interval_eq-Decides : (i j : Interval) → Decides (interval_eq i j) (i ≡ j)
interval_eq-Decides Never Never = (λ e. refl, λ e. refl)
interval_eq-Decides Never (Range c d) = (λ e. absurd (Prim.cc), λ e. absurd (Prim.cc))
interval_eq-Decides (Range a b) Never = (λ e. absurd (Prim.cc), λ e. absurd (Prim.cc))
interval_eq-Decides (Range a b) (Range c d) =
    Decides-like (int_eq a c && int_eq b d) (λ h. let x = h.0 in let y = h.1 in Prim.cc) (λ h. (Prim.cc, Prim.cc)) (Decides-and _ _ (Decides-int_eq a c) (Decides-int_eq b d))

same_kind-Decides : (k l : Kind) → Decides (same_kind k l) (k ≡ l)
same_kind-Decides Boolean Boolean = (λ e. refl, λ e. refl)
same_kind-Decides Boolean Integer = (λ e. absurd (Prim.cc), λ e. absurd (Prim.cc))
same_kind-Decides Boolean Text = (λ e. absurd (Prim.cc), λ e. absurd (Prim.cc))
same_kind-Decides Integer Boolean = (λ e. absurd (Prim.cc), λ e. absurd (Prim.cc))
same_kind-Decides Integer Integer = (λ e. refl, λ e. refl)
same_kind-Decides Integer Text = (λ e. absurd (Prim.cc), λ e. absurd (Prim.cc))
same_kind-Decides Text Boolean = (λ e. absurd (Prim.cc), λ e. absurd (Prim.cc))
same_kind-Decides Text Integer = (λ e. absurd (Prim.cc), λ e. absurd (Prim.cc))
same_kind-Decides Text Text = (λ e. refl, λ e. refl)

type_made : Kind → Bool → Interval → SqlType
type_made k n i = record { kind = k; nullable = n; interval = i }

type_eq-Decides : (s t : SqlType) → Decides (type_eq s t) (s ≡ t)
unfolding type_made
type_eq-Decides s t =
    Decides-like (type_eq s t)
    (λ h. ap (λ k. type_made k s.nullable s.interval) h.0.0 ∙ ap (λ n. type_made t.kind n s.interval) h.0.1 ∙ ap (λ i. type_made t.kind t.nullable i) h.1)
    (λ e. ((ap (λ (u : SqlType). u.kind) e, ap (λ (u : SqlType). u.nullable) e), ap (λ (u : SqlType). u.interval) e))
    (Decides-and _ _ (Decides-and _ _ (same_kind-Decides s.kind t.kind) (bool_eq-Decides s.nullable t.nullable)) (interval_eq-Decides s.interval t.interval))

-- ---- calls

agg_at : ℕ → Agg
agg_at zero = Count
agg_at (suc zero) = Sum
agg_at (suc (suc zero)) = Sum0
agg_at (suc (suc (suc zero))) = Min
agg_at (suc (suc (suc (suc n)))) = Max

agg_at-index : (a : Agg) → agg_at (agg_index a) ≡ a
unfolding agg_at
agg_at-index Count = refl
agg_at-index Sum = refl
agg_at-index Sum0 = refl
agg_at-index Min = refl
agg_at-index Max = refl

agg_eq-Decides : (a b : Agg) → Decides (agg_eq a b) (a ≡ b)
agg_eq-Decides a b = Decides-like (agg_eq a b) (λ e. sym (agg_at-index a) ∙ ap agg_at e ∙ agg_at-index b) (ap agg_index) (Decides-eqb (agg_index a) (agg_index b))

argument_eq-Decides : (a b : Option ℕ) → Decides (argument_eq a b) (a ≡ b)
argument_eq-Decides None None = (λ e. refl, λ e. refl)
argument_eq-Decides None (Some b) = (λ e. absurd (Prim.cc), λ e. absurd (Prim.cc))
argument_eq-Decides (Some a) None = (λ e. absurd (Prim.cc), λ e. absurd (Prim.cc))
argument_eq-Decides (Some a) (Some b) = Decides-like (a == b) (λ h. Prim.cc) (λ h. Prim.cc) (Decides-eqb a b)

call_made : Agg → Option ℕ → AggCall
call_made a argument = record { agg = a; argument = argument }

call_eq-Decides : (a b : AggCall) → Decides (call_eq a b) (a ≡ b)
unfolding call_made
call_eq-Decides a b =
    Decides-like (call_eq a b)
    (λ h. ap (λ x. call_made x a.argument) h.0 ∙ ap (λ y. call_made b.agg y) h.1)
    (λ e. (ap (λ (c : AggCall). c.agg) e, ap (λ (c : AggCall). c.argument) e))
    (Decides-and _ _ (agg_eq-Decides a.agg b.agg) (argument_eq-Decides a.argument b.argument))

join_kind_eq-Decides : (k l : JoinKind) → Decides (join_kind_eq k l) (k ≡ l)
join_kind_eq-Decides Inner Inner = (λ e. refl, λ e. refl)
join_kind_eq-Decides Inner Left = (λ e. absurd (Prim.cc), λ e. absurd (Prim.cc))
join_kind_eq-Decides Left Inner = (λ e. absurd (Prim.cc), λ e. absurd (Prim.cc))
join_kind_eq-Decides Left Left = (λ e. refl, λ e. refl)

-- ---- trees

abbrev Same : Rel → Type 0
Same t = (u : Rel) → Decides (rel_eq t u) (t ≡ u)

abbrev SameLevel : Rel-F Rel → Type 0
SameLevel x = (z : Rel-F Rel) → Decides (eq_step (map-Rel Rel (Rel → Bool) rel_eq x) z) (x ≡ z)

level : (y : Rel-F ((t : Rel) × Same t)) → SameLevel (map-Rel ((t : Rel) × Same t) Rel (λ t. t.0) y)
level (Rel-F.Scan a) (Rel-F.Scan b) = Decides-like (a == b) (λ h. Prim.cc) (λ h. Prim.cc) (Decides-eqb a b)
level (Rel-F.Scan a) (Rel-F.TileScan b) = (λ h. absurd (Prim.cc), λ h. absurd (Prim.cc))
level (Rel-F.Scan a) (Rel-F.StarScan b) = (λ h. absurd (Prim.cc), λ h. absurd (Prim.cc))
level (Rel-F.Scan a) (Rel-F.Filter t f) = (λ h. absurd (Prim.cc), λ h. absurd (Prim.cc))
level (Rel-F.Scan a) (Rel-F.Project t fs) = (λ h. absurd (Prim.cc), λ h. absurd (Prim.cc))
level (Rel-F.Scan a) (Rel-F.Join l s t f) = (λ h. absurd (Prim.cc), λ h. absurd (Prim.cc))
level (Rel-F.Scan a) (Rel-F.Aggregate t hs ds) = (λ h. absurd (Prim.cc), λ h. absurd (Prim.cc))
level (Rel-F.Scan a) (Rel-F.Empty ts) = (λ h. absurd (Prim.cc), λ h. absurd (Prim.cc))
level (Rel-F.Scan a) (Rel-F.Hole b) = (λ h. absurd (Prim.cc), λ h. absurd (Prim.cc))
level (Rel-F.TileScan a) (Rel-F.Scan b) = (λ h. absurd (Prim.cc), λ h. absurd (Prim.cc))
level (Rel-F.TileScan a) (Rel-F.TileScan b) = Decides-like (a == b) (λ h. Prim.cc) (λ h. Prim.cc) (Decides-eqb a b)
level (Rel-F.TileScan a) (Rel-F.StarScan b) = (λ h. absurd (Prim.cc), λ h. absurd (Prim.cc))
level (Rel-F.TileScan a) (Rel-F.Filter t f) = (λ h. absurd (Prim.cc), λ h. absurd (Prim.cc))
level (Rel-F.TileScan a) (Rel-F.Project t fs) = (λ h. absurd (Prim.cc), λ h. absurd (Prim.cc))
level (Rel-F.TileScan a) (Rel-F.Join l s t f) = (λ h. absurd (Prim.cc), λ h. absurd (Prim.cc))
level (Rel-F.TileScan a) (Rel-F.Aggregate t hs ds) = (λ h. absurd (Prim.cc), λ h. absurd (Prim.cc))
level (Rel-F.TileScan a) (Rel-F.Empty ts) = (λ h. absurd (Prim.cc), λ h. absurd (Prim.cc))
level (Rel-F.TileScan a) (Rel-F.Hole b) = (λ h. absurd (Prim.cc), λ h. absurd (Prim.cc))
level (Rel-F.StarScan a) (Rel-F.Scan b) = (λ h. absurd (Prim.cc), λ h. absurd (Prim.cc))
level (Rel-F.StarScan a) (Rel-F.TileScan b) = (λ h. absurd (Prim.cc), λ h. absurd (Prim.cc))
level (Rel-F.StarScan a) (Rel-F.StarScan b) = Decides-like (a == b) (λ h. Prim.cc) (λ h. Prim.cc) (Decides-eqb a b)
level (Rel-F.StarScan a) (Rel-F.Filter t f) = (λ h. absurd (Prim.cc), λ h. absurd (Prim.cc))
level (Rel-F.StarScan a) (Rel-F.Project t fs) = (λ h. absurd (Prim.cc), λ h. absurd (Prim.cc))
level (Rel-F.StarScan a) (Rel-F.Join l s t f) = (λ h. absurd (Prim.cc), λ h. absurd (Prim.cc))
level (Rel-F.StarScan a) (Rel-F.Aggregate t hs ds) = (λ h. absurd (Prim.cc), λ h. absurd (Prim.cc))
level (Rel-F.StarScan a) (Rel-F.Empty ts) = (λ h. absurd (Prim.cc), λ h. absurd (Prim.cc))
level (Rel-F.StarScan a) (Rel-F.Hole b) = (λ h. absurd (Prim.cc), λ h. absurd (Prim.cc))
level (Rel-F.Filter p e) (Rel-F.Scan b) = (λ h. absurd (Prim.cc), λ h. absurd (Prim.cc))
level (Rel-F.Filter p e) (Rel-F.TileScan b) = (λ h. absurd (Prim.cc), λ h. absurd (Prim.cc))
level (Rel-F.Filter p e) (Rel-F.StarScan b) = (λ h. absurd (Prim.cc), λ h. absurd (Prim.cc))
level (Rel-F.Filter p e) (Rel-F.Filter t f) = Decides-like (expr_eq e f && rel_eq p.0 t) (λ h. let x = h.0 in let y = h.1 in Prim.cc) (λ h. (Prim.cc, Prim.cc)) (Decides-and _ _ (expr_eq-Decides e f) (p.1 t))
level (Rel-F.Filter p e) (Rel-F.Project t fs) = (λ h. absurd (Prim.cc), λ h. absurd (Prim.cc))
level (Rel-F.Filter p e) (Rel-F.Join l s t f) = (λ h. absurd (Prim.cc), λ h. absurd (Prim.cc))
level (Rel-F.Filter p e) (Rel-F.Aggregate t hs ds) = (λ h. absurd (Prim.cc), λ h. absurd (Prim.cc))
level (Rel-F.Filter p e) (Rel-F.Empty ts) = (λ h. absurd (Prim.cc), λ h. absurd (Prim.cc))
level (Rel-F.Filter p e) (Rel-F.Hole b) = (λ h. absurd (Prim.cc), λ h. absurd (Prim.cc))
level (Rel-F.Project p es) (Rel-F.Scan b) = (λ h. absurd (Prim.cc), λ h. absurd (Prim.cc))
level (Rel-F.Project p es) (Rel-F.TileScan b) = (λ h. absurd (Prim.cc), λ h. absurd (Prim.cc))
level (Rel-F.Project p es) (Rel-F.StarScan b) = (λ h. absurd (Prim.cc), λ h. absurd (Prim.cc))
level (Rel-F.Project p es) (Rel-F.Filter t f) = (λ h. absurd (Prim.cc), λ h. absurd (Prim.cc))
level (Rel-F.Project p es) (Rel-F.Project t fs) = Decides-like (pointwise expr_eq es fs && rel_eq p.0 t) (λ h. let x = h.0 in let y = h.1 in Prim.cc) (λ h. (Prim.cc, Prim.cc)) (Decides-and _ _ (lists expr_eq expr_eq-Decides es fs) (p.1 t))
level (Rel-F.Project p es) (Rel-F.Join l s t f) = (λ h. absurd (Prim.cc), λ h. absurd (Prim.cc))
level (Rel-F.Project p es) (Rel-F.Aggregate t hs ds) = (λ h. absurd (Prim.cc), λ h. absurd (Prim.cc))
level (Rel-F.Project p es) (Rel-F.Empty ts) = (λ h. absurd (Prim.cc), λ h. absurd (Prim.cc))
level (Rel-F.Project p es) (Rel-F.Hole b) = (λ h. absurd (Prim.cc), λ h. absurd (Prim.cc))
level (Rel-F.Join k p q e) (Rel-F.Scan b) = (λ h. absurd (Prim.cc), λ h. absurd (Prim.cc))
level (Rel-F.Join k p q e) (Rel-F.TileScan b) = (λ h. absurd (Prim.cc), λ h. absurd (Prim.cc))
level (Rel-F.Join k p q e) (Rel-F.StarScan b) = (λ h. absurd (Prim.cc), λ h. absurd (Prim.cc))
level (Rel-F.Join k p q e) (Rel-F.Filter t f) = (λ h. absurd (Prim.cc), λ h. absurd (Prim.cc))
level (Rel-F.Join k p q e) (Rel-F.Project t fs) = (λ h. absurd (Prim.cc), λ h. absurd (Prim.cc))
level (Rel-F.Join k p q e) (Rel-F.Join l s t f) = Decides-like (join_kind_eq k l && expr_eq e f && rel_eq p.0 s && rel_eq q.0 t) (λ h. let w = h.0.0.0 in let x = h.0.0.1 in let y = h.0.1 in let z = h.1 in Prim.cc) (λ h. (((Prim.cc, Prim.cc), Prim.cc), Prim.cc)) (Decides-and _ _ (Decides-and _ _ (Decides-and _ _ (join_kind_eq-Decides k l) (expr_eq-Decides e f)) (p.1 s)) (q.1 t))
level (Rel-F.Join k p q e) (Rel-F.Aggregate t hs ds) = (λ h. absurd (Prim.cc), λ h. absurd (Prim.cc))
level (Rel-F.Join k p q e) (Rel-F.Empty ts) = (λ h. absurd (Prim.cc), λ h. absurd (Prim.cc))
level (Rel-F.Join k p q e) (Rel-F.Hole b) = (λ h. absurd (Prim.cc), λ h. absurd (Prim.cc))
level (Rel-F.Aggregate p gs cs) (Rel-F.Scan b) = (λ h. absurd (Prim.cc), λ h. absurd (Prim.cc))
level (Rel-F.Aggregate p gs cs) (Rel-F.TileScan b) = (λ h. absurd (Prim.cc), λ h. absurd (Prim.cc))
level (Rel-F.Aggregate p gs cs) (Rel-F.StarScan b) = (λ h. absurd (Prim.cc), λ h. absurd (Prim.cc))
level (Rel-F.Aggregate p gs cs) (Rel-F.Filter t f) = (λ h. absurd (Prim.cc), λ h. absurd (Prim.cc))
level (Rel-F.Aggregate p gs cs) (Rel-F.Project t fs) = (λ h. absurd (Prim.cc), λ h. absurd (Prim.cc))
level (Rel-F.Aggregate p gs cs) (Rel-F.Join l s t f) = (λ h. absurd (Prim.cc), λ h. absurd (Prim.cc))
level (Rel-F.Aggregate p gs cs) (Rel-F.Aggregate t hs ds) = Decides-like (pointwise ◌==◌ gs hs && pointwise call_eq cs ds && rel_eq p.0 t) (λ h. let x = h.0.0 in let y = h.0.1 in let z = h.1 in Prim.cc) (λ h. ((Prim.cc, Prim.cc), Prim.cc)) (Decides-and _ _ (Decides-and _ _ (lists ◌==◌ Decides-eqb gs hs) (lists call_eq call_eq-Decides cs ds)) (p.1 t))
level (Rel-F.Aggregate p gs cs) (Rel-F.Empty ts) = (λ h. absurd (Prim.cc), λ h. absurd (Prim.cc))
level (Rel-F.Aggregate p gs cs) (Rel-F.Hole b) = (λ h. absurd (Prim.cc), λ h. absurd (Prim.cc))
level (Rel-F.Empty ss) (Rel-F.Scan b) = (λ h. absurd (Prim.cc), λ h. absurd (Prim.cc))
level (Rel-F.Empty ss) (Rel-F.TileScan b) = (λ h. absurd (Prim.cc), λ h. absurd (Prim.cc))
level (Rel-F.Empty ss) (Rel-F.StarScan b) = (λ h. absurd (Prim.cc), λ h. absurd (Prim.cc))
level (Rel-F.Empty ss) (Rel-F.Filter t f) = (λ h. absurd (Prim.cc), λ h. absurd (Prim.cc))
level (Rel-F.Empty ss) (Rel-F.Project t fs) = (λ h. absurd (Prim.cc), λ h. absurd (Prim.cc))
level (Rel-F.Empty ss) (Rel-F.Join l s t f) = (λ h. absurd (Prim.cc), λ h. absurd (Prim.cc))
level (Rel-F.Empty ss) (Rel-F.Aggregate t hs ds) = (λ h. absurd (Prim.cc), λ h. absurd (Prim.cc))
level (Rel-F.Empty ss) (Rel-F.Empty ts) = Decides-like (pointwise type_eq ss ts) (λ h. Prim.cc) (λ h. Prim.cc) (lists type_eq type_eq-Decides ss ts)
level (Rel-F.Empty ss) (Rel-F.Hole b) = (λ h. absurd (Prim.cc), λ h. absurd (Prim.cc))
level (Rel-F.Hole a) (Rel-F.Scan b) = (λ h. absurd (Prim.cc), λ h. absurd (Prim.cc))
level (Rel-F.Hole a) (Rel-F.TileScan b) = (λ h. absurd (Prim.cc), λ h. absurd (Prim.cc))
level (Rel-F.Hole a) (Rel-F.StarScan b) = (λ h. absurd (Prim.cc), λ h. absurd (Prim.cc))
level (Rel-F.Hole a) (Rel-F.Filter t f) = (λ h. absurd (Prim.cc), λ h. absurd (Prim.cc))
level (Rel-F.Hole a) (Rel-F.Project t fs) = (λ h. absurd (Prim.cc), λ h. absurd (Prim.cc))
level (Rel-F.Hole a) (Rel-F.Join l s t f) = (λ h. absurd (Prim.cc), λ h. absurd (Prim.cc))
level (Rel-F.Hole a) (Rel-F.Aggregate t hs ds) = (λ h. absurd (Prim.cc), λ h. absurd (Prim.cc))
level (Rel-F.Hole a) (Rel-F.Empty ts) = (λ h. absurd (Prim.cc), λ h. absurd (Prim.cc))
level (Rel-F.Hole a) (Rel-F.Hole b) = Decides-like (a == b) (λ h. Prim.cc) (λ h. Prim.cc) (Decides-eqb a b)

at_roll : (x : Rel-F Rel) → SameLevel x → Same (roll-Rel x)
at_roll x l d =
    Decides-at (rel_eq (roll-Rel x) d) (eq_step (map-Rel Rel (Rel → Bool) rel_eq x) (out-Rel d)) (ap (λ f. f d) (fold-roll-Rel (Rel → Bool) (λ x t. eq_step x (out-Rel t)) x))
    (Decides-like (eq_step (map-Rel Rel (Rel → Bool) rel_eq x) (out-Rel d)) (λ h. ap roll-Rel h ∙ roll-out-Rel d) (λ h. sym (out-roll-Rel x) ∙ ap out-Rel h) (l (out-Rel d)))

pub rel_eq-Decides : (t u : Rel) → Decides (rel_eq t u) (t ≡ u)
rel_eq-Decides = ind-Rel Same (λ x y is. subst (λ z. Same (roll-Rel z)) is (at_roll _ (level y)))

pub rel_eq_equiv : IsEquivalence rel_eq
rel_eq_equiv = equivalence_from_Decides rel_eq rel_eq-Decides
