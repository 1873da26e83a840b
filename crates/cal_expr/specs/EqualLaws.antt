-- `expr_eq` decides `≡`.
use Rattle.std.specs.Prelude.{◌≡◌, ℕ, zero, suc, Bool, ◌==◌, ◌&&◌, refl}
use Rattle.std.specs.Bool.{Decides}
use Rattle.std.specs.Cmp.{IsEquivalence}
use Rattle.std.proofs.Common.{sym, ap, subst, ◌∙◌}
use Rattle.std.proofs.lemmas.Bool.Decides.{Decides-eqb, Decides-like, Decides-at, Decides-and}
use Rattle.cal_value.specs.Equal.{value_eq}
use Rattle.cal_value.specs.EqualLaws.{value_eq-Decides, equivalence_from_Decides}
use Rattle.cal_value.specs.declared.operator.Op.{Op}
use Rattle.cal_value.specs.declared.operator.Op.TheVariants.{Add, Subtract, Multiply, Divide, Equal, NotEqual, Less, LessEqual, Greater, GreaterEqual, And, Or}
use Rattle.cal_expr.specs.declared.expr.Expr.{Expr}
use Rattle.cal_expr.specs.declared.expr.Expr.TheOpen.{Expr-F}
use Rattle.cal_expr.specs.declared.expr.Expr.TheViews.{out-Expr, roll-Expr, out-roll-Expr, roll-out-Expr}
use Rattle.cal_expr.specs.declared.expr.Expr.TheFolds.{fold-roll-Expr, ind-Expr, map-Expr}
use Rattle.cal_expr.specs.Equal.{op_index, op_eq, eq_step, expr_eq}

abbrev op_at : ℕ → Op
op_at zero = Add
op_at (suc zero) = Subtract
op_at (suc (suc zero)) = Multiply
op_at (suc (suc (suc zero))) = Divide
op_at (suc (suc (suc (suc zero)))) = Equal
op_at (suc (suc (suc (suc (suc zero))))) = NotEqual
op_at (suc (suc (suc (suc (suc (suc zero)))))) = Less
op_at (suc (suc (suc (suc (suc (suc (suc zero))))))) = LessEqual
op_at (suc (suc (suc (suc (suc (suc (suc (suc zero)))))))) = Greater
op_at (suc (suc (suc (suc (suc (suc (suc (suc (suc zero))))))))) = GreaterEqual
op_at (suc (suc (suc (suc (suc (suc (suc (suc (suc (suc zero)))))))))) = And
op_at (suc (suc (suc (suc (suc (suc (suc (suc (suc (suc (suc n))))))))))) = Or

op_at-index : (o : Op) → op_at (op_index o) ≡ o
op_at-index Add = refl
op_at-index Subtract = refl
op_at-index Multiply = refl
op_at-index Divide = refl
op_at-index Equal = refl
op_at-index NotEqual = refl
op_at-index Less = refl
op_at-index LessEqual = refl
op_at-index Greater = refl
op_at-index GreaterEqual = refl
op_at-index And = refl
op_at-index Or = refl

op_eq-Decides : (a b : Op) → Decides (op_eq a b) (a ≡ b)
op_eq-Decides a b = Decides-like (op_eq a b) (λ e. sym (op_at-index a) ∙ ap op_at e ∙ op_at-index b) (ap op_index) (Decides-eqb (op_index a) (op_index b))

abbrev Same : Expr → Type 0
Same e = (d : Expr) → Decides (expr_eq e d) (e ≡ d)

abbrev SameLevel : Expr-F Expr → Type 0
SameLevel x = (z : Expr-F Expr) → Decides (eq_step (map-Expr Expr (Expr → Bool) expr_eq x) z) (x ≡ z)

level : (y : Expr-F ((e : Expr) × Same e)) → SameLevel (map-Expr ((e : Expr) × Same e) Expr (λ e. e.0) y)
level (Expr-F.Column p) (Expr-F.Column e) = Decides-like (p == e) (λ h. Prim.cc) (λ h. Prim.cc) (Decides-eqb p e)
level (Expr-F.Column p) (Expr-F.Literal e) = (λ h. absurd (Prim.cc), λ h. absurd (Prim.cc))
level (Expr-F.Column p) (Expr-F.Negate e) = (λ h. absurd (Prim.cc), λ h. absurd (Prim.cc))
level (Expr-F.Column p) (Expr-F.Binary b e f) = (λ h. absurd (Prim.cc), λ h. absurd (Prim.cc))
level (Expr-F.Column p) (Expr-F.Not e) = (λ h. absurd (Prim.cc), λ h. absurd (Prim.cc))
level (Expr-F.Column p) (Expr-F.IsNull e) = (λ h. absurd (Prim.cc), λ h. absurd (Prim.cc))
level (Expr-F.Literal p) (Expr-F.Column e) = (λ h. absurd (Prim.cc), λ h. absurd (Prim.cc))
level (Expr-F.Literal p) (Expr-F.Literal e) = Decides-like (value_eq p e) (λ h. Prim.cc) (λ h. Prim.cc) (value_eq-Decides p e)
level (Expr-F.Literal p) (Expr-F.Negate e) = (λ h. absurd (Prim.cc), λ h. absurd (Prim.cc))
level (Expr-F.Literal p) (Expr-F.Binary b e f) = (λ h. absurd (Prim.cc), λ h. absurd (Prim.cc))
level (Expr-F.Literal p) (Expr-F.Not e) = (λ h. absurd (Prim.cc), λ h. absurd (Prim.cc))
level (Expr-F.Literal p) (Expr-F.IsNull e) = (λ h. absurd (Prim.cc), λ h. absurd (Prim.cc))
level (Expr-F.Negate p) (Expr-F.Column e) = (λ h. absurd (Prim.cc), λ h. absurd (Prim.cc))
level (Expr-F.Negate p) (Expr-F.Literal e) = (λ h. absurd (Prim.cc), λ h. absurd (Prim.cc))
level (Expr-F.Negate p) (Expr-F.Negate e) = Decides-like (expr_eq p.0 e) (λ h. Prim.cc) (λ h. Prim.cc) (p.1 e)
level (Expr-F.Negate p) (Expr-F.Binary b e f) = (λ h. absurd (Prim.cc), λ h. absurd (Prim.cc))
level (Expr-F.Negate p) (Expr-F.Not e) = (λ h. absurd (Prim.cc), λ h. absurd (Prim.cc))
level (Expr-F.Negate p) (Expr-F.IsNull e) = (λ h. absurd (Prim.cc), λ h. absurd (Prim.cc))
level (Expr-F.Binary a p q) (Expr-F.Column e) = (λ h. absurd (Prim.cc), λ h. absurd (Prim.cc))
level (Expr-F.Binary a p q) (Expr-F.Literal e) = (λ h. absurd (Prim.cc), λ h. absurd (Prim.cc))
level (Expr-F.Binary a p q) (Expr-F.Negate e) = (λ h. absurd (Prim.cc), λ h. absurd (Prim.cc))
level (Expr-F.Binary a p q) (Expr-F.Binary b e f) = Decides-like (op_eq a b && expr_eq p.0 e && expr_eq q.0 f) (λ h. let x = h.0.0 in let y = h.0.1 in let z = h.1 in Prim.cc) (λ h. ((Prim.cc, Prim.cc), Prim.cc)) (Decides-and _ _ (Decides-and _ _ (op_eq-Decides a b) (p.1 e)) (q.1 f))
level (Expr-F.Binary a p q) (Expr-F.Not e) = (λ h. absurd (Prim.cc), λ h. absurd (Prim.cc))
level (Expr-F.Binary a p q) (Expr-F.IsNull e) = (λ h. absurd (Prim.cc), λ h. absurd (Prim.cc))
level (Expr-F.Not p) (Expr-F.Column e) = (λ h. absurd (Prim.cc), λ h. absurd (Prim.cc))
level (Expr-F.Not p) (Expr-F.Literal e) = (λ h. absurd (Prim.cc), λ h. absurd (Prim.cc))
level (Expr-F.Not p) (Expr-F.Negate e) = (λ h. absurd (Prim.cc), λ h. absurd (Prim.cc))
level (Expr-F.Not p) (Expr-F.Binary b e f) = (λ h. absurd (Prim.cc), λ h. absurd (Prim.cc))
level (Expr-F.Not p) (Expr-F.Not e) = Decides-like (expr_eq p.0 e) (λ h. Prim.cc) (λ h. Prim.cc) (p.1 e)
level (Expr-F.Not p) (Expr-F.IsNull e) = (λ h. absurd (Prim.cc), λ h. absurd (Prim.cc))
level (Expr-F.IsNull p) (Expr-F.Column e) = (λ h. absurd (Prim.cc), λ h. absurd (Prim.cc))
level (Expr-F.IsNull p) (Expr-F.Literal e) = (λ h. absurd (Prim.cc), λ h. absurd (Prim.cc))
level (Expr-F.IsNull p) (Expr-F.Negate e) = (λ h. absurd (Prim.cc), λ h. absurd (Prim.cc))
level (Expr-F.IsNull p) (Expr-F.Binary b e f) = (λ h. absurd (Prim.cc), λ h. absurd (Prim.cc))
level (Expr-F.IsNull p) (Expr-F.Not e) = (λ h. absurd (Prim.cc), λ h. absurd (Prim.cc))
level (Expr-F.IsNull p) (Expr-F.IsNull e) = Decides-like (expr_eq p.0 e) (λ h. Prim.cc) (λ h. Prim.cc) (p.1 e)

at_roll : (x : Expr-F Expr) → SameLevel x → Same (roll-Expr x)
at_roll x l d =
    Decides-at (expr_eq (roll-Expr x) d) (eq_step (map-Expr Expr (Expr → Bool) expr_eq x) (out-Expr d)) (ap (λ f. f d) (fold-roll-Expr (Expr → Bool) (λ x e. eq_step x (out-Expr e)) x))
    (Decides-like (eq_step (map-Expr Expr (Expr → Bool) expr_eq x) (out-Expr d)) (λ h. ap roll-Expr h ∙ roll-out-Expr d) (λ h. sym (out-roll-Expr x) ∙ ap out-Expr h) (l (out-Expr d)))

pub expr_eq-Decides : (e d : Expr) → Decides (expr_eq e d) (e ≡ d)
expr_eq-Decides = ind-Expr Same (λ x y is. subst (λ z. Same (roll-Expr z)) is (at_roll _ (level y)))

pub expr_eq_equiv : IsEquivalence expr_eq
expr_eq_equiv = equivalence_from_Decides expr_eq expr_eq-Decides
