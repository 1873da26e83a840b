use Rattle.std.proofs.Common.{◌≡◌, [], ◌∷◌, sym, ap, ◌∙◌, subst, IfOk, rules}
use Rattle.cal_value.specs.declared.operator.Op.TheVariants.{And}
use Rattle.expr_parts.specs.Conjuncts.{conjuncts_of}
use Rattle.expr_parts.proofs.PartSteps.{conjuncts-other}
use Rattle.expr_parts.proofs.conjuncts.+conjuncts_of.Goals as goal

pub returns-in-Add : goal.returns-in-Add
returns-in-Add t c =
    let one : c.in-Binary.op ≡ And → ⊥ = λ is. let h = c.in-Add.is in Prim.grind rules in
    let conjuncts = ap conjuncts_of c.in-Binary.is ∙ conjuncts-other c.in-Binary.op c.in-Binary.left c.in-Binary.right one ∙ ap (λ e. e ∷ []) (sym c.in-Binary.is) in
    subst (λ cs. IfOk c.alone-in-Add.result (λ made. made ≡ cs)) (sym conjuncts) c.alone-in-Add.ensures
