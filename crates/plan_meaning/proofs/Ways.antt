-- What holds of each way of a set, by its members.
use Rattle.std.proofs.Common.{◌≡◌, ℕ, ◌==◌, Bool, true, false, cond, List, [], Some, slice_get, refl, subst}
use Rattle.std.specs.List.{flat_map}
use Rattle.std.proofs.lemmas.Bool.{eqb-true}
use Rattle.cal_value.specs.declared.order.KeyOrder.{KeyOrder}
use Rattle.cal_rel.specs.Tree.{Tree}
use Rattle.memo_model.specs.Sets.{Member, Has}
use Rattle.phys_plan.specs.declared.ways.Way.{Way}
use Rattle.phys_plan.specs.Spaces.{Space}
use Rattle.phys_plan.specs.Ways.{spells, converters, spells_in, ways}
use Rattle.phys_plan.proofs.Members.{Among, Every, every-get, every-append, every-flat}
use Rattle.phys_plan.proofs.WidthLemmas.{has-member}

pub every-where : {A : Type 0} (P : A → Type 0) (b : Bool) (xs : List A) → (b ≡ true → Every P xs) → Every P (cond b xs [])
every-where P true xs h = h refl
every-where P false xs h = tt

pub ways-each : (P : Way → Type 0) (space : Space) (set : ℕ) (order : List KeyOrder) → Every P (converters set order)
    → ((node : Tree) → Has space.members set node → Every P (spells space.info node)) → (k : ℕ) (w : Way) → slice_get (ways space set order) k ≡ Some w → P w
ways-each P space set order converted spelled k w e =
    every-get P (ways space set order) w k
    (every-append P (converters set order) (flat_map (spells_in space.info set) space.members) converted (every-flat P (spells_in space.info set) space.members of_member)) e
  where
    of_member : (m : Member) → Among space.members m → Every P (spells_in space.info set m)
    of_member m among =
        every-where P (m.set == set) (spells space.info m.tree)
        (λ is. spelled m.tree (subst (λ s. Has space.members s m.tree) (eqb-true m.set set is) (has-member space m among)))
