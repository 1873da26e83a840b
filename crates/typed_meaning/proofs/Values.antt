-- The value of an expression without an aggregate is of its type.
use Rattle.std.proofs.Common.{◌≡◌, ℕ, Bool, true, false, ◌||◌, List, refl, sym, subst}
use Rattle.cal_value.specs.declared.value.Value.{Value}
use Rattle.cal_value.specs.Logic.{not3, truth_of, value_of}
use Rattle.cal_expr.specs.Meaning.{negated}
use Rattle.cal_expr.specs.Typing.{negation_type, not_type}
use Rattle.cal_expr.proofs.Typed.{Typed}
use Rattle.sql_tree.specs.declared.tree.Tree.{Tree}
use Rattle.sql_tree.specs.declared.tree.Tree.TheFolds.{fold-roll-Tree, ind-Tree, map-Tree}
use Rattle.sql_tree.specs.declared.tree.Tree.TheOpen.{Tree-F}
use Rattle.sql_tree.specs.declared.tree.Tree.TheViews.{roll-Tree}
use Rattle.sql_meaning.specs.Parts.{has_aggregate, aggregate_step}
use Rattle.sql_meaning.specs.Scope.{Header, type_in}
use Rattle.sql_meaning.specs.Sizes.{Sized, sized, sized_step, tree_type}
use Rattle.sql_meaning.specs.Value.{EntryRow, look_up, value, value_step}
use Rattle.typed_meaning.specs.Rows.{IsTypedRow}
use Rattle.typed_meaning.proofs.Levels.{binary-typed, unary-typed, negation-typed, not-typed, null-typed, literal-typed, column-typed}
use Rattle.typed_meaning.proofs.LookUp.{look_up-typed}

pub neither : (p q : Bool) → (p || q) ≡ false → (p ≡ false) × (q ≡ false)
neither true q e = absurd (cc)
neither false q e = (refl, e)

-- of a tree that has an aggregate nothing is said
record Sound (aggregate : Bool) (v : Value) (s : Sized) : Type 0 where
  typed : aggregate ≡ false → Typed v s.type

module _ (rows : ℕ) (scope : List Header) (env : List EntryRow) (h : IsTypedRow scope env) where
  abbrev IsSound : Tree → Type 0
  IsSound tree = Sound (has_aggregate tree) (value env tree) (sized rows scope tree)

  abbrev IsSoundLevel : Tree-F Tree → Type 0
  IsSoundLevel x = Sound (aggregate_step (map-Tree Tree Bool has_aggregate x)) (value_step env (map-Tree Tree Value (value env) x)) (sized_step rows scope (map-Tree Tree Sized (sized rows scope) x))

  level : (y : Tree-F ((t : Tree) × IsSound t)) → IsSoundLevel (map-Tree ((t : Tree) × IsSound t) Tree (λ t. t.0) y)
  level (Tree-F.Column place name) = record { typed = λ plain. column-typed (look_up env name) (type_in scope name) (look_up-typed scope env name h) }
  level (Tree-F.Literal place v) = record { typed = λ plain. literal-typed v }
  level (Tree-F.Negate place a) = record { typed = λ plain. unary-typed negated negation_type negation-typed (value env a.0) (tree_type rows scope a.0) (a.1.typed plain) }
  level (Tree-F.Binary place op a b) = record {
    typed = λ plain.
        let none = neither (has_aggregate a.0) (has_aggregate b.0) plain in
        binary-typed op (value env a.0) (value env b.0) (tree_type rows scope a.0) (tree_type rows scope b.0) (a.1.typed none.0) (b.1.typed none.1);
  }
  level (Tree-F.Not place a) = record { typed = λ plain. unary-typed (λ v. value_of (not3 (truth_of v))) not_type not-typed (value env a.0) (tree_type rows scope a.0) (a.1.typed plain) }
  level (Tree-F.IsNull place a) = record { typed = λ plain. null-typed (value env a.0) (tree_type rows scope a.0) }
  level (Tree-F.Aggregate place agg a) = record { typed = λ plain. absurd (cc) }

  carried : (p q : Bool) (v w : Value) (s t : Sized) → p ≡ q → v ≡ w → s ≡ t → Sound p v s → Sound q w t
  carried p q v w s t e f g k = subst (Sound q w) g (subst (λ x. Sound q x s) f (subst (λ x. Sound x v s) e k))

  at_roll : (x : Tree-F Tree) → IsSoundLevel x → IsSound (roll-Tree x)
  at_roll x l = carried _ _ _ _ _ _ (sym (fold-roll-Tree Bool aggregate_step x)) (sym (fold-roll-Tree Value (value_step env) x)) (sym (fold-roll-Tree Sized (sized_step rows scope) x)) l

  sound : (tree : Tree) → IsSound tree
  sound = ind-Tree IsSound (λ x y is. subst (λ z. IsSound (roll-Tree z)) is (at_roll _ (level y)))

  pub value-typed : (tree : Tree) → has_aggregate tree ≡ false → Typed (value env tree) (tree_type rows scope tree)
  value-typed tree plain = (sound tree).typed plain
