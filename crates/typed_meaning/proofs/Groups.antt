-- The value of an expression over a group is of its type.
use Rattle.std.proofs.Common.{◌≡◌, ◌∙◌, ℕ, pos, Bool, true, false, ◌||◌, List, [], ◌∷◌, map, length, All, Option, Some, None, refl, sym, ap, subst, arith}
use Rattle.std.specs.Option.{option_and_then}
use Rattle.std.proofs.lemmas.List.{length-map}
use Rattle.std.proofs.lemmas.List.Elements.{All-head, All-map, All-weaker}
use Rattle.cal_value.specs.declared.kind.SqlType.{SqlType}
use Rattle.cal_value.specs.declared.operator.Agg.{Agg}
use Rattle.cal_value.specs.declared.operator.Agg.TheVariants.{Count}
use Rattle.cal_value.specs.declared.value.Value.{Value}
use Rattle.cal_value.specs.declared.value.Value.TheVariants.{Bool as BoolValue, Int}
use Rattle.cal_value.specs.Logic.{not3, truth_of, value_of, is_null}
use Rattle.cal_value.specs.Types.{IsOfType, integer_type}
use Rattle.cal_value.proofs.TypeLemmas.{number_type-is, along}
use Rattle.cal_aggregate.specs.Aggregate.{aggregated}
use Rattle.cal_aggregate.specs.ResultType.{IsBounded, counts, agg_type}
use Rattle.cal_aggregate.proofs.AggregateTyped.{aggregated-typed}
use Rattle.cal_aggregate.proofs.SumLemmas.{counts-holds}
use Rattle.cal_expr.specs.Meaning.{applied, negated}
use Rattle.cal_expr.specs.Typing.{negation_type, not_type}
use Rattle.cal_expr.proofs.Typed.{Typed}
use Rattle.sql_tree.specs.declared.tree.ColumnName.{ColumnName}
use Rattle.sql_tree.specs.declared.tree.Tree.{Tree}
use Rattle.sql_tree.specs.declared.tree.Tree.TheFolds.{fold-roll-Tree, ind-Tree, map-Tree}
use Rattle.sql_tree.specs.declared.tree.Tree.TheOpen.{Tree-F}
use Rattle.sql_tree.specs.declared.tree.Tree.TheViews.{roll-Tree}
use Rattle.sql_meaning.specs.Groups.{Aggregates, aggregates_in, aggregates_step, ungrouped, ungrouped_step}
use Rattle.sql_meaning.specs.Parts.{has_aggregate, aggregate_step}
use Rattle.sql_meaning.specs.Scope.{Header, type_in}
use Rattle.sql_meaning.specs.Sizes.{Sized, sized, sized_step, tree_type}
use Rattle.sql_meaning.specs.Value.{EntryRow, first_value, value, value_step, Meant, meant, meant_step, group_value}
use Rattle.sql_meaning.proofs.Nothing.{both-empty}
use Rattle.typed_meaning.specs.Rows.{IsTypedRow}
use Rattle.typed_meaning.proofs.Levels.{binary-typed, unary-typed, negation-typed, not-typed, null-typed, literal-typed, column-typed}
use Rattle.typed_meaning.proofs.LookUp.{look_up-typed}
use Rattle.typed_meaning.proofs.Values.{value-typed}

-- ---- what a tree means over a row is its value

module _ (env : List EntryRow) where
  abbrev IsSame : Tree → Type 0
  IsSame tree = (meant tree).row env ≡ value env tree

  abbrev IsSameLevel : Tree-F Tree → Type 0
  IsSameLevel x = (meant_step (map-Tree Tree Meant meant x)).row env ≡ value_step env (map-Tree Tree Value (value env) x)

  same-level : (y : Tree-F ((t : Tree) × IsSame t)) → IsSameLevel (map-Tree ((t : Tree) × IsSame t) Tree (λ t. t.0) y)
  same-level (Tree-F.Column place name) = refl
  same-level (Tree-F.Literal place v) = refl
  same-level (Tree-F.Negate place a) = ap negated a.1
  same-level (Tree-F.Binary place op a b) = ap (λ v. applied op v ((meant b.0).row env)) a.1 ∙ ap (applied op (value env a.0)) b.1
  same-level (Tree-F.Not place a) = ap (λ v. value_of (not3 (truth_of v))) a.1
  same-level (Tree-F.IsNull place a) = ap (λ v. BoolValue (is_null v)) a.1
  same-level (Tree-F.Aggregate place agg a) = refl

  same-roll : (x : Tree-F Tree) → IsSameLevel x → IsSame (roll-Tree x)
  same-roll x l = ap (λ (m : Meant). m.row env) (fold-roll-Tree Meant meant_step x) ∙ l ∙ sym (fold-roll-Tree Value (value_step env) x)

  pub meant-value : (tree : Tree) → (meant tree).row env ≡ value env tree
  meant-value = ind-Tree IsSame (λ x y is. subst (λ z. IsSame (roll-Tree z)) is (same-roll _ (same-level y)))

-- ---- no place of an aggregate, no aggregate

record NoneIn (places : Aggregates) (aggregate : Bool) : Type 0 where
  none : places.all ≡ [] → aggregate ≡ false

abbrev HasNone : Tree → Type 0
HasNone tree = NoneIn (aggregates_in tree) (has_aggregate tree)

abbrev HasNoneLevel : Tree-F Tree → Type 0
HasNoneLevel x = NoneIn (aggregates_step (map-Tree Tree Aggregates aggregates_in x)) (aggregate_step (map-Tree Tree Bool has_aggregate x))

neither : (p q : Bool) → p ≡ false → q ≡ false → (p || q) ≡ false
neither false q e f = f
neither true q e f = absurd (cc)

none-level : (y : Tree-F ((t : Tree) × HasNone t)) → HasNoneLevel (map-Tree ((t : Tree) × HasNone t) Tree (λ t. t.0) y)
none-level (Tree-F.Column place name) = record { none = λ e. refl }
none-level (Tree-F.Literal place v) = record { none = λ e. refl }
none-level (Tree-F.Negate place a) = record { none = a.1.none }
none-level (Tree-F.Binary place op a b) = record {
  none = λ e.
      let p = both-empty (aggregates_in a.0).all (aggregates_in b.0).all e in
      neither (has_aggregate a.0) (has_aggregate b.0) (a.1.none p.0) (b.1.none p.1);
}
none-level (Tree-F.Not place a) = record { none = a.1.none }
none-level (Tree-F.IsNull place a) = record { none = a.1.none }
none-level (Tree-F.Aggregate place agg None) = record { none = λ e. absurd (cc) }
none-level (Tree-F.Aggregate place agg (Some a)) = record { none = λ e. absurd (cc) }

none-roll : (x : Tree-F Tree) → HasNoneLevel x → HasNone (roll-Tree x)
none-roll x l = subst (NoneIn (aggregates_in (roll-Tree x))) (sym (fold-roll-Tree Bool aggregate_step x)) (subst (λ a. NoneIn a (aggregate_step (map-Tree Tree Bool has_aggregate x))) (sym (fold-roll-Tree Aggregates aggregates_step x)) l)

has-none : (tree : Tree) → HasNone tree
has-none = ind-Tree HasNone (λ x y is. subst (λ z. HasNone (roll-Tree z)) is (none-roll _ (none-level y)))

pub no-aggregate : (tree : Tree) → (aggregates_in tree).all ≡ [] → has_aggregate tree ≡ false
no-aggregate tree e = (has-none tree).none e

-- ---- a group

-- of a tree with an aggregate within another nothing is said, and of one with a column outside them only where there is a row
record Sound (envs : List (List EntryRow)) (places : Aggregates) (outside : List ℕ) (m : Meant) (s : Sized) : Type 0 where
  typed : places.nested ≡ [] → (envs ≡ [] → outside ≡ []) → Typed (m.group envs) s.type

module _ (rows : ℕ) (scope : List Header) (envs : List (List EntryRow)) (all : All (IsTypedRow scope) envs) (few : IsBounded (length envs) rows) where
  first-typed : (place : ℕ) (name : ColumnName) (xs : List (List EntryRow)) → All (IsTypedRow scope) xs → (xs ≡ [] → (place ∷ []) ≡ []) → Typed (first_value xs name) (type_in scope name)
  first-typed place name [] h some = let e = some refl in absurd (cc)
  first-typed place name (env ∷ xs) h some = look_up-typed scope env name (All-head (IsTypedRow scope) env xs h)

  counted : Typed (Int (pos (length envs))) (agg_type Count None rows)
  counted t e =
      let p = number_type-is false (counts rows) t e in
      along (Int (pos (length envs))) (integer_type false (counts rows)) t p.1 (refl, counts-holds rows (length envs) (length envs) (pos (length envs)) few (omega arith) refl p.0)

  folded-typed : (agg : Agg) (tree : Tree) (o : Option SqlType) → ((env : List EntryRow) → IsTypedRow scope env → Typed ((meant tree).row env) o)
      → Typed (aggregated agg (map (meant tree).row envs)) (option_and_then (λ t. agg_type agg (Some t) rows) o)
  folded-typed agg tree None each u e = absurd (cc)
  folded-typed agg tree (Some t) each u e =
      aggregated-typed (Some t) rows (map (meant tree).row envs)
      (All-map (λ v. IsOfType v t) (meant tree).row envs (All-weaker (IsTypedRow scope) (λ env. IsOfType ((meant tree).row env) t) (λ env h. each env h t refl) envs all))
      (λ l. let most = few l in omega (arith, length-map envs (meant tree).row)) agg u e

  abbrev IsSound : Tree → Type 0
  IsSound tree = Sound envs (aggregates_in tree) (ungrouped scope [] tree) (meant tree) (sized rows scope tree)

  abbrev IsSoundLevel : Tree-F Tree → Type 0
  IsSoundLevel x =
      Sound envs (aggregates_step (map-Tree Tree Aggregates aggregates_in x)) (ungrouped_step scope [] (map-Tree Tree (List ℕ) (ungrouped scope []) x))
      (meant_step (map-Tree Tree Meant meant x)) (sized_step rows scope (map-Tree Tree Sized (sized rows scope) x))

  level : (y : Tree-F ((t : Tree) × IsSound t)) → IsSoundLevel (map-Tree ((t : Tree) × IsSound t) Tree (λ t. t.0) y)
  level (Tree-F.Column place name) = record { typed = λ flat some. column-typed (first_value envs name) (type_in scope name) (first-typed place name envs all some) }
  level (Tree-F.Literal place v) = record { typed = λ flat some. literal-typed v }
  level (Tree-F.Negate place a) = record { typed = λ flat some. unary-typed negated negation_type negation-typed (group_value envs a.0) (tree_type rows scope a.0) (a.1.typed flat some) }
  level (Tree-F.Binary place op a b) = record {
    typed = λ flat some.
        let p = both-empty (aggregates_in a.0).nested (aggregates_in b.0).nested flat in
        binary-typed op (group_value envs a.0) (group_value envs b.0) (tree_type rows scope a.0) (tree_type rows scope b.0)
        (a.1.typed p.0 (λ e. (both-empty (ungrouped scope [] a.0) (ungrouped scope [] b.0) (some e)).0))
        (b.1.typed p.1 (λ e. (both-empty (ungrouped scope [] a.0) (ungrouped scope [] b.0) (some e)).1));
  }
  level (Tree-F.Not place a) = record { typed = λ flat some. unary-typed (λ v. value_of (not3 (truth_of v))) not_type not-typed (group_value envs a.0) (tree_type rows scope a.0) (a.1.typed flat some) }
  level (Tree-F.IsNull place a) = record { typed = λ flat some. null-typed (group_value envs a.0) (tree_type rows scope a.0) }
  level (Tree-F.Aggregate place agg None) = record { typed = λ flat some. counted }
  level (Tree-F.Aggregate place agg (Some a)) = record {
    typed = λ flat some.
        folded-typed agg a.0 (tree_type rows scope a.0)
        (λ env h. subst (λ v. Typed v (tree_type rows scope a.0)) (sym (meant-value env a.0)) (value-typed rows scope env h a.0 (no-aggregate a.0 flat)));
  }

  carried : (p q : Aggregates) (c d : List ℕ) (m n : Meant) (s t : Sized) → p ≡ q → c ≡ d → m ≡ n → s ≡ t → Sound envs p c m s → Sound envs q d n t
  carried p q c d m n s t e f g h k = subst (Sound envs q d n) h (subst (λ x. Sound envs q d x s) g (subst (λ x. Sound envs q x m s) f (subst (λ x. Sound envs x c m s) e k)))

  at_roll : (x : Tree-F Tree) → IsSoundLevel x → IsSound (roll-Tree x)
  at_roll x l = carried _ _ _ _ _ _ _ _ (sym (fold-roll-Tree Aggregates aggregates_step x)) (sym (fold-roll-Tree (List ℕ) (ungrouped_step scope []) x)) (sym (fold-roll-Tree Meant meant_step x)) (sym (fold-roll-Tree Sized (sized_step rows scope) x)) l

  sound : (tree : Tree) → IsSound tree
  sound = ind-Tree IsSound (λ x y is. subst (λ z. IsSound (roll-Tree z)) is (at_roll _ (level y)))

  pub group-typed : (tree : Tree) → (aggregates_in tree).nested ≡ [] → (envs ≡ [] → ungrouped scope [] tree ≡ []) → Typed (group_value envs tree) (tree_type rows scope tree)
  group-typed tree flat some = (sound tree).typed flat some
