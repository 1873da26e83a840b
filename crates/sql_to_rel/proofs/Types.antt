-- The type of the expression that a tree stands for.
use Rattle.std.proofs.Common.{◌≡◌, ◌≤◌, ◌∙◌, sym, ap, subst, refl, ℕ, Bool, true, false, ◌||◌, arith, List, length, Option, Some, None, slice_get, unwrap_or}
use Rattle.std.specs.Option.{option_and_then, option_map}
use Rattle.std.proofs.lemmas.Option.{slice_get_past}
use Rattle.cal_value.specs.declared.kind.SqlType.{SqlType}
use Rattle.cal_value.specs.Types.{boolean_type}
use Rattle.cal_expr.specs.declared.expr.Expr.{Expr}
use Rattle.cal_expr.specs.Typing.{type_of, type_step, column_type, negation_type, not_type, op_type, of_both}
use Rattle.sql_tree.specs.declared.tree.Tree.{Tree}
use Rattle.sql_tree.specs.declared.tree.Tree.TheFolds.{fold-roll-Tree, ind-Tree, map-Tree}
use Rattle.sql_tree.specs.declared.tree.Tree.TheOpen.{Tree-F}
use Rattle.sql_tree.specs.declared.tree.Tree.TheViews.{roll-Tree}
use Rattle.sql_meaning.specs.Parts.{aggregate_step, has_aggregate}
use Rattle.sql_meaning.specs.Scope.{Header, column_at, place_of, types_in}
use Rattle.sql_meaning.specs.Sizes.{Sized, sized, sized_step, tree_type}
use Rattle.sql_to_rel.specs.Numbered.{numbered, numbered_step}
use Rattle.sql_to_rel.proofs.Rolls.{fold-Column, fold-Literal, fold-Negate, fold-Binary, fold-Not, fold-IsNull}

-- the place past the end has no type
column-same : (ts : List SqlType) (o : Option ℕ) → option_and_then column_type (slice_get ts (unwrap_or o (length ts))) ≡ option_and_then column_type (option_and_then (slice_get ts) o)
column-same ts None = let past : length ts ≤ length ts = omega arith in ap (option_and_then column_type) (slice_get_past ts (length ts) past)
column-same ts (Some at) = refl

abbrev IsSame : ℕ → List Header → Tree → Type 0
IsSame rows scope tree = has_aggregate tree ≡ false → type_of (numbered scope tree) (types_in scope) ≡ tree_type rows scope tree

-- one level, whose parts have the same types
abbrev IsSameLevel : ℕ → List Header → Tree-F Tree → Type 0
IsSameLevel rows scope x =
    aggregate_step (map-Tree Tree Bool has_aggregate x) ≡ false
    → type_of (numbered_step scope (map-Tree Tree Expr (numbered scope) x)) (types_in scope) ≡ (sized_step rows scope (map-Tree Tree Sized (sized rows scope) x)).type

pub neither : (p q : Bool) → (p || q) ≡ false → (p ≡ false) × (q ≡ false)
neither true q e = absurd (cc)
neither false q e = (refl, e)

level : (rows : ℕ) (scope : List Header) (y : Tree-F ((t : Tree) × IsSame rows scope t)) → IsSameLevel rows scope (map-Tree ((t : Tree) × IsSame rows scope t) Tree (λ t. t.0) y)
level rows scope (Tree-F.Column place name) = λ plain. fold-Column (type_step (types_in scope)) (column_at scope name) ∙ column-same (types_in scope) (place_of scope name)
level rows scope (Tree-F.Literal place v) = λ plain. fold-Literal (type_step (types_in scope)) v
level rows scope (Tree-F.Negate place a) = λ plain. fold-Negate (type_step (types_in scope)) (numbered scope a.0) ∙ ap (option_and_then negation_type) (a.1 plain)
level rows scope (Tree-F.Binary place op a b) = λ plain.
    let p = neither (has_aggregate a.0) (has_aggregate b.0) plain in
    fold-Binary (type_step (types_in scope)) op (numbered scope a.0) (numbered scope b.0)
    ∙ ap (λ s. of_both (op_type op) s (type_of (numbered scope b.0) (types_in scope))) (a.1 p.0)
    ∙ ap (of_both (op_type op) (tree_type rows scope a.0)) (b.1 p.1)
level rows scope (Tree-F.Not place a) = λ plain. fold-Not (type_step (types_in scope)) (numbered scope a.0) ∙ ap (option_and_then not_type) (a.1 plain)
level rows scope (Tree-F.IsNull place a) = λ plain. fold-IsNull (type_step (types_in scope)) (numbered scope a.0) ∙ ap (option_map (λ _. boolean_type false)) (a.1 plain)
level rows scope (Tree-F.Aggregate place agg a) = λ plain. absurd (cc)

at_roll : (rows : ℕ) (scope : List Header) (x : Tree-F Tree) → IsSameLevel rows scope x → IsSame rows scope (roll-Tree x)
at_roll rows scope x l = λ plain.
    ap (λ e. type_of e (types_in scope)) (fold-roll-Tree Expr (numbered_step scope) x)
    ∙ l (sym (fold-roll-Tree Bool aggregate_step x) ∙ plain)
    ∙ sym (ap (λ (s : Sized). s.type) (fold-roll-Tree Sized (sized_step rows scope) x))

pub type_of-numbered : (rows : ℕ) (scope : List Header) (tree : Tree) → has_aggregate tree ≡ false → type_of (numbered scope tree) (types_in scope) ≡ tree_type rows scope tree
type_of-numbered rows scope = ind-Tree (IsSame rows scope) (λ x y is. subst (λ z. IsSame rows scope (roll-Tree z)) is (at_roll rows scope _ (level rows scope y)))
