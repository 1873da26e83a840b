-- The value of the expression that a tree stands for.
use Rattle.std.proofs.Common.{◌≡◌, ◌<◌, ◌+◌, ◌∙◌, sym, ap, subst, refl, ℕ, zero, suc, arith, zero-add, List, [], ◌∷◌, ◌++◌, length, map, Option, Some, None, unwrap_or, option_map}
use Rattle.std.proofs.lemmas.List.Elements.{All-head, All-tail}
use Rattle.sql_meaning.proofs.Places.{length-types, place_in-within}
use Rattle.cal_value.specs.declared.value.Value.{Value}
use Rattle.cal_value.specs.declared.value.Value.TheVariants.{Null, Bool as BoolValue}
use Rattle.cal_value.specs.Logic.{not3, truth_of, value_of, is_null}
use Rattle.cal_value.specs.Order.{column_of}
use Rattle.cal_expr.specs.declared.expr.Expr.{Expr}
use Rattle.cal_expr.specs.Meaning.{meaning_of, meaning_step, applied, negated}
use Rattle.sql_tree.specs.declared.tree.ColumnName.{ColumnName}
use Rattle.sql_tree.specs.declared.tree.Tree.{Tree}
use Rattle.sql_tree.specs.declared.tree.Tree.TheFolds.{fold-roll-Tree, ind-Tree, map-Tree}
use Rattle.sql_tree.specs.declared.tree.Tree.TheOpen.{Tree-F}
use Rattle.sql_tree.specs.declared.tree.Tree.TheViews.{roll-Tree}
use Rattle.sql_meaning.specs.Scope.{Header, column_at, place_in, place_of, types_in}
use Rattle.sql_meaning.specs.Value.{EntryRow, look_up, value, value_step}
use Rattle.sql_to_rel.specs.Numbered.{numbered, numbered_step, flat, IsFull, AreFull}
use Rattle.sql_to_rel.proofs.Rolls.{fold-Column, fold-Literal, fold-Negate, fold-Binary, fold-Not, fold-IsNull}

abbrev headers : List EntryRow → List Header
headers env = map (λ b. b.header) env

column_of-front : (row rest : List Value) (at : ℕ) → at < length row → column_of (row ++ rest) at ≡ column_of row at
column_of-front [] rest at lt = absurd (omega arith)
column_of-front (v ∷ row) rest zero lt = refl
column_of-front (v ∷ row) rest (suc at) lt = column_of-front row rest at (omega arith)

column_of-behind : (row rest : List Value) (at : ℕ) → column_of (row ++ rest) (length row + at) ≡ column_of rest at
column_of-behind [] rest at = ap (column_of rest) (zero-add at)
column_of-behind (v ∷ row) rest at =
    let next : length (v ∷ row) + at ≡ suc (length row + at) = omega arith in
    ap (column_of (v ∷ (row ++ rest))) next ∙ column_of-behind row rest at

-- of the first entry, or of the others
place-front : (h : Header) (hs : List Header) (c : ColumnName) (at : ℕ) → place_in h c ≡ Some at → column_at (h ∷ hs) c ≡ at
place-front h hs c at e = ap (λ o. unwrap_or (unwrap_or (option_map Some o) (option_map (λ k. length h.table.columns + k) (place_of hs c))) (length (types_in (h ∷ hs)))) e

place-behind : (h : Header) (hs : List Header) (c : ColumnName) → place_in h c ≡ None → column_at (h ∷ hs) c ≡ length h.table.columns + column_at hs c
place-behind h hs c e =
    ap (λ o. unwrap_or (unwrap_or (option_map Some o) (option_map (λ k. length h.table.columns + k) (place_of hs c))) (length (types_in (h ∷ hs)))) e
    ∙ by (place_of hs c)
  where
    by : (o : Option ℕ) → unwrap_or (option_map (λ k. length h.table.columns + k) o) (length (types_in (h ∷ hs))) ≡ length h.table.columns + unwrap_or o (length (types_in hs))
    by None = length-types h hs
    by (Some at) = refl

-- the column of the row of all entries
pub look_up-flat : (env : List EntryRow) (c : ColumnName) → AreFull env → column_of (flat env) (column_at (headers env) c) ≡ look_up env c
look_up-flat [] c full = refl
look_up-flat (b ∷ bs) c full = by (place_in b.header c) refl (look_up-flat bs c (All-tail IsFull b bs full))
  where
    by : (o : Option ℕ) → place_in b.header c ≡ o → column_of (flat bs) (column_at (headers bs) c) ≡ look_up bs c → column_of (flat (b ∷ bs)) (column_at (headers (b ∷ bs)) c) ≡ unwrap_or (option_map (column_of b.row) o) (look_up bs c)
    by None e later =
        ap (column_of (flat (b ∷ bs))) (place-behind b.header (headers bs) c e ∙ ap (λ n. n + column_at (headers bs) c) (sym (All-head IsFull b bs full)))
        ∙ column_of-behind b.row (flat bs) (column_at (headers bs) c)
        ∙ later
    by (Some at) e later =
        ap (column_of (flat (b ∷ bs))) (place-front b.header (headers bs) c at e)
        ∙ column_of-front b.row (flat bs) at (let lt : at < length b.header.table.columns = place_in-within b.header c at e in let long : length b.row ≡ length b.header.table.columns = All-head IsFull b bs full in omega arith)

abbrev IsSame : List EntryRow → Tree → Type 0
IsSame env tree = meaning_of (numbered (headers env) tree) (flat env) ≡ value env tree

-- one level, whose parts have the same values
abbrev IsSameLevel : List EntryRow → Tree-F Tree → Type 0
IsSameLevel env x = meaning_of (numbered_step (headers env) (map-Tree Tree Expr (numbered (headers env)) x)) (flat env) ≡ value_step env (map-Tree Tree Value (value env) x)

level : (env : List EntryRow) → AreFull env → (y : Tree-F ((t : Tree) × IsSame env t)) → IsSameLevel env (map-Tree ((t : Tree) × IsSame env t) Tree (λ t. t.0) y)
level env full (Tree-F.Column place name) = fold-Column (meaning_step (flat env)) (column_at (headers env) name) ∙ look_up-flat env name full
level env full (Tree-F.Literal place v) = fold-Literal (meaning_step (flat env)) v
level env full (Tree-F.Negate place a) = fold-Negate (meaning_step (flat env)) (numbered (headers env) a.0) ∙ ap negated a.1
level env full (Tree-F.Binary place op a b) =
    fold-Binary (meaning_step (flat env)) op (numbered (headers env) a.0) (numbered (headers env) b.0)
    ∙ ap (λ v. applied op v (meaning_of (numbered (headers env) b.0) (flat env))) a.1
    ∙ ap (applied op (value env a.0)) b.1
level env full (Tree-F.Not place a) = fold-Not (meaning_step (flat env)) (numbered (headers env) a.0) ∙ ap (λ v. value_of (not3 (truth_of v))) a.1
level env full (Tree-F.IsNull place a) = fold-IsNull (meaning_step (flat env)) (numbered (headers env) a.0) ∙ ap (λ v. BoolValue (is_null v)) a.1
level env full (Tree-F.Aggregate place agg a) = fold-Literal (meaning_step (flat env)) Null

at_roll : (env : List EntryRow) (x : Tree-F Tree) → IsSameLevel env x → IsSame env (roll-Tree x)
at_roll env x l = ap (λ e. meaning_of e (flat env)) (fold-roll-Tree Expr (numbered_step (headers env)) x) ∙ l ∙ sym (fold-roll-Tree Value (value_step env) x)

pub meaning_of-numbered : (env : List EntryRow) → AreFull env → (tree : Tree) → meaning_of (numbered (headers env) tree) (flat env) ≡ value env tree
meaning_of-numbered env full = ind-Tree (IsSame env) (λ x y is. subst (λ z. IsSame env (roll-Tree z)) is (at_roll env _ (level env full y)))
