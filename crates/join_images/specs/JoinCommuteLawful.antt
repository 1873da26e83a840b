-- JoinCommute is lawful: the pairs of two lists are the same bag in the other order.
use Rattle.std.proofs.Common.{◌≡◌, ℕ, zero, suc, ◌+◌, ◌-◌, ◌<◌, ◌≤◌, nat_lt, Bool, true, false, cond, List, [], ◌∷◌, ◌++◌, map, length, All, Some, refl, sym, ◌∙◌, ap, subst, append-nil, slice_get, length-append, arith}
use mathlib.Core.Path.{ap₂}
use Rattle.std.specs.List.{flat_map, range_with_len}
use Rattle.std.specs.Option.{option_map}
use Rattle.std.proofs.lemmas.Bool.Decides.{nat_tests}
use Rattle.std.proofs.lemmas.List.{map-append}
use Rattle.std.proofs.lemmas.List.Elements.{All-head, All-tail}
use Rattle.std.proofs.lemmas.List.FromFn.{length-range_with_len}
use Rattle.cal_value.specs.declared.value.Value.{Value}
use Rattle.cal_value.specs.Logic.{is_true}
use Rattle.cal_value.specs.Order.{SameBag, column_of, columns_of}
use Rattle.cal_expr.specs.declared.expr.Expr.{Expr}
use Rattle.cal_expr.specs.declared.expr.Expr.TheVariants.{Column}
use Rattle.cal_schema.specs.declared.database.Db.{Db}
use Rattle.cal_schema.specs.declared.join_kind.JoinKind.TheVariants.{Inner}
use Rattle.cal_schema.specs.declared.rel_type.RelType.{RelType}
use Rattle.cal_schema.specs.Fits.{Fits}
use Rattle.cal_schema.specs.Valid.{IsValidSchema}
use Rattle.cal_rel.specs.Bag.{bag, width}
use Rattle.cal_rel.specs.Holes.{renumbered, EachHole, Narrows}
use Rattle.cal_rel.specs.Info.{Info}
use Rattle.cal_rel.specs.Meaning.{AreTrueOf}
use Rattle.cal_rel.specs.Operators.{Row, holds, projected, partners}
use Rattle.cal_rel.specs.Tree.{Tree, join_on, binary}
use Rattle.cal_rel.specs.Typing.{type_of}
use Rattle.cal_rel.proofs.Keys.{turned}
use Rattle.cal_rel.proofs.Totals.{total, total-map, total-filter, total-flat_map, total-ext, Weighs, SameBag-from_Weighs}
use Rattle.expr_parts.specs.Columns.{columns_read, over_columns}
use Rattle.expr_parts.proofs.ColumnLaws.{over_columns-mean}
use Rattle.expr_parts.proofs.ExprSteps.{meaning-Column}
use Rattle.rule_hep.specs.Local.{IsLocal}
use Rattle.filter_images.specs.FilterIntoJoinLawful.{rows-long, width-steady}
use Rattle.join_images.specs.JoinCommute.{exchanged_columns, commuted, commuted_join}
use Rattle.join_images.specs.JoinTypes.{join-typed}

-- ---- columns of two rows

shifted : (v : Value) (row : Row) (from n : ℕ) → columns_of (v ∷ row) (range_with_len (suc from) n) ≡ columns_of row (range_with_len from n)
shifted v row from zero = refl
shifted v row from (suc n) =
    let next : suc from + 1 ≡ suc (from + 1) = omega arith in
    ap (λ vs. column_of row from ∷ vs) (ap (λ k. columns_of (v ∷ row) (range_with_len k n)) next ∙ shifted v row (from + 1) n)

first-columns : (x y : Row) → columns_of (x ++ y) (range_with_len 0 (length x)) ≡ x
first-columns [] y = refl
first-columns (v ∷ x) y = ap (λ vs. v ∷ vs) (shifted v (x ++ y) 0 (length x) ∙ first-columns x y)

later-columns : (x y : Row) → columns_of (x ++ y) (range_with_len (length x) (length y)) ≡ y
later-columns [] y = ap (λ row. columns_of row (range_with_len 0 (length y))) (sym (append-nil y)) ∙ first-columns y []
later-columns (v ∷ x) y = shifted v (x ++ y) (length x) (length y) ∙ later-columns x y

-- of two rows in the other order
columns-exchanged : (m n : ℕ) (x y : Row) → length x ≡ m → length y ≡ n → columns_of (y ++ x) (exchanged_columns m n) ≡ x ++ y
columns-exchanged m n x y long other =
    subst (λ k. columns_of (y ++ x) (exchanged_columns k n) ≡ x ++ y) long
    (subst (λ k. columns_of (y ++ x) (exchanged_columns (length x) k) ≡ x ++ y) other
    (map-append (column_of (y ++ x)) (range_with_len (length y) (length x)) (range_with_len 0 (length y))
    ∙ ap₂ (λ vs ws. vs ++ ws) (later-columns y x) (first-columns y x)))

length-exchanged : (m n : ℕ) → length (exchanged_columns m n) ≡ m + n
length-exchanged m n = length-append (range_with_len n m) (range_with_len 0 n) ∙ ap₂ (λ a b. a + b) (length-range_with_len n m) (length-range_with_len 0 n)

at-range : (from n : ℕ) (more : List ℕ) (at : ℕ) → at < n → slice_get (range_with_len from n ++ more) at ≡ Some (from + at)
at-range from zero more at l = absurd (omega arith)
at-range from (suc n) more zero l = ap Some (omega arith)
at-range from (suc n) more (suc at) l = at-range (from + 1) n more at (omega arith) ∙ ap Some (omega arith)

past-range : (from n : ℕ) (more : List ℕ) (at : ℕ) → n ≤ at → slice_get (range_with_len from n ++ more) at ≡ slice_get more (at - n)
past-range from zero more at l = ap (slice_get more) (omega arith)
past-range from (suc n) more zero l = absurd (omega arith)
past-range from (suc n) more (suc at) l = past-range (from + 1) n more at (omega arith) ∙ ap (slice_get more) (omega arith)

-- a column of the left rows is moved behind the right ones, and one of the right rows to the beginning
pub column-exchanged : (m n at : ℕ) → at < m + n → slice_get (exchanged_columns m n) at ≡ Some (cond (nat_lt at m) (at + n) (at - m))
column-exchanged m n at l = by (nat_lt at m) refl
  where
    by : (b : Bool) → nat_lt at m ≡ b → slice_get (exchanged_columns m n) at ≡ Some (cond b (at + n) (at - m))
    by true e =
        let below : at < m = grind (arith, nat_tests) in
        at-range n m (range_with_len 0 n) at below ∙ ap Some (omega arith)
    by false e =
        let past : m ≤ at = grind (arith, nat_tests) in
        past-range n m (range_with_len 0 n) at past
        ∙ ap (λ columns. slice_get columns (at - m)) (sym (append-nil (range_with_len 0 n)))
        ∙ at-range 0 n [] (at - m) (omega arith) ∙ ap Some (omega arith)

projected-columns : (columns : List ℕ) (row : Row) → projected (map (λ at. Column at) columns) row ≡ columns_of row columns
projected-columns [] row = refl
projected-columns (at ∷ columns) row = ap₂ (λ v vs. v ∷ vs) (meaning-Column at row) (projected-columns columns row)

items-restore : (m n : ℕ) (x y : Row) → length x ≡ m → length y ≡ n → projected (map (λ at. Column at) (exchanged_columns m n)) (y ++ x) ≡ x ++ y
items-restore m n x y long other = projected-columns (exchanged_columns m n) (y ++ x) ∙ columns-exchanged m n x y long other

condition-agrees : (m n : ℕ) (on : Expr) → All (λ at. at < m + n) (columns_read on) → (x y : Row) → length x ≡ m → length y ≡ n
    → holds (over_columns (exchanged_columns m n) on) (y ++ x) ≡ holds on (x ++ y)
condition-agrees m n on reads x y long other =
    ap is_true (over_columns-mean (exchanged_columns m n) on (y ++ x) (subst (λ k. All (λ at. at < k) (columns_read on)) (sym (length-exchanged m n)) reads))
    ∙ ap (holds on) (columns-exchanged m n x y long other)

-- ---- pairs

total-same : {A : Type 0} (P : A → Type 0) (f g : A → ℕ) → ((x : A) → P x → f x ≡ g x) → (xs : List A) → All P xs → total f xs ≡ total g xs
total-same P f g h [] all = refl
total-same P f g h (x ∷ xs) all = ap₂ (λ m n. m + n) (h x (All-head P x xs all)) (total-same P f g h xs (All-tail P x xs all))

abbrev of_pair : (Row → ℕ) → Expr → Row → ℕ
of_pair f on row = cond (holds on row) (f row) 0

total-partners : (f : Row → ℕ) (on : Expr) (right : List Row) (x : Row) → total f (partners on right x) ≡ total (λ y. of_pair f on (x ++ y)) right
total-partners f on right x = total-filter f (holds on) (map (λ y. x ++ y) right) ∙ total-map (of_pair f on) (λ y. x ++ y) right

total-pairs : (f : Row → ℕ) (on : Expr) (left right : List Row) → total f (flat_map (partners on right) left) ≡ total (λ x. total (λ y. of_pair f on (x ++ y)) right) left
total-pairs f on left right =
    total-flat_map f (partners on right) left ∙ total-ext (λ x. total f (partners on right x)) (λ x. total (λ y. of_pair f on (x ++ y)) right) (total-partners f on right) left

-- the pairs in the other order, each with its columns restored
pairs-commute : (P Q : Row → Type 0) (on other : Expr) (items : List Expr)
    → ((x y : Row) → P x → Q y → holds other (y ++ x) ≡ holds on (x ++ y)) → ((x y : Row) → P x → Q y → projected items (y ++ x) ≡ x ++ y)
    → (left right : List Row) → All P left → All Q right → Weighs (map (projected items) (flat_map (partners other left) right)) (flat_map (partners on right) left)
pairs-commute P Q on other items agree restore left right all others = record { same = same }
  where
    one : (f : Row → ℕ) (x y : Row) → P x → Q y → of_pair (λ row. f (projected items row)) other (y ++ x) ≡ of_pair f on (x ++ y)
    one f x y p q = ap₂ (λ b n. cond b n 0) (agree x y p q) (ap f (restore x y p q))

    each : (f : Row → ℕ) (y : Row) → Q y → total (λ x. of_pair (λ row. f (projected items row)) other (y ++ x)) left ≡ total (λ x. of_pair f on (x ++ y)) left
    each f y q = total-same P (λ x. of_pair (λ row. f (projected items row)) other (y ++ x)) (λ x. of_pair f on (x ++ y)) (λ x p. one f x y p q) left all

    same : (f : Row → ℕ) → total f (map (projected items) (flat_map (partners other left) right)) ≡ total f (flat_map (partners on right) left)
    same f =
        total-map f (projected items) (flat_map (partners other left) right)
        ∙ total-pairs (λ row. f (projected items row)) other right left
        ∙ total-same Q (λ y. total (λ x. of_pair (λ row. f (projected items row)) other (y ++ x)) left) (λ y. total (λ x. of_pair f on (x ++ y)) left) (each f) right others
        ∙ sym (turned (λ x y. of_pair f on (x ++ y)) left right)
        ∙ sym (total-pairs f on left right)

-- ---- the rule

commuted-bag : (info : Info) (db : Db) (holes : ℕ → List Row) (on : Expr) (s t : Tree) (u : RelType) → Fits db info.schema → AreTrueOf info.sets holes
    → type_of info (binary (join_on Inner on) s t) ≡ Some u
    → SameBag (bag info db holes (commuted (exchanged_columns (width info s) (width info t)) on s t)) (bag info db holes (binary (join_on Inner on) s t))
commuted-bag info db holes on s t u fits true_of typed =
    let m = width info s in
    let n = width info t in
    let columns = exchanged_columns m n in
    let join = join-typed info Inner on s t u typed in
    SameBag-from_Weighs (bag info db holes (commuted columns on s t)) (bag info db holes (binary (join_on Inner on) s t))
    (pairs-commute (λ x. length x ≡ m) (λ y. length y ≡ n) on (over_columns columns on) (map (λ at. Column at) columns)
    (condition-agrees m n on join.reads) (items-restore m n)
    (bag info db holes s) (bag info db holes t) (rows-long info db holes s join.left fits true_of) (rows-long info db holes t join.right fits true_of))

commuted-sets : (P : ℕ → Type 0) (info : Info) (rel out : Tree) → commuted_join info rel ≡ Some out → EachHole P rel → EachHole P out
commuted-sets P info (binary (join_on Inner on) s t) out e h =
    let is : commuted (exchanged_columns (width info s) (width info t)) on s t ≡ out = cc in
    subst (EachHole P) is (h.1, h.0)
commuted-sets P info _ out e h = absurd (cc)

commuted-means : (info : Info) (db : Db) (holes : ℕ → List Row) (rel out : Tree) (u : RelType) → Fits db info.schema → AreTrueOf info.sets holes → type_of info rel ≡ Some u
    → commuted_join info rel ≡ Some out → SameBag (bag info db holes out) (bag info db holes rel)
commuted-means info db holes (binary (join_on Inner on) s t) out u fits true_of typed e =
    let is : commuted (exchanged_columns (width info s) (width info t)) on s t ≡ out = cc in
    subst (λ made. SameBag (bag info db holes made) (bag info db holes (binary (join_on Inner on) s t))) is (commuted-bag info db holes on s t u fits true_of typed)
commuted-means info db holes _ out u fits true_of typed e = absurd (cc)

commuted-steady : (m : ℕ → ℕ) (from to : Info) (rel out : Tree) (u : RelType) → IsValidSchema from.schema → Narrows m from to → type_of from rel ≡ Some u
    → commuted_join from rel ≡ Some out → commuted_join to (renumbered m rel) ≡ Some (renumbered m out)
commuted-steady m from to (binary (join_on Inner on) s t) out u valid narrows typed e =
    let join = join-typed from Inner on s t u typed in
    ap₂ (λ left right. Some (commuted (exchanged_columns left right) on (renumbered m s) (renumbered m t)))
    (width-steady m from to s join.left valid narrows) (width-steady m from to t join.right valid narrows)
    ∙ ap (option_map (renumbered m)) e
commuted-steady m from to _ out u valid narrows typed e = absurd (cc)

pub local_commuted_join : IsLocal commuted_join
local_commuted_join = record {
  sets = λ info rel out p e h. commuted-sets (λ k. p k ≡ true) info rel out e h;
  means = λ info rel out s t typed made e db holes fits true_of. commuted-means info db holes rel out s fits true_of typed e;
  steady = λ m from to rel out t valid narrows typed e. commuted-steady m from to rel out t valid narrows typed e;
}
