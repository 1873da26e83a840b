-- A tree adds at most as many members as it has nodes, and the tree of an accepted SELECT has few.
use Rattle.std.proofs.Common.{◌≡◌, ℕ, ◌+◌, ◌*◌, ◌≤◌, ◌<◌, Bool, true, false, List, [], ◌∷◌, ◌++◌, length, Option, Some, None, arith, if◌then◌else◌}
use Rattle.std.specs.List.{list_all}
use Rattle.cal_schema.specs.declared.rel_type.RelType.{RelType}
use Rattle.cal_schema.specs.declared.schema.Schema.{Schema}
use Rattle.cal_expr.specs.declared.expr.Expr.{Expr}
use Rattle.cal_rel.specs.Info.{Info}
use Rattle.cal_rel.specs.Tree.{Tree as RelTree, leaf, unary, binary, hole}
use Rattle.memo_model.specs.declared.TheConstants.{MEMBER_LIMIT}
use Rattle.memo_model.specs.Sets.{Sets}
use Rattle.memo_model.specs.Steps.{found, joint_type, place, placed, entered}
use Rattle.sql_tree.specs.declared.select.FromEntry.{FromEntry}
use Rattle.sql_tree.specs.declared.select.Select.{Select}
use Rattle.sql_tree.specs.declared.tree.Tree.{Tree}
use Rattle.sql_meaning.specs.Parts.{is_aggregate_query}
use Rattle.sql_meaning.specs.Names.{places_from}
use Rattle.sql_meaning.specs.Scope.{Header, header_of, scope_of}
use Rattle.sql_to_rel.specs.Numbered.{numbered}
use Rattle.sql_algebra.specs.declared.layout.Layout.{Layout}
use Rattle.sql_algebra.specs.Algebra.{scan_of, joined_with, joins, from_tree, kept, takes_column, layout_of, placed as placed_tree, aggregate_tree, row_items, group_answer, answer_tree, once_tree, algebra}
use Rattle.sql_translate.specs.Translated.{IsAccepted}
use Rattle.sql_translate.proofs.Accepted.{few-tables}
use Rattle.sql_validator.specs.declared.checked.CheckedSelect.{CheckedSelect}
use Rattle.select_planning.specs.Start.{no_sets, IsTooLarge}

-- ---- entering

abbrev pub nodes : RelTree → ℕ
nodes (leaf l) = 1
nodes (unary u t) = nodes t + 1
nodes (binary b s t) = nodes s + nodes t + 1
nodes (hole k) = 0

place-few : (node : RelTree) (t : Option RelType) (target o : Option ℕ) (m : Sets) → (place node t target o m).sets.added ≤ m.added + 1
place-few node t target (Some k) m = omega arith
place-few node t (Some s) None m = omega arith
place-few node t None None m = omega arith

placed-few : (info : Info) (target : Option ℕ) (x node : RelTree) (m : Sets) → (placed info target x node m).sets.added ≤ m.added + 1
placed-few info target x node m = place-few node (joint_type info m.types x node) target (found node m.members) m

sum-one : (a b c n : ℕ) → b ≤ a + n → c ≤ b + 1 → c ≤ a + (n + 1)
sum-one a b c n h k = omega arith

sum-two : (a b c d n l : ℕ) → b ≤ a + n → c ≤ b + l → d ≤ c + 1 → d ≤ a + (n + l + 1)
sum-two a b c d n l h k j = omega arith

entered-few : (info : Info) (target : Option ℕ) (x : RelTree) (m : Sets) → (entered info target x m).sets.added ≤ m.added + nodes x
entered-few info target (leaf l) m = placed-few info target (leaf l) (leaf l) m
entered-few info target (unary u x) m =
    let below = entered info None x m in
    sum-one m.added below.sets.added (entered info target (unary u x) m).sets.added (nodes x) (entered-few info None x m)
    (placed-few info target (unary u x) (unary u (hole below.set)) below.sets)
entered-few info target (binary b x y) m =
    let left = entered info None x m in
    let right = entered info None y left.sets in
    sum-two m.added left.sets.added right.sets.added (entered info target (binary b x y) m).sets.added (nodes x) (nodes y) (entered-few info None x m) (entered-few info None y left.sets)
    (placed-few info target (binary b x y) (binary b (hole left.set) (hole right.set)) right.sets)
entered-few info target (hole k) m = omega arith

past-small : (n added : ℕ) → added ≤ 0 + n → n ≤ 1024 → 1024 < added → ⊥
past-small n added h k l = omega arith

small-fits : (info : Info) (tree : RelTree) → nodes tree ≤ MEMBER_LIMIT → IsTooLarge info tree → ⊥
small-fits info tree small large = past-small (nodes tree) (entered info None tree no_sets).sets.added (entered-few info None tree no_sets) small large.past

-- ---- the tree of a SELECT

cons-length : (entry : FromEntry) (entries : List FromEntry) → length (entry ∷ entries) ≡ length entries + 1
cons-length entry entries = grind arith

two-more : (n j l k : ℕ) → k ≡ l + 1 → j ≤ (n + 1 + 1) + 2 * l → j ≤ n + 2 * k
two-more n j l k e h = omega arith

one-more : (j l k : ℕ) → k ≡ l + 1 → j ≤ 1 + 2 * l → j ≤ 1 + 2 * k
one-more j l k e h = omega arith

joins-nodes : (schema : Schema) (before : List Header) (tree : RelTree) (entries : List FromEntry) → nodes (joins schema before tree entries) ≤ nodes tree + 2 * length entries
joins-nodes schema before tree [] = omega arith
joins-nodes schema before tree (entry ∷ entries) =
    let next = before ++ header_of schema entry ∷ [] in
    two-more (nodes tree) (nodes (joins schema next (joined_with schema next tree entry) entries)) (length entries) (length (entry ∷ entries)) (cons-length entry entries)
    (joins-nodes schema next (joined_with schema next tree entry) entries)

from-nodes : (schema : Schema) (from : List FromEntry) → nodes (from_tree schema from) ≤ 1 + 2 * length from
from-nodes schema [] = omega arith
from-nodes schema (entry ∷ entries) =
    one-more (nodes (joins schema (header_of schema entry ∷ []) (scan_of schema entry) entries)) (length entries) (length (entry ∷ entries)) (cons-length entry entries)
    (joins-nodes schema (header_of schema entry ∷ []) (scan_of schema entry) entries)

kept-nodes : (meaning : Tree → Expr) (condition : Option Tree) (tree : RelTree) → nodes (kept meaning condition tree) ≤ nodes tree + 1
kept-nodes meaning None tree = omega arith
kept-nodes meaning (Some condition) tree = omega arith

either-nodes : (b : Bool) (s t : RelTree) (n : ℕ) → nodes s ≤ n → nodes t ≤ n → nodes (if b then s else t) ≤ n
either-nodes true s t n h k = h
either-nodes false s t n h k = k

at-most : (a b c : ℕ) → a ≤ b → b ≤ c → a ≤ c
at-most a b c h k = omega arith

more : (a n d : ℕ) → a ≤ n → a ≤ n + d
more a n d h = omega arith

aggregate-nodes : (layout : Layout) (tree : RelTree) → nodes (aggregate_tree layout tree) ≤ nodes tree + 2
aggregate-nodes layout tree = either-nodes (list_all takes_column layout.calls) _ _ (nodes tree + 2) (one (nodes tree)) (two (nodes tree))
  where
    one : (n : ℕ) → n + 1 ≤ n + 2
    one n = omega arith

    two : (n : ℕ) → n + 1 + 1 ≤ n + 2
    two n = omega arith

group-nodes : (scope : List Header) (layout : Layout) (select : Select) (tree : RelTree) → nodes (group_answer scope layout select tree) ≤ nodes tree + 4
group-nodes scope layout select tree =
    sum (nodes tree) (nodes (aggregate_tree layout tree)) (nodes (kept (λ condition. (placed_tree scope condition).group layout) select.having (aggregate_tree layout tree)))
    (aggregate-nodes layout tree) (kept-nodes (λ condition. (placed_tree scope condition).group layout) select.having (aggregate_tree layout tree))
  where
    sum : (n a k : ℕ) → a ≤ n + 2 → k ≤ a + 1 → k + 1 ≤ n + 4
    sum n a k h l = omega arith

answer-nodes : (scope : List Header) (select : Select) (tree : RelTree) → nodes (answer_tree scope select tree) ≤ nodes tree + 4
answer-nodes scope select tree =
    either-nodes (is_aggregate_query select) _ _ (nodes tree + 4) (group-nodes scope (layout_of scope select) select tree) (one (nodes tree))
  where
    one : (n : ℕ) → n + 1 ≤ n + 4
    one n = omega arith

once-nodes : (asked : Bool) (columns : List ℕ) (tree : RelTree) → nodes (once_tree asked columns tree) ≤ nodes tree + 1
once-nodes true columns tree = omega arith
once-nodes false columns tree = omega arith

algebra-nodes : (schema : Schema) (select : Select) → nodes (algebra schema select) ≤ 7 + 2 * length select.from
algebra-nodes schema select =
    let scope = scope_of schema select in
    let from = from_tree schema select.from in
    let where_tree = kept (numbered scope) select.filter from in
    let answer = answer_tree scope select where_tree in
    sum (length select.from) (nodes from) (nodes where_tree) (nodes answer) (nodes (algebra schema select)) (from-nodes schema select.from) (kept-nodes (numbered scope) select.filter from)
    (answer-nodes scope select where_tree) (once-nodes select.distinct (places_from 0 (row_items scope select.items)) answer)
  where
    sum : (l f w a d : ℕ) → f ≤ 1 + 2 * l → w ≤ f + 1 → a ≤ w + 4 → d ≤ a + 1 → d ≤ 7 + 2 * l
    sum l f w a d h k j i = omega arith

pub algebra-fits : (schema : Schema) (made : CheckedSelect) (info : Info) → IsAccepted schema made → IsTooLarge info (algebra schema made.select) → ⊥
algebra-fits schema made info accepted large =
    small-fits info (algebra schema made.select) (few (length made.select.from) (nodes (algebra schema made.select)) (few-tables schema made accepted) (algebra-nodes schema made.select)) large
  where
    few : (l n : ℕ) → l ≤ 8 → n ≤ 7 + 2 * l → n ≤ 1024
    few l n h k = omega arith
