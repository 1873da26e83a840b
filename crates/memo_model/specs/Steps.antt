-- The steps of a memo: a node is placed, a tree is entered from its inputs up, two sets become one, a member is taken away.
use Rattle.std.specs.Prelude.{ℕ, ◌+◌, ◌==◌, List, [], ◌∷◌, ◌++◌, map, length, remove, slice_set, cond, nat_lt, Option, Some, None}
use Rattle.cal_schema.specs.declared.rel_type.RelType.{RelType}
use Rattle.cal_schema.specs.RelType.{met_rel_type}
use Rattle.cal_rel.specs.Holes.{renumbered, filled}
use Rattle.cal_rel.specs.Info.{Info, set_at}
use Rattle.cal_rel.specs.Tree.{Tree, leaf, unary, binary, hole}
use Rattle.cal_rel.specs.Typing.{type_of}
use Rattle.memo_model.specs.Sets.{Member, Sets, seed_at}
use Rattle.memo_model.specs.Same.{same_tree}
use Rattle.memo_model.specs.Sound.{over}

-- ---- types

-- what both say, of a set that is there
abbrev pub met : Option RelType → Option RelType → Option RelType
met None t = None
met (Some s) None = Some s
met (Some s) (Some t) = Some (met_rel_type s t)

-- what is known of the rows of a tree whose root is this node over sets
abbrev pub joint_type : Info → List (Option RelType) → Tree → Tree → Option RelType
joint_type info types x node = met (type_of (over info types) node) (type_of (over info types) x)

-- a set whose type is also `t`
abbrev pub narrowed : ℕ → Option RelType → Sets → Sets
narrowed k t m = record m { types = slice_set m.types k (met (set_at m.types k) t) }

-- ---- members

-- one more member of a set
abbrev pub pushed : ℕ → Tree → Sets → Sets
pushed k node m = record m { members = m.members ++ record { set = k; tree = node } ∷ []; added = m.added + 1 }

-- one more set, of this node alone
abbrev pub with_set : Tree → Option RelType → Sets → Sets
with_set node t m = record {
  members = m.members ++ record { set = length m.types; tree = node } ∷ [];
  seeds = m.seeds ++ filled (seed_at m.seeds) node ∷ [];
  types = m.types ++ t ∷ [];
  numbers = m.numbers ++ length m.types ∷ [];
  added = m.added + 1;
}

-- the set of the first member with that node
abbrev pub found : Tree → List Member → Option ℕ
found node [] = None
found node (m ∷ more) = cond (same_tree m.tree node) (Some m.set) (found node more)

-- ---- a tree

-- a memo, and the set that is meant
pub record Placed : Type 0 where
  pub sets : Sets
  pub set : ℕ

-- a node that is in this set, or becomes a member of the target or else of a set of its own
abbrev pub place : Tree → Option RelType → Option ℕ → Option ℕ → Sets → Placed
place node t target (Some k) m = record { sets = narrowed k t m; set = k }
place node t (Some k) None m = record { sets = narrowed k t (pushed k node m); set = k }
place node t None None m = record { sets = with_set node t m; set = length m.types }

-- the root of the tree `x`, where its inputs are in: the node is found, or placed
abbrev pub placed : Info → Option ℕ → Tree → Tree → Sets → Placed
placed info target x node m = place node (joint_type info m.types x node) target (found node m.members) m

-- A tree is entered with its inputs first, the left one before the right one. A hole stands in its own set.
abbrev pub entered : Info → Option ℕ → Tree → Sets → Placed
entered info target (leaf l) m = placed info target (leaf l) (leaf l) m
entered info target (unary u t) m =
    let below = entered info None t m in
    placed info target (unary u t) (unary u (hole below.set)) below.sets
entered info target (binary b s t) m =
    let left = entered info None s m in
    let right = entered info None t left.sets in
    placed info target (binary b s t) (binary b (hole left.set) (hole right.set)) right.sets
entered info target (hole k) m = record { sets = m; set = k }

-- ---- merges

-- the set `kept` in the place of `gone`
unfoldable pub in_place : ℕ → ℕ → ℕ → ℕ
in_place kept gone k = cond (k == gone) kept k

abbrev pub moved : ℕ → ℕ → Member → Member
moved kept gone member = record { set = in_place kept gone member.set; tree = renumbered (in_place kept gone) member.tree }

-- the set `gone` becomes the set `kept`, whose type is also that of `gone`
abbrev pub merged : ℕ → ℕ → Sets → Sets
merged kept gone m = record {
  members = map (moved kept gone) m.members;
  seeds = m.seeds;
  types = slice_set (slice_set m.types kept (met (set_at m.types kept) (set_at m.types gone))) gone None;
  numbers = map (in_place kept gone) m.numbers;
  added = m.added;
}

-- without the member at this place
abbrev pub without : ℕ → Sets → Sets
without j m = record m { members = remove m.members j }

-- two sets become one, under the lower number
unfoldable pub united : ℕ → ℕ → Sets → Sets
united a b m = cond (nat_lt a b) (merged a b m) (cond (nat_lt b a) (merged b a m) m)
