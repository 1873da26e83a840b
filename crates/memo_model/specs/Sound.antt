-- When a memo is sound: over a schema with tiles, and every database that fits the schema.
use Rattle.std.specs.Prelude.{◌≡◌, ◌≢◌, ℕ, ◌<◌, ◌≤◌, List, [], length, slice_index_or, Option, Some, ⊤}
use Rattle.cal_schema.specs.declared.database.Db.{Db}
use Rattle.cal_schema.specs.declared.rel_type.RelType.{RelType}
use Rattle.cal_schema.specs.Fits.{Fits}
use Rattle.cal_schema.specs.RelType.{IsTrueOf, IsWithin, kinds_of}
use Rattle.cal_schema.specs.Valid.{IsValidSchema}
use Rattle.cal_rel.specs.Bag.{bag, width}
use Rattle.cal_rel.specs.Holes.{filled, EachHole}
use Rattle.cal_rel.specs.Info.{Info, set_at}
use Rattle.cal_rel.specs.Meaning.{MeansTheSame}
use Rattle.cal_rel.specs.Operators.{Row}
use Rattle.cal_rel.specs.Tree.{Leaf, scan, tile_scan, star_scan, empty_of, Tree, leaf, unary, binary, hole}
use Rattle.cal_rel.specs.Typing.{type_of}
use Rattle.memo_model.specs.declared.TheConstants.{MEMBER_LIMIT}
use Rattle.memo_model.specs.Sets.{Member, Sets, seed_at, became, IsThere, Has}

-- read over sets of these types
abbrev pub over : Info → List (Option RelType) → Info
over info types = record info { sets = types }

-- ---- trees

abbrev pub IsHole : Tree → Type 0
IsHole (leaf l) = ⊥
IsHole (unary u t) = ⊥
IsHole (binary b s t) = ⊥
IsHole (hole k) = ⊤

-- one node whose inputs are holes
abbrev pub IsNode : Tree → Type 0
IsNode (leaf l) = ⊤
IsNode (unary u t) = IsHole t
IsNode (binary b s t) = IsHole s × IsHole t
IsNode (hole k) = ⊥

-- the table, the place among tiles or the lattice is there
abbrev pub IsLeafOf : Info → Leaf → Type 0
IsLeafOf info (scan table) = table < length info.schema.tables
IsLeafOf info (tile_scan at) = at < length info.tiles
IsLeafOf info (star_scan lattice) = lattice < length info.stars
IsLeafOf info (empty_of types) = ⊤

-- no holes, and each leaf is there
abbrev pub IsClosed : Info → Tree → Type 0
IsClosed info (leaf l) = IsLeafOf info l
IsClosed info (unary u t) = IsClosed info t
IsClosed info (binary b s t) = IsClosed info s × IsClosed info t
IsClosed info (hole k) = ⊥

-- over every database that fits, both mean the same bag; said of trees without holes, so that no set is asked for
abbrev pub AreSame : Info → Tree → Tree → Type 0
AreSame info a b = MeansTheSame (over info []) a b

-- the tree, its holes filled with the seeds of their sets, means the same bag as the seed of the set k
abbrev pub Means : Info → List Tree → Tree → ℕ → Type 0
Means info seeds t k = AreSame info (filled (seed_at seeds) t) (seed_at seeds k)

-- the type is true of the rows that the tree, which has no holes, means over every database that fits
abbrev pub IsTypeOf : Info → RelType → Tree → Type 0
IsTypeOf info t tree = (db : Db) (holes : ℕ → List Row) → Fits db info.schema → IsTrueOf t (bag (over info []) db holes tree)

-- ---- sets and members

-- The seed of a set of this type: it has no holes and as many columns as the type, which is true of the rows that it means. The ends
-- of the type's intervals stand in order, so that it is at most as wide as itself.
pub record IsSeed (info : Info) (t : RelType) (seed : Tree) : Type 0 where
  pub closed : IsClosed info seed
  pub columns : width (over info []) seed ≡ length t.columns
  pub true : IsTypeOf info t seed
  pub ordered : IsWithin t t

-- The member of a set: one node over sets that are there, well formed over their types, with as many columns as its own set and of
-- the same kinds, and it means what its set means. Its bound of rows may be wider than that of its set.
pub record IsMember (info : Info) (seeds : List Tree) (types : List (Option RelType)) (s : ℕ) (node : Tree) : Type 0 where
  pub there : IsThere types s
  pub shape : IsNode node
  pub holes : EachHole (IsThere types) node
  pub own : RelType
  pub typed : type_of (over info types) node ≡ Some own
  pub kinds : kinds_of own.columns ≡ kinds_of there.found.columns
  pub means : Means info seeds node s

-- ---- the memo

-- Sound over a valid schema, but for expressions that occur twice. The lists by number are equally long, a number has become a set
-- that is there, and no more sets were made than members added.
pub record IsCoherent (info : Info) (m : Sets) : Type 0 where
  pub valid : IsValidSchema info.schema
  pub seed_count : length m.seeds ≡ length m.types
  pub number_count : length m.numbers ≡ length m.types
  pub made : length m.types ≤ m.added
  pub stays : (k : ℕ) → IsThere m.types k → became m.numbers k ≡ k
  pub leads : (k : ℕ) → k < length m.numbers → IsThere m.types (became m.numbers k)
  pub seeds : (k : ℕ) (t : RelType) → set_at m.types k ≡ Some t → IsSeed info t (seed_at m.seeds k)
  pub members : (s : ℕ) (node : Tree) → Has m.members s node → IsMember info m.seeds m.types s node

-- no expression occurs twice
pub record IsUnique (members : List Member) : Type 0 where
  pub once : (i j : ℕ) (d : Member) → i < length members → j < length members → (slice_index_or members i d).tree ≡ (slice_index_or members j d).tree → i ≡ j

-- The memo is sound over every database that fits the schema. No more members were ever added than the limit allows.
pub record IsSound (info : Info) (m : Sets) : Type 0 where
  pub coherent : IsCoherent info m
  pub unique : IsUnique m.members
  pub full : m.added ≤ MEMBER_LIMIT

-- ---- what a call may be handed

-- two sets that may become one
pub record MayMerge (info : Info) (m : Sets) (a b : ℕ) : Type 0 where
  pub apart : a ≢ b
  pub first : IsThere m.types a
  pub second : IsThere m.types b
  pub kinds : kinds_of first.found.columns ≡ kinds_of second.found.columns
  pub same : AreSame info (seed_at m.seeds a) (seed_at m.seeds b)

-- the set is there, has the column kinds of the tree, whose type is `t`, and no bag differs
pub record MayStand (info : Info) (m : Sets) (x : Tree) (t : RelType) (s : ℕ) : Type 0 where
  pub there : IsThere m.types s
  pub kinds : kinds_of t.columns ≡ kinds_of there.found.columns
  pub means : Means info m.seeds x s

-- what `register` asks: the tree is well formed, and may stand in the set
pub record MayRegister (info : Info) (m : Sets) (x : Tree) (s : ℕ) : Type 0 where
  pub own : RelType
  pub typed : type_of (over info m.types) x ≡ Some own
  pub stand : MayStand info m x own s
