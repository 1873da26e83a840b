-- How many rows FROM has at most.
use Rattle.std.specs.Prelude.{ℕ, ◌-◌, ◌*◌, ◌==◌, ◌&&◌, nat_lt, nat_le, max, Bool, false, List, [], ◌∷◌, ◌++◌, length, Option, Some, None, if◌then◌else◌}
use Rattle.std.specs.List.{flat_map, list_all, list_any}
use Rattle.cal_value.specs.declared.operator.Op.{Op}
use Rattle.cal_value.specs.declared.operator.Op.TheVariants.{And, Equal}
use Rattle.cal_aggregate.specs.ResultType.{row_bound}
use Rattle.sql_tree.specs.declared.tree.Tree.{Tree}
use Rattle.sql_tree.specs.declared.tree.Tree.TheFolds.{fold-Tree}
use Rattle.sql_tree.specs.declared.tree.Tree.TheOpen.{Tree-F}
use Rattle.sql_meaning.specs.Parts.{conditions}
use Rattle.sql_meaning.specs.Scope.{Header, is_padded, place_of, types_in}

-- ---- the columns of an entry that a condition equates with columns before it

-- the column that an expression is, where it is one, and the columns of the entry that it equates
pub record Equated : Type 0 where
  pub column : Option ℕ
  pub keys : List ℕ

-- of two columns one stands before the entry, whose columns begin at this place, and one is its own, written either way round
abbrev pub key_of : ℕ → Option ℕ → Option ℕ → List ℕ
key_of width None d = []
key_of width (Some c) None = []
key_of width (Some c) (Some d) =
    if nat_lt c width && nat_le width d then (d - width) ∷ []
    else if nat_lt d width && nat_le width c then (c - width) ∷ []
    else []

abbrev pub equated_op : ℕ → Op → Equated → Equated → List ℕ
equated_op width And a b = a.keys ++ b.keys
equated_op width Equal a b = key_of width a.column b.column
equated_op width op a b = []

abbrev pub equated_step : List Header → ℕ → Tree-F Equated → Equated
equated_step scope width (Tree-F.Column place name) = record { column = place_of scope name; keys = [] }
equated_step scope width (Tree-F.Literal place v) = record { column = None; keys = [] }
equated_step scope width (Tree-F.Negate place a) = record { column = None; keys = [] }
equated_step scope width (Tree-F.Binary place op a b) = record { column = None; keys = equated_op width op a b }
equated_step scope width (Tree-F.Not place a) = record { column = None; keys = [] }
equated_step scope width (Tree-F.IsNull place a) = record { column = None; keys = [] }
equated_step scope width (Tree-F.Aggregate place agg a) = record { column = None; keys = [] }

-- those of the conjuncts
abbrev pub equated : List Header → ℕ → Tree → List ℕ
equated scope width tree = (fold-Tree Equated (equated_step scope width) tree).keys

-- the columns of the entry that its conditions equate with columns of the entries before
abbrev pub equated_keys : List Header → Header → List ℕ
equated_keys before h = flat_map (equated (before ++ h ∷ []) (length (types_in before))) (conditions h.entry)

-- there is a primary key, and each of its columns is among these
abbrev pub has_key : List ℕ → List ℕ → Bool
has_key columns [] = false
has_key columns (column ∷ key) = list_all (λ c. list_any (λ other. other == c) columns) (column ∷ key)

abbrev pub is_keyed : List Header → Header → Bool
is_keyed before h = has_key (equated_keys before h) h.table.primary_key

-- ---- bounds

-- the rows of the entry that go with one row before; a LEFT JOIN keeps at least that row
abbrev pub partners_bound : Header → ℕ
partners_bound h = if is_padded h.entry.how then max h.table.max_rows 1 else h.table.max_rows

-- where its key is equated, at most one row of the entry goes with a row before
abbrev pub joined_bound : List Header → Header → ℕ → ℕ
joined_bound before h rows = if is_keyed before h then rows else row_bound (rows * partners_bound h)

-- of the later entries, behind so many rows of those before
abbrev pub bound_behind : List Header → ℕ → List Header → ℕ
bound_behind before rows [] = rows
bound_behind before rows (h ∷ hs) = bound_behind (before ++ h ∷ []) (joined_bound before h rows) hs

abbrev pub bound_of : List Header → ℕ
bound_of scope = bound_behind [] 1 scope
