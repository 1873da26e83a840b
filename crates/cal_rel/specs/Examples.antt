-- Rows of small trees, written out.
use Rattle.std.specs.Prelude.{◌≡◌, ℕ, pos, false, List, [], ◌∷◌, Some, None}
use Rattle.cal_value.specs.declared.interval.Interval.TheVariants.{Never}
use Rattle.cal_value.specs.declared.kind.SqlType.{SqlType}
use Rattle.cal_value.specs.declared.operator.Agg.TheVariants.{Count, Sum, Min}
use Rattle.cal_value.specs.declared.value.Value.{Value}
use Rattle.cal_value.specs.declared.value.Value.TheVariants.{Null, Int}
use Rattle.cal_value.specs.Types.{integer_type}
use Rattle.cal_expr.specs.declared.expr.Expr.{Expr}
use Rattle.cal_schema.specs.declared.agg_call.AggCall.{AggCall}
use Rattle.cal_schema.specs.declared.database.Db.{Db}
use Rattle.cal_schema.specs.declared.join_kind.JoinKind.TheVariants.{Inner, Left}
use Rattle.cal_schema.specs.declared.tile.TileKey.{TileKey}
use Rattle.cal_rel.specs.Bag.{bag}
use Rattle.cal_rel.specs.Info.{Info, Star}
use Rattle.cal_rel.specs.Operators.{Row}
use Rattle.cal_rel.specs.Tiles.{tile_rows}
use Rattle.cal_rel.specs.Tree.{scan, empty_of, aggregate_by, join_on, leaf, unary, binary, hole}

abbrev pub int : ℕ → Value
int n = Int (pos n)

-- a row of two numbers
abbrev pub two : ℕ → ℕ → Row
two m n = int m ∷ int n ∷ []

-- a table of four rows, the second of which has NULL in its first column
abbrev pub four : List Row
four = two 2 5 ∷ (Null ∷ int 1 ∷ []) ∷ two 1 7 ∷ two 2 6 ∷ []

abbrev pub tables : Db
tables = record { tables = four ∷ [] ∷ [] }

abbrev pub no_holes : ℕ → List Row
no_holes k = []

abbrev pub calls : List AggCall
calls = record { agg = Count; argument = None } ∷ record { agg = Count; argument = Some 0 } ∷ record { agg = Sum; argument = Some 1 } ∷ []

abbrev pub one_column : List SqlType
one_column = integer_type false Never ∷ []

-- the star of that table with both columns as dimensions, and a tile by the first with a count and the least of the second
abbrev pub star : Star
star = record { table = 0; dims = 0 ∷ 1 ∷ [] }

abbrev pub key : TileKey
key = record { lattice = 0; dims = 1; measures = Some (record { agg = Count; column = None }) ∷ Some (record { agg = Min; column = Some 1 }) ∷ None ∷ None ∷ None ∷ None ∷ None ∷ None ∷ [] }

pub record SmallTrees (info : Info) (on : Expr) : Type 0 where
  -- groups stand in order of first appearance, NULL is a key, and COUNT of a column skips NULL
  pub groups : bag info tables no_holes (unary (aggregate_by (0 ∷ []) calls) (leaf (scan 0)))
      ≡ (int 2 ∷ int 2 ∷ int 2 ∷ int 11 ∷ []) ∷ (Null ∷ int 1 ∷ int 0 ∷ int 1 ∷ []) ∷ (int 1 ∷ int 1 ∷ int 1 ∷ int 7 ∷ []) ∷ []
  -- without groups there is one row, also over none
  pub one_group : bag info tables no_holes (unary (aggregate_by [] calls) (leaf (scan 1))) ≡ (int 0 ∷ int 0 ∷ Null ∷ []) ∷ []
  pub no_group : bag info tables no_holes (unary (aggregate_by (0 ∷ []) calls) (leaf (scan 1))) ≡ []
  -- a left row without a partner stands alone, with NULL for each column of the right side
  pub alone : bag info tables (λ k. two 3 4 ∷ []) (binary (join_on Left on) (hole 0) (leaf (empty_of one_column))) ≡ (int 3 ∷ int 4 ∷ Null ∷ []) ∷ []
  pub no_partner : bag info tables (λ k. two 3 4 ∷ []) (binary (join_on Inner on) (hole 0) (leaf (empty_of one_column))) ≡ []
  -- a tile is sorted, NULL last, and has no row over no rows
  pub tile : tile_rows star key four ≡ (int 1 ∷ int 1 ∷ int 7 ∷ []) ∷ (int 2 ∷ int 2 ∷ int 5 ∷ []) ∷ (Null ∷ int 1 ∷ int 1 ∷ []) ∷ []
  pub no_tile : tile_rows star key [] ≡ []
