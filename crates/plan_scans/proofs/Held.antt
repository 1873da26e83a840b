-- The rows of a plan's part, over a snapshot.
use Rattle.std.proofs.Common.{◌≡◌, ℕ, ◌+◌, ◌++◌, List, [], ◌∷◌, length, map, drop, Option, Some, None, sym, ◌∙◌, ap, subst, append_assoc, slice_get, unwrap_or}
use Rattle.std.specs.Prelude.{IsSome, is_some}
use Rattle.std.specs.Option.{option_and_then}
use Rattle.std.proofs.lemmas.Option.{same_Some, slice_get-get_or}
use Rattle.cal_schema.specs.declared.schema.Schema.{Schema}
use Rattle.cal_snapshot.specs.declared.part.Part.TheVariants.{Tile}
use Rattle.cal_snapshot.specs.Parts.{Parts, rows_of, rows_in, row_at}
use Rattle.cal_snapshot.proofs.Rows.{from-place}
use Rattle.cal_rel.specs.Bag.{rows_of_tile}
use Rattle.cal_rel.specs.Operators.{Row}
use Rattle.plan_nodes.specs.declared.plan.Plan.{Plan, out-Plan}
use Rattle.plan_nodes.specs.PlanTrees.{PlanTree}
use Rattle.plan_nodes.specs.Seen.{plan_tree, reads}
use Rattle.plan_nodes.proofs.PlanLemmas.{IsTreeOver, over_nothing, over_first, over_both, tree-over, reads-tree}
use Rattle.plan_meaning.specs.Bags.{plan_bag}
use Rattle.plan_scans.specs.Chains.{Chain, chain_rows, tile_in, rows_held, CanRead, IsChain}
use Rattle.plan_scans.specs.Scans.{info_over, tables_of, HoldsTiles, CanScan, AreScanned}
use Rattle.plan_scans.proofs.Kept.{root_tile, IsTableScan, kept-table, kept-tile}

-- ---- one more row of a tile

row-held : (parts : Parts) (instance at : ℕ) (row : Row) → row_at parts (Tile instance) at ≡ Some row → slice_get (rows_held parts instance) at ≡ Some row
row-held parts instance at row e = by (rows_of parts (Tile instance)) e
  where
    by : (o : Option (List Row)) → option_and_then (λ rows. slice_get rows at) o ≡ Some row → slice_get (unwrap_or o []) at ≡ Some row
    by None f = absurd (Prim.cc)
    by (Some rows) f = f

-- the rows so far and the row are all but the rows after it
pub tile-step : (parts : Parts) (instance at : ℕ) (rows : List Row) (row : Row) → row_at parts (Tile instance) at ≡ Some row
    → (rows ++ row ∷ []) ++ drop (at + 1) (rows_held parts instance) ≡ rows ++ drop at (rows_held parts instance)
tile-step parts instance at rows row e =
    append_assoc rows (row ∷ []) (drop (at + 1) (rows_held parts instance))
    ∙ ap (λ (rs : List Row). rows ++ rs) (sym (from-place (rows_held parts instance) at row (row-held parts instance at row e)))

-- ---- plans

root-tile : (p : Plan) (tree : PlanTree) → plan_tree p ≡ Some tree → root_tile tree ≡ tile_in (out-Plan p).node
root-tile p tree e = at_inputs (map plan_tree (out-Plan p).inputs) (tree-over p tree e)
  where
    at_inputs : (xs : List (Option PlanTree)) → IsTreeOver (out-Plan p).node (out-Plan p).rows (out-Plan p).part_rows tree xs → root_tile tree ≡ tile_in (out-Plan p).node
    at_inputs _ (over_nothing is) = ap root_tile is
    at_inputs _ (over_first a is) = ap root_tile is
    at_inputs _ (over_both a b is) = ap root_tile is

module _ (schema : Schema) (parts : Parts) (p : Plan) (h : CanScan schema parts p) where
  are-scanned : (rows : List Row) → rows ≡ plan_bag (info_over schema parts) (tables_of parts) h.tree → AreScanned schema parts p rows
  are-scanned rows e = record { of = λ tree is. e ∙ ap (plan_bag (info_over schema parts) (tables_of parts)) (same_Some h.tree tree (sym h.is ∙ is)) }

  -- the chain reads what the plan means
  pub record IsRead (chain : Chain) : Type 0 where
    pub can : CanRead schema parts chain
    pub rows : (rows : List Row) → rows ≡ chain_rows chain (rows_in parts chain.table) → AreScanned schema parts p rows
    pub reads : reads p ≡ length (rows_in parts chain.table)

  table-scan : (o : Option ℕ) → o ≡ tile_in (out-Plan p).node → o ≡ None → IsTableScan (info_over schema parts) (tables_of parts) h.tree
  table-scan o is none = kept-table (info_over schema parts) (tables_of parts) h.tree h.kept (root-tile p h.tree h.is ∙ sym is ∙ none) h.formed

  read-whole : (t : IsTableScan (info_over schema parts) (tables_of parts) h.tree) → IsRead t.chain
  read-whole t = record {
    can = record {
      there = ap is_some (slice_get-get_or parts.tables t.chain.table [] t.held);
      wide = t.wide;
      request = t.request;
      untested = t.untested;
    };
    rows = λ rows e. are-scanned rows (e ∙ sym t.rows);
    reads = reads-tree h.tree p h.is ∙ t.reads;
  }

  pub chain-read : (o : Option ℕ) (c : Option Chain) (chain : Chain) → o ≡ tile_in (out-Plan p).node → o ≡ None → IsChain p c → c ≡ Some chain → IsRead chain
  chain-read o c chain is none of some =
      let t = table-scan o is none in
      subst IsRead (same_Some t.chain chain (sym t.is ∙ sym (of.of h.tree h.is) ∙ some)) (read-whole t)

  pub chain-there : (o : Option ℕ) (c : Option Chain) → o ≡ tile_in (out-Plan p).node → o ≡ None → IsChain p c → c ≡ None → ⊥
  chain-there o c is none of missing =
      let t = table-scan o is none in
      none-some t.chain (sym missing ∙ of.of h.tree h.is ∙ t.is)
    where
      none-some : (chain : Chain) → None ≡ Some chain → ⊥
      none-some chain e = cc

  -- the tile's rows are what the plan means
  pub record IsHeld (instance : ℕ) : Type 0 where
    pub there : IsSome (rows_of parts (Tile instance))
    pub rows : (rows : List Row) → rows ≡ rows_held parts instance → AreScanned schema parts p rows
    pub reads : reads p ≡ length (rows_held parts instance)

  pub tile-held : (o : Option ℕ) (instance : ℕ) → HoldsTiles schema parts → o ≡ tile_in (out-Plan p).node → o ≡ Some instance → IsHeld instance
  tile-held o instance tiles is some =
      let t = kept-tile (info_over schema parts) (tables_of parts) h.tree instance (root-tile p h.tree h.is ∙ sym is ∙ some) h.formed in
      let held = tiles.rows instance t.tile t.there in
      let all : rows_held parts instance ≡ rows_of_tile (info_over schema parts) (tables_of parts) t.tile.key = ap (λ (found : Option (List Row)). unwrap_or found []) held in
      record {
        there = ap is_some held;
        rows = λ rows e. are-scanned rows (e ∙ all ∙ sym t.rows);
        reads = reads-tree h.tree p h.is ∙ t.reads ∙ ap length (sym all);
      }
