-- The space of a memo has the lengths of a snapshot's tables.
use Rattle.std.proofs.Common.{◌≡◌, ◌∙◌, ℕ, ◌+◌, ◌<◌, ◌≤◌, Bool, true, false, List, [], ◌∷◌, length, map, get_or, Option, Some, refl, sym, ap, subst, suc, arith}
use Rattle.std.specs.Prelude.{unwrap_or, slice_get}
use Rattle.std.specs.List.{range_with_len}
use Rattle.std.proofs.Math.Dec.{ltb}
use Rattle.std.proofs.Math.ListN.{get_or-map, get_or-eq_default}
use Rattle.std.proofs.lemmas.Bool.{ltb-true, ltb-false}
use Rattle.std.proofs.lemmas.List.{length-map}
use Rattle.std.proofs.lemmas.List.FromFn.{get_or-map-range_with_len, length-range_with_len}
use Rattle.std.proofs.lemmas.Option.{unwrap_or-slice_get}
use Rattle.cal_value.specs.declared.value.Value.{Value}
use Rattle.cal_schema.specs.declared.schema.Schema.{Schema}
use Rattle.cal_schema.specs.declared.table.TableDef.{TableDef}
use Rattle.cal_schema.specs.declared.tile.TileInfo.{TileInfo}
use Rattle.cal_schema.specs.Fits.{AreFilledBy, Fits}
use Rattle.cal_snapshot.specs.Parts.{Parts}
use Rattle.cal_rel.specs.Info.{info_of}
use Rattle.memo_model.specs.Sets.{Sets}
use Rattle.plan_meaning.specs.WellFormed.{ArePartsOf}
use Rattle.rel_meta.specs.Estimates.{rows_of_table}
use Rattle.plan_spaces.specs.Made.{made, rows_by_table}

abbrev Rows : Type 0
Rows = List (List Value)

fits-even : (ts : List TableDef) (rs : List Rows) → AreFilledBy ts rs → length ts ≡ length rs
fits-even [] [] h = refl
fits-even [] (r ∷ rs) h = absurd h
fits-even (t ∷ ts) [] h = absurd h
fits-even (t ∷ ts) (r ∷ rs) h = ap suc (fits-even ts rs h.1)

plain : (n : ℕ) → 0 + n ≡ n
plain n = omega arith

-- of as many tables as there are, each has the length of its rows
lengths : (tables : List Rows) (table : ℕ) → get_or (rows_by_table (map length tables) (length tables)) table 0 ≡ length (unwrap_or (slice_get tables table) [])
lengths tables table = by (ltb table (length tables)) refl
  where
    counts : List ℕ
    counts = map length tables

    rows_are : length (unwrap_or (slice_get tables table) []) ≡ length (get_or tables table [])
    rows_are = ap length (unwrap_or-slice_get tables table [])

    by : (b : Bool) → ltb table (length tables) ≡ b → get_or (rows_by_table counts (length tables)) table 0 ≡ length (unwrap_or (slice_get tables table) [])
    by true e =
        get_or-map-range_with_len (rows_of_table counts) 0 (length tables) table table 0 (ltb-true table (length tables) e) (plain table)
        ∙ get_or-map length tables table []
        ∙ sym rows_are
    by false e =
        let past : length tables ≤ table = ltb-false table (length tables) e in
        let long : length (rows_by_table counts (length tables)) ≡ length tables = length-map (range_with_len 0 (length tables)) (rows_of_table counts) ∙ length-range_with_len 0 (length tables) in
        get_or-eq_default (rows_by_table counts (length tables)) 0 (subst (λ n. n ≤ table) (sym long) past)
        ∙ ap length (sym (get_or-eq_default tables [] past))
        ∙ sym rows_are

tile-gone : (tiles : List TileInfo) (at : ℕ) (tile : TileInfo) → tiles ≡ [] → slice_get tiles at ≡ Some tile → ⊥
tile-gone tiles at tile none e = gone (subst (λ (ts : List TileInfo). slice_get ts at ≡ Some tile) none e)
  where
    gone : slice_get [] at ≡ Some tile → ⊥
    gone e = Prim.cc

pub are-parts : (schema : Schema) (sets : Sets) (parts : Parts) → Fits (record { tables = parts.tables }) schema → parts.tiles ≡ []
    → ArePartsOf (made (info_of schema parts.tiles []) sets parts) (record { tables = parts.tables })
are-parts schema sets parts fits none = record {
  tables = λ table. ap (λ n. get_or (rows_by_table (map length parts.tables) n) table 0) (fits-even schema.tables parts.tables fits) ∙ lengths parts.tables table;
  tiles = λ at tile e. absurd (tile-gone parts.tiles at tile none e);
}
