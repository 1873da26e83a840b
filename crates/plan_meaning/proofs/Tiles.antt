-- Tiles by their instances.
use Rattle.std.proofs.Common.{◌≡◌, ◌≢◌, ℕ, ◌==◌, true, false, cond, List, length, get_or, Some, None, slice_get, sym, ◌∙◌, ap, arith}
use Rattle.std.specs.Prelude.{nat_lt}
use Rattle.std.specs.List.{position_or_len}
use Rattle.std.specs.Option.{option_and_then}
use Rattle.std.proofs.lemmas.Bool.Decides.{nat_tests}
use Rattle.std.proofs.lemmas.List.Sums.{position_or_len_is}
use Rattle.std.proofs.lemmas.Option.{slice_get_within, get_or_from_slice_get}
use Rattle.cal_schema.specs.declared.tile.TileInfo.{TileInfo}
use Rattle.plan_nodes.specs.Orders.{tile_of}
use Rattle.plan_meaning.specs.Memos.{AreApart}

apart-tests : (a b : ℕ) → a ≢ b → (a == b) ≡ false
apart-tests a b h = grind (arith, nat_tests)

same-tests : (a b : ℕ) → a ≡ b → (a == b) ≡ true
same-tests a b h = grind (arith, nat_tests)

place-is : (tiles : List TileInfo) (at : ℕ) (tile : TileInfo) → AreApart tiles → slice_get tiles at ≡ Some tile → position_or_len (λ (t : TileInfo). t.instance == tile.instance) tiles ≡ at
place-is tiles at tile h e =
    let within = slice_get_within tiles at tile e in
    let here : get_or tiles at tile ≡ tile = get_or_from_slice_get tiles at tile tile e in
    position_or_len_is (λ (t : TileInfo). t.instance == tile.instance) tiles at tile (omega arith)
    (λ k l. apart-tests (get_or tiles k tile).instance tile.instance (λ same. h.apart k at tile l within (same ∙ sym (ap (λ (t : TileInfo). t.instance) here))))
    (λ l. same-tests (get_or tiles at tile).instance tile.instance (ap (λ (t : TileInfo). t.instance) here))

found-at : (tiles : List TileInfo) (at n : ℕ) (tile : TileInfo) → slice_get tiles at ≡ Some tile → n ≡ at
    → option_and_then (slice_get tiles) (cond (nat_lt n (length tiles)) (Some n) None) ≡ Some tile
found-at tiles at n tile e same =
    let within = slice_get_within tiles at tile e in
    let less : nat_lt n (length tiles) ≡ true = grind (arith, nat_tests) in
    ap (λ b. option_and_then (slice_get tiles) (cond b (Some n) None)) less ∙ ap (slice_get tiles) same ∙ e

-- the tile that stands at a place is the one of its instance
pub tile_of-get : (tiles : List TileInfo) (at : ℕ) (tile : TileInfo) → AreApart tiles → slice_get tiles at ≡ Some tile → tile_of tiles tile.instance ≡ Some tile
tile_of-get tiles at tile h e = found-at tiles at (position_or_len (λ (t : TileInfo). t.instance == tile.instance) tiles) tile e (place-is tiles at tile h e)
