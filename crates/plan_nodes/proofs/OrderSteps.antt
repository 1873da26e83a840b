-- The steps of the loops over orders.
use Rattle.std.proofs.Common.{◌≡◌, ℕ, ◌+◌, ◌<◌, ◌≤◌, List, [], ◌∷◌, ◌++◌, length, map, get_or, drop, Option, Some, None, refl, sym, ◌∙◌, ap, append_assoc, arith, suc}
use Rattle.std.specs.List.{range_with_len}
use Rattle.std.specs.Prelude.{option_map, unwrap_or}
use Rattle.std.proofs.Math.Seq.{drop-cons}
use Rattle.std.proofs.Math.Numerals.{add-one}
use Rattle.std.proofs.lemmas.List.{drop_all, append-nil}
use Rattle.std.proofs.lemmas.List.FromFn.{map-range_with_len_more}
use Rattle.cal_value.specs.declared.order.KeyOrder.{KeyOrder}
use Rattle.cal_expr.specs.declared.expr.Expr.{Expr}
use Rattle.cal_schema.specs.declared.schema.Schema.{Schema}
use Rattle.cal_schema.specs.declared.rel_type.RelType.{RelType}
use Rattle.cal_schema.specs.declared.tile.TileInfo.{TileInfo}
use Rattle.cal_rel.specs.Info.{info_of}
use Rattle.cal_rel.specs.Tiles.{ascending}
use Rattle.plan_nodes.specs.Orders.{ascending_key, moved, first_place, through, column_at, source, joined, back, tile_order, key_order, tile_of}

-- a column that isn't an item ends the order
pub through-none : (items : List Expr) (order given : List KeyOrder) (i : ℕ) (d : KeyOrder) → i < length order
    → None ≡ first_place (get_or order i d).column items → through items order ≡ given ++ through items (drop i order) → given ≡ through items order
through-none items order given i d h none all =
    let rest : through items (drop i order) ≡ [] = rw (drop-cons order i d h, ← none) refl in
    sym (all ∙ ap (λ r. given ++ r) rest ∙ append-nil given)

pub through-next : (items : List Expr) (order given new : List KeyOrder) (i place column : ℕ) (d key : KeyOrder) → i < length order
    → Some place ≡ first_place (get_or order i d).column items → column ≡ place → key ≡ moved (get_or order i d) column → new ≡ given ++ key ∷ []
    → through items order ≡ given ++ through items (drop i order) → through items order ≡ new ++ through items (drop (i + 1) order)
through-next items order given new i place column d key h some at is made all =
    let rest : through items (drop i order) ≡ moved (get_or order i d) place ∷ through items (drop (suc i) order) = rw (drop-cons order i d h, ← some) refl in
    rw (made, is, at, add-one) (all ∙ ap (λ r. given ++ r) rest ∙ sym (append_assoc given (moved (get_or order i d) place ∷ []) (through items (drop (suc i) order))))

pub through-end : (items : List Expr) (order given : List KeyOrder) (i : ℕ) → length order ≤ i → given ++ through items (drop i order) ≡ given
through-end items order given i h = rw (drop_all i order h) (append-nil given)

-- an order before what comes of the rest
abbrev pub after : List KeyOrder → Option (List KeyOrder) → Option (List KeyOrder)
after order None = None
after order (Some rest) = Some (order ++ rest)

pub back-start : (p : Option (List KeyOrder)) → p ≡ after [] p
back-start None = refl
back-start (Some rest) = refl

pub back-none : (items : List Expr) (need order : List KeyOrder) (i : ℕ) (d : KeyOrder) → i < length need
    → None ≡ source items (get_or need i d) (column_at items (get_or need i d).column) → after order (back items (drop i need)) ≡ None
back-none items need order i d h none = rw (drop-cons need i d h, ← none) refl

pub back-next : (items : List Expr) (need order : List KeyOrder) (i : ℕ) (d key : KeyOrder) → i < length need
    → Some key ≡ source items (get_or need i d) (column_at items (get_or need i d).column)
    → after order (back items (drop i need)) ≡ after (order ++ key ∷ []) (back items (drop (i + 1) need))
back-next items need order i d key h some = rw (drop-cons need i d h, ← some, add-one) (shift (back items (drop (suc i) need)))
  where
    shift : (p : Option (List KeyOrder)) → after order (joined (Some key) p) ≡ after (order ++ key ∷ []) p
    shift None = refl
    shift (Some rest) = ap Some (sym (append_assoc order (key ∷ []) rest))

pub back-end : (items : List Expr) (need order : List KeyOrder) (i : ℕ) → length need ≤ i → after order (back items (drop i need)) ≡ Some order
back-end items need order i h = rw (drop_all i need h) (ap Some (append-nil order))

pub ascending-next : (k : ℕ) → ascending (k + 1) ≡ ascending k ++ ascending_key k ∷ []
ascending-next k = map-range_with_len_more ascending_key 0 k k (omega arith)

pub ruleset order_steps = (through-end, back-start, back-none, back-next, back-end, ascending-next)

pub tile-none : (schema : Schema) (tiles : List TileInfo) (sets : List (Option RelType)) (tile : ℕ) → [] ≡ tile_order (info_of schema tiles sets) tile
tile-none schema tiles sets tile = at_tile (tile_of tiles tile)
  where
    at_tile : (o : Option TileInfo) → [] ≡ unwrap_or (option_map (λ t. key_order (info_of schema tiles sets) t.key) o) []
    at_tile None = refl
    at_tile (Some t) = refl

pub ruleset tile_steps = (tile-none)
