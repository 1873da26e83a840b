-- How many columns the rows of a plan have.
use Rattle.std.proofs.Common.{◌≡◌, ℕ, List, [], ◌∷◌, Option, Some, None, refl, sym, ◌∙◌, ap}
use Rattle.std.specs.Prelude.{option_map, unwrap_or}
use Rattle.cal_schema.specs.declared.schema.Schema.{Schema}
use Rattle.cal_schema.specs.declared.tile.TileInfo.{TileInfo}
use Rattle.cal_rel.specs.Bag.{tile_width}
use Rattle.cal_rel.specs.Info.{info_of}
use Rattle.plan_nodes.specs.declared.plan.Plan.{Plan, out-Plan}
use Rattle.plan_nodes.specs.Orders.{tile_of}
use Rattle.plan_nodes.specs.PlanTrees.{instance_width, node_width, plan_width}
use Rattle.plan_nodes.proofs.PlanLemmas.{over-none, over-one, over-two}
use Rattle.row_exec.specs.Nodes.{HasWidth}

-- without stars no tile has columns
pub no-columns : (schema : Schema) (tiles : List TileInfo) (tile : ℕ) → 0 ≡ instance_width (info_of schema tiles []) tile
no-columns schema tiles tile = at_tile (tile_of tiles tile)
  where
    at_tile : (o : Option TileInfo) → 0 ≡ unwrap_or (option_map (λ t. tile_width (info_of schema tiles []) t.key) o) 0
    at_tile None = refl
    at_tile (Some t) = refl

pub ruleset tile_columns = (no-columns)

-- so many columns has a node over inputs that have so many, whatever tiles there are
abbrev pub IsNodeWidth : Schema → Plan → ℕ → ℕ → ℕ → Type 0
IsNodeWidth schema p left right n = (tiles : List TileInfo) → n ≡ node_width (info_of schema tiles []) (out-Plan p).node left right

pub width-none : (schema : Schema) (p : Plan) (n : ℕ) → (out-Plan p).inputs ≡ [] → IsNodeWidth schema p 0 0 n → HasWidth schema p n
width-none schema p n none is = record {
  of = λ tiles tree e.
      let t = over-none p tree none e in
      is tiles ∙ ap (plan_width (info_of schema tiles [])) (sym t.is);
}

pub width-one : (schema : Schema) (p a : Plan) (n left : ℕ) → (out-Plan p).inputs ≡ a ∷ [] → HasWidth schema a left → IsNodeWidth schema p left 0 n → HasWidth schema p n
width-one schema p a n left one first is = record {
  of = λ tiles tree e.
      let info = info_of schema tiles [] in
      let t = over-one p a tree one e in
      is tiles ∙ ap (λ l. node_width info (out-Plan p).node l 0) (first.of tiles t.first t.first_is) ∙ ap (plan_width info) (sym t.is);
}

pub width-two : (schema : Schema) (p a b : Plan) (rest : List Plan) (n left right : ℕ) → (out-Plan p).inputs ≡ a ∷ b ∷ rest → HasWidth schema a left → HasWidth schema b right
    → IsNodeWidth schema p left right n → HasWidth schema p n
width-two schema p a b rest n left right two first second is = record {
  of = λ tiles tree e.
      let info = info_of schema tiles [] in
      let t = over-two p a b rest tree two e in
      is tiles ∙ ap (λ l. node_width info (out-Plan p).node l right) (first.of tiles t.first t.first_is)
      ∙ ap (node_width info (out-Plan p).node (plan_width info t.first)) (second.of tiles t.second t.second_is) ∙ ap (plan_width info) (sym t.is);
}
