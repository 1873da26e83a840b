-- The cheapest plan of the root set answers the SELECT.
use Rattle.std.proofs.Common.{◌≡◌, ◌∙◌, ℕ, ◌<◌, Bool, List, [], ◌∷◌, length, map, Option, Some, None, refl, sym, ap, ap₂, subst, arith, zero}
use Rattle.std.specs.Prelude.{IsSome, IsTrue, count_by, true}
use Rattle.cal_value.specs.declared.order.KeyOrder.{KeyOrder}
use Rattle.cal_value.specs.declared.value.Value.{Value}
use Rattle.cal_value.specs.Equal.{row_eq}
use Rattle.cal_schema.specs.declared.database.Db.{Db}
use Rattle.cal_schema.specs.declared.rel_type.RelType.{RelType}
use Rattle.cal_schema.specs.declared.schema.Schema.{Schema}
use Rattle.cal_schema.specs.declared.tile.TileInfo.{TileInfo}
use Rattle.cal_schema.specs.Fits.{Fits}
use Rattle.cal_snapshot.specs.Parts.{Parts}
use Rattle.cal_rel.specs.Bag.{bag, width, set_width}
use Rattle.cal_rel.specs.Holes.{filled, EachHole}
use Rattle.cal_rel.specs.Info.{Info, info_of, set_at}
use Rattle.cal_rel.specs.Meaning.{AreTrueOf}
use Rattle.cal_rel.specs.Tree.{Leaf, scan, tile_scan, star_scan, empty_of, Tree, leaf, unary, binary, hole}
use Rattle.cal_rel.specs.Typing.{type_of}
use Rattle.memo_model.specs.Sets.{Sets, Stands, IsThere, seed_at}
use Rattle.memo_model.specs.Sound.{over, IsClosed, IsCoherent, IsSound, Means}
use Rattle.memo_model.proofs.MeansLemmas.{closed-filled}
use Rattle.memo_model.proofs.StandLemmas.{stands-means}
use Rattle.memo_model.proofs.TreeLemmas.{each-weaker}
use Rattle.plan_nodes.specs.Orders.{is_prefix}
use Rattle.plan_nodes.specs.PlanTrees.{PlanTree, order_of}
use Rattle.phys_plan.specs.Grounded.{IsGround, HoldsTree}
use Rattle.phys_plan.specs.Plans.{rows_asked}
use Rattle.phys_plan.specs.Spaces.{HasWidths}
use Rattle.phys_plan.proofs.Bridge.{from-realised}
use Rattle.phys_plan.proofs.RowLemmas.{realised-order}
use Rattle.plan_meaning.specs.Memos.{IsSpaceOf, AreApart}
use Rattle.plan_meaning.specs.WellFormed.{HasKeysWithin, ArePartsOf}
use Rattle.plan_meaning.proofs.Means.{there-width}
use Rattle.plan_meaning.proofs.Nodes.{order_of-over}
use Rattle.plan_meaning.proofs.Plans.{plan-means, plan-well_formed, space-widths}
use Rattle.plan_spaces.specs.Made.{made}
use Rattle.sql_tree.specs.declared.select.Select.{Select}
use Rattle.sql_meaning.specs.Order.{keys_of}
use Rattle.sql_meaning.specs.Scope.{scope_of}
use Rattle.volcano_best.specs.Solved.{IsCheapest}
use Rattle.volcano_best.specs.declared.planned.Planned.{Planned}
use Rattle.plan_answers.specs.Answers.{HoldsTheSelect, AnswersTheSelect}
use Rattle.plan_answers.proofs.KeyLemmas.{keys-within}

-- ---- no sets

not-there : (k : ℕ) (t : RelType) → set_at [] k ≡ Some t → ⊥
not-there k t e = Prim.cc

no-sets : (holes : ℕ → List (List Value)) → AreTrueOf [] holes
no-sets holes = record { each = λ k t e. absurd (not-there k t e) }

-- ---- a tree without holes

filled-itself : (g : ℕ → Tree) (t : Tree) → EachHole (λ k. ⊥) t → filled g t ≡ t
filled-itself g (leaf l) h = refl
filled-itself g (unary u t) h = ap (unary u) (filled-itself g t h)
filled-itself g (binary b s t) h = ap₂ (binary b) (filled-itself g s h.0) (filled-itself g t h.1)
filled-itself g (hole k) h = absurd h

closed : (schema : Schema) (tiles : List TileInfo) (tree : Tree) → IsSome (type_of (info_of schema tiles []) tree) → EachHole (λ k. ⊥) tree → IsClosed (info_of schema tiles []) tree
closed schema tiles tree typed none = by (type_of info tree) refl typed
  where
    info : Info
    info = info_of schema tiles []

    by : (o : Option RelType) → type_of info tree ≡ o → IsSome o → IsClosed info tree
    by None e h = absurd (Prim.cc)
    by (Some t) e h =
        subst (IsClosed info) (filled-itself hole tree none)
        (closed-filled info [] hole tree t e (each-weaker (λ k. ⊥) (λ k. IsClosed info (hole k)) (λ k never. absurd never) tree none))

-- a schema has no lattices, so that no star is scanned
ground : (schema : Schema) (tiles : List TileInfo) (types : List (Option RelType)) (tree : Tree) → IsClosed (info_of schema tiles []) tree → IsGround (over (info_of schema tiles []) types) tree
ground schema tiles types (leaf (scan table)) h = h
ground schema tiles types (leaf (tile_scan at)) h = h
ground schema tiles types (leaf (star_scan lattice)) h = absurd (below lattice h)
  where
    below : (n : ℕ) → n < 0 → ⊥
    below n h = omega arith
ground schema tiles types (leaf (empty_of ts)) h = tt
ground schema tiles types (unary u t) h = ground schema tiles types t h
ground schema tiles types (binary b s t) h = (ground schema tiles types s h.0, ground schema tiles types t h.1)
ground schema tiles types (hole k) h = h

-- what stands in a set, and has no hole, stands in one that is there
there : (info : Info) (m : Sets) → IsCoherent info m → (s : ℕ) (t : Tree) → Stands m.members s t → EachHole (λ k. ⊥) t → IsThere m.types s
there info m coherent s (leaf l) stands none = (coherent.members s (leaf l) stands).there
there info m coherent s (unary u t) stands none = (coherent.members s (unary u (hole stands.0)) stands.1).there
there info m coherent s (binary b x y) stands none = (coherent.members s (binary b (hole stands.0) (hole stands.1)) stands.2).there
there info m coherent s (hole k) stands none = absurd none

-- ---- what `best` asks

pub has-widths : (schema : Schema) (parts : Parts) (sets : Sets) (set : ℕ) (select : Select) → HoldsTheSelect (info_of schema parts.tiles []) sets set select → AreApart parts.tiles
    → HasWidths (made (info_of schema parts.tiles []) sets parts)
has-widths schema parts sets set select held apart =
    space-widths (info_of schema parts.tiles []) sets (made (info_of schema parts.tiles []) sets parts) held.sound (record { members = refl; info = refl }) apart

pub holds-tree : (schema : Schema) (parts : Parts) (sets : Sets) (set : ℕ) (select : Select) → HoldsTheSelect (info_of schema parts.tiles []) sets set select
    → HoldsTree (made (info_of schema parts.tiles []) sets parts) set
holds-tree schema parts sets set select held = record {
  tree = held.tree;
  stands = held.stands;
  ground = ground schema parts.tiles sets.types held.tree (closed schema parts.tiles held.tree held.keeps.well_formed held.no_hole);
}

-- ---- the plan

module _ (schema : Schema) (parts : Parts) (sets : Sets) (set : ℕ) (select : Select) (held : HoldsTheSelect (info_of schema parts.tiles []) sets set select) (apart : AreApart parts.tiles) where
  abbrev info : Info
  info = info_of schema parts.tiles []

  abbrev keys : List KeyOrder
  keys = keys_of (scope_of schema select) select

  is_space : IsSpaceOf (made info sets parts) info sets
  is_space = record { members = refl; info = refl }

  root_there : IsThere sets.types set
  root_there = there info sets held.sound.coherent set held.tree held.stands held.no_hole

  means : Means info sets.seeds held.tree set
  means = stands-means info sets held.sound.coherent set held.tree held.stands

  tree_filled : filled (seed_at sets.seeds) held.tree ≡ held.tree
  tree_filled = filled-itself (seed_at sets.seeds) held.tree held.no_hole

  root_width : set_width (over info sets.types) set ≡ width info held.tree
  root_width =
      there-width (over info sets.types) set root_there.found root_there.is
      ∙ sym (held.sound.coherent.seeds set root_there.found root_there.is).columns
      ∙ sym means.columns
      ∙ ap (width info) tree_filled

  within : HasKeysWithin (set_width (over info sets.types) set) keys
  within = subst (λ n. HasKeysWithin n keys) (sym (root_width ∙ held.keeps.columns)) (keys-within info schema select)

  pub answers : (best : Planned) → IsCheapest (made info sets parts) set keys best → AnswersTheSelect schema parts sets select best.plan
  answers best cheapest = record {
    tree = cheapest.tree;
    is = cheapest.is;
    well_formed = λ db fits lengths. plan-well_formed info sets (made info sets parts) set keys cheapest.tree db held.sound is_space apart lengths fits within cheapest.plan;
    rows = λ db fits r.
        (plan-means info sets (made info sets parts) set keys cheapest.tree held.sound is_space apart cheapest.plan).rows db (λ k. []) fits r
        ∙ sym (means.rows db (λ k. []) fits (no-sets (λ k. [])) r)
        ∙ ap (λ (t : Tree). count_by (row_eq r) (bag info db (λ k. []) t)) tree_filled
        ∙ held.keeps.rows db fits r;
    ordered =
        subst (λ order. is_prefix keys order ≡ true) (order_of-over info sets.types cheapest.tree)
        (realised-order (made info sets parts) (Some (rows_asked set keys)) cheapest.tree keys (from-realised (made info sets parts) (Some (rows_asked set keys)) cheapest.tree cheapest.plan.realised) refl);
  }
