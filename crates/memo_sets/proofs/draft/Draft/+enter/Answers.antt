use Rattle.std.proofs.Common.{ap, sym, ◌∙◌}
use Rattle.cal_rel.specs.declared.rel.Rel.TheVariants as r
use Rattle.cal_rel.specs.Tree.{Tree, tree_of, scan, tile_scan, star_scan, empty_of, filter_by, project_to, aggregate_by, join_on}
use Rattle.cal_rel.proofs.TreeSteps.{tree-Scan, tree-TileScan, tree-StarScan, tree-Filter, tree-Project, tree-Join, tree-Aggregate, tree-Empty, tree-Hole}
use Rattle.memo_sets.specs.Seen.{drafted}
use Rattle.memo_sets.proofs.EnterSteps.{at-leaf, at-hole, at-unary, fault-unary, at-binary, fault-left, fault-right}
use Rattle.memo_sets.proofs.draft.Draft.+enter.Goals as goal

pub returns-in-Scan : goal.returns-in-Scan
returns-in-Scan t c =
    at-leaf c.args.info.now c.args.target (drafted c.args.base.now c.args.self.now) (tree_of c.args.rel.now) (scan _) (ap tree_of c.in-Scan.is ∙ tree-Scan _) (drafted c.args.base.now c.place_leaf.new.self) c.place_leaf.result c.place_leaf.ensures

pub returns-in-TileScan : goal.returns-in-TileScan
returns-in-TileScan t c =
    at-leaf c.args.info.now c.args.target (drafted c.args.base.now c.args.self.now) (tree_of c.args.rel.now) (tile_scan _) (ap tree_of c.in-TileScan.is ∙ tree-TileScan _) (drafted c.args.base.now c.place_leaf-in-TileScan.new.self) c.place_leaf-in-TileScan.result c.place_leaf-in-TileScan.ensures

pub returns-in-StarScan : goal.returns-in-StarScan
returns-in-StarScan t c =
    at-leaf c.args.info.now c.args.target (drafted c.args.base.now c.args.self.now) (tree_of c.args.rel.now) (star_scan _) (ap tree_of c.in-StarScan.is ∙ tree-StarScan _) (drafted c.args.base.now c.place_leaf-in-StarScan.new.self) c.place_leaf-in-StarScan.result c.place_leaf-in-StarScan.ensures

pub returns-in-Empty : goal.returns-in-Empty
returns-in-Empty t c =
    at-leaf c.args.info.now c.args.target (drafted c.args.base.now c.args.self.now) (tree_of c.args.rel.now) (empty_of _) (ap tree_of c.in-Empty.is ∙ tree-Empty _) (drafted c.args.base.now c.place_leaf-in-Empty.new.self) c.place_leaf-in-Empty.result c.place_leaf-in-Empty.ensures

pub returns-in-Hole : goal.returns-in-Hole
returns-in-Hole t c = at-hole c.args.info.now c.args.target (drafted c.args.base.now c.args.self.now) (tree_of c.args.rel.now) c.in-Hole.set (ap tree_of c.in-Hole.is ∙ tree-Hole c.in-Hole.set) c.requires

pub returns-in-Err : goal.returns-in-Err
returns-in-Err t c =
    fault-unary c.args.info.now c.args.target (drafted c.args.base.now c.args.self.now) (tree_of c.args.rel.now) (filter_by c.in-Filter.predicate) (tree_of c.get.result.now) c.in-Err.fault (ap tree_of (c.in-Filter.is ∙ ap (λ i. r.Filter i c.in-Filter.predicate) (sym c.get.ensures)) ∙ tree-Filter c.get.result.now c.in-Filter.predicate) c.in-Err.ensures

pub returns-in_ok-node-in-Filter : goal.returns-in_ok-node-in-Filter
returns-in_ok-node-in-Filter t c =
    at-unary c.args.info.now c.args.target (drafted c.args.base.now c.args.self.now) (tree_of c.args.rel.now) (filter_by c.in-Filter.predicate) (tree_of c.get.result.now) (tree_of c.in_ok-node-in-Filter.node) c.in-Ok.below
    (drafted c.args.base.now c.enter.new.self) (ap tree_of (c.in-Filter.is ∙ ap (λ i. r.Filter i c.in-Filter.predicate) (sym c.get.ensures)) ∙ tree-Filter c.get.result.now c.in-Filter.predicate) c.in-Ok.ensures c.in_ok-node-in-Filter.ensures
    (drafted c.args.base.now c.place.new.self) c.place.result c.place.ensures

pub returns-in-Err-enter : goal.returns-in-Err-enter
returns-in-Err-enter t c =
    fault-unary c.args.info.now c.args.target (drafted c.args.base.now c.args.self.now) (tree_of c.args.rel.now) (project_to c.in-Project.items) (tree_of c.get-in-Project.result.now) c.in-Err-enter.fault (ap tree_of (c.in-Project.is ∙ ap (λ i. r.Project i c.in-Project.items) (sym c.get-in-Project.ensures)) ∙ tree-Project c.get-in-Project.result.now c.in-Project.items) c.in-Err-enter.ensures

pub returns-in_ok-node-in-Project : goal.returns-in_ok-node-in-Project
returns-in_ok-node-in-Project t c =
    at-unary c.args.info.now c.args.target (drafted c.args.base.now c.args.self.now) (tree_of c.args.rel.now) (project_to c.in-Project.items) (tree_of c.get-in-Project.result.now) (tree_of c.in_ok-node-in-Project.node) c.in-Ok-enter.below
    (drafted c.args.base.now c.enter-in-Project.new.self) (ap tree_of (c.in-Project.is ∙ ap (λ i. r.Project i c.in-Project.items) (sym c.get-in-Project.ensures)) ∙ tree-Project c.get-in-Project.result.now c.in-Project.items) c.in-Ok-enter.ensures c.in_ok-node-in-Project.ensures
    (drafted c.args.base.now c.place-in-Project.new.self) c.place-in-Project.result c.place-in-Project.ensures

pub returns-in-Err-enter-2 : goal.returns-in-Err-enter-2
returns-in-Err-enter-2 t c =
    fault-unary c.args.info.now c.args.target (drafted c.args.base.now c.args.self.now) (tree_of c.args.rel.now) (aggregate_by c.in-Aggregate.groups c.in-Aggregate.calls) (tree_of c.get-in-Aggregate.result.now) c.in-Err-enter-2.fault (ap tree_of (c.in-Aggregate.is ∙ ap (λ i. r.Aggregate i c.in-Aggregate.groups c.in-Aggregate.calls) (sym c.get-in-Aggregate.ensures)) ∙ tree-Aggregate c.get-in-Aggregate.result.now c.in-Aggregate.groups c.in-Aggregate.calls) c.in-Err-enter-2.ensures

pub returns-in_ok-node-in-Aggregate : goal.returns-in_ok-node-in-Aggregate
returns-in_ok-node-in-Aggregate t c =
    at-unary c.args.info.now c.args.target (drafted c.args.base.now c.args.self.now) (tree_of c.args.rel.now) (aggregate_by c.in-Aggregate.groups c.in-Aggregate.calls) (tree_of c.get-in-Aggregate.result.now) (tree_of c.in_ok-node-in-Aggregate.node) c.in-Ok-enter-2.below
    (drafted c.args.base.now c.enter-in-Aggregate.new.self) (ap tree_of (c.in-Aggregate.is ∙ ap (λ i. r.Aggregate i c.in-Aggregate.groups c.in-Aggregate.calls) (sym c.get-in-Aggregate.ensures)) ∙ tree-Aggregate c.get-in-Aggregate.result.now c.in-Aggregate.groups c.in-Aggregate.calls) c.in-Ok-enter-2.ensures c.in_ok-node-in-Aggregate.ensures
    (drafted c.args.base.now c.place-in-Aggregate.new.self) c.place-in-Aggregate.result c.place-in-Aggregate.ensures

pub returns-in-Err-enter-3 : goal.returns-in-Err-enter-3
returns-in-Err-enter-3 t c =
    fault-left c.args.info.now c.args.target (drafted c.args.base.now c.args.self.now) (tree_of c.args.rel.now) (join_on c.in-Join.kind c.in-Join.on) (tree_of c.get-in-Join.result.now) (tree_of c.in-Join.right) c.in-Err-enter-3.fault
    (ap tree_of (c.in-Join.is ∙ ap (λ i. r.Join c.in-Join.kind i c.in-Join.right c.in-Join.on) (sym c.get-in-Join.ensures)) ∙ tree-Join c.in-Join.kind c.get-in-Join.result.now c.in-Join.right c.in-Join.on) c.in-Err-enter-3.ensures

pub returns-in-Err-enter-4 : goal.returns-in-Err-enter-4
returns-in-Err-enter-4 t c =
    fault-right c.args.info.now c.args.target (drafted c.args.base.now c.args.self.now) (tree_of c.args.rel.now) (join_on c.in-Join.kind c.in-Join.on) (tree_of c.get-in-Join.result.now) (tree_of c.get-in-Join-2.result.now) c.in-Err-enter-4.fault c.in-Ok-enter-3.first
    (drafted c.args.base.now c.enter-in-Join.new.self)
    (ap tree_of (c.in-Join.is ∙ ap (λ i. r.Join c.in-Join.kind i c.in-Join.right c.in-Join.on) (sym c.get-in-Join.ensures) ∙ ap (λ i. r.Join c.in-Join.kind c.get-in-Join.result.now i c.in-Join.on) (sym c.get-in-Join-2.ensures)) ∙ tree-Join c.in-Join.kind c.get-in-Join.result.now c.get-in-Join-2.result.now c.in-Join.on)
    c.in-Ok-enter-3.ensures c.in-Err-enter-4.ensures

pub returns-in_ok-node-in-Join : goal.returns-in_ok-node-in-Join
returns-in_ok-node-in-Join t c =
    at-binary c.args.info.now c.args.target (drafted c.args.base.now c.args.self.now) (tree_of c.args.rel.now) (join_on c.in-Join.kind c.in-Join.on) (tree_of c.get-in-Join.result.now) (tree_of c.get-in-Join-2.result.now) (tree_of c.in_ok-node-in-Join.node)
    c.in-Ok-enter-3.first c.in-Ok-enter-4.second (drafted c.args.base.now c.enter-in-Join.new.self) (drafted c.args.base.now c.enter-in-Join-2.new.self)
    (ap tree_of (c.in-Join.is ∙ ap (λ i. r.Join c.in-Join.kind i c.in-Join.right c.in-Join.on) (sym c.get-in-Join.ensures) ∙ ap (λ i. r.Join c.in-Join.kind c.get-in-Join.result.now i c.in-Join.on) (sym c.get-in-Join-2.ensures)) ∙ tree-Join c.in-Join.kind c.get-in-Join.result.now c.get-in-Join-2.result.now c.in-Join.on)
    c.in-Ok-enter-3.ensures c.in-Ok-enter-4.ensures c.in_ok-node-in-Join.ensures
    (drafted c.args.base.now c.place-in-Join.new.self) c.place-in-Join.result c.place-in-Join.ensures
