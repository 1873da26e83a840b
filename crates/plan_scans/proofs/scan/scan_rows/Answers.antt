use Rattle.std.proofs.Common.{◌≡◌, arith, ◌+◌, ◌∙◌, ap, sym, List}
use Rattle.std.proofs.lemmas.Result.{on_ok_weaker, IfOk-weaker}
use Rattle.cal_rel.specs.Operators.{Row}
use Rattle.cal_snapshot.specs.Parts.{rows_in}
use Rattle.plan_scans.specs.Chains.{chain_rows, rows_held}
use Rattle.plan_scans.specs.Scans.{AreScanned}
use Rattle.plan_scans.proofs.Held.{chain-read, chain-there, tile-held}
use Rattle.plan_scans.proofs.scan.scan_rows.Goals as goal

-- ---- a tile

pub tile_rows-requires : goal.tile_rows-requires
tile_rows-requires g c = (tile-held c.args.schema.now c.args.snapshot.now c.args.plan.now c.requires.plan c.tile_in.result c.in-Some.tile c.requires.tiles c.tile_in.ensures c.in-Some.is).there

pub returns-in-Some-clause-rows : goal.returns-in-Some-clause-rows
returns-in-Some-clause-rows g c =
    IfOk-weaker c.tile_rows.result (λ (rows : List Row). rows ≡ rows_held c.args.snapshot.now c.in-Some.tile) (AreScanned c.args.schema.now c.args.snapshot.now c.args.plan.now)
    (tile-held c.args.schema.now c.args.snapshot.now c.args.plan.now c.requires.plan c.tile_in.result c.in-Some.tile c.requires.tiles c.tile_in.ensures c.in-Some.is).rows c.tile_rows.ensures.rows

pub returns-in-Some-clause-all : goal.returns-in-Some-clause-all
returns-in-Some-clause-all g c =
    let h = tile-held c.args.schema.now c.args.snapshot.now c.args.plan.now c.requires.plan c.tile_in.result c.in-Some.tile c.requires.tiles c.tile_in.ensures c.in-Some.is in
    on_ok_weaker c.tile_rows.result (λ e. e ∙ ap (λ n. c.args.steps.now + n) (sym h.reads)) c.tile_rows.ensures.all

pub returns-in-Some-clause-most : goal.returns-in-Some-clause-most
returns-in-Some-clause-most g c =
    let h = tile-held c.args.schema.now c.args.snapshot.now c.args.plan.now c.requires.plan c.tile_in.result c.in-Some.tile c.requires.tiles c.tile_in.ensures c.in-Some.is in
    let same = h.reads in
    omega (arith, same, c.tile_rows.ensures.most)

-- ---- a table

pub table_rows-requires : goal.table_rows-requires
table_rows-requires g c = (chain-read c.args.schema.now c.args.snapshot.now c.args.plan.now c.requires.plan c.tile_in.result c.chain_of.result c.in-Some-chain_of.chain c.tile_in.ensures c.in-None.is c.chain_of.ensures c.in-Some-chain_of.is).can

pub unreachable-requires : goal.unreachable-requires
unreachable-requires g c = chain-there c.args.schema.now c.args.snapshot.now c.args.plan.now c.requires.plan c.tile_in.result c.chain_of.result c.tile_in.ensures c.in-None.is c.chain_of.ensures c.in-None-chain_of.is

pub returns-in-Some-chain_of-clause-rows : goal.returns-in-Some-chain_of-clause-rows
returns-in-Some-chain_of-clause-rows g c =
    IfOk-weaker c.table_rows.result (λ (rows : List Row). rows ≡ chain_rows c.in-Some-chain_of.chain (rows_in c.args.snapshot.now c.in-Some-chain_of.chain.table)) (AreScanned c.args.schema.now c.args.snapshot.now c.args.plan.now)
    (chain-read c.args.schema.now c.args.snapshot.now c.args.plan.now c.requires.plan c.tile_in.result c.chain_of.result c.in-Some-chain_of.chain c.tile_in.ensures c.in-None.is c.chain_of.ensures c.in-Some-chain_of.is).rows c.table_rows.ensures.rows

pub returns-in-Some-chain_of-clause-all : goal.returns-in-Some-chain_of-clause-all
returns-in-Some-chain_of-clause-all g c =
    let h = chain-read c.args.schema.now c.args.snapshot.now c.args.plan.now c.requires.plan c.tile_in.result c.chain_of.result c.in-Some-chain_of.chain c.tile_in.ensures c.in-None.is c.chain_of.ensures c.in-Some-chain_of.is in
    on_ok_weaker c.table_rows.result (λ e. e ∙ ap (λ n. c.args.steps.now + n) (sym h.reads)) c.table_rows.ensures.all

pub returns-in-Some-chain_of-clause-most : goal.returns-in-Some-chain_of-clause-most
returns-in-Some-chain_of-clause-most g c =
    let h = chain-read c.args.schema.now c.args.snapshot.now c.args.plan.now c.requires.plan c.tile_in.result c.chain_of.result c.in-Some-chain_of.chain c.tile_in.ensures c.in-None.is c.chain_of.ensures c.in-Some-chain_of.is in
    let same = h.reads in
    omega (arith, same, c.table_rows.ensures.most)
