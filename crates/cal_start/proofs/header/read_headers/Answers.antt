use Rattle.std.proofs.Common.{List, Option, IfSome, ap, length, map, ◌≤◌, arith}
use Rattle.std.proofs.lemmas.List.{drop_all}
use Rattle.std.proofs.lemmas.List.Elements.{All-push}
use Rattle.cal_schema.specs.declared.column.ColumnDef.{ColumnDef}
use Rattle.model_json.specs.ModelOf.{IsHeaderOf}
use Rattle.model_json.specs.declared.source.TableSource.{TableSource}
use Rattle.cal_start.proofs.HeaderLemmas.{no_memory, headers_all, more_at, stopped_at}
use Rattle.cal_start.proofs.ReadLemmas.{later_twice, keeps_twice}
use Rattle.cal_start.proofs.ZipLemmas.{completes_all, completes_more, first_left}
use Rattle.cal_start.proofs.header.read_headers.Goals as goal

pub returns-in_default-push-clause-read : goal.returns-in_default-push-clause-read
returns-in_default-push-clause-read g c =
    no_memory (g.S.Store.state c.args.store.now) (g.S.Store.state c.next_header.new.store) _ _ _ _
    (more_at (g.S.Store.state c.args.store.now) (g.S.Store.state c.loop-source.store) (g.S.Store.state c.next_header.new.store) _ _ _ _ c.as_slice-source-items.result.now c.source-item.result c.loop-source.source-index c.loop-source.headers c.loop-source.left c.in-Ok-next_header.next (omega (arith, c.loop-source-test.true)) c.source-item.is c.loop-source.invariant.later c.loop-source.invariant.so_far c.in-Ok-next_header.ensures.read)

pub returns-in-Err-clause-read : goal.returns-in-Err-clause-read
returns-in-Err-clause-read g c =
    stopped_at (g.S.Store.state c.args.store.now) (g.S.Store.state c.loop-source.store) (g.S.Store.state c.next_header.new.store) _ _ _ _ c.as_slice-source-items.result.now c.source-item.result c.loop-source.source-index c.loop-source.headers c.loop-source.left c.in-Err.fault (omega (arith, c.loop-source-test.true)) c.source-item.is c.loop-source.invariant.later
    c.loop-source.invariant.so_far c.in-Err.ensures.read

pub loop-source-preserved : goal.loop-source-preserved
loop-source-preserved g c = record {
  later = later_twice (g.S.Store.state c.args.store.now) (g.S.Store.state c.loop-source.store) (g.S.Store.state c.next_header.new.store) c.loop-source.invariant.later c.next_header.ensures.later;
  each = keeps_twice (g.S.Store.state c.args.store.now) (g.S.Store.state c.loop-source.store) (g.S.Store.state c.next_header.new.store) c.args.files.now.items c.loop-source.files.items c.next_header.new.files.items c.loop-source.invariant.each c.next_header.ensures.each;
  short = rw c.in-Ok-push.ensures.ok (All-push (λ (header : Option (List ColumnDef)). IfSome header (λ cs. length cs ≤ 32)) _ _ c.loop-source.invariant.short c.in-Ok-next_header.ensures.few);
  headers =
      rw c.in-Ok-push.ensures.ok
      (completes_more IsHeaderOf _ _ _ _ c.source-item.result.file c.in-Ok-next_header.next.header
      (ap (map (λ (t : TableSource). t.file)) (first_left c.as_slice-source-items.result.now c.loop-source.source-index c.source-item.result (omega (arith, c.loop-source-test.true)) c.source-item.is))
      c.in-Ok-next_header.ensures.header c.loop-source.invariant.headers);
  so_far =
      rw c.in-Ok-push.ensures.ok
      (more_at (g.S.Store.state c.args.store.now) (g.S.Store.state c.loop-source.store) (g.S.Store.state c.next_header.new.store) _ _ _ _ c.as_slice-source-items.result.now c.source-item.result c.loop-source.source-index c.loop-source.headers c.loop-source.left c.in-Ok-next_header.next (omega (arith, c.loop-source-test.true)) c.source-item.is c.loop-source.invariant.later c.loop-source.invariant.so_far c.in-Ok-next_header.ensures.read);
}

pub returns-clause-read : goal.returns-clause-read
returns-clause-read g c =
    headers_all (g.S.Store.state c.args.store.now) (g.S.Store.state c.loop-source.store) _ _ _ _ _ _ (drop_all c.loop-source.source-index c.as_slice-source-items.result.now (omega (arith, c.loop-source-test.false))) c.loop-source.invariant.so_far

pub returns-clause-headers : goal.returns-clause-headers
returns-clause-headers g c =
    completes_all IsHeaderOf _ _ _ (ap (map (λ (t : TableSource). t.file)) (drop_all c.loop-source.source-index c.as_slice-source-items.result.now (omega (arith, c.loop-source-test.false)))) c.loop-source.invariant.headers
