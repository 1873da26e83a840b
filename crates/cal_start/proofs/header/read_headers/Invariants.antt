use Rattle.std.proofs.Common.{drop, map}
use Rattle.cal_outside.specs.Store.{IsLater}
use Rattle.model_json.specs.ModelOf.{AreShort, IsHeaderOf}
use Rattle.model_json.specs.declared.source.TableSource.{TableSource}
use Rattle.serde_json.specs.View.{view}
use Rattle.cal_start.specs.Ends.{KeepsEach}
use Rattle.cal_start.specs.Next.{headers_after}
use Rattle.cal_start.specs.Parts.{file_names}
use Rattle.cal_start.proofs.HeaderLemmas.{SoFar}
use Rattle.cal_start.proofs.ZipLemmas.{Completes}
use Rattle.cal_start.proofs.header.read_headers.Given as goal

abbrev pub invariant-loop-source : goal.invariant-loop-source
invariant-loop-source g l = record {
  later : IsLater (g.S.Store.state l.initial.store) (g.S.Store.state l.store);
  each : KeepsEach (g.S.Store.state l.initial.store) (g.S.Store.state l.store) l.initial.files.items l.files.items;
  short : AreShort l.headers;
  headers : Completes IsHeaderOf (file_names (view l.doc.json)) (map (λ (t : TableSource). t.file) (drop l.source-index l.source-items)) l.headers;
  so_far : SoFar (g.S.Store.state l.initial.store) (view l.doc.json) l.initial.files.items l.files.items
      (λ more. headers_after (drop l.source-index l.source-items) l.headers l.left more);
}
