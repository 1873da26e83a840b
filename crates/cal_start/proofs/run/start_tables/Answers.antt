use Rattle.serde_json.specs.View.{view}
use Rattle.cal_start.specs.Parts.{file_names}
use Rattle.cal_start.proofs.SourceLemmas.{files_are}
use Rattle.cal_start.proofs.run.start_tables.Goals as goal

pub all_rows-requires-clause-valid : goal.all_rows-requires-clause-valid
all_rows-requires-clause-valid g c =
    let d = view c.args.doc.json in
    rw c.as_slice.ensures (c.in-Ok-resolve.ensures.valid (file_names d) (files_are d c.args.doc.drafts c.requires.drafts) c.in-Ok.ensures.headers).tables

pub returns-in-Ok-all_rows-clause-valid : goal.returns-in-Ok-all_rows-clause-valid
returns-in-Ok-all_rows-clause-valid g c =
    let d = view c.args.doc.json in
    c.in-Ok-resolve.ensures.valid (file_names d) (files_are d c.args.doc.drafts c.requires.drafts) c.in-Ok.ensures.headers
