use Rattle.serde_json.specs.View.{view}
use Rattle.model_json.proofs.ValidLemmas.{sources-walked}
use Rattle.model_json.proofs.source.sources.Goals as goal

pub returns : goal.returns
returns c = sources-walked (view c.args.doc.now.json) c.args.doc.now.drafts c.each_source.result c.requires.drafts c.each_source.ensures
