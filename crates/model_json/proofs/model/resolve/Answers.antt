use Rattle.serde_json.specs.View.{view}
use Rattle.model_json.proofs.ValidLemmas.{after-walk, model-files, model-inline, model-valid}
use Rattle.model_json.proofs.model.resolve.Goals as goal

pub returns-clause-model : goal.returns-clause-model
returns-clause-model c = after-walk (view c.args.doc.json) c.args.headers.now c.args.doc.drafts c.resolved.result c.requires.walked.drafts c.resolved.ensures.model

pub returns-clause-valid : goal.returns-clause-valid
returns-clause-valid c = model-valid (view c.args.doc.json) c.args.headers.now c.resolved.result (returns-clause-model c)

pub returns-clause-files : goal.returns-clause-files
returns-clause-files c = model-files (view c.args.doc.json) c.args.headers.now c.resolved.result (returns-clause-model c)

pub returns-clause-inline : goal.returns-clause-inline
returns-clause-inline c = model-inline (view c.args.doc.json) c.args.headers.now c.resolved.result (returns-clause-model c)
