use Rattle.serde_json.specs.View.{view}
use Rattle.model_fields.proofs.RowLemmas.{key-read}
use Rattle.model_fields.proofs.key.key.Goals as goal

pub returns : goal.returns
returns c = key-read c.args.columns.now (view c.args.value.now) c.key_columns.result c.key_columns.ensures
