use Rattle.std.proofs.Common.{◌≡◌, drop}
use Rattle.serde_json.specs.View.{items_view}
use Rattle.model_json.specs.Schemas.{has_schema}
use Rattle.model_json.proofs.schemas.has_schema.Given as goal

abbrev pub invariant-loop-schema : goal.invariant-loop-schema
invariant-loop-schema l = has_schema l.name (items_view l.schemas) ≡ has_schema l.name (items_view (drop l.schema-index l.schemas))
