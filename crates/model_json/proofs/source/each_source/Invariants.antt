use Rattle.std.proofs.Common.{◌≡◌, map, take}
use Rattle.model_json.specs.Sources.{source_of}
use Rattle.model_json.proofs.source.each_source.Given as goal

abbrev pub invariant-loop-draft : goal.invariant-loop-draft
invariant-loop-draft l = l.all ≡ map source_of (take l.draft-index l.drafts)
