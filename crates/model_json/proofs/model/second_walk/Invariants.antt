use Rattle.std.proofs.Common.{◌≡◌, length}
use Rattle.model_json.proofs.WalkLemmas.{TablesRead}
use Rattle.model_json.proofs.model.second_walk.Given as goal

abbrev pub invariant-loop-draft : goal.invariant-loop-draft
invariant-loop-draft l = record { count : length l.tables ≡ l.draft-index; read : TablesRead l.headers l.drafts l.tables l.draft-index }
