use Rattle.model_json.proofs.WalkLemmas.{document_some, document_none}
use Rattle.model_json.proofs.model.document.Goals as goal

pub returns-in-Ok : goal.returns-in-Ok
returns-in-Ok c = document_some _ _ c.in-Ok.ensures.ok.0 c.in-Ok.ensures.ok.1

pub returns-in_default : goal.returns-in_default
returns-in_default c = λ _. document_none _ (c.in-Err.ensures.err (λ is_memory. c.in_default.not-Memory (c.classify.ensures.memory.1 is_memory)))
