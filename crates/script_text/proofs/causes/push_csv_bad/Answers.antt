use Rattle.std.proofs.lemmas.Result.{on_ok_weaker}
use Rattle.script_text.proofs.PrintLemmas.{three_pieces}
use Rattle.script_text.proofs.causes.push_csv_bad.Goals as goal

pub returns : goal.returns
returns c = on_ok_weaker c.push_cause.result (λ last. three_pieces _ _ _ _ _ _ _ c.in_ok-push_counted.ensures c.in_ok-push_counted-2.ensures last) c.push_cause.ensures
