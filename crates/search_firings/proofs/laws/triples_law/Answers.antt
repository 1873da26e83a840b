use Rattle.search_model.proofs.TripleLemmas.{listed-triples}
use Rattle.search_firings.proofs.laws.triples_law.Goals as goal

pub returns : goal.returns
returns c = listed-triples
