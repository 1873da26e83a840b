-- A quiet pass over all triples of a memo leaves it closed.
use Rattle.std.proofs.Common.{ℕ, List, sym, subst}
use Rattle.std.specs.Prelude.{Contains}
use Rattle.cal_rel.specs.Info.{Info}
use Rattle.memo_model.specs.Sets.{Sets}
use Rattle.rule_hep.specs.Meaning.{Meaning}
use Rattle.search_model.specs.Firings.{Firing, IsComplete, IsClosed}
use Rattle.search_model.specs.Search.{IsTriple}
use Rattle.search_model.proofs.SearchLemmas.{quiet-complete, complete-closed}
use Rattle.volcano_search.specs.declared.search.Went.TheVariants.{Quiet}
use Rattle.volcano_search.specs.Went.{IsPass}

module _ (info : Info) (rules : List Meaning) (budget : ℕ) (old new : Sets) (before after triples : List Firing)
    (each : (f : Firing) → IsTriple info rules old.members f → Contains triples f) (pass : IsPass info rules budget old new before after triples Quiet) where
  pub round-complete : IsComplete info rules new after
  round-complete =
      let at_old : IsComplete info rules old before = quiet-complete info rules old before (λ f is. pass.went_by.done f (each f is)) in
      let on : IsComplete info rules new before = subst (λ (z : Sets). IsComplete info rules z before) (sym pass.went_by.sets) at_old in
      subst (IsComplete info rules new) (sym pass.went_by.firings) on

  pub round-closed : IsClosed info rules new
  round-closed = complete-closed info rules new after pass.search.fired round-complete
