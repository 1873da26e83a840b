-- A search from its start to its end.
use Rattle.std.proofs.Common.{◌≡◌, ℕ, ◌<◌, ◌≤◌, inl, Bool, true, false, List, [], length, sym, ◌∙◌, arith}
use Rattle.std.specs.Prelude.{nat_lt}
use Rattle.std.proofs.lemmas.Bool.Decides.{nat_tests}
use Rattle.cal_rel.specs.Info.{Info}
use Rattle.rule_hep.specs.Meaning.{Meaning}
use Rattle.memo_model.specs.Sets.{Sets}
use Rattle.memo_model.specs.Sound.{IsSound}
use Rattle.memo_model.specs.Relations.{Keeps}
use Rattle.memo_model.proofs.KeepLemmas.{keeps-trans}
use Rattle.search_model.specs.Firings.{Firing}
use Rattle.search_model.specs.Grown.{StaysGrown}
use Rattle.search_model.specs.Measure.{search_left}
use Rattle.search_model.specs.Search.{IsSearch, IsTriples}
use Rattle.search_model.proofs.AmongLemmas.{none, once-none}
use Rattle.search_model.proofs.DifferLemmas.{search-apart}
use Rattle.volcano_search.specs.declared.search.Went.{Went}
use Rattle.volcano_search.specs.declared.search.Went.TheVariants.{Quiet, Fired, Stopped}
use Rattle.volcano_search.specs.Went.{IsPass, ends, is_complete}
use Rattle.volcano_search.specs.Explored.{IsExplored}
use Rattle.volcano_search.proofs.RoundLemmas.{round-complete, round-closed}

pub search-start : (info : Info) (rules : List Meaning) (budget : ℕ) (m : Sets) → IsSound info m → IsSearch info rules budget m []
search-start info rules budget m sound = record { sound = sound; fired = λ f h. absurd (none f h); once = once-none; few = omega arith }

below : (n budget : ℕ) (b : Bool) → b ≡ nat_lt n budget → b ≡ true → n < budget
below n budget b e h = let t : nat_lt n budget ≡ true = sym e ∙ h in grind (arith, nat_tests)

reached : (n budget : ℕ) (b : Bool) → b ≡ nat_lt n budget → b ≡ false → n ≤ budget → n ≡ budget
reached n budget b e h few = let t : nat_lt n budget ≡ false = sym e ∙ h in let l : budget ≤ n = grind (arith, nat_tests) in omega arith

pub explored : (info : Info) (rules : List Meaning) (budget : ℕ) (old cur new : Sets) (before after triples : List Firing) (went : Went) (complete : Bool)
    → IsTriples info rules cur.members triples → Keeps old cur → IsPass info rules budget cur new before after triples went → ends went ≡ true
    → complete ≡ is_complete went (length after) budget → IsExplored info rules budget old new after complete
explored info rules budget old cur new before after triples Quiet complete all keeps pass last e = record {
  searched = record {
    sound = pass.search.sound;
    fired = pass.search.fired;
    apart = search-apart info rules budget new after pass.search;
    few = pass.search.few;
    all = λ h. record {
      closed = round-closed info rules budget cur new before after triples all.each pass;
      whole = round-complete info rules budget cur new before after triples all.each pass;
      fewer = below (length after) budget complete e h;
    };
    stopped = λ h. inl (reached (length after) budget complete e h pass.search.few);
  };
  keeps = keeps-trans old cur new keeps pass.keeps;
}
explored info rules budget old cur new before after triples Fired complete all keeps pass last e = absurd cc
explored info rules budget old cur new before after triples Stopped complete all keeps pass last e = record {
  searched = record {
    sound = pass.search.sound;
    fired = pass.search.fired;
    apart = search-apart info rules budget new after pass.search;
    few = pass.search.few;
    all = λ h. absurd cc;
    stopped = λ h. pass.went_by;
  };
  keeps = keeps-trans old cur new keeps pass.keeps;
}

-- a round after which the search goes on leaves less
pub fell : (info : Info) (rules : List Meaning) (budget : ℕ) (cur new : Sets) (before after triples : List Firing) (went : Went)
    → IsPass info rules budget cur new before after triples went → ends went ≡ false → search_left budget new after < search_left budget cur before
fell info rules budget cur new before after triples Quiet pass e = absurd cc
fell info rules budget cur new before after triples Fired pass e = pass.went_by
fell info rules budget cur new before after triples Stopped pass e = absurd cc

pub grown-itself : (info : Info) (rules : List Meaning) (m : Sets) (firings : List Firing) → StaysGrown info rules m m firings firings
grown-itself info rules m firings = record { grown = λ trees whole grown. grown }

pub grown-trans : (info : Info) (rules : List Meaning) (old cur new : Sets) (before mid after : List Firing) → StaysGrown info rules old cur before mid
    → StaysGrown info rules cur new mid after → StaysGrown info rules old new before after
grown-trans info rules old cur new before mid after h k = record { grown = λ trees whole grown. k.grown trees whole (h.grown trees whole grown) }
