-- How the loops over rules, numbers and members go on.
use Rattle.std.proofs.Common.{◌≡◌, ℕ, suc, ◌+◌, ◌-◌, ◌<◌, ◌≤◌, List, [], ◌∷◌, ◌++◌, map, length, get_or, drop, refl, ap, arith}
use Rattle.std.specs.List.{flat_map, range_with_len, enumerate_from}
use Rattle.std.proofs.Math.Seq.{drop-cons}
use Rattle.std.proofs.Math.Numerals.{add-one}
use Rattle.std.proofs.lemmas.List.{drop_all}
use Rattle.cal_rel.specs.Info.{Info}
use Rattle.rule_hep.specs.Meaning.{Meaning}
use Rattle.memo_model.specs.Sets.{Member}
use Rattle.search_model.specs.Listed.{Nodes, of_rule, of_member}
use Rattle.search_firings.specs.declared.listing.Asked.{Asked}
use Rattle.search_firings.specs.Steps.{asked_from, of_asked}

-- what is asked of all rules, and what of each gives the triples of a member
pub asked-member : (info : Info) (nodes : Nodes) (m : Member) (k : ℕ) (rules : List Meaning)
    → flat_map (of_asked nodes m) (asked_from info k rules) ≡ flat_map (λ r. of_rule nodes m r.0 r.1.reach (r.1.width info)) (enumerate_from k rules)
asked-member info nodes m k [] = refl
asked-member info nodes m k (law ∷ rules) = ap (λ more. of_rule nodes m k law.reach (law.width info) ++ more) (asked-member info nodes m (k + 1) rules)

pub asked-members : (info : Info) (rules : List Meaning) (nodes : Nodes) (members : List Member)
    → flat_map (λ m. flat_map (of_asked nodes m) (asked_from info 0 rules)) members ≡ flat_map (of_member info rules nodes) members
asked-members info rules nodes members = λ i. flat_map (λ m. asked-member info nodes m 0 rules i) members

module _ {A : Type 0} (info : Info) (law_of : A → Meaning) where
  pub ask-next : (k : ℕ) (rules : List A) (x : A) → k < length rules → x ≡ get_or rules k x
      → asked_from info k (map law_of (drop k rules)) ≡ record { rule = k; reach = (law_of x).reach; width = (law_of x).width info } ∷ asked_from info (k + 1) (map law_of (drop (k + 1) rules))
  ask-next k rules x h e = rw (drop-cons rules k x h, ← e, add-one)

  pub ask-end : (k : ℕ) (rules : List A) → length rules ≤ k → asked_from info k (map law_of (drop k rules)) ≡ []
  ask-end k rules h = rw (drop_all k rules h)

pub range-next : (n w : ℕ) → n < w → range_with_len n (w - n) ≡ n ∷ range_with_len (n + 1) (w - (n + 1))
range-next n w h = let e : w - n ≡ suc (w - (n + 1)) = omega arith in rw e refl

pub range-end : (n w : ℕ) → w ≤ n → range_with_len n (w - n) ≡ []
range-end n w h = let e : w - n ≡ 0 = omega arith in rw e refl

pub ruleset nth_steps = (range-next, range-end)

pub ruleset ask_steps = (ask-next, ask-end)

pub ruleset triple_steps = (asked-members)
