-- How the searches of a run go on.
use Rattle.std.proofs.Common.{◌≡◌, ℕ, suc, ◌+◌, ◌-◌, ◌<◌, ◌≤◌, List, [], ◌∷◌, ◌++◌, map, length, get_or, drop, cond, Some, None, refl, arith, append_assoc}
use Rattle.std.specs.Option.{option_map, option_map_or}
use Rattle.std.proofs.Math.Seq.{drop-cons}
use Rattle.std.proofs.Math.Numerals.{add-one}
use Rattle.std.proofs.lemmas.List.{drop_all}
use Rattle.cal_rel.specs.Info.{Info}
use Rattle.cal_rel.specs.Tree.{Tree}
use Rattle.rule_hep.specs.Meaning.{Meaning}
use Rattle.rule_hep.specs.Run.{Step, places, or_else, rewritten, first_nth, first_place, first_rule, hep_run, last_result}

pub first_nth-next : (k : ℕ) (rule : Meaning) (info : Info) (root : Tree) (path : List ℕ) (n end : ℕ) → n < end
    → first_nth k rule info root path n (end - n)
    ≡ or_else (option_map (λ t. record { rule = k; path = path; nth = n; result = t }) (rewritten rule info root path n)) (first_nth k rule info root path (n + 1) (end - (n + 1)))
first_nth-next k rule info root path n end h = let e : end - n ≡ suc (end - (n + 1)) = omega arith in rw e refl

pub first_nth-end : (k : ℕ) (rule : Meaning) (info : Info) (root : Tree) (path : List ℕ) (end : ℕ) → first_nth k rule info root path end (end - end) ≡ None
first_nth-end k rule info root path end = let e : end - end ≡ 0 = omega arith in rw e refl

pub first_place-next : (k : ℕ) (rule : Meaning) (info : Info) (root : Tree) (paths : List (List ℕ)) (i : ℕ) (path : List ℕ) → i < length paths → path ≡ get_or paths i path
    → first_place k rule info root (drop i paths) ≡ or_else (first_nth k rule info root path 0 (rule.width info)) (first_place k rule info root (drop (i + 1) paths))
first_place-next k rule info root paths i path h e = rw (drop-cons paths i path h, ← e, add-one)

pub first_place-end : (k : ℕ) (rule : Meaning) (info : Info) (root : Tree) (paths : List (List ℕ)) (i : ℕ) → length paths ≤ i → first_place k rule info root (drop i paths) ≡ None
first_place-end k rule info root paths i h = rw (drop_all i paths h)

-- the boxes of a list, each with its meaning
pub first_rule-next : {B : Type 0} (m : B → Meaning) (info : Info) (root : Tree) (boxes : List B) (i : ℕ) (b : B) → i < length boxes → b ≡ get_or boxes i b
    → first_rule i (map m (drop i boxes)) info root
    ≡ or_else (cond (m b).in_hep (first_place i (m b) info root (places root)) None) (first_rule (i + 1) (map m (drop (i + 1) boxes)) info root)
first_rule-next m info root boxes i b h e = rw (drop-cons boxes i b h, ← e, add-one)

pub first_rule-end : {B : Type 0} (m : B → Meaning) (info : Info) (root : Tree) (boxes : List B) (i : ℕ) → length boxes ≤ i → first_rule i (map m (drop i boxes)) info root ≡ None
first_rule-end m info root boxes i h = rw (drop_all i boxes h)

pub hep_run-next : (rules : List Meaning) (info : Info) (root : Tree) (limit n : ℕ) → n < limit
    → hep_run (limit - n) rules info root ≡ option_map_or (λ step. step ∷ hep_run (limit - (n + 1)) rules info step.result) (first_rule 0 rules info root) []
hep_run-next rules info root limit n h = let e : limit - n ≡ suc (limit - (n + 1)) = omega arith in rw e refl

pub hep_run-end : (rules : List Meaning) (info : Info) (root : Tree) (limit : ℕ) → hep_run (limit - limit) rules info root ≡ []
hep_run-end rules info root limit = let e : limit - limit ≡ 0 = omega arith in rw e refl

pub last_result-push : (root : Tree) (steps : List Step) (step : Step) → last_result root (steps ++ step ∷ []) ≡ step.result
last_result-push root [] step = refl
last_result-push root (s ∷ steps) step = last_result-push s.result steps step

-- one more step of a run
pub hep_run-step : (limit n : ℕ) (rules : List Meaning) (info : Info) (rel root : Tree) (log : List Step) (step : Step) → n < limit
    → hep_run limit rules info rel ≡ log ++ hep_run (limit - n) rules info root → Some step ≡ first_rule 0 rules info root
    → hep_run limit rules info rel ≡ (log ++ step ∷ []) ++ hep_run (limit - (n + 1)) rules info step.result
hep_run-step limit n rules info rel root log step h run first =
    let next : hep_run (limit - n) rules info root ≡ step ∷ hep_run (limit - (n + 1)) rules info step.result = rw (hep_run-next rules info root limit n h, ← first) in
    rw (run, next, append_assoc)

pub ruleset run_steps = (first_nth-next, first_nth-end, first_place-next, first_place-end, first_rule-next, first_rule-end)

pub ruleset hep_steps = (hep_run-next, hep_run-end, last_result-push)
