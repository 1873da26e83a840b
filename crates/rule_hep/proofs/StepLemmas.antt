-- What each step of a run keeps, since each rule is lawful: the meaning of the tree, that it is well formed, and that it has no hole.
use Rattle.std.proofs.Common.{◌≡◌, ℕ, zero, suc, ◌+◌, ◌==◌, List, [], ◌∷◌, Bool, true, false, cond, Option, Some, None, refl, ◌∙◌, ap, subst}
use Rattle.std.specs.Prelude.{is_some, IsSome}
use Rattle.std.specs.Option.{option_map, option_map_or}
use Rattle.std.proofs.lemmas.Option.{same_Some}
use Rattle.cal_schema.specs.declared.rel_type.RelType.{RelType}
use Rattle.cal_value.proofs.TypeLemmas.{split_if}
use Rattle.cal_rel.specs.Bag.{bag}
use Rattle.cal_rel.specs.Holes.{EachHole}
use Rattle.cal_rel.specs.Info.{Info}
use Rattle.cal_rel.specs.Meaning.{MeansTheSame}
use Rattle.cal_rel.specs.Places.{place, replaced}
use Rattle.cal_rel.specs.Tree.{Tree, Unary, Binary, leaf, unary, binary, hole}
use Rattle.cal_rel.specs.Typing.{type_of}
use Rattle.cal_rel.proofs.Replaced.{replaced-means}
use Rattle.cal_rel.proofs.Totals.{weighs-refl, weighs-trans, Weighs-from_SameBag, SameBag-from_Weighs}
use Rattle.rule_hep.specs.Law.{StandsFor}
use Rattle.rule_hep.specs.Meaning.{Meaning}
use Rattle.rule_hep.specs.Run.{Step, places, or_else, counted, image_at, rewritten, first_nth, first_place, first_rule, hep_run, last_result}

-- ---- trees that mean the same

means-itself : (info : Info) (t : Tree) → MeansTheSame info t t
means-itself info t = record { columns = refl; rows = λ db holes fits true_of. SameBag-from_Weighs (bag info db holes t) (bag info db holes t) (weighs-refl (bag info db holes t)) }

means-trans : (info : Info) (a b c : Tree) → MeansTheSame info a b → MeansTheSame info b c → MeansTheSame info a c
means-trans info a b c h k = record {
  columns = h.columns ∙ k.columns;
  rows = λ db holes fits true_of.
      let one = Weighs-from_SameBag (bag info db holes a) (bag info db holes b) (h.rows db holes fits true_of) in
      let two = Weighs-from_SameBag (bag info db holes b) (bag info db holes c) (k.rows db holes fits true_of) in
      SameBag-from_Weighs (bag info db holes a) (bag info db holes c) (weighs-trans (bag info db holes a) (bag info db holes b) (bag info db holes c) one two);
}

-- ---- holes of a tree with another part

pub holes-weaker : (P Q : ℕ → Type 0) → ((k : ℕ) → P k → Q k) → (t : Tree) → EachHole P t → EachHole Q t
holes-weaker P Q h (leaf l) e = tt
holes-weaker P Q h (unary u t) e = holes-weaker P Q h t e
holes-weaker P Q h (binary b s t) e = (holes-weaker P Q h s e.0, holes-weaker P Q h t e.1)
holes-weaker P Q h (hole set) e = h set e

module _ (P : ℕ → Type 0) where
  unary-holes : (t here : Tree) (path : List ℕ) (b : Bool) → (place t path ≡ Some here → EachHole P here)
      → cond b (place t path) None ≡ Some here → EachHole P here
  unary-holes t here path true h e = h e
  unary-holes t here path false h e = absurd (cc)

  binary-holes : (s t here : Tree) (path : List ℕ) (b c : Bool) → (place s path ≡ Some here → EachHole P here) → (place t path ≡ Some here → EachHole P here)
      → cond b (place s path) (cond c (place t path) None) ≡ Some here → EachHole P here
  binary-holes s t here path true c h k e = h e
  binary-holes s t here path false true h k e = k e
  binary-holes s t here path false false h k e = absurd (cc)

  pub part-holes : (t here : Tree) (path : List ℕ) → EachHole P t → place t path ≡ Some here → EachHole P here
  part-holes (leaf l) here [] h e = subst (EachHole P) (same_Some (leaf l) here e) h
  part-holes (leaf l) here (k ∷ path) h e = absurd (cc)
  part-holes (unary u t) here [] h e = subst (EachHole P) (same_Some (unary u t) here e) h
  part-holes (unary u t) here (k ∷ path) h e = unary-holes t here path (k == 0) (part-holes t here path h) e
  part-holes (binary b s t) here [] h e = subst (EachHole P) (same_Some (binary b s t) here e) h
  part-holes (binary b s t) here (k ∷ path) h e = binary-holes s t here path (k == 0) (k == 1) (part-holes s here path h.0) (part-holes t here path h.1) e
  part-holes (hole set) here [] h e = subst (EachHole P) (same_Some (hole set) here e) h
  part-holes (hole set) here (k ∷ path) h e = absurd (cc)

  unary-put : (u : Unary) (t new : Tree) (path : List ℕ) (b : Bool) → EachHole P t → EachHole P (replaced t path new) → EachHole P (cond b (unary u (replaced t path new)) (unary u t))
  unary-put u t new path true h k = k
  unary-put u t new path false h k = h

  binary-put : (n : Binary) (s t new : Tree) (path : List ℕ) (b c : Bool) → EachHole P s → EachHole P t → EachHole P (replaced s path new) → EachHole P (replaced t path new)
      → EachHole P (cond b (binary n (replaced s path new) t) (cond c (binary n s (replaced t path new)) (binary n s t)))
  binary-put n s t new path true c h k i j = (i, k)
  binary-put n s t new path false true h k i j = (h, j)
  binary-put n s t new path false false h k i j = (h, k)

  pub replaced-holes : (t new : Tree) (path : List ℕ) → EachHole P t → EachHole P new → EachHole P (replaced t path new)
  replaced-holes (leaf l) new [] h k = k
  replaced-holes (leaf l) new (n ∷ path) h k = tt
  replaced-holes (unary u t) new [] h k = k
  replaced-holes (unary u t) new (n ∷ path) h k = unary-put u t new path (n == 0) h (replaced-holes t new path h k)
  replaced-holes (binary b s t) new [] h k = k
  replaced-holes (binary b s t) new (n ∷ path) h k =
      binary-put b s t new path (n == 0) (n == 1) h.0 h.1 (replaced-holes s new path h.0 k) (replaced-holes t new path h.1 k)
  replaced-holes (hole set) new [] h k = k
  replaced-holes (hole set) new (n ∷ path) h k = h

-- ---- one tree after another

-- what holds of the tree after steps
pub record Follows (info : Info) (after before : Tree) : Type 0 where
  pub same : MeansTheSame info after before
  pub well_formed : IsSome (type_of info before) → IsSome (type_of info after)
  pub no_hole : EachHole (λ k. ⊥) before → EachHole (λ k. ⊥) after

follows-itself : (info : Info) (t : Tree) → Follows info t t
follows-itself info t = record { same = means-itself info t; well_formed = λ h. h; no_hole = λ h. h }

follows-trans : (info : Info) (a b c : Tree) → Follows info a b → Follows info b c → Follows info a c
follows-trans info a b c h k = record {
  same = means-trans info a b c h.same k.same;
  well_formed = λ e. h.well_formed (k.well_formed e);
  no_hole = λ e. h.no_hole (k.no_hole e);
}

no-hole : (info : Info) (root here image : Tree) (path : List ℕ) → place root path ≡ Some here → StandsFor info image here → EachHole (λ k. ⊥) root → EachHole (λ k. ⊥) (replaced root path image)
no-hole info root here image path e s h =
    let IsNone : ℕ → Type 0 = λ k. false ≡ true in
    let none : EachHole IsNone root = holes-weaker (λ k. ⊥) IsNone (λ k b. absurd b) root h in
    holes-weaker IsNone (λ k. ⊥) (λ k b. absurd (cc)) (replaced root path image)
    (replaced-holes IsNone root image path none (s.sets (λ k. false) (part-holes IsNone root here path none e)))

some-is : (o : Option RelType) → is_some o ≡ true → IsSome o
some-is None e = absurd (cc)
some-is (Some t) e = refl

-- an image that counts, in the place of its part
put-follows : (info : Info) (root here image : Tree) (path : List ℕ) → place root path ≡ Some here → StandsFor info image here → is_some (type_of info (replaced root path image)) ≡ true
    → Follows info (replaced root path image) root
put-follows info root here image path e s w = record {
  same = replaced-means info root here image path e s.means;
  well_formed = λ h. some-is (type_of info (replaced root path image)) w;
  no_hole = no-hole info root here image path e s;
}

-- ---- the searches

from_either : {A : Type 0} (P : A → Type 0) (a b : Option A) → ((x : A) → a ≡ Some x → P x) → ((x : A) → b ≡ Some x → P x) → (x : A) → or_else a b ≡ Some x → P x
from_either P None b h k x e = k x e
from_either P (Some y) b h k x e = h x e

module _ (rule : Meaning) (info : Info) (root : Tree) where
  -- here the law of the rule is used
  at_image : (path : List ℕ) (n : ℕ) (here : Tree) (image : Option Tree) → place root path ≡ Some here → rule.image info here n ≡ image → (t : Tree)
      → counted info root path image ≡ Some t → Follows info t root
  at_image path n here None p i t e = absurd (cc)
  at_image path n here (Some image) p i t e =
      let both = split_if (is_some (type_of info (replaced root path image))) (Some (replaced root path image)) t e in
      subst (λ x. Follows info x root) (same_Some (replaced root path image) t both.1)
      (put-follows info root here image path p (rule.lawful.stands info here image n i) both.0)

  at_place : (path : List ℕ) (n : ℕ) (o : Option Tree) → place root path ≡ o → (t : Tree) → counted info root path (image_at rule info n o) ≡ Some t → Follows info t root
  at_place path n None p t e = absurd (cc)
  at_place path n (Some here) p t e = at_image path n here (rule.image info here n) p refl t e

  rewritten-follows : (path : List ℕ) (n : ℕ) (t : Tree) → rewritten rule info root path n ≡ Some t → Follows info t root
  rewritten-follows path n t e = at_place path n (place root path) refl t e

  at_step : (k : ℕ) (path : List ℕ) (n : ℕ) (o : Option Tree) → ((t : Tree) → o ≡ Some t → Follows info t root) → (step : Step)
      → option_map (λ t. record { rule = k; path = path; nth = n; result = t }) o ≡ Some step → Follows info step.result root
  at_step k path n None h step e = absurd (cc)
  at_step k path n (Some t) h step e =
      let same : t ≡ step.result = ap (λ o. option_map_or (λ (s : Step). s.result) o t) e in
      subst (λ x. Follows info x root) same (h t refl)

  first_nth-follows : (k : ℕ) (path : List ℕ) (n left : ℕ) (step : Step) → first_nth k rule info root path n left ≡ Some step → Follows info step.result root
  first_nth-follows k path n zero step e = absurd (cc)
  first_nth-follows k path n (suc left) step e =
      from_either (λ (s : Step). Follows info s.result root) (option_map (λ t. record { rule = k; path = path; nth = n; result = t }) (rewritten rule info root path n))
      (first_nth k rule info root path (n + 1) left) (at_step k path n (rewritten rule info root path n) (rewritten-follows path n)) (first_nth-follows k path (n + 1) left) step e

  first_place-follows : (k : ℕ) (paths : List (List ℕ)) (step : Step) → first_place k rule info root paths ≡ Some step → Follows info step.result root
  first_place-follows k [] step e = absurd (cc)
  first_place-follows k (path ∷ more) step e =
      from_either (λ (s : Step). Follows info s.result root) (first_nth k rule info root path 0 (rule.width info)) (first_place k rule info root more)
      (first_nth-follows k path 0 (rule.width info)) (first_place-follows k more) step e

  if_hep-follows : (b : Bool) (k : ℕ) (step : Step) → cond b (first_place k rule info root (places root)) None ≡ Some step → Follows info step.result root
  if_hep-follows true k step e = first_place-follows k (places root) step e
  if_hep-follows false k step e = absurd (cc)

first_rule-follows : (k : ℕ) (rules : List Meaning) (info : Info) (root : Tree) (step : Step) → first_rule k rules info root ≡ Some step → Follows info step.result root
first_rule-follows k [] info root step e = absurd (cc)
first_rule-follows k (rule ∷ more) info root step e =
    from_either (λ (s : Step). Follows info s.result root) (cond rule.in_hep (first_place k rule info root (places root)) None) (first_rule (k + 1) more info root)
    (if_hep-follows rule info root rule.in_hep k) (first_rule-follows (k + 1) more info root) step e

-- ---- the run

pub hep_run-follows : (limit : ℕ) (rules : List Meaning) (info : Info) (root : Tree) → Follows info (last_result root (hep_run limit rules info root)) root
hep_run-follows zero rules info root = follows-itself info root
hep_run-follows (suc limit) rules info root = at_first (first_rule 0 rules info root) refl (hep_run-follows limit rules info)
  where
    at_first : (o : Option Step) → first_rule 0 rules info root ≡ o → ((t : Tree) → Follows info (last_result t (hep_run limit rules info t)) t)
        → Follows info (last_result root (option_map_or (λ step. step ∷ hep_run limit rules info step.result) o [])) root
    at_first None e h = follows-itself info root
    at_first (Some step) e h =
        follows-trans info (last_result step.result (hep_run limit rules info step.result)) step.result root (h step.result) (first_rule-follows 0 rules info root step e)

pub follows-from_log : (limit : ℕ) (rules : List Meaning) (info : Info) (root result : Tree) (log : List Step) → log ≡ hep_run limit rules info root → result ≡ last_result root log
    → Follows info result root
follows-from_log limit rules info root result log e f = rw (f, e) (hep_run-follows limit rules info root)
