-- What a parse of the command gives is the reading of its texts.
use Rattle.std.specs.Prelude.{◌≡◌, ◌≢◌, ◌↔◌, ℕ, true, List, [], ◌∷◌, codes, Option, Some, None, refl, map, encode_utf8_all}
use Rattle.std.proofs.Common.{inl, inr, sym, ap, ap₂, subst, ◌∙◌}
use Rattle.clap.specs.Faults.{fault_of, is_simple_and_free}
use Rattle.clap.specs.Kinds.{Kinds, HasKind}
use Rattle.clap.specs.Matches.{first_value}
use Rattle.clap.specs.Simple.{App, is_simple, matches_of}
use Rattle.clap.specs.Values.{kind_of}
use Rattle.clap.specs.Walk.{first_of, rows_of}
use Rattle.clap.specs.declared.error.Error.{Error}
use Rattle.clap.specs.declared.error.kind.ErrorKind.TheVariants.{OutOfMemory}
use Rattle.clap.specs.declared.parser.matches.Found.{Found}
use Rattle.clap.proofs.WalkLemmas.{first_value-rows}
use Rattle.command_line.specs.declared.reading.Asked.{Asked}
use Rattle.command_line.specs.Reading.{calq, asked, in_matches, without_fault, reading_of, reading, IsFaulty}

pub calq_is_simple : is_simple calq ≡ true
calq_is_simple = refl

pub calq_is_free : is_simple_and_free calq ≡ true
calq_is_free = refl

read_plain : (f : Found) (texts : List (List ℕ)) (found : Asked) → fault_of calq texts ≡ [] → rows_of f ≡ matches_of calq texts →
    found ≡ asked (first_value f (codes "MODEL")) (first_value f (codes "SQL")) (first_value f (codes "budget")) → Some found ≡ reading_of texts
read_plain f texts found fine rows is =
    ap Some (is ∙ ap₂ (λ model sql. asked model sql (first_value f (codes "budget"))) (first_value-rows f (codes "MODEL")) (first_value-rows f (codes "SQL"))
    ∙ ap (asked (first_of (codes "MODEL") (rows_of f)) (first_of (codes "SQL") (rows_of f))) (first_value-rows f (codes "budget"))
    ∙ ap in_matches rows)
    ∙ ap (λ (kinds : Kinds). without_fault kinds (in_matches (matches_of calq texts))) (sym fine)

-- of a command that is this one
pub read_when_matched : (a : App) (f : Found) (texts : List (List ℕ)) (found : Asked) → a ≡ calq →
    (is_simple_and_free a ≡ true → fault_of a texts ≡ []) → (is_simple a ≡ true → rows_of f ≡ matches_of a texts) →
    found ≡ asked (first_value f (codes "MODEL")) (first_value f (codes "SQL")) (first_value f (codes "budget")) → Some found ≡ reading_of texts
read_when_matched a f texts found same fine rows is =
    read_plain f texts found
    (ap (λ (b : App). fault_of b texts) (sym same) ∙ fine (ap is_simple_and_free same ∙ calq_is_free))
    (rows (ap is_simple same ∙ calq_is_simple) ∙ ap (λ (b : App). matches_of b texts) same)
    is

some_fault : (kinds : Kinds) (e : Error) (found : Asked) → HasKind kinds e → kind_of e ≢ OutOfMemory → None ≡ without_fault kinds found
some_fault [] e found (inl out) other = absurd (other out)
some_fault [] e found (inr none) other = absurd none
some_fault (k ∷ ks) e found h other = refl

pub none_when_faulty : (a : App) (e : Error) (texts : List (List ℕ)) → a ≡ calq → (is_simple_and_free a ≡ true → HasKind (fault_of a texts) e) →
    kind_of e ≢ OutOfMemory → None ≡ reading_of texts
none_when_faulty a e texts same faulty other =
    some_fault (fault_of calq texts) e _ (subst (λ (b : App). HasKind (fault_of b texts) e) same (faulty (ap is_simple_and_free same ∙ calq_is_free))) other

none_where : (kinds : Kinds) (found : Asked) → (without_fault kinds found ≡ None) ↔ (kinds ≢ [])
none_where [] found = (λ e. absurd (no_some found e), λ some. absurd (some refl))
  where
    no_some : (a : Asked) → Some a ≡ None → ⊥
    no_some a e = Prim.cc
none_where (k ∷ ks) found = (λ e is. no_cons k ks is, λ some. refl)
  where
    no_cons : {X : Type 0} (x : X) (xs : List X) → x ∷ xs ≡ [] → ⊥
    no_cons x xs e = Prim.cc

-- of what is the reading of the words
pub none_exactly : (words : List (List ℕ)) (found : Option Asked) → found ≡ reading words → (found ≡ None) ↔ IsFaulty words
none_exactly words found is =
    let there = none_where (fault_of calq (map encode_utf8_all words)) (in_matches (matches_of calq (map encode_utf8_all words))) in
    (λ e. there.0 (sym is ∙ e), λ faulty. is ∙ there.1 faulty)
