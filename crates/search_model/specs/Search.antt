-- A search by rounds: the triples of a round, what holds of memo and firings at each turn, and why a search stops.
use Rattle.std.specs.Prelude.{◌≡◌, ℕ, ◌<◌, ◌≤◌, ◌⊎◌, Bool, true, false, ◌==◌, ◌&&◌, cond, List, [], ◌∷◌, ◌++◌, length, slice_index_or, Contains, slice_get, Some}
use Rattle.cal_rel.specs.Info.{Info}
use Rattle.cal_rel.specs.Tree.{Tree}
use Rattle.rule_hep.specs.Meaning.{Meaning}
use Rattle.memo_model.specs.declared.TheConstants.{MEMBER_LIMIT}
use Rattle.memo_model.specs.Same.{same_tree}
use Rattle.memo_model.specs.Sets.{Member, Sets, Stands}
use Rattle.memo_model.specs.Sound.{over, IsSound}
use Rattle.memo_model.specs.Steps.{entered}
use Rattle.search_model.specs.Bindings.{Binds}
use Rattle.search_model.specs.Firings.{Firing, renumbered, IsFired}

-- ---- lists of firings

abbrev pub same_firing : Firing → Firing → Bool
same_firing f g = f.rule == g.rule && f.nth == g.nth && f.set == g.set && same_tree f.binding g.binding

-- whether the firing is one of them
abbrev pub among : Firing → List Firing → Bool
among f [] = false
among f (g ∷ more) = cond (same_firing g f) true (among f more)

-- one more firing, where it isn't there yet
abbrev pub joined : List Firing → Firing → List Firing
joined all f = cond (among f all) all (all ++ f ∷ [])

-- the firings with sets renumbered, each at its earliest place
abbrev pub gathered : (ℕ → ℕ) → List Firing → List Firing → List Firing
gathered m all [] = all
gathered m all (f ∷ more) = gathered m (joined all (renumbered m f)) more

-- no firing stands at two places
pub record IsOnce (firings : List Firing) : Type 0 where
  pub once : (i j : ℕ) (d : Firing) → i < length firings → j < length firings → slice_index_or firings i d ≡ slice_index_or firings j d → i ≡ j

-- ---- triples

-- a rule of the list, an n below its width, and a binding
pub record IsTriple (info : Info) (rules : List Meaning) (members : List Member) (f : Firing) : Type 0 where
  pub law : Meaning
  pub rule : slice_get rules f.rule ≡ Some law
  pub below : f.nth < law.width info
  pub binds : Binds members law.reach f.set f.binding

-- where the triple has an image, it is among the firings
pub record IsDone (info : Info) (rules : List Meaning) (m : Sets) (firings : List Firing) (f : Firing) : Type 0 where
  pub done : (law : Meaning) → slice_get rules f.rule ≡ Some law → (out : Tree) → law.image (over info m.types) f.binding f.nth ≡ Some out → Contains firings f

-- the triples of a memo
pub record IsTriples (info : Info) (rules : List Meaning) (members : List Member) (triples : List Firing) : Type 0 where
  pub only : (f : Firing) → Contains triples f → IsTriple info rules members f
  pub each : (f : Firing) → IsTriple info rules members f → Contains triples f

-- ---- the search

-- what holds at each turn of a search
pub record IsSearch (info : Info) (rules : List Meaning) (budget : ℕ) (m : Sets) (firings : List Firing) : Type 0 where
  pub sound : IsSound info m
  pub fired : (f : Firing) → Contains firings f → IsFired info rules m f
  pub once : IsOnce firings
  pub few : length firings ≤ budget

-- an image that doesn't stand in its set would add members past the limit
pub record IsPast (info : Info) (rules : List Meaning) (m : Sets) : Type 0 where
  pub triple : Firing
  pub is : IsTriple info rules m.members triple
  pub out : Tree
  pub image : is.law.image (over info m.types) triple.binding triple.nth ≡ Some out
  pub absent : Stands m.members triple.set out → ⊥
  pub past : MEMBER_LIMIT < (entered info (Some triple.set) out m).sets.added

-- why a search stops before each image is in its set
abbrev pub IsStopped : Info → List Meaning → ℕ → Sets → List Firing → Type 0
IsStopped info rules budget m firings = (length firings ≡ budget) ⊎ IsPast info rules m

-- nothing happened, and each of these triples is done
pub record IsQuiet (info : Info) (rules : List Meaning) (old new : Sets) (before after : List Firing) (triples : List Firing) : Type 0 where
  pub sets : new ≡ old
  pub firings : after ≡ before
  pub done : (f : Firing) → Contains triples f → IsDone info rules old before f
