-- A memo into which one tree without holes was entered.
use Rattle.std.proofs.Common.{◌≡◌, ◌∙◌, ℕ, ◌⊎◌, inl, inr, List, [], ◌∷◌, ◌++◌, Contains, Option, Some, None, refl, sym, ap, subst, Bool}
use Rattle.std.specs.Prelude.{IsSome, slice_get}
use Rattle.std.specs.Option.{unwrap_or}
use Rattle.std.proofs.lemmas.Option.{unwrap_or-slice_get}
use Rattle.cal_schema.specs.declared.rel_type.RelType.{RelType}
use Rattle.cal_rel.specs.Holes.{renumbered, EachHole}
use Rattle.cal_rel.specs.Info.{Info}
use Rattle.cal_rel.specs.Tree.{Tree}
use Rattle.cal_rel.specs.Typing.{type_of}
use Rattle.memo_model.specs.Sets.{Sets, became, Has, Stands}
use Rattle.memo_model.specs.Sound.{over}
use Rattle.memo_model.specs.Relations.{Keeps, IsOld, ComesFrom, Registers}
use Rattle.memo_model.specs.Steps.{entered}
use Rattle.memo_model.proofs.TreeLemmas.{each-weaker, renumbered-itself}
use Rattle.memo_model.proofs.KeepLemmas.{stands-kept}
use Rattle.memo_sets.specs.Answers.{IsSeeded}
use Rattle.rule_hep.specs.Meaning.{Meaning}
use Rattle.search_model.proofs.AmongLemmas.{none, contains-head, cons-cases}
use Rattle.search_model.specs.Firings.{Firing}
use Rattle.search_model.specs.Grown.{HasSource, StaysGrown}
use Rattle.volcano_search.specs.Explored.{IsExplored}
use Rattle.sql_tree.specs.declared.select.Select.{Select}
use Rattle.plan_answers.specs.Answers.{KeepsTheSelect}
use Rattle.select_planning.specs.Found.{IsFound}
use Rattle.select_planning.specs.Start.{no_sets, IsStarted, IsStartedFrom}

-- without holes nothing is renumbered
unnumbered : (m : ℕ → ℕ) (t : Tree) → EachHole (λ k. ⊥) t → renumbered m t ≡ t
unnumbered m t h = renumbered-itself m t (each-weaker (λ k. ⊥) (λ k. m k ≡ k) (λ k never. absurd never) t h)

no-member : (s : ℕ) (node : Tree) → Has [] s node → ⊥
no-member s node h = none (record { set = s; tree = node }) h.at

no-firing : (before after : List Firing) (f : Firing) → [] ≡ before ++ (f ∷ after) → ⊥
no-firing [] after f e = Prim.cc
no-firing (g ∷ before) after f e = Prim.cc

source : (info : Info) (rules : List Meaning) (tree whole : Tree) (new : Sets) (s : ℕ) (node : Tree) → whole ≡ tree → IsOld no_sets new s node ⊎ ComesFrom new.members whole s node
    → HasSource info rules (tree ∷ []) new [] s node
source info rules tree whole new s node is (inl old) = absurd (no-member old.set old.tree old.has)
source info rules tree whole new s node is (inr comes) =
    inl (record { tree = tree; among = contains-head tree []; comes = subst (λ w. ComesFrom new.members w s node) is comes })

over-none : (info : Info) → info.sets ≡ [] → over info [] ≡ info
over-none info is = ap (λ sets. over info sets) (sym is)

pub is-started : (info : Info) (tree : Tree) (new : Sets) (s : ℕ) → info.sets ≡ [] → IsSome (type_of info tree) → EachHole (λ k. ⊥) tree → IsSeeded info no_sets new tree s
    → IsStarted info tree new s
is-started info tree new s none typed closed seeded = by_type (type_of info tree) refl typed
  where
    by_type : (o : Option RelType) → type_of info tree ≡ o → IsSome o → IsStarted info tree new s
    by_type None e h = absurd (Prim.cc)
    by_type (Some t) e h =
        let r : Registers info no_sets (entered info None tree no_sets).sets new tree t s = seeded t (ap (λ i. type_of i tree) (over-none info none) ∙ e) in
        let same = unnumbered (became new.numbers) tree closed in
        record {
          no_hole = closed;
          sound = r.sound;
          stands = subst (Stands new.members (became new.numbers s)) same r.stands;
          grown = λ rules. record {
            members = λ k node has. source info rules tree (renumbered (became new.numbers) tree) new k node same (r.members k node has);
            earlier = λ before after f law e is. absurd (no-firing before after f e);
          };
        }

-- the start tree stands in what its set has become
still-stands : (old new : Sets) (s root : ℕ) (tree : Tree) → Keeps old new → EachHole (λ k. ⊥) tree → Stands old.members (became old.numbers s) tree → root ≡ became new.numbers s
    → Stands new.members root tree
still-stands old new s root tree keeps closed stands is =
    let there = stands-kept old new keeps (became old.numbers s) tree stands in
    subst (λ k. Stands new.members k tree) (keeps.numbers s ∙ sym is)
    (subst (Stands new.members (became new.numbers (became old.numbers s))) (unnumbered (became new.numbers) tree closed) there)

alone-closed : (tree other : Tree) → EachHole (λ k. ⊥) tree → Contains (tree ∷ []) other → EachHole (λ k. ⊥) other
alone-closed tree other closed among = elim (cons-cases tree [] other among) [
  | inl same ↦ subst (EachHole (λ k. ⊥)) same closed
  | inr never ↦ absurd (none other never)
]

-- a search from the start tree of a SELECT
pub is-found : (rules : List Meaning) (budget : ℕ) (info : Info) (select : Select) (own result : Tree) (old new : Sets) (s root : ℕ) (firings : List Firing) (complete : Bool)
    → KeepsTheSelect info select own → KeepsTheSelect info select result → IsStartedFrom info own result old s → IsExplored info rules budget old new firings complete
    → StaysGrown info rules old new [] firings → root ≡ became new.numbers s → IsFound rules budget info select own result new root firings complete
is-found rules budget info select own result old new s root firings complete own_keeps result_keeps from explored grown is = record {
  start = from.start;
  is_start = from.is_start;
  no_hole = from.started.no_hole;
  keeps = elim from.is_start [
    | inl same ↦ subst (KeepsTheSelect info select) (sym same) result_keeps
    | inr other ↦ subst (KeepsTheSelect info select) (sym other.0) own_keeps
  ];
  stands = still-stands old new s root from.start explored.keeps from.started.no_hole from.started.stands is;
  searched = explored.searched;
  grown = grown.grown (from.start ∷ []) (record { none = λ tree among. alone-closed from.start tree from.started.no_hole among }) (from.started.grown rules);
}

pub number-is : (numbers : List ℕ) (k : ℕ) → unwrap_or (slice_get numbers k) k ≡ became numbers k
unfolding became
number-is numbers k = unwrap_or-slice_get numbers k k

pub ruleset number_steps = (number-is)
