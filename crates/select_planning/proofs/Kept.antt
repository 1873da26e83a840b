-- The tree of a SELECT over no sets, and what means the same as it.
use Rattle.std.proofs.Common.{◌≡◌, ◌∙◌, ℕ, refl, ap, sym, subst, List, [], length, Option, Some, None}
use Rattle.std.specs.Prelude.{count_by, map, IsSome, IsTrue, ◌↔◌}
use Rattle.cal_value.specs.declared.value.Value.{Value}
use Rattle.cal_value.specs.Equal.{row_eq}
use Rattle.cal_schema.specs.declared.rel_type.RelType.{RelType}
use Rattle.cal_schema.specs.declared.schema.Schema.{Schema}
use Rattle.cal_schema.specs.Fits.{Fits}
use Rattle.cal_rel.specs.Bag.{width}
use Rattle.cal_rel.specs.Holes.{EachHole}
use Rattle.cal_rel.specs.Info.{Info, set_at}
use Rattle.cal_rel.specs.Meaning.{AreTrueOf, MeansTheSame}
use Rattle.cal_rel.specs.Tree.{Tree, tree_of, leaf, unary, binary, hole}
use Rattle.cal_rel.specs.Typing.{type_of}
use Rattle.cal_rel.proofs.MoreLaws.{typed-holes}
use Rattle.rule_hep.specs.declared.planner.HepRecord.{HepRecord}
use Rattle.rule_hep.specs.Meaning.{Meaning}
use Rattle.rule_hep.specs.Run.{hep_run, last_result}
use Rattle.rule_hep.specs.Seen.{step_of}
use Rattle.sql_algebra.specs.Algebra.{algebra}
use Rattle.sql_tree.specs.declared.select.Select.{Select}
use Rattle.sql_meaning.specs.Direct.{direct}
use Rattle.sql_translate.specs.Translated.{MeansTheSelect}
use Rattle.select_planning.specs.declared.planning.TheConstants.{HEP_LIMIT}
use Rattle.plan_answers.specs.Answers.{KeepsTheSelect}
use Rattle.select_planning.specs.Planned.{IsRewritten}

-- ---- no sets

not-there : (k : ℕ) (t : RelType) → set_at [] k ≡ Some t → ⊥
not-there k t e = Prim.cc

none-there : (sets : List (Option RelType)) → sets ≡ [] → (k : ℕ) (t : RelType) → set_at sets k ≡ Some t → ⊥
none-there sets is k t e = not-there k t (subst (λ xs. set_at xs k ≡ Some t) is e)

pub no-sets : (sets : List (Option RelType)) (holes : ℕ → List (List Value)) → sets ≡ [] → AreTrueOf sets holes
no-sets sets holes is = record { each = λ k t e. absurd (none-there sets is k t e) }

each-none : (sets : List (Option RelType)) (tree : Tree) → sets ≡ [] → EachHole (λ k. (s : RelType) × (set_at sets k ≡ Some s)) tree → EachHole (λ k. ⊥) tree
each-none sets (leaf l) is h = h
each-none sets (unary u t) is h = each-none sets t is h
each-none sets (binary b s t) is h = (each-none sets s is h.0, each-none sets t is h.1)
each-none sets (hole k) is h = none-there sets is k h.0 h.1

-- a tree that is well formed over no sets has no hole
pub no-holes : (info : Info) (tree : Tree) → info.sets ≡ [] → IsSome (type_of info tree) → EachHole (λ k. ⊥) tree
no-holes info tree is h = by_type (type_of info tree) refl h
  where
    by_type : (o : Option RelType) → type_of info tree ≡ o → IsSome o → EachHole (λ k. ⊥) tree
    by_type None e h = absurd (Prim.cc)
    by_type (Some t) e h = each-none info.sets tree is (typed-holes info tree t e)

pub select-typed : (info : Info) (schema : Schema) (select : Select) (tree : Tree) → info.schema ≡ schema → MeansTheSelect schema select tree → IsSome (type_of info tree)
select-typed info schema select tree same means = means.well_formed info same

pub select-no-holes : (info : Info) (schema : Schema) (select : Select) (tree : Tree) → info.schema ≡ schema → info.sets ≡ [] → MeansTheSelect schema select tree → EachHole (λ k. ⊥) tree
select-no-holes info schema select tree same is means = no-holes info tree is (select-typed info schema select tree same means)

-- ---- what the steps keep

pub is-rewritten : (rules : List Meaning) (schema : Schema) (select : Select) (info : Info) (tree : Tree) (hep : HepRecord) → tree ≡ algebra schema select
    → map step_of hep.log ≡ hep_run HEP_LIMIT rules info tree → tree_of hep.result ≡ last_result tree (map step_of hep.log)
    → (IsTrue hep.stopped ↔ (length hep.log ≡ HEP_LIMIT)) → IsRewritten rules info (algebra schema select) hep
is-rewritten rules schema select info tree hep made log last stopped = record {
  log = log ∙ ap (λ t. hep_run HEP_LIMIT rules info t) made;
  result = last ∙ ap (λ t. last_result t (map step_of hep.log)) made;
  stopped = stopped;
}

-- the SELECT's own tree keeps it
pub keeps-own : (schema : Schema) (select : Select) (info : Info) (tree : Tree) → info.schema ≡ schema → tree ≡ algebra schema select → MeansTheSelect schema select tree
    → KeepsTheSelect info select (algebra schema select)
keeps-own schema select info tree same made means = subst (KeepsTheSelect info select) made here
  where
    here : KeepsTheSelect info select tree
    here = record {
      well_formed = means.well_formed info same;
      columns = ap (width info) (made ∙ ap (λ (s : Schema). algebra s select) (sym same));
      rows = λ db fits r. ap (λ rs. count_by (row_eq r) rs)
          (means.rows info db (λ set. []) same (subst (Fits db) same fits) ∙ ap (λ (s : Schema). direct select s db) (sym same));
    }

-- what means the same as the SELECT's own tree keeps the SELECT
pub keeps-select : (select : Select) (info : Info) (tree result : Tree) → KeepsTheSelect info select tree → info.sets ≡ [] → IsSome (type_of info result)
    → MeansTheSame info result tree → KeepsTheSelect info select result
keeps-select select info tree result keeps none well same = record {
  well_formed = well;
  columns = same.columns ∙ keeps.columns;
  rows = λ db fits r. same.rows db (λ _. []) fits (no-sets info.sets (λ _. []) none) r ∙ keeps.rows db fits r;
}

pub ruleset select_rules = (select-typed, select-no-holes)
