-- What a search from the start tree of a SELECT leaves: a word of private contracts.
use Rattle.std.specs.Prelude.{ℕ, Bool, List, [], ◌∷◌}
use Rattle.cal_rel.specs.Holes.{EachHole}
use Rattle.cal_rel.specs.Info.{Info}
use Rattle.cal_rel.specs.Tree.{Tree}
use Rattle.memo_model.specs.Sets.{Sets, Stands}
use Rattle.rule_hep.specs.Meaning.{Meaning}
use Rattle.search_model.specs.Firings.{Firing}
use Rattle.search_model.specs.Grown.{IsGrown}
use Rattle.volcano_search.specs.Explored.{IsSearched}
use Rattle.sql_tree.specs.declared.select.Select.{Select}
use Rattle.plan_answers.specs.Answers.{KeepsTheSelect}
use Rattle.select_planning.specs.Start.{IsStart}

-- a start tree that keeps the SELECT stands in the root set of the searched memo
pub record IsFound (rules : List Meaning) (budget : ℕ) (info : Info) (select : Select) (own result : Tree) (m : Sets) (root : ℕ) (firings : List Firing) (complete : Bool) : Type 0 where
  pub start : Tree
  pub is_start : IsStart info own result start
  pub no_hole : EachHole (λ k. ⊥) start
  pub keeps : KeepsTheSelect info select start
  pub stands : Stands m.members root start
  pub searched : IsSearched info rules budget m firings complete
  pub grown : IsGrown info rules (start ∷ []) m firings
