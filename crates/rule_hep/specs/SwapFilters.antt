-- A rule for tests, which is also the example of how one is written: of two filters the upper one comes below the lower one.
use Rattle.std.specs.Prelude.{◌≡◌, ℕ, Bool, true, codes, List, Option, Some, None, option_map}
use Rattle.std.proofs.Common.{sym, ◌∙◌, ap, subst, refl}
use Rattle.std.proofs.lemmas.Option.{same_Some}
use Rattle.cal_schema.specs.declared.database.Db.{Db}
use Rattle.cal_value.specs.Order.{SameBag}
use Rattle.cal_rel.specs.Bag.{bag}
use Rattle.cal_rel.specs.Holes.{renumbered, EachHole}
use Rattle.cal_rel.specs.Info.{Info}
use Rattle.cal_rel.specs.Operators.{Row, holds}
use Rattle.cal_rel.specs.Tree.{Tree, unary, filter_by}
use Rattle.cal_rel.proofs.Reorders.{filter-filter}
use Rattle.rule_hep.specs.declared.rule.Reach.TheVariants.{FirstChild}
use Rattle.rule_hep.specs.LawfulLocal.{lawful_local}
use Rattle.rule_hep.specs.Local.{local_image, one, IsLocal}
use Rattle.rule_hep.specs.Meaning.{Meaning}

-- ---- the rewrite

abbrev pub swapped : Info → Tree → Option Tree
swapped info (unary (filter_by p) (unary (filter_by q) t)) = Some (unary (filter_by q) (unary (filter_by p) t))
swapped info rel = None

-- ---- its law

-- what holds of each set that the tree names, holds of each that the rewritten one names
keeps-sets : (info : Info) (rel out : Tree) (P : ℕ → Type 0) → swapped info rel ≡ Some out → EachHole P rel → EachHole P out
keeps-sets info (unary (filter_by p) (unary (filter_by q) t)) out P e each = subst (EachHole P) (same_Some (unary (filter_by q) (unary (filter_by p) t)) out e) each
keeps-sets info rel out P e each = absurd (cc)

-- the same rows, even in the same order
keeps-rows : (info : Info) (rel out : Tree) (db : Db) (holes : ℕ → List Row) → swapped info rel ≡ Some out → bag info db holes out ≡ bag info db holes rel
keeps-rows info (unary (filter_by p) (unary (filter_by q) t)) out db holes e =
    sym (ap (bag info db holes) (same_Some (unary (filter_by q) (unary (filter_by p) t)) out e)) ∙ filter-filter (holds q) (holds p) (bag info db holes t)
keeps-rows info rel out db holes e = absurd (cc)

-- under other numbers for the sets it rewrites alike
keeps-numbers : (m : ℕ → ℕ) (from to : Info) (rel out : Tree) → swapped from rel ≡ Some out → swapped to (renumbered m rel) ≡ Some (renumbered m out)
keeps-numbers m from to (unary (filter_by p) (unary (filter_by q) t)) out e = ap (option_map (renumbered m)) e
keeps-numbers m from to rel out e = absurd (cc)

pub swapped-local : IsLocal swapped
swapped-local = record {
  sets = λ info rel out p e each. keeps-sets info rel out (λ k. p k ≡ true) e each;
  means = λ info rel out s t typed made e db holes fits true_of.
      subst (λ rows. SameBag rows (bag info db holes rel)) (sym (keeps-rows info rel out db holes e)) (λ row. refl);
  steady = λ m from to rel out t valid narrows typed e. keeps-numbers m from to rel out e;
}

-- ---- what the rule means

abbrev pub swap_filters : Bool → Meaning
swap_filters in_hep = record {
  name = codes "SwapFilters";
  in_hep = in_hep;
  reach = FirstChild;
  width = one;
  image = local_image swapped;
  lawful = lawful_local swapped swapped-local;
}
