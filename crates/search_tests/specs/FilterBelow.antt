-- A rule that is never done, for tests of the limits: filters that let all rows through come below each project, a thousand different ones.
use Rattle.std.specs.Prelude.{◌≡◌, ℕ, ◌≤◌, pos, nat_lt, Bool, true, false, cond, codes, List, [], ◌∷◌, Option, Some, None, filter, map, option_map}
use Rattle.std.proofs.Common.{sym, ◌∙◌, ap, subst, refl, arith}
use Rattle.std.proofs.lemmas.Option.{same_Some}
use Rattle.cal_value.specs.declared.value.Value.TheVariants.{Bool as BoolValue, Int}
use Rattle.cal_value.specs.Logic.{is_null, is_true, not3, truth_of, value_of}
use Rattle.cal_value.specs.Order.{SameBag}
use Rattle.cal_expr.specs.declared.expr.Expr.{Expr}
use Rattle.cal_expr.specs.declared.expr.Expr.TheVariants.{Literal, Not, IsNull}
use Rattle.cal_schema.specs.declared.database.Db.{Db}
use Rattle.cal_rel.specs.Bag.{bag}
use Rattle.cal_rel.specs.Holes.{renumbered, EachHole}
use Rattle.cal_rel.specs.Info.{Info}
use Rattle.cal_rel.specs.Operators.{Row, holds, projected}
use Rattle.cal_rel.specs.Tree.{Tree, unary, filter_by, project_to}
use Rattle.expr_parts.proofs.ExprSteps.{meaning-Literal, meaning-Not, meaning-IsNull}
use Rattle.rule_hep.specs.declared.rule.Reach.TheVariants.{Node}
use Rattle.rule_hep.specs.Law.{Image, IsLawful}
use Rattle.rule_hep.specs.LawfulLocal.{lawful_local}
use Rattle.rule_hep.specs.Local.{local_image, IsLocal}
use Rattle.rule_hep.specs.Meaning.{Meaning}

-- n IS NOT NULL
abbrev pub is_number : ℕ → Expr
is_number n = Not (IsNull (Literal (Int (pos n))))

abbrev pub let_through : ℕ → Tree → Tree
let_through n t = unary (filter_by (is_number n)) t

abbrev pub deepened : ℕ → Info → Tree → Option Tree
deepened n info (unary (project_to items) t) = Some (unary (project_to items) (let_through n t))
deepened n info rel = None

abbrev pub thousand : Info → ℕ
thousand info = 1000

abbrev pub deepened_image : Image
deepened_image info rel n = cond (nat_lt n 1000) (local_image (deepened n) info rel 0) None

-- ---- each is lawful

-- a number is not NULL
number-true : (n : ℕ) (row : Row) → holds (is_number n) row ≡ true
number-true n row =
    let number = meaning-Literal (Int (pos n)) row in
    let is-null = meaning-IsNull (Literal (Int (pos n))) row ∙ ap (λ v. BoolValue (is_null v)) number in
    ap is_true (meaning-Not (IsNull (Literal (Int (pos n)))) row ∙ ap (λ v. value_of (not3 (truth_of v))) is-null)

all-through : (n : ℕ) (rows : List Row) → filter (holds (is_number n)) rows ≡ rows
all-through n [] = refl
all-through n (row ∷ rows) =
    ap (λ b. cond b (row ∷ filter (holds (is_number n)) rows) (filter (holds (is_number n)) rows)) (number-true n row)
    ∙ ap (λ later. row ∷ later) (all-through n rows)

keeps-sets : (n : ℕ) (info : Info) (rel out : Tree) (P : ℕ → Type 0) → deepened n info rel ≡ Some out → EachHole P rel → EachHole P out
keeps-sets n info (unary (project_to items) t) out P e each = subst (EachHole P) (same_Some (unary (project_to items) (let_through n t)) out e) each
keeps-sets n info rel out P e each = absurd (cc)

keeps-rows : (n : ℕ) (info : Info) (rel out : Tree) (db : Db) (holes : ℕ → List Row) → deepened n info rel ≡ Some out → bag info db holes out ≡ bag info db holes rel
keeps-rows n info (unary (project_to items) t) out db holes e =
    sym (ap (bag info db holes) (same_Some (unary (project_to items) (let_through n t)) out e))
    ∙ ap (map (projected items)) (all-through n (bag info db holes t))
keeps-rows n info rel out db holes e = absurd (cc)

keeps-numbers : (n : ℕ) (m : ℕ → ℕ) (from to : Info) (rel out : Tree) → deepened n from rel ≡ Some out → deepened n to (renumbered m rel) ≡ Some (renumbered m out)
keeps-numbers n m from to (unary (project_to items) t) out e = ap (option_map (renumbered m)) e
keeps-numbers n m from to rel out e = absurd (cc)

deepened-local : (n : ℕ) → IsLocal (deepened n)
deepened-local n = record {
  sets = λ info rel out p e each. keeps-sets n info rel out (λ k. p k ≡ true) e each;
  means = λ info rel out s t typed made e db holes fits true_of.
      subst (λ rows. SameBag rows (bag info db holes rel)) (sym (keeps-rows n info rel out db holes e)) (λ row. refl);
  steady = λ m from to rel out t valid narrows typed e. keeps-numbers n m from to rel out e;
}

-- ---- all are

below : (b : Bool) (o : Option Tree) (out : Tree) → cond b o None ≡ Some out → (b ≡ true) × (o ≡ Some out)
below true o out e = (refl, e)
below false o out e = absurd (cc)

past : (n : ℕ) (o : Option Tree) → 1000 ≤ n → cond (nat_lt n 1000) o None ≡ None
past n o h = grind arith

pub deepened-lawful : IsLawful thousand deepened_image
deepened-lawful = record {
  below_width = λ info rel n h. past n (local_image (deepened n) info rel 0) h;
  fixed_width = λ from to h. refl;
  stands = λ info rel out n e.
      (lawful_local (deepened n) (deepened-local n)).stands info rel out 0 (below (nat_lt n 1000) (local_image (deepened n) info rel 0) out e).1;
  steady = λ m from to rel out n valid narrows e.
      let found = below (nat_lt n 1000) (local_image (deepened n) from rel 0) out e in
      ap (λ b. cond b (local_image (deepened n) to (renumbered m rel) 0) None) found.0
      ∙ (lawful_local (deepened n) (deepened-local n)).steady m from to rel out 0 valid narrows found.1;
}

abbrev pub filter_below : Meaning
filter_below = record {
  name = codes "FilterBelow";
  in_hep = false;
  reach = Node;
  width = thousand;
  image = deepened_image;
  lawful = deepened-lawful;
}
