-- The lowest place of what stands in parts.
use Rattle.std.proofs.Common.{◌≡◌, ◌∙◌, ap, sym, refl, arith, ◌<◌, ◌+◌, length, take, get_or, ℕ, cond, List, [], ◌∷◌, ◌++◌, Option, Some, None}
use Rattle.std.specs.Prelude.{nat_lt}
use Rattle.std.specs.List.{flat_map}
use Rattle.std.proofs.lemmas.Bool.Decides.{nat_tests}
use Rattle.cal_value.specs.declared.operator.Agg.{Agg}
use Rattle.cal_value.specs.declared.operator.Agg.TheVariants.{Count, Sum, Sum0, Min, Max}
use Rattle.cal_value.specs.declared.operator.Op.{Op}
use Rattle.cal_value.specs.declared.operator.Op.TheVariants.{Add, Subtract, Multiply, Divide, Equal, NotEqual, Less, LessEqual, Greater, GreaterEqual, And, Or}
use Rattle.cal_value.specs.declared.kind.Kind.{Kind}
use Rattle.sql_tree.specs.declared.tree.Tree.{Tree}
use Rattle.sql_tree.specs.declared.tree.Tree.TheFolds.{fold-roll-Tree}
use Rattle.sql_tree.specs.declared.tree.Tree.TheOpen.{Tree-F}
use Rattle.sql_tree.specs.declared.tree.Tree.TheVariants.{Binary, Aggregate, rolls-Binary, rolls-Aggregate}
use Rattle.sql_meaning.specs.declared.parts.SelectPart.{SelectPart}
use Rattle.sql_meaning.specs.Kinds.{Kinded, kinded, kinded_step, op_kind, op_clash, agg_clash, agg_kind, aggregate_kinded}
use Rattle.sql_meaning.specs.Scope.{Header}
use Rattle.sql_types.specs.declared.kinds.Judged.{Judged}
use Rattle.sql_types.proofs.Parts.{flat-next}
use Rattle.sql_meaning.specs.Refused.{lower, lowest}
use Rattle.sql_types.specs.Walks.{lower_of, judged_of, bare}

abbrev least : ℕ → ℕ → ℕ
least a b = cond (nat_lt b a) b a

least_assoc : (a b c : ℕ) → least a (least b c) ≡ least (least a b) c
least_assoc a b c = grind (arith, nat_tests)

lower_assoc : (a : ℕ) (o p : Option ℕ) → lower a (lower_of o p) ≡ lower_of (lower a o) p
lower_assoc a None p = refl
lower_assoc a (Some b) None = refl
lower_assoc a (Some b) (Some c) = ap Some (least_assoc a b c)

pub lowest-append : (xs ys : List ℕ) → lowest (xs ++ ys) ≡ lower_of (lowest xs) (lowest ys)
lowest-append [] ys = refl
lowest-append (x ∷ xs) ys = ap (lower x) (lowest-append xs ys) ∙ lower_assoc x (lowest xs) (lowest ys)

pub op_clash-bare : (place : ℕ) (op : Op) (a b : Kinded) → op_clash place op (bare (judged_of a)) (bare (judged_of b)) ≡ op_clash place op a b
op_clash-bare place Add a b = refl
op_clash-bare place Subtract a b = refl
op_clash-bare place Multiply a b = refl
op_clash-bare place Divide a b = refl
op_clash-bare place Equal a b = refl
op_clash-bare place NotEqual a b = refl
op_clash-bare place Less a b = refl
op_clash-bare place LessEqual a b = refl
op_clash-bare place Greater a b = refl
op_clash-bare place GreaterEqual a b = refl
op_clash-bare place And a b = refl
op_clash-bare place Or a b = refl

pub agg_clash-bare : (place : ℕ) (agg : Agg) (a : Kinded) → agg_clash place agg (bare (judged_of a)) ≡ agg_clash place agg a
agg_clash-bare place Count a = refl
agg_clash-bare place Sum a = refl
agg_clash-bare place Sum0 a = refl
agg_clash-bare place Min a = refl
agg_clash-bare place Max a = refl

-- of a loop over the parts: what was found, and what the part has
pub lowest-turn : (f : SelectPart → List ℕ) (parts : List SelectPart) (i : ℕ) (part : SelectPart) (found own new : Option ℕ) → part ≡ get_or parts i part → i < length parts
    → found ≡ lowest (flat_map f (take i parts)) → own ≡ lowest (f part) → new ≡ lower_of found own → new ≡ lowest (flat_map f (take (i + 1) parts))
lowest-turn f parts i part found own new is lt ef eo en =
    en
    ∙ ap (λ o. lower_of o own) ef
    ∙ ap (lower_of (lowest (flat_map f (take i parts)))) eo
    ∙ sym (ap lowest (flat-next f parts i part is lt) ∙ lowest-append (flat_map f (take i parts)) (f part))

-- ---- the kinds of an operator's operands

pub kinded-Binary : (scope : List Header) (place : ℕ) (op : Op) (l r : Tree) → kinded scope (Binary place op l r) ≡ kinded_step scope (Tree-F.Binary place op (kinded scope l) (kinded scope r))
kinded-Binary scope place op l r = ap (kinded scope) (sym (rolls-Binary place op l r)) ∙ fold-roll-Tree Kinded (kinded_step scope) (Tree-F.Binary place op l r)

abbrev made : ℕ → Kind → Option ℕ → Judged
made place kind clash = record { kind = kind; place = place; clash = clash }

pub judged-Binary : (scope : List Header) (place : ℕ) (op : Op) (l r : Tree) (a b : Judged) (kind : Kind) (own first clash : Option ℕ)
    → a ≡ judged_of (kinded scope l) → b ≡ judged_of (kinded scope r) → kind ≡ op_kind op → own ≡ lowest (op_clash place op (bare a) (bare b)) → first ≡ lower_of a.clash own → clash ≡ lower_of first b.clash
    → made place kind clash ≡ judged_of (kinded scope (Binary place op l r))
judged-Binary scope place op l r a b kind own first clash ea eb ek eo ef ec =
    ap (λ k. made place k clash) ek
    ∙ ap (made place (op_kind op)) (ec ∙ ap (λ x. lower_of x b.clash) (ef ∙ ap (lower_of a.clash) eo)
    ∙ ap (λ (x : Judged). lower_of (lower_of x.clash (lowest (op_clash place op (bare x) (bare b)))) b.clash) ea
    ∙ ap (λ (x : Judged). lower_of (lower_of (lowest (kinded scope l).clashes) (lowest (op_clash place op (bare (judged_of (kinded scope l))) (bare x)))) x.clash) eb
    ∙ ap (λ (x : List ℕ). lower_of (lower_of (lowest (kinded scope l).clashes) (lowest x)) (lowest (kinded scope r).clashes)) (op_clash-bare place op (kinded scope l) (kinded scope r))
    ∙ ap (λ x. lower_of x (lowest (kinded scope r).clashes)) (sym (lowest-append (kinded scope l).clashes (op_clash place op (kinded scope l) (kinded scope r))))
    ∙ sym (lowest-append ((kinded scope l).clashes ++ op_clash place op (kinded scope l) (kinded scope r)) (kinded scope r).clashes))
    ∙ ap judged_of (sym (kinded-Binary scope place op l r))

-- of an aggregate with an argument
pub kinded-Aggregate : (scope : List Header) (place : ℕ) (agg : Agg) (a : Tree) → kinded scope (Aggregate place agg (Some a)) ≡ aggregate_kinded place agg (Some (kinded scope a))
kinded-Aggregate scope place agg a = ap (kinded scope) (sym (rolls-Aggregate place agg (Some a))) ∙ fold-roll-Tree Kinded (kinded_step scope) (Tree-F.Aggregate place agg (Some a))

pub judged-Aggregate : (scope : List Header) (place : ℕ) (agg : Agg) (a : Tree) (j made : Judged) → j ≡ judged_of (kinded scope a)
    → made ≡ record { kind = agg_kind agg j.kind; place = place; clash = lower_of (lowest (agg_clash place agg (bare j))) j.clash }
    → made ≡ judged_of (kinded scope (Aggregate place agg (Some a)))
judged-Aggregate scope place agg a j made e f =
    f
    ∙ ap (λ (x : Judged). of_agg x) e
    ∙ ap (λ (x : List ℕ). with_clash (lower_of (lowest x) (lowest (kinded scope a).clashes))) (agg_clash-bare place agg (kinded scope a))
    ∙ ap with_clash (sym (lowest-append (agg_clash place agg (kinded scope a)) (kinded scope a).clashes))
    ∙ ap judged_of (sym (kinded-Aggregate scope place agg a))
  where
    of_agg : Judged → Judged
    of_agg x = record { kind = agg_kind agg x.kind; place = place; clash = lower_of (lowest (agg_clash place agg (bare x))) x.clash }

    with_clash : Option ℕ → Judged
    with_clash c = record { kind = agg_kind agg (kinded scope a).kind; place = place; clash = c }

pub ruleset lowest_rules = (lowest-append, op_clash-bare, agg_clash-bare)
