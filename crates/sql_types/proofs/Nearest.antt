-- The nearest misfit of those in parts, and what is told of an interval that is cut.
use Rattle.std.proofs.Common.{◌≡◌, ◌∙◌, ap, sym, refl, arith, ◌<◌, ◌+◌, length, take, get_or, ℕ, ℤ, cond, List, [], ◌∷◌, ◌++◌, Option, Some, None}
use Rattle.std.specs.Prelude.{nat_lt}
use Rattle.std.specs.List.{flat_map}
use Rattle.std.specs.Option.{option_and_then}
use Rattle.std.proofs.lemmas.Int.{ints, clamps}
use Rattle.std.proofs.lemmas.Bool.Decides.{nat_tests}
use Rattle.cal_value.specs.declared.interval.Interval.{Interval}
use Rattle.cal_value.specs.declared.interval.Interval.TheVariants.{Never, Range}
use Rattle.cal_value.specs.Interval.{cut, cut_ends, is_in_range}
use Rattle.cal_value.proofs.IntervalLemmas.{is_number-cut}
use Rattle.cal_value.specs.declared.kind.SqlType.{SqlType}
use Rattle.cal_value.specs.declared.operator.Agg.{Agg}
use Rattle.cal_value.specs.declared.operator.Op.{Op}
use Rattle.cal_aggregate.specs.ResultType.{agg_type}
use Rattle.cal_aggregate.proofs.AggregateLemmas.{with_zero-cut_ends}
use Rattle.cal_expr.specs.Typing.{of_both, op_type}
use Rattle.sql_tree.specs.declared.tree.Tree.{Tree}
use Rattle.sql_tree.specs.declared.tree.Tree.TheFolds.{fold-roll-Tree}
use Rattle.sql_tree.specs.declared.tree.Tree.TheOpen.{Tree-F}
use Rattle.sql_tree.specs.declared.tree.Tree.TheVariants.{Aggregate, Binary, rolls-Aggregate, rolls-Binary}
use Rattle.sql_meaning.specs.Scope.{Header}
use Rattle.sql_types.specs.declared.sizes.Weighed.{Weighed}
use Rattle.sql_types.proofs.Parts.{flat-next}
use Rattle.sql_meaning.specs.declared.misfit.Misfit.{Misfit}
use Rattle.sql_meaning.specs.declared.parts.SelectPart.{SelectPart}
use Rattle.sql_meaning.specs.Refused.{nearer, nearest}
use Rattle.sql_meaning.specs.Sizes.{Sized, sized, sized_step, own, told, op_own, agg_own, of_part, of_parts, aggregate_sized}
use Rattle.sql_types.specs.Walks.{nearer_of, weighed_of}

abbrev first : Misfit → Misfit → Misfit
first a b = cond (nat_lt b.place a.place) b a

first_assoc : (a b c : Misfit) → first a (first b c) ≡ first (first a b) c
first_assoc a b c = grind (arith, nat_tests)

nearer_assoc : (a : Misfit) (o p : Option Misfit) → nearer a (nearer_of o p) ≡ nearer_of (nearer a o) p
nearer_assoc a None p = refl
nearer_assoc a (Some b) None = refl
nearer_assoc a (Some b) (Some c) = ap Some (first_assoc a b c)

pub nearest-append : (xs ys : List Misfit) → nearest (xs ++ ys) ≡ nearer_of (nearest xs) (nearest ys)
nearest-append [] ys = refl
nearest-append (x ∷ xs) ys = ap (nearer x) (nearest-append xs ys) ∙ nearer_assoc x (nearest xs) (nearest ys)

cut-cut : (z : ℤ) → cut (cut z) ≡ cut z
cut-cut z = grind (arith, ints, clamps)

told-cut : (place : ℕ) (i : Interval) → told place (cut_ends i) ≡ told place i
told-cut place Never = refl
told-cut place (Range lo hi) = rw (cut-cut lo, cut-cut hi) refl

in_range-cut : (i : Interval) → is_in_range (cut_ends i) ≡ is_in_range i
in_range-cut Never = refl
in_range-cut (Range lo hi) = rw (is_number-cut lo, is_number-cut hi) refl

pub own-cut : (place : ℕ) (i : Interval) → own place (cut_ends i) ≡ own place i
own-cut place i = ap (λ b. cond b [] (told place (cut_ends i))) (in_range-cut i) ∙ ap (λ t. cond (is_in_range i) [] t) (told-cut place i)

-- of a loop over the parts: what was found, and what the part has
pub nearest-turn : (f : SelectPart → List Misfit) (parts : List SelectPart) (i : ℕ) (part : SelectPart) (found own new : Option Misfit) → part ≡ get_or parts i part → i < length parts
    → found ≡ nearest (flat_map f (take i parts)) → own ≡ nearest (f part) → new ≡ nearer_of found own → new ≡ nearest (flat_map f (take (i + 1) parts))
nearest-turn f parts i part found own new is lt ef eo en =
    en
    ∙ ap (λ o. nearer_of o own) ef
    ∙ ap (nearer_of (nearest (flat_map f (take i parts)))) eo
    ∙ sym (ap nearest (flat-next f parts i part is lt) ∙ nearest-append (flat_map f (take i parts)) (f part))

-- ---- the types of an operator's operands

pub sized-Binary : (rows : ℕ) (scope : List Header) (place : ℕ) (op : Op) (l r : Tree) → sized rows scope (Binary place op l r) ≡ sized_step rows scope (Tree-F.Binary place op (sized rows scope l) (sized rows scope r))
sized-Binary rows scope place op l r = ap (sized rows scope) (sym (rolls-Binary place op l r)) ∙ fold-roll-Tree Sized (sized_step rows scope) (Tree-F.Binary place op l r)

abbrev made : Option SqlType → Option Misfit → Weighed
made kind misfit = record { kind = kind; misfit = misfit }

pub weighed-Binary : (rows : ℕ) (scope : List Header) (place : ℕ) (op : Op) (l r : Tree) (a b : Weighed) (kind : Option SqlType) (own near misfit : Option Misfit)
    → a ≡ weighed_of (sized rows scope l) → b ≡ weighed_of (sized rows scope r) → kind ≡ of_both (op_type op) a.kind b.kind → own ≡ nearest (of_parts (op_own place op) a.kind b.kind) → near ≡ nearer_of a.misfit own → misfit ≡ nearer_of near b.misfit
    → made kind misfit ≡ weighed_of (sized rows scope (Binary place op l r))
weighed-Binary rows scope place op l r a b kind own near misfit ea eb ek eo ef ec =
    ap (λ k. made k misfit) ek
    ∙ ap (made (of_both (op_type op) a.kind b.kind)) (ec ∙ ap (λ x. nearer_of x b.misfit) (ef ∙ ap (nearer_of a.misfit) eo))
    ∙ ap (λ (x : Weighed). made (of_both (op_type op) x.kind b.kind) (nearer_of (nearer_of x.misfit (nearest (of_parts (op_own place op) x.kind b.kind))) b.misfit)) ea
    ∙ ap (λ (x : Weighed). made (of_both (op_type op) s.type x.kind) (nearer_of (nearer_of (nearest s.misfits) (nearest (of_parts (op_own place op) s.type x.kind))) x.misfit)) eb
    ∙ ap (λ x. made (of_both (op_type op) s.type t.type) (nearer_of x (nearest t.misfits))) (sym (nearest-append s.misfits (of_parts (op_own place op) s.type t.type)))
    ∙ ap (made (of_both (op_type op) s.type t.type)) (sym (nearest-append (s.misfits ++ of_parts (op_own place op) s.type t.type) t.misfits))
    ∙ ap weighed_of (sym (sized-Binary rows scope place op l r))
  where
    s : Sized
    s = sized rows scope l

    t : Sized
    t = sized rows scope r

-- of an aggregate with an argument
pub sized-Aggregate : (rows : ℕ) (scope : List Header) (place : ℕ) (agg : Agg) (a : Tree) → sized rows scope (Aggregate place agg (Some a)) ≡ aggregate_sized rows place agg (Some (sized rows scope a))
sized-Aggregate rows scope place agg a = ap (sized rows scope) (sym (rolls-Aggregate place agg (Some a))) ∙ fold-roll-Tree Sized (sized_step rows scope) (Tree-F.Aggregate place agg (Some a))

pub weighed-Aggregate : (rows : ℕ) (scope : List Header) (place : ℕ) (agg : Agg) (a : Tree) (w all : Weighed) → w ≡ weighed_of (sized rows scope a)
    → all ≡ made (option_and_then (λ t. agg_type agg (Some t) rows) w.kind) (nearer_of (nearest (of_part (agg_own rows place agg) w.kind)) w.misfit)
    → all ≡ weighed_of (sized rows scope (Aggregate place agg (Some a)))
weighed-Aggregate rows scope place agg a w all e f =
    f
    ∙ ap (λ (x : Weighed). made (option_and_then (λ t. agg_type agg (Some t) rows) x.kind) (nearer_of (nearest (of_part (agg_own rows place agg) x.kind)) x.misfit)) e
    ∙ ap (made (option_and_then (λ t. agg_type agg (Some t) rows) s.type)) (sym (nearest-append (of_part (agg_own rows place agg) s.type) s.misfits))
    ∙ ap weighed_of (sym (sized-Aggregate rows scope place agg a))
  where
    s : Sized
    s = sized rows scope a

pub ruleset own_rules = (own-cut, with_zero-cut_ends)

pub ruleset nearest_rules = (nearest-append)
