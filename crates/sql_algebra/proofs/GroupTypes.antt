-- The types of an Aggregate's columns, and of expressions over them.
use Rattle.std.proofs.Common.{◌≡◌, ℕ, ◌+◌, ◌≤◌, ◌==◌, Bool, true, false, List, [], length, All, Option, Some, None, option_map, unwrap_or, slice_get, refl, sym, ◌∙◌, ap, subst, arith}
use mathlib.Core.Path.{ap₂}
use Rattle.std.specs.Prelude.{is_some}
use Rattle.std.specs.Option.{option_and_then}
use Rattle.std.proofs.lemmas.Bool.Decides.{Decides-eqb}
use Rattle.std.proofs.lemmas.List.Elements.{All-nil, All-cons, All-head, All-append}
use Rattle.std.proofs.lemmas.Option.{same_Some, slice_get_past}
use Rattle.cal_value.specs.declared.kind.SqlType.{SqlType}
use Rattle.cal_value.specs.declared.operator.Agg.{Agg}
use Rattle.cal_value.specs.declared.operator.Agg.TheVariants.{Count, Sum, Sum0, Min, Max}
use Rattle.cal_value.specs.declared.interval.Interval.{Interval}
use Rattle.cal_value.specs.Interval.{is_in_range}
use Rattle.cal_value.specs.Types.{boolean_type, number_type, is_integer}
use Rattle.cal_value.proofs.TypeLemmas.{number_type-is, split_if}
use Rattle.cal_aggregate.specs.Parts.{distinct}
use Rattle.cal_aggregate.specs.ResultType.{agg_type, counts, sums, with_zero}
use Rattle.cal_expr.specs.declared.expr.Expr.{Expr}
use Rattle.cal_expr.specs.declared.expr.Expr.TheVariants.{Column, Negate, Binary, Not, IsNull}
use Rattle.cal_expr.specs.Typing as expressions
use Rattle.cal_expr.proofs.Ranges.{in_range}
use Rattle.cal_rel.specs.Ranges.{IsInRange}
use Rattle.cal_rel.proofs.TrueTypes.{and_then-some}
use Rattle.sql_tree.specs.declared.tree.Tree.{Tree}
use Rattle.sql_tree.specs.declared.tree.Tree.TheFolds.{fold-roll-Tree, ind-Tree, map-Tree}
use Rattle.sql_tree.specs.declared.tree.Tree.TheOpen.{Tree-F}
use Rattle.sql_tree.specs.declared.tree.Tree.TheViews.{roll-Tree}
use Rattle.sql_meaning.specs.Groups.{Aggregates, aggregates_in, aggregates_step, is_grouped, ungrouped, ungrouped_step}
use Rattle.sql_meaning.specs.Parts.{listed}
use Rattle.sql_meaning.specs.Scope.{Header, column_at, place_of, types_in}
use Rattle.sql_meaning.specs.Sizes.{Sized, sized, sized_step, tree_type}
use Rattle.sql_meaning.proofs.Nothing.{both-empty}
use Rattle.sql_to_rel.specs.Numbered.{numbered, numbered_step}
use Rattle.sql_to_rel.proofs.Rolls.{fold-Column, fold-Literal, fold-Negate, fold-Binary, fold-Not, fold-IsNull}
use Rattle.sql_to_rel.proofs.Types.{type_of-numbered}
use Rattle.typed_meaning.proofs.Groups.{no-aggregate}
use Rattle.typed_meaning.proofs.Nothing.{All-front, All-back}
use Rattle.sql_algebra.specs.declared.layout.ExprCall.{ExprCall}
use Rattle.sql_algebra.specs.Algebra.{place_among, same_call, Placed, placed, placed_step}
use Rattle.sql_algebra.proofs.Groups.{layout_by, right-of_unless}
use Rattle.sql_algebra.proofs.Output.{own-type}
use Rattle.sql_algebra.proofs.Places.{IsAmong, among-distinct}

-- ---- over rows it is the numbered tree

module _ (scope : List Header) where
  abbrev IsSame : Tree → Type 0
  IsSame tree = (placed scope tree).row ≡ numbered scope tree

  abbrev IsSameLevel : Tree-F Tree → Type 0
  IsSameLevel x = (placed_step scope (map-Tree Tree Placed (placed scope) x)).row ≡ numbered_step scope (map-Tree Tree Expr (numbered scope) x)

  same-level : (y : Tree-F ((t : Tree) × IsSame t)) → IsSameLevel (map-Tree ((t : Tree) × IsSame t) Tree (λ t. t.0) y)
  same-level (Tree-F.Column place name) = refl
  same-level (Tree-F.Literal place v) = refl
  same-level (Tree-F.Negate place a) = ap Negate a.1
  same-level (Tree-F.Binary place op a b) = ap₂ (Binary op) a.1 b.1
  same-level (Tree-F.Not place a) = ap Not a.1
  same-level (Tree-F.IsNull place a) = ap IsNull a.1
  same-level (Tree-F.Aggregate place agg None) = refl
  same-level (Tree-F.Aggregate place agg (Some a)) = refl

  same-roll : (x : Tree-F Tree) → IsSameLevel x → IsSame (roll-Tree x)
  same-roll x l = ap (λ (p : Placed). p.row) (fold-roll-Tree Placed (placed_step scope) x) ∙ l ∙ sym (fold-roll-Tree Expr (numbered_step scope) x)

  pub placed-row : (tree : Tree) → (placed scope tree).row ≡ numbered scope tree
  placed-row = ind-Tree IsSame (λ x y is. subst (λ z. IsSame (roll-Tree z)) is (same-roll _ (same-level y)))

-- ---- the type of a call over expressions

abbrev pub argument_over : List SqlType → ℕ → Agg → Option Expr → Option SqlType
argument_over ts rows agg None = agg_type agg None rows
argument_over ts rows agg (Some e) = option_and_then (λ t. agg_type agg (Some t) rows) (expressions.type_of e ts)

abbrev pub over_type : List SqlType → ℕ → ExprCall → Option SqlType
over_type ts rows call = argument_over ts rows call.agg call.argument

number-in : (nullable : Bool) (i : Interval) (u : SqlType) → number_type nullable i ≡ Some u → IsInRange u
number-in nullable i u e k = let p = number_type-is nullable i u e in subst (λ (t : SqlType). is_in_range t.interval ≡ true) p.1 p.0

agg-in : (agg : Agg) (t : Option SqlType) (u : SqlType) (n : ℕ) → ((s : SqlType) → t ≡ Some s → IsInRange s) → agg_type agg t n ≡ Some u → IsInRange u
agg-in Count t u n h e = number-in false (counts n) u e
agg-in Sum None u n h e = absurd (cc)
agg-in Sum0 None u n h e = absurd (cc)
agg-in Min None u n h e = absurd (cc)
agg-in Max None u n h e = absurd (cc)
agg-in Sum (Some s) u n h e = number-in true (sums n s.interval) u (split_if (is_integer s) (number_type true (sums n s.interval)) u e).1
agg-in Sum0 (Some s) u n h e = number-in false (with_zero (sums n s.interval)) u (split_if (is_integer s) (number_type false (with_zero (sums n s.interval))) u e).1
agg-in Min (Some s) u n h e = subst IsInRange (same_Some (record s { nullable = true }) u e) (h s refl)
agg-in Max (Some s) u n h e = subst IsInRange (same_Some (record s { nullable = true }) u e) (h s refl)

over-in_range : (ts : List SqlType) (rows : ℕ) (agg : Agg) (argument : Option Expr) (t : SqlType) → argument_over ts rows agg argument ≡ Some t → IsInRange t
over-in_range ts rows agg None t e = agg-in agg None t rows (λ s f. absurd (cc)) e
over-in_range ts rows agg (Some x) t e =
    let m = and_then-some (λ s. agg_type agg (Some s) rows) (expressions.type_of x ts) t e in
    agg-in agg (Some m.from) t rows (λ s f. subst IsInRange (same_Some m.from s f) (in_range ts x m.from m.found)) m.is

-- ---- what has a type has parts that have one

some-then : (g : SqlType → Option SqlType) (o : Option SqlType) → is_some (option_and_then g o) ≡ true → is_some o ≡ true
some-then g None h = h
some-then g (Some t) h = refl

some-both : (f : SqlType → SqlType → Option SqlType) (o p : Option SqlType) → is_some (expressions.of_both f o p) ≡ true → (is_some o ≡ true) × (is_some p ≡ true)
some-both f None p h = absurd (cc)
some-both f (Some s) None h = absurd (cc)
some-both f (Some s) (Some t) h = (refl, refl)

some-null : (o : Option SqlType) → is_some (option_map (λ _. boolean_type false) o) ≡ true → is_some o ≡ true
some-null None h = h
some-null (Some t) h = refl

column-same : (ts : List SqlType) (o : Option ℕ) → option_and_then expressions.column_type (slice_get ts (unwrap_or o (length ts))) ≡ option_and_then expressions.column_type (option_and_then (slice_get ts) o)
column-same ts None = let past : length ts ≤ length ts = omega arith in ap (option_and_then expressions.column_type) (slice_get_past ts (length ts) past)
column-same ts (Some at) = refl

module _ (rows : ℕ) (scope : List Header) (columns : List ℕ) (calls : List ExprCall) (wide : List SqlType) where
  -- the call has a type, and so has its argument
  abbrev pub IsTypedCall : ExprCall → Type 0
  IsTypedCall call = (is_some (over_type (types_in scope) rows call) ≡ true) × All (λ e. is_some (expressions.type_of e (types_in scope)) ≡ true) (listed call.argument)

  -- these are the types of the Aggregate's columns
  pub record AreColumns : Type 0 where
    pub keys : (at : ℕ) → IsAmong ◌==◌ (distinct ◌==◌ columns) at → slice_get wide (place_among ◌==◌ at (distinct ◌==◌ columns)) ≡ slice_get (types_in scope) at
    pub values : (call : ExprCall) → IsAmong same_call calls call → slice_get wide (length (distinct ◌==◌ columns) + place_among same_call call calls) ≡ over_type (types_in scope) rows call

  module _ (are : AreColumns) where
    record Sound (p : Placed) (s : Sized) (places : Aggregates) (outside : List ℕ) : Type 0 where
      own : places.nested ≡ [] → is_some s.type ≡ true → All IsTypedCall p.calls
      over : places.nested ≡ [] → outside ≡ [] → All (IsAmong same_call calls) p.calls → expressions.type_of (p.group (layout_by columns calls)) wide ≡ s.type

    abbrev IsSound : Tree → Type 0
    IsSound tree = Sound (placed scope tree) (sized rows scope tree) (aggregates_in tree) (ungrouped scope columns tree)

    abbrev IsSoundLevel : Tree-F Tree → Type 0
    IsSoundLevel x =
        Sound (placed_step scope (map-Tree Tree Placed (placed scope) x)) (sized_step rows scope (map-Tree Tree Sized (sized rows scope) x))
        (aggregates_step (map-Tree Tree Aggregates aggregates_in x)) (ungrouped_step scope columns (map-Tree Tree (List ℕ) (ungrouped scope columns) x))

    call-typed : (call : ExprCall) → IsAmong same_call calls call
        → expressions.type_of (Column (length (distinct ◌==◌ columns) + place_among same_call call calls)) wide ≡ over_type (types_in scope) rows call
    call-typed call h =
        fold-Column (expressions.type_step wide) (length (distinct ◌==◌ columns) + place_among same_call call calls)
        ∙ ap (option_and_then expressions.column_type) (are.values call h)
        ∙ own-type (over_type (types_in scope) rows call) (over-in_range (types_in scope) rows call.agg call.argument)

    pub key-typed : (at : ℕ) → is_grouped columns at ≡ true
        → expressions.type_of (Column (place_among ◌==◌ at (distinct ◌==◌ columns))) wide ≡ option_and_then expressions.column_type (slice_get (types_in scope) at)
    key-typed at h =
        fold-Column (expressions.type_step wide) (place_among ◌==◌ at (distinct ◌==◌ columns))
        ∙ ap (option_and_then expressions.column_type) (are.keys at (among-distinct ◌==◌ Decides-eqb at columns h))

    -- the argument of an aggregate, which has none itself
    argument-typed : (tree : Tree) → (aggregates_in tree).all ≡ [] → expressions.type_of (placed scope tree).row (types_in scope) ≡ tree_type rows scope tree
    argument-typed tree h = ap (λ e. expressions.type_of e (types_in scope)) (placed-row scope tree) ∙ type_of-numbered rows scope tree (no-aggregate tree h)

    level : (y : Tree-F ((t : Tree) × IsSound t)) → IsSoundLevel (map-Tree ((t : Tree) × IsSound t) Tree (λ t. t.0) y)
    level (Tree-F.Column place name) = record {
      own = λ n h. All-nil IsTypedCall;
      over = λ n e among. key-typed (column_at scope name) (right-of_unless (is_grouped columns (column_at scope name)) place e) ∙ column-same (types_in scope) (place_of scope name);
    }
    level (Tree-F.Literal place v) = record { own = λ n h. All-nil IsTypedCall; over = λ n e among. fold-Literal (expressions.type_step wide) v }
    level (Tree-F.Negate place a) = record {
      own = λ n h. a.1.own n (some-then expressions.negation_type (tree_type rows scope a.0) h);
      over = λ n e among. fold-Negate (expressions.type_step wide) ((placed scope a.0).group (layout_by columns calls)) ∙ ap (option_and_then expressions.negation_type) (a.1.over n e among);
    }
    level (Tree-F.Binary place op a b) = record {
      own = λ n h.
          let apart = both-empty (aggregates_in a.0).nested (aggregates_in b.0).nested n in
          let some = some-both (expressions.op_type op) (tree_type rows scope a.0) (tree_type rows scope b.0) h in
          All-append IsTypedCall (placed scope a.0).calls (placed scope b.0).calls (a.1.own apart.0 some.0) (b.1.own apart.1 some.1);
      over = λ n e among.
          let apart = both-empty (aggregates_in a.0).nested (aggregates_in b.0).nested n in
          let none = both-empty (ungrouped scope columns a.0) (ungrouped scope columns b.0) e in
          fold-Binary (expressions.type_step wide) op ((placed scope a.0).group (layout_by columns calls)) ((placed scope b.0).group (layout_by columns calls))
          ∙ ap₂ (expressions.of_both (expressions.op_type op))
          (a.1.over apart.0 none.0 (All-front (IsAmong same_call calls) (placed scope a.0).calls (placed scope b.0).calls among))
          (b.1.over apart.1 none.1 (All-back (IsAmong same_call calls) (placed scope a.0).calls (placed scope b.0).calls among));
    }
    level (Tree-F.Not place a) = record {
      own = λ n h. a.1.own n (some-then expressions.not_type (tree_type rows scope a.0) h);
      over = λ n e among. fold-Not (expressions.type_step wide) ((placed scope a.0).group (layout_by columns calls)) ∙ ap (option_and_then expressions.not_type) (a.1.over n e among);
    }
    level (Tree-F.IsNull place a) = record {
      own = λ n h. a.1.own n (some-null (tree_type rows scope a.0) h);
      over = λ n e among. fold-IsNull (expressions.type_step wide) ((placed scope a.0).group (layout_by columns calls)) ∙ ap (option_map (λ _. boolean_type false)) (a.1.over n e among);
    }
    level (Tree-F.Aggregate place agg None) = record {
      own = λ n h. All-cons IsTypedCall (record { agg = Count; argument = None }) [] (h, All-nil (λ e. is_some (expressions.type_of e (types_in scope)) ≡ true)) (All-nil IsTypedCall);
      over = λ n e among. call-typed (record { agg = Count; argument = None }) (All-head (IsAmong same_call calls) (record { agg = Count; argument = None }) [] among);
    }
    level (Tree-F.Aggregate place agg (Some a)) = record {
      own = λ n h.
          let same = argument-typed a.0 n in
          let some = some-then (λ t. agg_type agg (Some t) rows) (tree_type rows scope a.0) h in
          let HasOne : Expr → Type 0 = λ e. is_some (expressions.type_of e (types_in scope)) ≡ true in
          All-cons IsTypedCall (record { agg = agg; argument = Some (placed scope a.0).row }) []
          (ap (λ o. is_some (option_and_then (λ t. agg_type agg (Some t) rows) o)) same ∙ h, All-cons HasOne (placed scope a.0).row [] (ap is_some same ∙ some) (All-nil HasOne))
          (All-nil IsTypedCall);
      over = λ n e among.
          call-typed (record { agg = agg; argument = Some (placed scope a.0).row }) (All-head (IsAmong same_call calls) (record { agg = agg; argument = Some (placed scope a.0).row }) [] among)
          ∙ ap (option_and_then (λ t. agg_type agg (Some t) rows)) (argument-typed a.0 n);
    }

    carried : (p q : Placed) (s t : Sized) (a b : Aggregates) (c d : List ℕ) → p ≡ q → s ≡ t → a ≡ b → c ≡ d → Sound p s a c → Sound q t b d
    carried p q s t a b c d e f g i h = subst (λ x. Sound q t b x) i (subst (λ x. Sound q t x c) g (subst (λ x. Sound q x a c) f (subst (λ x. Sound x s a c) e h)))

    at_roll : (x : Tree-F Tree) → IsSoundLevel x → IsSound (roll-Tree x)
    at_roll x l =
        carried _ _ _ _ _ _ _ _ (sym (fold-roll-Tree Placed (placed_step scope) x)) (sym (fold-roll-Tree Sized (sized_step rows scope) x)) (sym (fold-roll-Tree Aggregates aggregates_step x))
        (sym (fold-roll-Tree (List ℕ) (ungrouped_step scope columns) x)) l

    sound : (tree : Tree) → IsSound tree
    sound = ind-Tree IsSound (λ x y is. subst (λ z. IsSound (roll-Tree z)) is (at_roll _ (level y)))

    pub calls-typed : (tree : Tree) → (aggregates_in tree).nested ≡ [] → is_some (tree_type rows scope tree) ≡ true → All IsTypedCall (placed scope tree).calls
    calls-typed tree n h = (sound tree).own n h

    pub group-typed : (tree : Tree) → (aggregates_in tree).nested ≡ [] → ungrouped scope columns tree ≡ [] → All (IsAmong same_call calls) (placed scope tree).calls
        → expressions.type_of ((placed scope tree).group (layout_by columns calls)) wide ≡ tree_type rows scope tree
    group-typed tree n e among = (sound tree).over n e among
