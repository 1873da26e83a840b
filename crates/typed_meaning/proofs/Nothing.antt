-- What no cause of a refusal says of the expressions of a SELECT.
use Rattle.std.proofs.Common.{◌≡◌, ◌==◌, ◌+◌, ℕ, Bool, true, false, cond, ◌||◌, List, [], ◌∷◌, ◌++◌, length, map, find, All, Option, Some, None, option_map, refl, subst, arith}
use Rattle.std.specs.List.{flat_map, list_any}
use Rattle.std.proofs.lemmas.List.Elements.{All-nil, All-cons, All-head, All-tail}
use Rattle.cal_schema.specs.declared.refusal.Refusal.TheVariants.{UnknownColumn, TypeClash, AggregateMisplaced, NotGrouped, MayNotFit}
use Rattle.cal_schema.specs.declared.schema.Schema.{Schema}
use Rattle.sql_tree.specs.declared.select.FromEntry.{FromEntry}
use Rattle.sql_tree.specs.declared.select.Select.{Select}
use Rattle.sql_meaning.specs.declared.mention.Mention.{Mention}
use Rattle.sql_meaning.specs.declared.misfit.Misfit.{Misfit}
use Rattle.sql_meaning.specs.declared.parts.Role.TheVariants.{Item, Join, Where, Having}
use Rattle.sql_meaning.specs.declared.parts.SelectPart.{SelectPart}
use Rattle.sql_meaning.specs.Bounds.{bound_of}
use Rattle.sql_meaning.specs.Groups.{misplaced_in, group_places, star_ungrouped, part_ungrouped, all_ungrouped}
use Rattle.sql_meaning.specs.Kinds.{part_clashes}
use Rattle.sql_meaning.specs.Mentions.{mentions}
use Rattle.sql_meaning.specs.Parts.{conditions, is_aggregate_query, item_trees, join_parts, listed, part, parts_of}
use Rattle.sql_meaning.specs.Refused.{lower, lowest, nearer, nearest, unknown_table, too_many_tables, unknown_column, ambiguous, all_clashes, type_clash, aggregate_misplaced, star_place, not_grouped, order_key, all_misfits, may_not_fit, refusal_of}
use Rattle.sql_meaning.specs.Scope.{Header, scope_of}
use Rattle.sql_meaning.specs.Sizes.{part_misfits}
use Rattle.sql_meaning.proofs.Nothing.{both-empty, or-none}

-- ---- nothing was found

map-none : {A B : Type 0} (f : A → B) (o : Option A) → option_map f o ≡ None → o ≡ None
map-none f None e = cc
map-none f (Some x) e = absurd (cc)

lower-some : (x : ℕ) (o : Option ℕ) → lower x o ≡ None → ⊥
lower-some x None e = absurd (cc)
lower-some x (Some y) e = absurd (cc)

lowest-none : (xs : List ℕ) → lowest xs ≡ None → xs ≡ []
lowest-none [] e = cc
lowest-none (x ∷ xs) e = absurd (lower-some x (lowest xs) e)

nearer-some : (x : Misfit) (o : Option Misfit) → nearer x o ≡ None → ⊥
nearer-some x None e = absurd (cc)
nearer-some x (Some y) e = absurd (cc)

nearest-none : (xs : List Misfit) → nearest xs ≡ None → xs ≡ []
nearest-none [] e = cc
nearest-none (x ∷ xs) e = absurd (nearer-some x (nearest xs) e)

-- ---- lists

pub each-empty : {X A : Type 0} (f : X → List A) (xs : List X) → flat_map f xs ≡ [] → All (λ x. f x ≡ []) xs
each-empty f [] e = All-nil (λ x. f x ≡ [])
each-empty f (x ∷ xs) e = let p = both-empty (f x) (flat_map f xs) e in All-cons (λ y. f y ≡ []) x xs p.0 (each-empty f xs p.1)

either-false : (p q : Bool) → (p || q) ≡ false → (p ≡ false) × (q ≡ false)
either-false true q e = absurd (cc)
either-false false q e = (refl, e)

pub each-false : {X : Type 0} (p : X → Bool) (xs : List X) → list_any p xs ≡ false → All (λ x. p x ≡ false) xs
each-false p [] e = All-nil (λ x. p x ≡ false)
each-false p (x ∷ xs) e = let q = either-false (p x) (list_any p xs) e in All-cons (λ y. p y ≡ false) x xs q.0 (each-false p xs q.1)

pub All-front : {X : Type 0} (P : X → Type 0) (xs ys : List X) → All P (xs ++ ys) → All P xs
All-front P [] ys h = All-nil P
All-front P (x ∷ xs) ys h = All-cons P x xs (All-head P x (xs ++ ys) h) (All-front P xs ys (All-tail P x (xs ++ ys) h))

pub All-back : {X : Type 0} (P : X → Type 0) (xs ys : List X) → All P (xs ++ ys) → All P ys
All-back P [] ys h = h
All-back P (x ∷ xs) ys h = All-back P xs ys (All-tail P x (xs ++ ys) h)

pub All-of_map : {X Y : Type 0} (P : Y → Type 0) (f : X → Y) (xs : List X) → All P (map f xs) → All (λ x. P (f x)) xs
All-of_map P f [] h = All-nil (λ x. P (f x))
All-of_map P f (x ∷ xs) h = All-cons (λ x. P (f x)) x xs (All-head P (f x) (map f xs) h) (All-of_map P f xs (All-tail P (f x) (map f xs) h))

-- ---- the parts

pub record AreParts (P : SelectPart → Type 0) (select : Select) : Type 0 where
  pub items : All (λ tree. P (part (length select.from) Item tree)) (item_trees select.items)
  pub joins : All P (join_parts 0 select.from)
  pub filter : All (λ tree. P (part (length select.from) Where tree)) (listed select.filter)
  pub having : All (λ tree. P (part (length select.from) Having tree)) (listed select.having)

pub are_parts : (P : SelectPart → Type 0) (select : Select) → All P (parts_of select) → AreParts P select
are_parts P select h =
    let items : List SelectPart = map (part (length select.from) Item) (item_trees select.items) in
    let joins : List SelectPart = join_parts 0 select.from in
    let filters : List SelectPart = map (part (length select.from) Where) (listed select.filter) in
    let havings : List SelectPart = map (part (length select.from) Having) (listed select.having) in
    let three = All-front P (items ++ joins ++ filters) havings h in
    let two = All-front P (items ++ joins) filters three in
    record {
      items = All-of_map P (part (length select.from) Item) (item_trees select.items) (All-front P items joins two);
      joins = All-back P items joins two;
      filter = All-of_map P (part (length select.from) Where) (listed select.filter) (All-back P (items ++ joins) filters three);
      having = All-of_map P (part (length select.from) Having) (listed select.having) (All-back P (items ++ joins ++ filters) havings h);
    }

-- ---- the conditions of an entry

pub join-conditions : (P : SelectPart → Type 0) (before : ℕ) (front : List FromEntry) (entry : FromEntry) (back : List FromEntry) → All P (join_parts before (front ++ entry ∷ back)) → All (λ tree. P (part (before + length front + 1) Join tree)) (conditions entry)
join-conditions P before [] entry back h =
    let here = All-of_map P (part (before + 1) Join) (conditions entry) (All-front P (map (part (before + 1) Join) (conditions entry)) (join_parts (before + 1) back) h) in
    let same : before + 1 ≡ before + 0 + 1 = omega arith in
    subst (λ n. All (λ tree. P (part n Join tree)) (conditions entry)) same here
join-conditions P before (e ∷ front) entry back h =
    let later = join-conditions P (before + 1) front entry back (All-back P (map (part (before + 1) Join) (conditions e)) (join_parts (before + 1) (front ++ entry ∷ back)) h) in
    let same : before + 1 + length front + 1 ≡ before + length (e ∷ front) + 1 = omega arith in
    subst (λ n. All (λ tree. P (part n Join tree)) (conditions entry)) same later

-- ---- no cause

pub record Nothing (scope : List Header) (before : ℕ) (select : Select) : Type 0 where
  pub unknown : find (λ (m : Mention). m.homes == 0) (mentions scope select) ≡ None
  pub clashing : AreParts (λ p. part_clashes scope p ≡ []) select
  pub misplaced : AreParts (λ p. misplaced_in p ≡ []) select
  pub outside : is_aggregate_query select ≡ true → all_ungrouped scope (star_place before select) select ≡ []
  pub misfit : AreParts (λ p. part_misfits (bound_of scope) scope p ≡ []) select

grouped : (scope : List Header) (before : ℕ) (select : Select) → not_grouped scope before select ≡ None → is_aggregate_query select ≡ true → all_ungrouped scope (star_place before select) select ≡ []
grouped scope before select e is = by (is_aggregate_query select) is e
  where
    by : (b : Bool) → b ≡ true → cond b (option_map NotGrouped (lowest (all_ungrouped scope (star_place before select) select))) None ≡ None → all_ungrouped scope (star_place before select) select ≡ []
    by true f g = lowest-none (all_ungrouped scope (star_place before select) select) (map-none NotGrouped (lowest (all_ungrouped scope (star_place before select) select)) g)
    by false f g = absurd (cc)

pub nothing : (schema : Schema) (before : ℕ) (select : Select) → refusal_of schema before select ≡ None → Nothing (scope_of schema select) before select
nothing schema before select e =
    let scope = scope_of schema select in
    let tables = or-none (unknown_table schema select) _ e in
    let many = or-none (too_many_tables select) _ tables.1 in
    let columns = or-none (unknown_column (mentions scope select)) _ many.1 in
    let two = or-none (ambiguous (mentions scope select)) _ columns.1 in
    let kinds = or-none (type_clash scope select) _ two.1 in
    let places = or-none (aggregate_misplaced select) _ kinds.1 in
    let groups = or-none (not_grouped scope before select) _ places.1 in
    let keys = or-none (order_key scope select) _ groups.1 in
    let sizes = or-none (may_not_fit scope select) _ keys.1 in
    record {
      unknown = map-none (λ (m : Mention). UnknownColumn m.name) _ columns.0;
      clashing = are_parts (λ p. part_clashes scope p ≡ []) select (each-empty (part_clashes scope) (parts_of select) (lowest-none (all_clashes scope select) (map-none TypeClash _ kinds.0)));
      misplaced = are_parts (λ p. misplaced_in p ≡ []) select (each-empty misplaced_in (parts_of select) (lowest-none (flat_map misplaced_in (parts_of select)) (map-none AggregateMisplaced _ places.0)));
      outside = grouped scope before select groups.0;
      misfit = are_parts (λ p. part_misfits (bound_of scope) scope p ≡ []) select
          (each-empty (part_misfits (bound_of scope) scope) (parts_of select) (nearest-none (all_misfits scope select) (map-none (λ (m : Misfit). MayNotFit m.place m.lo m.hi) _ sizes.0)));
    }

-- in an aggregate query no column stands outside the groups
pub none-outside : (scope : List Header) (before : ℕ) (select : Select) → Nothing scope before select → is_aggregate_query select ≡ true → AreParts (λ p. part_ungrouped scope (group_places scope select) p ≡ []) select
none-outside scope before select n is =
    let both = both-empty (star_ungrouped scope (group_places scope select) (star_place before select) select.items) (flat_map (part_ungrouped scope (group_places scope select)) (parts_of select)) (n.outside is) in
    are_parts (λ p. part_ungrouped scope (group_places scope select) p ≡ []) select (each-empty (part_ungrouped scope (group_places scope select)) (parts_of select) both.1)
