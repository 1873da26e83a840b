-- The tree of an accepted SELECT has columns of the kinds of the answer's.
use Rattle.std.proofs.Common.{◌≡◌, ℕ, zero, suc, ◌+◌, ◌<◌, ◌≤◌, ◌==◌, Bool, true, false, cond, not, ◌||◌, List, [], ◌∷◌, ◌++◌, map, find, length, All, Option, Some, None, option_map, unwrap_or, slice_get, refl, sym, ◌∙◌, ap, subst, arith, zero-add}
use mathlib.Core.Path.{ap₂}
use Rattle.std.specs.Prelude.{is_some}
use Rattle.std.specs.List.{flat_map, list_any, list_all}
use Rattle.std.specs.Option.{IsSomeAnd, option_and_then, is_none}
use Rattle.std.proofs.lemmas.Bool.Decides.{Decides-eqb}
use Rattle.std.proofs.lemmas.List.{append-nil}
use Rattle.std.proofs.lemmas.List.Sums.{sum_by-cons}
use Rattle.std.proofs.lemmas.List.Folds.{find-append}
use Rattle.std.proofs.lemmas.List.Elements.{All-nil, All-cons, All-append, All-weaker}
use Rattle.cal_value.specs.declared.kind.Kind.TheVariants.{Boolean}
use Rattle.cal_value.specs.declared.kind.SqlType.{SqlType}
use Rattle.cal_value.specs.Types.{AreAtMostAsWide, IsProperType}
use Rattle.cal_aggregate.specs.Parts.{distinct}
use Rattle.cal_expr.specs.declared.expr.Expr.{Expr}
use Rattle.cal_expr.specs.Typing as expressions
use Rattle.cal_expr.proofs.Narrower.{type_of-narrower}
use Rattle.cal_schema.specs.Valid.{IsValidSchema}
use Rattle.cal_rel.specs.Info.{Info}
use Rattle.cal_rel.specs.Ranges.{IsInRange}
use Rattle.cal_rel.specs.Tree.{Tree as RelTree}
use Rattle.cal_rel.specs.Typing.{of_both, types_by, of_columns, group_bound, aggregate_type, type_of}
use Rattle.cal_rel.proofs.Narrower.{wide-append}
use Rattle.cal_rel.proofs.RowLemmas.{types_by-length}
use Rattle.sql_tree.specs.declared.select.Item.{Item}
use Rattle.sql_tree.specs.declared.select.Items.{Items}
use Rattle.sql_tree.specs.declared.select.Items.TheVariants.{Star, Listed}
use Rattle.sql_tree.specs.declared.select.Select.{Select}
use Rattle.sql_tree.specs.declared.tree.ColumnName.{ColumnName}
use Rattle.sql_tree.specs.declared.tree.Tree.{Tree}
use Rattle.sql_meaning.specs.declared.mention.Mention.{Mention}
use Rattle.sql_meaning.specs.Groups.{aggregates_in, is_grouped, ungrouped, star_ungrouped, part_ungrouped, group_places}
use Rattle.sql_meaning.specs.Kinds.{kinded}
use Rattle.sql_meaning.specs.Mentions.{tree_mentions, column_mention, from_mentions, key_names, mentions}
use Rattle.sql_meaning.specs.Names.{places_from, star_places}
use Rattle.sql_meaning.specs.Parts.{has_aggregate, is_empty, item_trees, listed, is_aggregate_query, parts_of}
use Rattle.sql_meaning.specs.Refused.{refusal_of, star_place}
use Rattle.sql_meaning.specs.Scope.{Header, scope_of, homes, place_in, place_of, column_at, types_in}
use Rattle.sql_meaning.specs.Sizes.{tree_type, output_types}
use Rattle.sql_meaning.proofs.Nothing.{both-empty, or-none}
use Rattle.sql_meaning.proofs.Places.{place_of-within, place-behind, place-front}
use Rattle.sql_to_rel.specs.Numbered.{numbered}
use Rattle.typed_meaning.specs.Accepted.{rows_bound, answer_types}
use Rattle.typed_meaning.specs.Known.{HasType, HasTruthType}
use Rattle.typed_meaning.proofs.Mentioned.{is_lost}
use Rattle.typed_meaning.proofs.Nothing.{All-front, All-back, All-of_map, each-false, Nothing, nothing, none-outside}
use Rattle.typed_meaning.proofs.Types.{accepted-types}
use Rattle.sql_algebra.specs.declared.layout.ExprCall.{ExprCall}
use Rattle.sql_algebra.specs.Algebra.{from_tree, kept, same_call, place_among, placed, group_at, layout_of, aggregate_tree, row_items, group_items, row_answer, group_answer, answer_tree, once_tree, algebra}
use Rattle.sql_algebra.specs.Formed.{IsFormed}
use Rattle.sql_algebra.proofs.Calls.{same_call-Decides, both-true}
use Rattle.sql_algebra.proofs.FromTypes.{IsTruth, numbered-truth, narrower-truth, plain-trees, accepted-from}
use Rattle.sql_algebra.proofs.Groups.{layout_by, right-of_unless}
use Rattle.sql_algebra.proofs.GroupTypes.{over_type, IsTypedCall, AreColumns, calls-typed, group-typed}
use Rattle.sql_algebra.proofs.Output.{types-same, types-listed, column-type, star-types, row-types, kept-type, project-type, own-columns}
use Rattle.sql_algebra.proofs.Places.{IsAmong, place-below, all-distinct}
use Rattle.sql_algebra.proofs.WellFormed.{types-all, types-place, get-front, get-behind, distinct-all, each-of_all, all-of_each, types-narrow, proper-at, still-over, aggregate-type}
use Rattle.sql_algebra.proofs.Whole.{as-many-items}

-- ---- kinds

-- the tree has a type, with so many columns, which are of these kinds
pub record HasKinds (info : Info) (tree : RelTree) (width : ℕ) (ts : List SqlType) : Type 0 where
  pub columns : List SqlType
  pub bound : ℕ
  pub is : type_of info tree ≡ Some (of_columns bound columns)
  pub long : length columns ≡ width
  pub same : map (λ (t : SqlType). t.kind) columns ≡ map (λ (t : SqlType). t.kind) ts

same-kinds : (ss ts : List SqlType) → AreAtMostAsWide ss ts → map (λ (t : SqlType). t.kind) ss ≡ map (λ (t : SqlType). t.kind) ts
same-kinds [] [] h = refl
same-kinds [] (t ∷ ts) h = absurd h
same-kinds (s ∷ ss) [] h = absurd h
same-kinds (s ∷ ss) (t ∷ ts) h = ap₂ (λ k ks. k ∷ ks) h.0.kind (same-kinds ss ts h.1)

some-of : (o : Option SqlType) (P : SqlType → Type 0) → IsSomeAnd o P → is_some o ≡ true
some-of None P h = absurd h
some-of (Some t) P h = refl

-- ---- columns of GROUP BY

split : {A : Type 0} (p : A → Bool) (xs ys : List A) → find p (xs ++ ys) ≡ None → (find p xs ≡ None) × (find p ys ≡ None)
split p xs ys e = or-none (find p xs) (find p ys) (sym (find-append p xs ys) ∙ e)

there : (ts : List SqlType) (at : ℕ) → at < length ts → is_some (slice_get ts at) ≡ true
there [] at lt = absurd (omega arith)
there (t ∷ ts) zero lt = refl
there (t ∷ ts) (suc at) lt = there ts at (omega arith)

home-here : (h : Header) (hs : List Header) (c : ColumnName) → homes (h ∷ hs) c ≡ cond (is_some (place_in h c)) 1 0 + homes hs c
home-here h hs c = sum_by-cons (λ x. cond (is_some (place_in x c)) 1 0) h hs

-- what some entry has has a place
home-known : (hs : List Header) (c : ColumnName) → (homes hs c == 0) ≡ false → is_none (place_of hs c) ≡ false
home-known [] c e = absurd (cc)
home-known (h ∷ hs) c e = by (place_in h c) refl (home-known hs c)
  where
    elsewhere : (o : Option ℕ) → is_none o ≡ false → is_none (option_map (λ k. length h.table.columns + k) o) ≡ false
    elsewhere None f = f
    elsewhere (Some k) f = refl

    by : (o : Option ℕ) → place_in h c ≡ o → ((homes hs c == 0) ≡ false → is_none (place_of hs c) ≡ false) → is_none (place_of (h ∷ hs) c) ≡ false
    by (Some k) f later = ap is_none (place-front h hs c k f)
    by None f later =
        ap is_none (place-behind h hs c f)
        ∙ elsewhere (place_of hs c) (later (ap (λ n. n == 0) (sym (zero-add (homes hs c)) ∙ ap (λ (o : Option ℕ). cond (is_some o) 1 0 + homes hs c) (sym f) ∙ sym (home-here h hs c)) ∙ e))

column-there : (scope : List Header) (c : ColumnName) → (homes scope c == 0) ≡ false → is_some (slice_get (types_in scope) (column_at scope c)) ≡ true
column-there scope c h = by (place_of scope c) refl (home-known scope c h)
  where
    by : (o : Option ℕ) → place_of scope c ≡ o → is_none o ≡ false → is_some (slice_get (types_in scope) (unwrap_or o (length (types_in scope)))) ≡ true
    by None e k = absurd (cc)
    by (Some at) e k = there (types_in scope) at (place_of-within scope c at e)

columns-there : (scope : List Header) (columns : List ColumnName) → find is_lost (map (column_mention scope) columns) ≡ None → All (λ at. is_some (slice_get (types_in scope) at) ≡ true) (map (column_at scope) columns)
columns-there scope [] e = All-nil (λ at. is_some (slice_get (types_in scope) at) ≡ true)
columns-there scope (c ∷ cs) e = by (homes scope c == 0) refl e (columns-there scope cs)
  where
    by : (b : Bool) → (homes scope c == 0) ≡ b → cond b (Some (column_mention scope c)) (find is_lost (map (column_mention scope) cs)) ≡ None
        → (find is_lost (map (column_mention scope) cs) ≡ None → All (λ at. is_some (slice_get (types_in scope) at) ≡ true) (map (column_at scope) cs))
        → All (λ at. is_some (slice_get (types_in scope) at) ≡ true) (map (column_at scope) (c ∷ cs))
    by true f g more = absurd (cc)
    by false f g more = All-cons (λ at. is_some (slice_get (types_in scope) at) ≡ true) (column_at scope c) (map (column_at scope) cs) (column-there scope c f) (more g)

groups-there : (scope : List Header) (select : Select) → find is_lost (mentions scope select) ≡ None → All (λ at. is_some (slice_get (types_in scope) at) ≡ true) (group_places scope select)
groups-there scope select e =
    let items : List Mention = flat_map (tree_mentions scope) (item_trees select.items) in
    let from : List Mention = from_mentions [] scope in
    let filters : List Mention = flat_map (tree_mentions scope) (listed select.filter) in
    let groups : List Mention = map (column_mention scope) select.groups in
    let havings : List Mention = flat_map (tree_mentions scope) (listed select.having) in
    let keys : List Mention = map (column_mention scope) (key_names select.order) in
    let five = split is_lost (items ++ from ++ filters ++ groups ++ havings) keys e in
    let four = split is_lost (items ++ from ++ filters ++ groups) havings five.0 in
    let three = split is_lost (items ++ from ++ filters) groups four.0 in
    columns-there scope select.groups three.1

-- ---- the columns of an Aggregate's row

columns-are : (rows : ℕ) (scope : List Header) (columns : List ℕ) (calls : List ExprCall) (keys values : List SqlType) → types_by (slice_get (types_in scope)) (distinct ◌==◌ columns) ≡ Some keys
    → types_by (over_type (types_in scope) rows) calls ≡ Some values → AreColumns rows scope columns calls (keys ++ values)
columns-are rows scope columns calls keys values e f =
    let long = types_by-length (slice_get (types_in scope)) (distinct ◌==◌ columns) keys e in
    record {
      keys = λ at h.
          let below = place-below ◌==◌ Decides-eqb at (distinct ◌==◌ columns) h in
          get-front keys values (place_among ◌==◌ at (distinct ◌==◌ columns)) (omega arith)
          ∙ types-place ◌==◌ Decides-eqb (slice_get (types_in scope)) at (distinct ◌==◌ columns) keys e h;
      values = λ call h.
          ap (λ n. slice_get (keys ++ values) (n + place_among same_call call calls)) (sym long)
          ∙ get-behind keys values (place_among same_call call calls)
          ∙ types-place same_call same_call-Decides (over_type (types_in scope) rows) call calls values f h;
    }

none-are : (rows : ℕ) (scope : List Header) → AreColumns rows scope [] [] []
none-are rows scope = record { keys = λ at h. absurd (cc); values = λ call h. absurd (cc) }

-- ---- items over an Aggregate

module _ (rows : ℕ) (scope : List Header) (range : All IsInRange (types_in scope)) (columns : List ℕ) (calls : List ExprCall) (wide : List SqlType) (are : AreColumns rows scope columns calls wide) where
  -- an item or HAVING of an accepted query
  pub record IsGood (tree : Tree) : Type 0 where
    pub apart : (aggregates_in tree).nested ≡ []
    pub within : ungrouped scope columns tree ≡ []
    pub among : All (IsAmong same_call calls) (placed scope tree).calls

  good-type : (tree : Tree) → IsGood tree → expressions.type_of ((placed scope tree).group (layout_by columns calls)) wide ≡ tree_type rows scope tree
  good-type tree g = group-typed rows scope columns calls wide are tree g.apart g.within g.among

  good-truth : (tree : Tree) → IsGood tree → HasTruthType rows scope tree → IsTruth wide ((placed scope tree).group (layout_by columns calls))
  good-truth tree g h = subst (λ o. IsSomeAnd o (λ t. t.kind ≡ Boolean)) (sym (good-type tree g)) h

  star-column : (at : ℕ) → is_grouped columns at ≡ true → expressions.type_of (group_at (layout_by columns calls) at) wide ≡ slice_get (types_in scope) at
  star-column at h =
      Rattle.sql_algebra.proofs.GroupTypes.key-typed rows scope columns calls wide are at h
      ∙ sym (Rattle.sql_to_rel.proofs.Rolls.fold-Column (expressions.type_step (types_in scope)) at)
      ∙ column-type (types_in scope) range at

  star-columns : (ats : List ℕ) → list_all (is_grouped columns) ats ≡ true → All (λ at. expressions.type_of (group_at (layout_by columns calls) at) wide ≡ slice_get (types_in scope) at) ats
  star-columns [] h = All-nil (λ at. expressions.type_of (group_at (layout_by columns calls) at) wide ≡ slice_get (types_in scope) at)
  star-columns (at ∷ ats) h =
      let both = both-true (is_grouped columns at) (list_all (is_grouped columns) ats) h in
      All-cons (λ at. expressions.type_of (group_at (layout_by columns calls) at) wide ≡ slice_get (types_in scope) at) at ats (star-column at both.0) (star-columns ats both.1)

  group-types : (items : Items) (place : ℕ) → star_ungrouped scope columns place items ≡ [] → All IsGood (item_trees items) → All (HasType rows scope) (item_trees items)
      → types_by (λ e. expressions.type_of e wide) (group_items scope (layout_by columns calls) items) ≡ Some (output_types rows scope items)
  group-types Star place star good h =
      types-same (λ e. expressions.type_of e wide) (slice_get (types_in scope)) (group_at (layout_by columns calls)) (star_places 0 scope)
      (star-columns (star_places 0 scope) (right-of_unless (list_all (is_grouped columns) (star_places 0 scope)) place star))
      ∙ star-types scope
  group-types (Listed items) place star good h =
      let p = All-of_map (HasType rows scope) (λ (item : Item). item.tree) items h in
      let q = All-of_map IsGood (λ (item : Item). item.tree) items good in
      types-same (λ e. expressions.type_of e wide) (λ (item : Item). tree_type rows scope item.tree) (λ item. (placed scope item.tree).group (layout_by columns calls)) items
      (λ i d lt. good-type _ (q i d lt))
      ∙ types-listed (λ item. tree_type rows scope item.tree) (λ item t. t.kind ≡ (kinded scope item.tree).kind) items p

-- ---- the answer

module _ (info : Info) (scope : List Header) (select : Select) (rows : ℕ) (tree : RelTree) (bound : ℕ) (few : bound ≤ rows)
    (is : type_of info tree ≡ Some (of_columns bound (types_in scope))) (range : All IsInRange (types_in scope)) (proper : All IsProperType (types_in scope)) (items : All (HasType rows scope) (item_trees select.items)) where
  row-kinds : All (λ tree. has_aggregate tree ≡ false) (item_trees select.items) → HasKinds info (row_answer scope select tree) (length (row_items scope select.items)) (output_types rows scope select.items)
  row-kinds plain = record {
    columns = output_types rows scope select.items;
    bound = bound;
    is = project-type info (row_items scope select.items) tree (of_columns bound (types_in scope)) (output_types rows scope select.items) is (row-types rows scope range select.items items plain);
    long = types_by-length (λ e. expressions.type_of e (types_in scope)) (row_items scope select.items) (output_types rows scope select.items) (row-types rows scope range select.items items plain);
    same = refl;
  }

  group-kinds : (before : ℕ) → Nothing scope before select → is_aggregate_query select ≡ true → All (HasTruthType rows scope) (listed select.having)
      → HasKinds info (group_answer scope (layout_of scope select) select tree) (length (row_items scope select.items)) (output_types rows scope select.items)
  group-kinds before n asks having =
      let ts = types_in scope in
      let columns = group_places scope select in
      let trees = item_trees select.items ++ listed select.having in
      let calls = distinct same_call (flat_map (λ tree. (placed scope tree).calls) trees) in
      let layout = layout_of scope select in
      let outside = none-outside scope before select n asks in
      let star = (both-empty (star_ungrouped scope columns (star_place before select) select.items) (flat_map (part_ungrouped scope columns) (parts_of select)) (n.outside asks)).0 in
      let InCalls : Tree → Type 0 = λ tree. All (IsAmong same_call calls) (placed scope tree).calls in
      let among = each-of_all (IsAmong same_call calls) (λ tree. (placed scope tree).calls) trees (all-distinct same_call same_call-Decides (flat_map (λ tree. (placed scope tree).calls) trees)) in
      let among_items = All-front InCalls (item_trees select.items) (listed select.having) among in
      let among_having = All-back InCalls (item_trees select.items) (listed select.having) among in
      let Typed : ExprCall → Type 0 = λ call. (is_some (over_type (types_in scope) rows call) ≡ true) × All (λ e. is_some (expressions.type_of e (types_in scope)) ≡ true) (listed call.argument) in
      let of_tree : (tree : Tree) → (aggregates_in tree).nested ≡ [] → is_some (tree_type rows scope tree) ≡ true → All Typed (placed scope tree).calls
      = λ tree a h. calls-typed rows scope [] [] [] (none-are rows scope) tree a h in
      let item_calls : All (λ tree. All Typed (placed scope tree).calls) (item_trees select.items)
      = λ i d lt. of_tree _ (n.misplaced.items i d lt) (some-of (tree_type rows scope _) _ (items i d lt)) in
      let having_calls : All (λ tree. All Typed (placed scope tree).calls) (listed select.having)
      = λ i d lt. of_tree _ (n.misplaced.having i d lt) (some-of (tree_type rows scope _) _ (having i d lt)) in
      let all_calls = all-of_each Typed (λ tree. (placed scope tree).calls) trees (All-append (λ tree. All Typed (placed scope tree).calls) (item_trees select.items) (listed select.having) item_calls having_calls) in
      let typed = distinct-all Typed same_call (flat_map (λ tree. (placed scope tree).calls) trees) all_calls in
      let groups = distinct-all (λ at. is_some (slice_get (types_in scope) at) ≡ true) ◌==◌ columns (groups-there scope select n.unknown) in
      let keys = types-all (slice_get ts) (distinct ◌==◌ columns) groups in
      let values = types-all (over_type ts rows) calls (All-weaker Typed (λ call. is_some (over_type ts rows call) ≡ true) (λ call k. k.0) calls typed) in
      let wide = keys.types ++ values.types in
      let are = columns-are rows scope columns calls keys.types values.types keys.is values.is in
      let less_keys = types-narrow (slice_get ts) (slice_get ts) (proper-at ts proper) (distinct ◌==◌ columns) keys.types keys.is in
      let less_values = types-narrow (over_type ts bound) (over_type ts rows) (λ (call : ExprCall). still-over ts proper bound rows few call.agg call.argument) calls values.types values.is in
      let narrow = less_keys.found ++ less_values.found in
      let within = wide-append less_keys.found keys.types less_values.found values.types less_keys.within less_values.within in
      let aggregated = aggregate-type info ts range bound layout less_keys.found less_values.found less_keys.is less_values.is tree is
      (All-weaker Typed (λ call. All (λ e. is_some (expressions.type_of e ts) ≡ true) (listed call.argument)) (λ call k. k.1) calls typed) groups in
      let good_items : All (IsGood rows scope range columns calls wide are) (item_trees select.items)
      = λ i d lt. record { apart = n.misplaced.items i d lt; within = outside.items i d lt; among = among_items i d lt } in
      let good_having : All (IsGood rows scope range columns calls wide are) (listed select.having)
      = λ i d lt. record { apart = n.misplaced.having i d lt; within = outside.having i d lt; among = among_having i d lt } in
      let truths : All (λ c. IsTruth narrow ((placed scope c).group layout)) (listed select.having)
      = λ i d lt. narrower-truth narrow wide within _ (good-truth rows scope range columns calls wide are _ (good_having i d lt) (having i d lt)) in
      let kept_type = kept-type info (λ condition. (placed scope condition).group layout) select.having (aggregate_tree layout tree) (of_columns aggregated.bound narrow) aggregated.is truths in
      let made = types-narrow (λ e. expressions.type_of e narrow) (λ e. expressions.type_of e wide) (type_of-narrower narrow wide within) (group_items scope layout select.items) (output_types rows scope select.items)
      (group-types rows scope range columns calls wide are select.items (star_place before select) star good_items items) in
      record {
        columns = made.found;
        bound = aggregated.bound;
        is = project-type info (group_items scope layout select.items) (kept (λ condition. (placed scope condition).group layout) select.having (aggregate_tree layout tree)) (of_columns aggregated.bound narrow) made.found kept_type made.is;
        long = types_by-length (λ e. expressions.type_of e narrow) (group_items scope layout select.items) made.found made.is ∙ as-many-items scope layout select.items;
        same = same-kinds made.found (output_types rows scope select.items) made.within;
      }

  answer-kinds : (before : ℕ) → Nothing scope before select → All (HasTruthType rows scope) (listed select.having) → HasKinds info (answer_tree scope select tree) (length (row_items scope select.items)) (output_types rows scope select.items)
  answer-kinds before n having = by (is_aggregate_query select) refl
    where
      no-aggregates : (p q : Bool) → (p || q) ≡ false → q ≡ false
      no-aggregates true q e = absurd (cc)
      no-aggregates false q e = e

      by : (b : Bool) → is_aggregate_query select ≡ b
          → HasKinds info (cond b (group_answer scope (layout_of scope select) select tree) (row_answer scope select tree)) (length (row_items scope select.items)) (output_types rows scope select.items)
      by true e = group-kinds before n e having
      by false e = row-kinds (each-false has_aggregate (item_trees select.items) (no-aggregates (not (is_empty select.groups) || is_some select.having) (list_any has_aggregate (item_trees select.items)) e))

-- ---- DISTINCT

once-kinds : (info : Info) (distinct_asked : Bool) (xs : List Expr) (tree : RelTree) (ts : List SqlType) → HasKinds info tree (length xs) ts → HasKinds info (once_tree distinct_asked (places_from 0 xs) tree) (length xs) ts
once-kinds info true xs tree ts h = record {
  columns = h.columns ++ [];
  bound = group_bound (places_from 0 xs) h.bound;
  is = ap (option_and_then (aggregate_type (places_from 0 xs) [])) h.is
      ∙ ap (λ o. option_map (of_columns (group_bound (places_from 0 xs) h.bound)) (of_both (λ keys values. Some (keys ++ values)) o (Some []))) (own-columns [] h.columns xs h.long);
  long = ap length (append-nil h.columns) ∙ h.long;
  same = ap (map (λ (t : SqlType). t.kind)) (append-nil h.columns) ∙ h.same;
}
once-kinds info false xs tree ts h = h

-- ---- the whole

pub algebra-kinds : (info : Info) (before : ℕ) (select : Select) → IsValidSchema info.schema → IsFormed select → refusal_of info.schema before select ≡ None
    → HasKinds info (algebra info.schema select) (length (row_items (scope_of info.schema select) select.items)) (answer_types info.schema select)
algebra-kinds info before select valid formed accepted =
    let scope = scope_of info.schema select in
    let rows = rows_bound info.schema select in
    let types = accepted-types info.schema before select accepted in
    let none = nothing info.schema before select accepted in
    let from = accepted-from info valid before select formed accepted types in
    let plain = plain-trees (listed select.filter) none.misplaced.filter in
    let truths : All (λ c. IsTruth (types_in scope) (numbered scope c)) (listed select.filter) = λ i d lt. numbered-truth rows scope _ (plain i d lt) (types.filter i d lt) in
    let tree = kept (numbered scope) select.filter (from_tree info.schema select.from) in
    let filtered = kept-type info (numbered scope) select.filter (from_tree info.schema select.from) (of_columns from.bound (types_in scope)) from.is truths in
    once-kinds info select.distinct (row_items scope select.items) (answer_tree scope select tree) (answer_types info.schema select)
    (answer-kinds info scope select rows tree from.bound from.few filtered from.range from.proper types.items before none types.having)

pub algebra-typed : (info : Info) (before : ℕ) (select : Select) → IsValidSchema info.schema → IsFormed select → refusal_of info.schema before select ≡ None
    → IsSomeAnd (type_of info (algebra info.schema select)) (λ t. map (λ c. c.kind) t.columns ≡ map (λ c. c.kind) (answer_types info.schema select))
algebra-typed info before select valid formed accepted =
    let h = algebra-kinds info before select valid formed accepted in
    subst (λ o. IsSomeAnd o (λ t. map (λ (c : SqlType). c.kind) t.columns ≡ map (λ (c : SqlType). c.kind) (answer_types info.schema select))) (sym h.is) h.same
