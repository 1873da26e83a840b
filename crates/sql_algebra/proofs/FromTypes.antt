-- The joins of FROM are well formed: over the types of all columns, with no greater bound than that of FROM.
use Rattle.std.proofs.Common.{◌≡◌, ℕ, zero, suc, ◌*◌, ◌<◌, ◌≤◌, min, max, Bool, true, false, cond, ◌&&◌, List, [], ◌∷◌, ◌++◌, map, length, codes, find, All, Option, Some, None, option_map, unwrap_or, slice_get, refl, sym, ◌∙◌, ap, subst, arith, le_refl}
use mathlib.Core.Path.{ap₂}
use Rattle.std.specs.List.{flat_map}
use Rattle.std.specs.Option.{IsSomeAnd, option_and_then, is_none}
use Rattle.std.proofs.lemmas.Grind.{flat_map-append}
use Rattle.std.proofs.lemmas.Int.{ints}
use Rattle.std.proofs.lemmas.Nat.{mul-le}
use Rattle.std.proofs.lemmas.List.{append-nil, append_assoc, map-append}
use Rattle.std.proofs.lemmas.List.Elements.{All-head, All-tail, All-append, All-map, All-weaker}
use Rattle.std.proofs.lemmas.Option.{same_Some}
use Rattle.cal_value.specs.declared.kind.Kind.TheVariants.{Boolean}
use Rattle.cal_value.specs.declared.kind.SqlType.{SqlType}
use Rattle.cal_value.specs.declared.operator.Op.TheVariants.{And}
use Rattle.cal_value.specs.declared.value.Value.TheVariants.{Bool as BoolValue}
use Rattle.cal_value.specs.Interval.{limit}
use Rattle.cal_aggregate.specs.ResultType.{row_bound}
use Rattle.cal_value.specs.Narrower.{StillTyped}
use Rattle.cal_value.specs.Types.{IsAtMostAsWide, AreAtMostAsWide, IsProperType, text_type, boolean_type, is_boolean, same_kind}
use Rattle.cal_value.proofs.TypeLaws.{wide-refl}
use Rattle.cal_expr.specs.declared.expr.Expr.{Expr}
use Rattle.cal_expr.specs.declared.expr.Expr.TheVariants.{Binary}
use Rattle.cal_expr.specs.Typing as expressions
use Rattle.cal_expr.proofs.Narrower.{type_of-narrower}
use Rattle.cal_schema.specs.declared.column.ColumnDef.{ColumnDef}
use Rattle.cal_schema.specs.declared.refusal.Refusal.TheVariants.{UnknownTable}
use Rattle.cal_schema.specs.declared.schema.Schema.{Schema}
use Rattle.cal_schema.specs.declared.star_pair.StarPair.{StarPair}
use Rattle.cal_schema.specs.declared.table.TableDef.{TableDef}
use Rattle.cal_schema.specs.Column.{is_word, type_named, short_type, int_type, long_type}
use Rattle.cal_schema.specs.Fits.{types_of}
use Rattle.cal_schema.specs.Valid.{IsColumnType, IsValidTable, IsValidSchema}
use Rattle.cal_schema.proofs.NameLemmas.{table_named-below}
use Rattle.cal_rel.specs.Info.{Info}
use Rattle.cal_rel.specs.Ranges.{IsInRange}
use Rattle.cal_rel.specs.Tree.{Tree as RelTree, join_on}
use Rattle.cal_rel.specs.Typing.{is_condition, of_columns, of_both, table_type, nullable, Keyed, keyed, pairs_of, table_has_key, inner_bound, left_bound, join_bound, join_columns, binary_type, type_of}
use Rattle.cal_rel.specs.Typing.{is_keyed as table_is_keyed}
use Rattle.cal_rel.proofs.Narrower.{wide-append, valid-at}
use Rattle.sql_tree.specs.declared.select.FromEntry.{FromEntry}
use Rattle.sql_tree.specs.declared.select.How.{How}
use Rattle.sql_tree.specs.declared.select.How.TheVariants.{First, Cross, Inner, Left}
use Rattle.sql_tree.specs.declared.tree.Tree.{Tree}
use Rattle.sql_tree.specs.declared.select.Select.{Select}
use Rattle.sql_meaning.specs.declared.parts.SelectPart.{SelectPart}
use Rattle.sql_meaning.specs.Bounds.{equated, equated_keys, has_key, is_keyed, joined_bound, bound_behind, bound_of}
use Rattle.sql_meaning.specs.Groups.{aggregates_in, misplaced_in}
use Rattle.sql_meaning.specs.Parts.{has_aggregate, conditions, conditions_by, join_parts}
use Rattle.sql_meaning.specs.Refused.{is_first, is_unknown_table, table_name, unknown_table, refusal_of}
use Rattle.sql_meaning.specs.Scope.{Header, number_of, no_table, table_of, header_of, scope_of, is_padded, type_of_column, types_in}
use Rattle.sql_meaning.proofs.Nothing.{or-none}
use Rattle.sql_meaning.proofs.Places.{types-one}
use Rattle.sql_to_rel.specs.Numbered.{numbered}
use Rattle.sql_to_rel.proofs.Rolls.{fold-Binary, fold-Literal}
use Rattle.sql_to_rel.proofs.Types.{type_of-numbered}
use Rattle.typed_meaning.specs.Accepted.{rows_bound}
use Rattle.typed_meaning.specs.Known.{HasTruthType, HasAllTypes}
use Rattle.typed_meaning.proofs.Groups.{no-aggregate}
use Rattle.typed_meaning.proofs.Nothing.{join-conditions, nothing}
use Rattle.cal_rel.proofs.Reorders.{map-map}
use Rattle.sql_algebra.specs.Formed.{begins_first, IsFormed}
use Rattle.sql_algebra.proofs.Keyed.{conjunction-keys, still-key}
use Rattle.expr_parts.specs.Conjuncts.{and_all, conjunction}
use Rattle.sql_algebra.specs.Algebra.{scan_of, join_condition, join_kind, joined_with, joins, from_tree}

-- ---- the types of columns are at most as wide as themselves

proper-choice : (b : Bool) (t u : SqlType) (o : Option SqlType) → IsProperType t → (o ≡ Some u → IsProperType u) → cond b (Some t) o ≡ Some u → IsProperType u
proper-choice true t u o h k e = subst IsProperType (same_Some t u e) h
proper-choice false t u o h k e = k e

proper-named : (word : List ℕ) (u : SqlType) → type_named word ≡ Some u → IsProperType u
proper-named word u =
    proper-choice (is_word word (codes "string")) (text_type true) u _ (λ k. absurd (cc))
    (proper-choice (is_word word (codes "boolean")) (boolean_type true) u _ (λ k. absurd (cc))
    (proper-choice (is_word word (codes "short")) short_type u _ (λ k. omega (arith, ints))
    (proper-choice (is_word word (codes "int")) int_type u _ (λ k. omega (arith, ints))
    (proper-choice (is_word word (codes "long")) long_type u None (λ k. omega (arith, ints)) (λ e. absurd (cc))))))

proper-column : (t : SqlType) → IsColumnType t → IsProperType t
proper-column t h = proper-named h.0 (record t { nullable = true }) h.1

proper-nullable : (b : Bool) (t : SqlType) → IsProperType t → IsProperType (cond b (nullable t) t)
proper-nullable true t h = h
proper-nullable false t h = h

pub columns-proper : (h : Header) → All (λ (c : ColumnDef). IsColumnType c.kind) h.table.columns → All IsProperType (map (type_of_column h) h.table.columns)
columns-proper h all =
    All-map IsProperType (type_of_column h) h.table.columns
    (All-weaker (λ (c : ColumnDef). IsColumnType c.kind) (λ c. IsProperType (type_of_column h c)) (λ c k. proper-nullable (is_padded h.entry.how) c.kind (proper-column c.kind k)) h.table.columns all)

pub wide-itself : (ts : List SqlType) → All IsProperType ts → AreAtMostAsWide ts ts
wide-itself [] h = tt
wide-itself (t ∷ ts) h = (wide-refl t (All-head IsProperType t ts h), wide-itself ts (All-tail IsProperType t ts h))

within-nullable : (b : Bool) (t : SqlType) → IsProperType t → IsAtMostAsWide t (cond b (nullable t) t)
within-nullable true t h = let w = wide-refl t h in record { kind = refl; nullable = λ e. refl; interval = w.interval }
within-nullable false t h = wide-refl t h

columns-within : (h : Header) (cs : List ColumnDef) → All (λ (c : ColumnDef). IsColumnType c.kind) cs → AreAtMostAsWide (map (λ (c : ColumnDef). c.kind) cs) (map (type_of_column h) cs)
columns-within h [] all = tt
columns-within h (c ∷ cs) all =
    (within-nullable (is_padded h.entry.how) c.kind (proper-column c.kind (All-head (λ (c : ColumnDef). IsColumnType c.kind) c cs all)), columns-within h cs (All-tail (λ (c : ColumnDef). IsColumnType c.kind) c cs all))

number-choice : (b : Bool) (t u : SqlType) (o : Option SqlType) → IsInRange t → (o ≡ Some u → IsInRange u) → cond b (Some t) o ≡ Some u → IsInRange u
number-choice true t u o h k e = subst IsInRange (same_Some t u e) h
number-choice false t u o h k e = k e

number-named : (word : List ℕ) (u : SqlType) → type_named word ≡ Some u → IsInRange u
number-named word u =
    number-choice (is_word word (codes "string")) (text_type true) u _ (λ k. refl)
    (number-choice (is_word word (codes "boolean")) (boolean_type true) u _ (λ k. refl)
    (number-choice (is_word word (codes "short")) short_type u _ (λ k. refl)
    (number-choice (is_word word (codes "int")) int_type u _ (λ k. refl)
    (number-choice (is_word word (codes "long")) long_type u None (λ k. refl) (λ e. absurd (cc))))))

number-nullable : (b : Bool) (t : SqlType) → IsInRange t → IsInRange (cond b (nullable t) t)
number-nullable true t h = h
number-nullable false t h = h

columns-in_range : (h : Header) → All (λ (c : ColumnDef). IsColumnType c.kind) h.table.columns → All IsInRange (map (type_of_column h) h.table.columns)
columns-in_range h all =
    All-map IsInRange (type_of_column h) h.table.columns
    (All-weaker (λ (c : ColumnDef). IsColumnType c.kind) (λ c. IsInRange (type_of_column h c))
    (λ c k. number-nullable (is_padded h.entry.how) c.kind (number-named k.0 (record c.kind { nullable = true }) k.1)) h.table.columns all)

-- ---- conditions

abbrev pub IsTruth : List SqlType → Expr → Type 0
IsTruth ts e = IsSomeAnd (expressions.type_of e ts) (λ t. t.kind ≡ Boolean)

boolean-is : (t : SqlType) → t.kind ≡ Boolean → is_boolean t ≡ true
boolean-is t h = ap (λ k. same_kind k Boolean) h

pub condition-is : (ts : List SqlType) (e : Expr) → IsTruth ts e → is_condition e ts ≡ true
condition-is ts e h = by (expressions.type_of e ts) h
  where
    by : (o : Option SqlType) → IsSomeAnd o (λ t. t.kind ≡ Boolean) → unwrap_or (option_map is_boolean o) false ≡ true
    by None h = absurd h
    by (Some t) h = boolean-is t h

both-truths : (o p : Option SqlType) → IsSomeAnd o (λ t. t.kind ≡ Boolean) → IsSomeAnd p (λ t. t.kind ≡ Boolean) → IsSomeAnd (expressions.of_both expressions.connective_type o p) (λ t. t.kind ≡ Boolean)
both-truths None p h k = absurd h
both-truths (Some s) None h k = absurd k
both-truths (Some s) (Some t) h k =
    subst (λ b. IsSomeAnd (cond (b && is_boolean t) (Some (boolean_type (expressions.either_nullable s t))) None) (λ u. u.kind ≡ Boolean)) (sym (boolean-is s h))
    (subst (λ b. IsSomeAnd (cond (true && b) (Some (boolean_type (expressions.either_nullable s t))) None) (λ u. u.kind ≡ Boolean)) (sym (boolean-is t k)) refl)

and-truth : (ts : List SqlType) (a b : Expr) → IsTruth ts a → IsTruth ts b → IsTruth ts (Binary And a b)
and-truth ts a b h k =
    subst (λ o. IsSomeAnd o (λ t. t.kind ≡ Boolean)) (sym (fold-Binary (expressions.type_step ts) And a b)) (both-truths (expressions.type_of a ts) (expressions.type_of b ts) h k)

all-truth : (ts : List SqlType) (a : Expr) (bs : List Expr) → IsTruth ts a → All (IsTruth ts) bs → IsTruth ts (and_all a bs)
all-truth ts a [] h all = h
all-truth ts a (b ∷ bs) h all = all-truth ts (Binary And a b) bs (and-truth ts a b h (All-head (IsTruth ts) b bs all)) (All-tail (IsTruth ts) b bs all)

conjunction-truth : (ts : List SqlType) (es : List Expr) → All (IsTruth ts) es → IsTruth ts (conjunction es)
conjunction-truth ts [] all = subst (λ o. IsSomeAnd o (λ t. t.kind ≡ Boolean)) (sym (fold-Literal (expressions.type_step ts) (BoolValue true))) refl
conjunction-truth ts (e ∷ es) all = all-truth ts e es (All-head (IsTruth ts) e es all) (All-tail (IsTruth ts) e es all)

pub numbered-truth : (rows : ℕ) (scope : List Header) (tree : Tree) → has_aggregate tree ≡ false → HasTruthType rows scope tree → IsTruth (types_in scope) (numbered scope tree)
numbered-truth rows scope tree plain h = subst (λ o. IsSomeAnd o (λ t. t.kind ≡ Boolean)) (sym (type_of-numbered rows scope tree plain)) h

still-truth : (o p : Option SqlType) → StillTyped o p → IsSomeAnd p (λ t. t.kind ≡ Boolean) → IsSomeAnd o (λ t. t.kind ≡ Boolean)
still-truth o None h k = absurd k
still-truth None (Some t) h k = absurd h
still-truth (Some s) (Some t) h k = h.kind ∙ k

pub narrower-truth : (ss ts : List SqlType) → AreAtMostAsWide ss ts → (e : Expr) → IsTruth ts e → IsTruth ss e
narrower-truth ss ts w e h = still-truth (expressions.type_of e ss) (expressions.type_of e ts) (type_of-narrower ss ts w e) h

-- ---- tables

pub record IsScanned (schema : Schema) (entry : FromEntry) : Type 0 where
  pub at : ℕ
  pub is : number_of schema entry.table ≡ Some at
  pub found : slice_get schema.tables at ≡ Some (table_of schema entry.table)

some-at : (tables : List TableDef) (n : ℕ) → n < length tables → slice_get tables n ≡ Some (unwrap_or (slice_get tables n) no_table)
some-at [] n lt = absurd (omega arith)
some-at (t ∷ tables) zero lt = refl
some-at (t ∷ tables) (suc n) lt = some-at tables n (omega arith)

pub is-scanned : (schema : Schema) (entry : FromEntry) → is_unknown_table schema entry ≡ false → IsScanned schema entry
is-scanned schema entry known = by (number_of schema entry.table) refl known
  where
    by : (o : Option ℕ) → number_of schema entry.table ≡ o → is_none o ≡ false → IsScanned schema entry
    by None e k = absurd (cc)
    by (Some n) e k = record {
      at = n;
      is = e;
      found = some-at schema.tables n (table_named-below schema entry.table.schema entry.table.name n (sym e)) ∙ ap (λ o. Some (unwrap_or (option_and_then (slice_get schema.tables) o) no_table)) (sym e);
    }

-- ---- bounds

cut-le : (l m n : ℕ) → m ≤ n → min m l ≤ min n l
cut-le l m n h = omega arith

more-le : (a b m n : ℕ) → a ≤ m → 1 ≤ n → a ≤ m * n
more-le a b m n h k = omega (arith, mul-le a 1 m n h k)

-- no greater than that of the loops, where the right rows have a key at least where they have one there
inner-few : (p q k : Bool) (a b rows : ℕ) → (k ≡ true → q ≡ true) → a ≤ rows → 1 ≤ rows → rows ≤ limit → 1 ≤ b → b ≤ limit → inner_bound p q a b ≤ cond k rows (row_bound (rows * b))
inner-few true true true a b rows h l m n o r = omega arith
inner-few false true true a b rows h l m n o r = l
inner-few p false true a b rows h l m n o r = absurd (let e = h refl in cc)
inner-few true true false a b rows h l m n o r = let few = more-le a b rows b l o in omega arith
inner-few false true false a b rows h l m n o r = let few = more-le a b rows b l o in omega arith
inner-few true false false a b rows h l m n o r = omega (arith, mul-le 1 b rows b m (le_refl b))
inner-few false false false a b rows h l m n o r = cut-le limit (a * b) (rows * b) (mul-le a b rows b l (le_refl b))

left-few : (q k : Bool) (a b rows : ℕ) → (k ≡ true → q ≡ true) → a ≤ rows → rows ≤ limit → left_bound q a b ≤ cond k rows (row_bound (rows * max b 1))
left-few true true a b rows h l m = l
left-few false true a b rows h l m = absurd (let e = h refl in cc)
left-few true false a b rows h l m = let few = more-le a (max b 1) rows (max b 1) l (omega arith) in omega arith
left-few false false a b rows h l m = cut-le limit (a * max b 1) (rows * max b 1) (mul-le a (max b 1) rows (max b 1) l (le_refl (max b 1)))

join-few : (how : How) (by : Keyed) (k : Bool) (a b rows : ℕ) → (k ≡ true → by.right ≡ true) → a ≤ rows → 1 ≤ rows → rows ≤ limit → 1 ≤ b → b ≤ limit
    → join_bound (join_kind how) by a b ≤ cond k rows (row_bound (rows * cond (is_padded how) (max b 1) b))
join-few First by k a b rows h l m n o r = inner-few by.left by.right k a b rows h l m n o r
join-few Cross by k a b rows h l m n o r = inner-few by.left by.right k a b rows h l m n o r
join-few (Inner cond) by k a b rows h l m n o r = inner-few by.left by.right k a b rows h l m n o r
join-few (Left cond) by k a b rows h l m n o r = left-few by.right k a b rows h l n

some-joined : (p k : Bool) (b rows : ℕ) → 1 ≤ rows → rows ≤ limit → 1 ≤ b → (1 ≤ cond k rows (row_bound (rows * cond p (max b 1) b))) × (cond k rows (row_bound (rows * cond p (max b 1) b)) ≤ limit)
some-joined p true b rows m n o = (m, n)
some-joined true false b rows m n o = let few = more-le 1 (max b 1) rows (max b 1) m (omega arith) in (omega arith, omega arith)
some-joined false false b rows m n o = let few = more-le 1 b rows b m o in (omega arith, omega arith)

-- ---- joins

columns-joined : (how : How) (left : List SqlType) (cs : List ColumnDef)
    → join_columns (join_kind how) left (map (λ (c : ColumnDef). c.kind) cs) ≡ left ++ map (λ (c : ColumnDef). cond (is_padded how) (nullable c.kind) c.kind) cs
columns-joined First left cs = refl
columns-joined Cross left cs = refl
columns-joined (Inner cond) left cs = refl
columns-joined (Left cond) left cs = ap (λ ts. left ++ ts) (map-map nullable (λ (c : ColumnDef). c.kind) cs)

types-more : (before : List Header) (h : Header) → types_in (before ++ h ∷ []) ≡ types_in before ++ map (type_of_column h) h.table.columns
types-more before h = flat_map-append (λ (h : Header). map (type_of_column h) h.table.columns) before (h ∷ []) ∙ ap (λ ts. types_in before ++ ts) (append-nil (map (type_of_column h) h.table.columns))

-- what is asked of an entry: its table is there, and its conditions are those of an accepted SELECT
pub record IsRight (schema : Schema) (rows : ℕ) (before : List Header) (entry : FromEntry) : Type 0 where
  pub there : is_unknown_table schema entry ≡ false
  pub plain : All (λ tree. has_aggregate tree ≡ false) (conditions entry)
  pub truth : All (HasTruthType rows (before ++ header_of schema entry ∷ [])) (conditions entry)

module _ (info : Info) (valid : IsValidSchema info.schema) where
  pub record HasFromType (before : List Header) (tree : RelTree) (rows : ℕ) : Type 0 where
    pub bound : ℕ
    pub is : type_of info tree ≡ Some (of_columns bound (types_in before))
    pub few : bound ≤ rows
    pub some : 1 ≤ rows
    pub cut : rows ≤ limit
    pub proper : All IsProperType (types_in before)
    pub range : All IsInRange (types_in before)

  scan-type : (entry : FromEntry) → IsScanned info.schema entry → type_of info (scan_of info.schema entry) ≡ Some (table_type (table_of info.schema entry.table))
  scan-type entry s =
      ap (λ o. option_map table_type (slice_get info.schema.tables (unwrap_or o (length info.schema.tables)))) s.is
      ∙ ap (option_map table_type) s.found

  scanned-valid : (entry : FromEntry) → IsScanned info.schema entry → IsValidTable (table_of info.schema entry.table)
  scanned-valid entry s = valid-at info.schema.tables s.at (table_of info.schema entry.table) valid.tables s.found

  key-there : (before : List Header) (entry : FromEntry) → IsScanned info.schema entry → is_keyed before (header_of info.schema entry) ≡ true
      → table_is_keyed info (scan_of info.schema entry) (map (λ (p : StarPair). p.right) (pairs_of (length (types_in before)) (join_condition (before ++ header_of info.schema entry ∷ []) entry))) ≡ true
  key-there before entry s h =
      let scope = before ++ header_of info.schema entry ∷ [] in
      let width = length (types_in before) in
      let columns = map (λ (p : StarPair). p.right) (pairs_of width (join_condition scope entry)) in
      ap (λ o. table_has_key columns (slice_get info.schema.tables (unwrap_or o (length info.schema.tables)))) s.is
      ∙ ap (table_has_key columns) s.found
      ∙ still-key (equated_keys before (header_of info.schema entry)) columns (table_of info.schema entry.table).primary_key (conjunction-keys scope width (conditions entry)) h

  join-truth : (rows : ℕ) (before : List Header) (entry : FromEntry) → IsRight info.schema rows before entry → All IsProperType (types_in before) → IsValidTable (table_of info.schema entry.table)
      → is_condition (join_condition (before ++ header_of info.schema entry ∷ []) entry) (types_in before ++ types_of (table_of info.schema entry.table)) ≡ true
  join-truth rows before entry right proper table =
      let h = header_of info.schema entry in
      let scope = before ++ h ∷ [] in
      let narrow = types_in before ++ types_of (table_of info.schema entry.table) in
      let within : AreAtMostAsWide narrow (types_in scope) = subst (AreAtMostAsWide narrow) (sym (types-more before h))
      (wide-append (types_in before) (types_in before) (types_of (table_of info.schema entry.table)) (map (type_of_column h) h.table.columns) (wide-itself (types_in before) proper) (columns-within h h.table.columns table.typed)) in
      condition-is narrow (join_condition scope entry)
      (conjunction-truth narrow (map (numbered scope) (conditions entry))
      (All-map (IsTruth narrow) (numbered scope) (conditions entry)
      (λ i d lt. narrower-truth narrow (types_in scope) within _ (numbered-truth rows scope _ (right.plain i d lt) (right.truth i d lt)))))

  joined-type : (rows : ℕ) (before : List Header) (tree : RelTree) (bound : ℕ) (entry : FromEntry) → IsRight info.schema rows before entry → HasFromType before tree bound
      → HasFromType (before ++ header_of info.schema entry ∷ []) (joined_with info.schema (before ++ header_of info.schema entry ∷ []) tree entry) (joined_bound before (header_of info.schema entry) bound)
  joined-type rows before tree bound entry right t =
      let h = header_of info.schema entry in
      let table = table_of info.schema entry.table in
      let scope = before ++ h ∷ [] in
      let scanned = is-scanned info.schema entry right.there in
      let is_valid = scanned-valid entry scanned in
      let on = join_condition scope entry in
      let by = keyed info (length (types_in before)) on tree (scan_of info.schema entry) in
      let wide = some-joined (is_padded entry.how) (is_keyed before h) table.max_rows bound t.some t.cut is_valid.some_rows in
      let truth = join-truth rows before entry right t.proper is_valid in
      let made = join_bound (join_kind entry.how) by t.bound table.max_rows in
      record {
        bound = made;
        is = ap₂ (of_both (binary_type info (join_on (join_kind entry.how) on) tree (scan_of info.schema entry))) t.is (scan-type entry scanned)
            ∙ ap (λ b. cond b (Some (of_columns made (join_columns (join_kind entry.how) (types_in before) (types_of table)))) None) truth
            ∙ ap (λ ts. Some (of_columns made ts)) (columns-joined entry.how (types_in before) table.columns ∙ sym (types-more before h));
        few = let limited = is_valid.few_rows in
            join-few entry.how by (is_keyed before h) t.bound table.max_rows bound (key-there before entry scanned) t.few t.some t.cut is_valid.some_rows (omega arith);
        some = wide.0;
        cut = wide.1;
        proper = subst (All IsProperType) (sym (types-more before h)) (All-append IsProperType (types_in before) (map (type_of_column h) h.table.columns) t.proper (columns-proper h is_valid.typed));
        range = subst (All IsInRange) (sym (types-more before h)) (All-append IsInRange (types_in before) (map (type_of_column h) h.table.columns) t.range (columns-in_range h is_valid.typed));
      }

  joins-type : (rows : ℕ) (entries : List FromEntry) (before : List Header) (tree : RelTree) (bound : ℕ)
      → ((front : List FromEntry) (entry : FromEntry) (back : List FromEntry) → entries ≡ front ++ entry ∷ back → IsRight info.schema rows (before ++ map (header_of info.schema) front) entry)
      → HasFromType before tree bound → HasFromType (before ++ map (header_of info.schema) entries) (joins info.schema before tree entries) (bound_behind before bound (map (header_of info.schema) entries))
  joins-type rows [] before tree bound right t = subst (λ hs. HasFromType hs tree bound) (sym (append-nil before)) t
  joins-type rows (entry ∷ entries) before tree bound right t =
      let h = header_of info.schema entry in
      let scope = before ++ h ∷ [] in
      let here = subst (λ hs. IsRight info.schema rows hs entry) (append-nil before) (right [] entry entries refl) in
      subst (λ hs. HasFromType hs (joins info.schema before tree (entry ∷ entries)) (bound_behind before bound (map (header_of info.schema) (entry ∷ entries)))) (append_assoc before (h ∷ []) (map (header_of info.schema) entries))
      (joins-type rows entries scope (joined_with info.schema scope tree entry) (joined_bound before h bound)
      (λ front e back same. subst (λ hs. IsRight info.schema rows hs e) (sym (append_assoc before (h ∷ []) (map (header_of info.schema) front))) (right (entry ∷ front) e back (ap (λ es. entry ∷ es) same)))
      (joined-type rows before tree bound entry here t))

  -- ---- the first entry

  first-padded : (how : How) → is_first how ≡ true → is_padded how ≡ false
  first-padded First e = refl
  first-padded Cross e = refl
  first-padded (Inner cond) e = refl
  first-padded (Left cond) e = absurd (cc)

  first-conditions : (alias : List ℕ) (how : How) → is_first how ≡ true → conditions_by alias how ≡ []
  first-conditions alias First e = refl
  first-conditions alias Cross e = refl
  first-conditions alias (Inner cond) e = absurd (cc)
  first-conditions alias (Left cond) e = absurd (cc)

  no-key : (key : List ℕ) → has_key [] key ≡ false
  no-key [] = refl
  no-key (column ∷ key) = refl

  first-few : (k p : Bool) (b : ℕ) → k ≡ false → p ≡ false → 1 ≤ b → b ≤ limit → (b ≤ cond k 1 (row_bound (1 * cond p (max b 1) b))) × (1 ≤ cond k 1 (row_bound (1 * cond p (max b 1) b))) × (cond k 1 (row_bound (1 * cond p (max b 1) b)) ≤ limit)
  first-few false false b e f h l = (omega arith, omega arith, omega arith)
  first-few true p b e f h l = absurd (cc)
  first-few false true b e f h l = absurd (cc)

  first-type : (entry : FromEntry) → is_first entry.how ≡ true → is_unknown_table info.schema entry ≡ false
      → HasFromType (header_of info.schema entry ∷ []) (scan_of info.schema entry) (joined_bound [] (header_of info.schema entry) 1)
  first-type entry first there =
      let h = header_of info.schema entry in
      let table = table_of info.schema entry.table in
      let scanned = is-scanned info.schema entry there in
      let is_valid = scanned-valid entry scanned in
      let limited = is_valid.few_rows in
      let keys = ap (λ trees. has_key (flat_map (equated ([] ++ h ∷ []) (length (types_in []))) trees) table.primary_key) (first-conditions entry.alias entry.how first) ∙ no-key table.primary_key in
      let few = first-few (is_keyed [] h) (is_padded entry.how) table.max_rows keys (first-padded entry.how first) is_valid.some_rows (omega arith) in
      record {
        bound = table.max_rows;
        is = scan-type entry scanned
            ∙ ap (λ b. Some (of_columns table.max_rows (map (λ (c : ColumnDef). cond b (nullable c.kind) c.kind) table.columns))) (sym (first-padded entry.how first))
            ∙ ap (λ ts. Some (of_columns table.max_rows ts)) (sym (types-one h));
        few = few.0;
        some = few.1;
        cut = few.2;
        proper = subst (All IsProperType) (sym (types-one h)) (columns-proper h is_valid.typed);
        range = subst (All IsInRange) (sym (types-one h)) (columns-in_range h is_valid.typed);
      }

  from-type : (rows : ℕ) (entries : List FromEntry) → begins_first entries ≡ true
      → ((front : List FromEntry) (entry : FromEntry) (back : List FromEntry) → entries ≡ front ++ entry ∷ back → IsRight info.schema rows (map (header_of info.schema) front) entry)
      → HasFromType (map (header_of info.schema) entries) (from_tree info.schema entries) (bound_of (map (header_of info.schema) entries))
  from-type rows [] first right = absurd (cc)
  from-type rows (entry ∷ entries) first right =
      joins-type rows entries (header_of info.schema entry ∷ []) (scan_of info.schema entry) (joined_bound [] (header_of info.schema entry) 1)
      (λ front e back same. right (entry ∷ front) e back (ap (λ es. entry ∷ es) same))
      (first-type entry first (right [] entry entries refl).there)

-- ---- an accepted SELECT

pub map-none : {A B : Type 0} (f : A → B) (o : Option A) → option_map f o ≡ None → o ≡ None
map-none f None e = refl
map-none f (Some x) e = absurd (cc)

found-nowhere : {A : Type 0} (p : A → Bool) (front : List A) (x : A) (back : List A) → find p (front ++ x ∷ back) ≡ None → p x ≡ false
found-nowhere p [] x back e = by (p x) e
  where
    by : (b : Bool) → cond b (Some x) (find p back) ≡ None → b ≡ false
    by true f = absurd (cc)
    by false f = refl
found-nowhere p (y ∷ front) x back e = by (p y) e (found-nowhere p front x back)
  where
    by : (b : Bool) → cond b (Some y) (find p (front ++ x ∷ back)) ≡ None → (find p (front ++ x ∷ back) ≡ None → p x ≡ false) → p x ≡ false
    by true f more = absurd (cc)
    by false f more = more f

pub plain-trees : (trees : List Tree) → All (λ tree. (aggregates_in tree).all ≡ []) trees → All (λ tree. has_aggregate tree ≡ false) trees
plain-trees trees h = All-weaker (λ tree. (aggregates_in tree).all ≡ []) (λ tree. has_aggregate tree ≡ false) (λ tree a. no-aggregate tree a) trees h

entry-right : (schema : Schema) (before : ℕ) (select : Select) → refusal_of schema before select ≡ None → HasAllTypes schema select
    → (front : List FromEntry) (entry : FromEntry) (back : List FromEntry) → select.from ≡ front ++ entry ∷ back → IsRight schema (rows_bound schema select) (map (header_of schema) front) entry
entry-right schema before select accepted types front entry back e =
    let none = nothing schema before select accepted in
    let P : SelectPart → Type 0 = λ p. misplaced_in p ≡ [] in
    let known = map-none (λ (e : FromEntry). UnknownTable (table_name e.table)) (find (is_unknown_table schema) select.from) (or-none (unknown_table schema select) _ accepted).0 in
    record {
      there = found-nowhere (is_unknown_table schema) front entry back (subst (λ es. find (is_unknown_table schema) es ≡ None) e known);
      plain = plain-trees (conditions entry) (join-conditions P 0 front entry back (subst (λ from. All P (join_parts 0 from)) e none.misplaced.joins));
      truth = subst (λ hs. All (HasTruthType (rows_bound schema select) hs) (conditions entry)) (map-append (header_of schema) front (entry ∷ [])) (types.joins front entry back e);
    }

pub accepted-from : (info : Info) (valid : IsValidSchema info.schema) (before : ℕ) (select : Select) → IsFormed select → refusal_of info.schema before select ≡ None → HasAllTypes info.schema select
    → HasFromType info valid (scope_of info.schema select) (from_tree info.schema select.from) (rows_bound info.schema select)
accepted-from info valid before select formed accepted types = from-type info valid (rows_bound info.schema select) select.from formed.from (entry-right info.schema before select accepted types)
