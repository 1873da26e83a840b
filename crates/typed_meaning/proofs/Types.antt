-- Each expression of an accepted SELECT has a type.
use Rattle.std.proofs.Common.{◌≡◌, ◌∙◌, ◌+◌, ℕ, zero, suc, List, [], ◌∷◌, ◌++◌, length, map, take, find, All, Option, Some, None, refl, sym, ap, subst, arith}
use Rattle.std.specs.Option.{IsSomeAnd}
use Rattle.std.proofs.lemmas.List.{length-map, map-append, take_all}
use Rattle.cal_value.specs.declared.kind.Kind.TheVariants.{Boolean}
use Rattle.cal_value.specs.declared.kind.SqlType.{SqlType}
use Rattle.cal_value.proofs.TypeLemmas.{same_kind-is}
use Rattle.cal_schema.specs.declared.schema.Schema.{Schema}
use Rattle.sql_tree.specs.declared.select.FromEntry.{FromEntry}
use Rattle.sql_tree.specs.declared.select.Select.{Select}
use Rattle.sql_tree.specs.declared.tree.Tree.{Tree}
use Rattle.sql_meaning.specs.declared.parts.Role.TheVariants.{Join}
use Rattle.sql_meaning.specs.declared.parts.SelectPart.{SelectPart}
use Rattle.sql_meaning.specs.Kinds.{kinded, is_of_kind, not_boolean, clashes, condition_clashes, part_clashes}
use Rattle.sql_meaning.specs.Mentions.{from_mentions}
use Rattle.sql_meaning.specs.Parts.{conditions, item_trees, join_parts, listed, part}
use Rattle.sql_meaning.specs.Refused.{refusal_of}
use Rattle.sql_meaning.specs.Scope.{Header, header_of, scope_of}
use Rattle.sql_meaning.specs.Sizes.{tree_type, misfits, part_misfits}
use Rattle.sql_meaning.proofs.Nothing.{both-empty}
use Rattle.typed_meaning.specs.Accepted.{rows_bound}
use Rattle.typed_meaning.specs.Known.{HasKnownColumns, HasType, HasTruthType, HasAllTypes}
use Rattle.typed_meaning.proofs.Known.{has_type, unless-right}
use Rattle.typed_meaning.proofs.Mentioned.{is_lost, joins-known, AreKnown, are_known}
use Rattle.typed_meaning.proofs.Nothing.{Nothing, nothing, join-conditions}

-- ---- lists of expressions

types-of : (rows : ℕ) (scope : List Header) (trees : List Tree) → All (HasKnownColumns scope) trees
    → All (λ tree. clashes scope tree ≡ []) trees → All (λ tree. misfits rows scope tree ≡ []) trees → All (HasType rows scope) trees
types-of rows scope trees k c m i d lt = has_type rows scope _ (k i d lt) (c i d lt) (m i d lt)

truth-type : (scope : List Header) (tree : Tree) (o : Option SqlType) → not_boolean (kinded scope tree) ≡ [] → IsSomeAnd o (λ t. t.kind ≡ (kinded scope tree).kind) → IsSomeAnd o (λ t. t.kind ≡ Boolean)
truth-type scope tree None e h = absurd h
truth-type scope tree (Some t) e h = h ∙ same_kind-is (kinded scope tree).kind Boolean (unless-right (is_of_kind Boolean (kinded scope tree)) (kinded scope tree).place e)

truths-of : (rows : ℕ) (scope : List Header) (trees : List Tree) → All (HasKnownColumns scope) trees
    → All (λ tree. condition_clashes scope tree ≡ []) trees → All (λ tree. misfits rows scope tree ≡ []) trees → All (HasTruthType rows scope) trees
truths-of rows scope trees k c m i d lt =
    let both = both-empty (not_boolean (kinded scope _)) (clashes scope _) (c i d lt) in
    truth-type scope _ (tree_type rows scope _) both.0 (has_type rows scope _ (k i d lt) both.1 (m i d lt))

-- ---- the entries that a part sees

sees-all : (schema : Schema) (select : Select) → take (length select.from) (scope_of schema select) ≡ scope_of schema select
sees-all schema select = let n = length-map select.from (header_of schema) in take_all (length select.from) (scope_of schema select) (omega arith)

took : {A B : Type 0} (f : A → B) (n : ℕ) (front : List A) (x : A) (back : List A) → n ≡ length front → take (suc n) (map f (front ++ x ∷ back)) ≡ map f (front ++ x ∷ [])
took f n [] x back e = ap (λ k. f x ∷ take k (map f back)) e
took f zero (y ∷ front) x back e = absurd (omega arith)
took f (suc n) (y ∷ front) x back e = ap (λ xs. f y ∷ xs) (took f n front x back (omega arith))

sees-joined : (schema : Schema) (select : Select) (front : List FromEntry) (entry : FromEntry) (back : List FromEntry) → select.from ≡ front ++ entry ∷ back
    → take (0 + length front + 1) (scope_of schema select) ≡ map (header_of schema) (front ++ entry ∷ [])
sees-joined schema select front entry back e =
    let n : 0 + length front + 1 ≡ suc (length front) = omega arith in
    ap (λ k. take k (scope_of schema select)) n
    ∙ ap (λ from. take (suc (length front)) (map (header_of schema) from)) e
    ∙ took (header_of schema) (length front) front entry back refl

-- ---- the whole

module _ (schema : Schema) (before : ℕ) (select : Select) (none : Nothing (scope_of schema select) before select) where
  abbrev scope : List Header
  scope = scope_of schema select

  abbrev rows : ℕ
  rows = rows_bound schema select

  known : AreKnown scope select
  known = are_known scope select none.unknown

  items-have : All (HasType rows scope) (item_trees select.items)
  items-have =
      types-of rows scope (item_trees select.items) known.items
      (subst (λ hs. All (λ tree. clashes hs tree ≡ []) (item_trees select.items)) (sees-all schema select) none.clashing.items)
      (subst (λ hs. All (λ tree. misfits rows hs tree ≡ []) (item_trees select.items)) (sees-all schema select) none.misfit.items)

  filter-has : All (HasTruthType rows scope) (listed select.filter)
  filter-has =
      truths-of rows scope (listed select.filter) known.filter
      (subst (λ hs. All (λ tree. condition_clashes hs tree ≡ []) (listed select.filter)) (sees-all schema select) none.clashing.filter)
      (subst (λ hs. All (λ tree. misfits rows hs tree ≡ []) (listed select.filter)) (sees-all schema select) none.misfit.filter)

  having-has : All (HasTruthType rows scope) (listed select.having)
  having-has =
      truths-of rows scope (listed select.having) known.having
      (subst (λ hs. All (λ tree. condition_clashes hs tree ≡ []) (listed select.having)) (sees-all schema select) none.clashing.having)
      (subst (λ hs. All (λ tree. misfits rows hs tree ≡ []) (listed select.having)) (sees-all schema select) none.misfit.having)

  joins-have : (front : List FromEntry) (entry : FromEntry) (back : List FromEntry) → select.from ≡ front ++ entry ∷ back → All (HasTruthType rows (map (header_of schema) (front ++ entry ∷ []))) (conditions entry)
  joins-have front entry back e =
      let one = map (header_of schema) (front ++ entry ∷ []) in
      let sees = sees-joined schema select front entry back e in
      let at : (P : SelectPart → Type 0) → All P (join_parts 0 select.from) → All (λ tree. P (part (0 + length front + 1) Join tree)) (conditions entry)
      = λ P h. join-conditions P 0 front entry back (subst (λ from. All P (join_parts 0 from)) e h) in
      let names = joins-known (map (header_of schema) front) (header_of schema entry) (map (header_of schema) back)
      (subst (λ hs. find is_lost (from_mentions [] hs) ≡ None) (ap (map (header_of schema)) e ∙ map-append (header_of schema) front (entry ∷ back)) known.from) in
      truths-of rows one (conditions entry)
      (subst (λ hs. All (HasKnownColumns hs) (conditions entry)) (sym (map-append (header_of schema) front (entry ∷ []))) names)
      (subst (λ hs. All (λ tree. condition_clashes hs tree ≡ []) (conditions entry)) sees (at (λ p. part_clashes scope p ≡ []) none.clashing.joins))
      (subst (λ hs. All (λ tree. misfits rows hs tree ≡ []) (conditions entry)) sees (at (λ p. part_misfits rows scope p ≡ []) none.misfit.joins))

  all-types : HasAllTypes schema select
  all-types = record { items = items-have; joins = joins-have; filter = filter-has; having = having-has }

pub accepted-types : (schema : Schema) (before : ℕ) (select : Select) → refusal_of schema before select ≡ None → HasAllTypes schema select
accepted-types schema before select e = all-types schema before select (nothing schema before select e)
