-- FROM has at most as many rows as its bound promises.
use Rattle.std.proofs.Common.{◌≡◌, ℕ, zero, suc, ◌*◌, ◌<◌, ◌≤◌, min, max, Bool, true, false, cond, List, [], ◌∷◌, ◌++◌, map, filter, length, All, refl, sym, ap, subst, arith}
use Rattle.std.specs.Prelude.{◌≢◌}
use Rattle.std.specs.List.{flat_map}
use Rattle.std.proofs.Math.Nat.{le-mul_of_pos_right}
use Rattle.std.proofs.lemmas.Nat.{mul-le}
use Rattle.std.proofs.lemmas.List.{append-nil, length-map}
use Rattle.std.proofs.lemmas.List.Concat.{flat_map_single}
use Rattle.std.proofs.lemmas.List.Elements.{All-nil, All-cons, All-weaker}
use Rattle.cal_value.specs.declared.value.Value.{Value}
use Rattle.cal_value.specs.Interval.{limit}
use Rattle.cal_value.specs.Types.{HasTypes}
use Rattle.cal_schema.specs.declared.database.Db.{Db}
use Rattle.cal_schema.specs.declared.schema.Schema.{Schema}
use Rattle.cal_schema.specs.Fits.{key_of, Fits}
use Rattle.sql_tree.specs.declared.select.FromEntry.{FromEntry}
use Rattle.sql_tree.specs.declared.select.How.{How}
use Rattle.sql_tree.specs.declared.select.How.TheVariants.{First, Cross, Inner, Left}
use Rattle.sql_tree.specs.declared.select.Select.{Select}
use Rattle.sql_meaning.specs.Bounds.{equated_keys, is_keyed, partners_bound, joined_bound, bound_behind, bound_of}
use Rattle.sql_meaning.specs.Direct.{rows_of, entry_row, pairs, goes, nulls, or_alone, padded, partners, loops, keeps, found}
use Rattle.sql_meaning.specs.Parts.{conditions}
use Rattle.sql_meaning.specs.Scope.{Header, table_of, header_of, scope_of, is_padded}
use Rattle.sql_meaning.specs.Value.{EntryRow}
use Rattle.typed_meaning.specs.Rows.{IsTypedRow}
use Rattle.typed_meaning.proofs.Keys.{Apart-from_AllPairs, Apart-within, NotBoth, one-passes, same-key, has_some_key}
use Rattle.typed_meaning.proofs.Lists.{All-flat_map, flat_map-twice, length-filter-le, length-flat_map-le}
use Rattle.typed_meaning.proofs.Rows.{table-filled, of_columns, no-rows, partners-typed}

-- ---- products, cut at a limit

product-few : (l m n a b : ℕ) → (m < l → a ≤ m) → (n < l → b ≤ n) → m * n < l → a * b ≤ m * n
product-few l zero n a b h k p = let none = h (omega arith) in omega (arith, mul-le a b 0 b none (omega arith))
product-few l (suc m) zero a b h k p = let none = k (omega arith) in omega (arith, mul-le a b a 0 (omega arith) none)
product-few l (suc m) (suc n) a b h k p =
    let one : suc m ≤ suc m * suc n = le-mul_of_pos_right {m = suc n} (suc m) (omega arith) in
    let two : 1 * suc n ≤ suc m * suc n = mul-le 1 (suc n) (suc m) (suc n) (omega arith) (omega arith) in
    mul-le a b (suc m) (suc n) (h (omega (arith, one))) (k (omega (arith, two)))

cut-few : (l p r : ℕ) → (p < l → r ≤ p) → min p l < l → r ≤ min p l
cut-few l p r h k = let e = h (omega arith) in omega arith

-- of at most a times b rows
pairs-few : (l m n a b r : ℕ) → (m < l → a ≤ m) → (n < l → b ≤ n) → r ≤ a * b → min (m * n) l < l → r ≤ min (m * n) l
pairs-few l m n a b r h k few = cut-few l (m * n) r (λ p. let q = product-few l m n a b h k p in omega arith)

-- ---- the rows that go with one

or_alone-few : {A : Type 0} (alone : A) (xs : List A) (n : ℕ) → length xs ≤ n → length (or_alone alone xs) ≤ max n 1
or_alone-few alone [] n h = omega arith
or_alone-few alone (x ∷ xs) n h = omega arith

-- a LEFT JOIN keeps at least one
padded-few : (how : How) (alone : List EntryRow) (envs : List (List EntryRow)) (n : ℕ) → length envs ≤ n → length (padded how alone envs) ≤ cond (is_padded how) (max n 1) n
padded-few First alone envs n h = h
padded-few Cross alone envs n h = h
padded-few (Inner cond) alone envs n h = h
padded-few (Left cond) alone envs n h = or_alone-few alone envs n h

at-most-one : (how : How) → cond (is_padded how) (max 1 1) 1 ≤ 1
at-most-one First = omega arith
at-most-one Cross = omega arith
at-most-one (Inner cond) = omega arith
at-most-one (Left cond) = omega arith

module _ (schema : Schema) (db : Db) (fits : Fits db schema) where
  abbrev IsRow : FromEntry → List Value → Type 0
  IsRow entry row = HasTypes row (map (λ c. c.kind) (table_of schema entry.table).columns)

  -- two rows of other keys don't both go with the same one
  not_both : (before : List Header) (entry : FromEntry) (env : List EntryRow) → IsTypedRow before env → is_keyed before (header_of schema entry) ≡ true
      → (y z : List Value) → IsRow entry y → IsRow entry z → (key_of (table_of schema entry.table) y ≢ key_of (table_of schema entry.table) z)
      → NotBoth (λ row. goes entry (env ++ entry_row schema entry row ∷ [])) y z
  not_both before entry env typed keyed y z first second apart e f =
      apart (same-key before (header_of schema entry) env typed (conditions entry) y z
      (of_columns (header_of schema entry) (table_of schema entry.table).columns y first)
      (of_columns (header_of schema entry) (table_of schema entry.table).columns z second) keyed e f)

  one-goes : (before : List Header) (entry : FromEntry) (env : List EntryRow) → IsTypedRow before env → is_keyed before (header_of schema entry) ≡ true → length (filter (goes entry) (pairs schema db entry env)) ≤ 1
  one-goes before entry env typed keyed =
      let filled = table-filled schema db entry fits in
      let apart = filled.keys (has_some_key (equated_keys before (header_of schema entry)) (table_of schema entry.table).primary_key keyed) in
      one-passes (goes entry) (λ row. env ++ entry_row schema entry row ∷ []) (rows_of schema db entry)
      (Apart-within (λ a b. key_of (table_of schema entry.table) a ≢ key_of (table_of schema entry.table) b) (NotBoth (λ row. goes entry (env ++ entry_row schema entry row ∷ []))) (IsRow entry)
      (not_both before entry env typed keyed) (rows_of schema db entry) filled.typed
      (Apart-from_AllPairs (λ a b. key_of (table_of schema entry.table) a ≢ key_of (table_of schema entry.table) b) (rows_of schema db entry) apart))

  one-partner : (before : List Header) (entry : FromEntry) (env : List EntryRow) → IsTypedRow before env → is_keyed before (header_of schema entry) ≡ true → length (partners schema db entry env) ≤ 1
  one-partner before entry env typed keyed =
      let few = padded-few entry.how (env ++ entry_row schema entry (nulls schema entry) ∷ []) (filter (goes entry) (pairs schema db entry env)) 1 (one-goes before entry env typed keyed) in
      let one = at-most-one entry.how in
      omega arith

  partners-few : (entry : FromEntry) (env : List EntryRow) → length (partners schema db entry env) ≤ partners_bound (header_of schema entry)
  partners-few entry env =
      let few = (table-filled schema db entry fits).few in
      let kept = length-filter-le (goes entry) (pairs schema db entry env) in
      let all = length-map (rows_of schema db entry) (λ row. env ++ entry_row schema entry row ∷ []) in
      padded-few entry.how (env ++ entry_row schema entry (nulls schema entry) ∷ []) (filter (goes entry) (pairs schema db entry env)) (table_of schema entry.table).max_rows (omega arith)

  joined-few : (before : List Header) (entry : FromEntry) (rows : ℕ) (envs : List (List EntryRow)) → All (IsTypedRow before) envs → (rows < limit → length envs ≤ rows)
      → joined_bound before (header_of schema entry) rows < limit → length (flat_map (partners schema db entry) envs) ≤ joined_bound before (header_of schema entry) rows
  joined-few before entry rows envs all few = by (is_keyed before (header_of schema entry)) refl
    where
      by : (b : Bool) → is_keyed before (header_of schema entry) ≡ b → cond b rows (min (rows * partners_bound (header_of schema entry)) limit) < limit
          → length (flat_map (partners schema db entry) envs) ≤ cond b rows (min (rows * partners_bound (header_of schema entry)) limit)
      by true keyed l =
          let ones = length-flat_map-le (partners schema db entry) 1 envs (All-weaker (IsTypedRow before) (λ env. length (partners schema db entry env) ≤ 1) (λ env t. one-partner before entry env t keyed) envs all) in
          let many = few l in
          omega arith
      by false keyed l =
          pairs-few limit rows (partners_bound (header_of schema entry)) (length envs) (partners_bound (header_of schema entry)) (length (flat_map (partners schema db entry) envs)) few (λ _. omega arith)
          (length-flat_map-le (partners schema db entry) (partners_bound (header_of schema entry)) envs (λ k d i. partners-few entry _)) l

  behind-few : (entries : List FromEntry) (before : List Header) (rows : ℕ) (envs : List (List EntryRow)) → All (IsTypedRow before) envs → (rows < limit → length envs ≤ rows)
      → bound_behind before rows (map (header_of schema) entries) < limit → length (flat_map (loops schema db entries) envs) ≤ bound_behind before rows (map (header_of schema) entries)
  behind-few [] before rows envs all few l =
      let many = few l in
      omega (arith, ap length (flat_map_single (λ (env : List EntryRow). env) envs), length-map envs (λ (env : List EntryRow). env))
  behind-few (entry ∷ entries) before rows envs all few l =
      subst (λ xs. length xs ≤ bound_behind before rows (map (header_of schema) (entry ∷ entries))) (sym (flat_map-twice (partners schema db entry) (loops schema db entries) envs))
      (behind-few entries (before ++ header_of schema entry ∷ []) (joined_bound before (header_of schema entry) rows) (flat_map (partners schema db entry) envs)
      (All-flat_map (IsTypedRow (before ++ header_of schema entry ∷ [])) (partners schema db entry) (IsTypedRow before) (partners-typed schema db fits before entry) envs all)
      (joined-few before entry rows envs all few) l)

  pub loops-few : (select : Select) → bound_of (scope_of schema select) < limit → length (loops schema db select.from []) ≤ bound_of (scope_of schema select)
  loops-few select l =
      subst (λ xs. length xs ≤ bound_of (scope_of schema select)) (append-nil (loops schema db select.from []))
      (behind-few select.from [] 1 ([] ∷ []) (All-cons (IsTypedRow []) [] [] no-rows (All-nil (IsTypedRow []))) (λ _. omega arith) l)

  pub found-few : (select : Select) → bound_of (scope_of schema select) < limit → length (found schema db select) ≤ bound_of (scope_of schema select)
  found-few select l = let all = loops-few select l in omega (arith, length-filter-le (keeps select.filter) (loops schema db select.from []))
