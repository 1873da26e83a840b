-- Groups of rows whose keys ascend.
use Rattle.std.proofs.Common.{◌≡◌, ◌<◌, ◌+◌, ◌-◌, ℕ, zero, suc, get_or, take, drop, Bool, true, false, cond, not, List, [], ◌∷◌, ◌++◌, length, map, filter, refl, sym, ◌∙◌, ap, subst, arith}
use Rattle.std.specs.List.{AllByRecursion, prefix_len, take_while}
use Rattle.std.proofs.lemmas.List.{append_assoc, drop-drop, drop_more}
use Rattle.cal_value.specs.Equal.{row_eq}
use Rattle.cal_value.specs.EqualLaws.{row_eq-Decides}
use Rattle.cal_value.specs.Order.{columns_of}
use Rattle.cal_aggregate.specs.Parts.{Part, members, parts}
use Rattle.cal_schema.specs.declared.agg_call.AggCall.{AggCall}
use Rattle.exec_ops.specs.Group.{called, same_key, by_key}
use Rattle.exec_ops.specs.Join.{Row}
use Rattle.exec_ops.specs.Sort.{IsSortedOn}
use Rattle.exec_ops.specs.Steps.{end_of_run}
use Rattle.exec_ops.proofs.SortedLemmas.{Ascends, Ascends-drop, Ascends-from, none-after_run, run-is, same_key-self}

filter-swap : {A : Type 0} (p q : A → Bool) (xs : List A) → filter p (filter q xs) ≡ filter q (filter p xs)
filter-swap p q [] = refl
filter-swap {A} p q (x ∷ xs) = by (p x) refl (q x) refl (filter-swap p q xs)
  where
    by : (s : Bool) → p x ≡ s → (t : Bool) → q x ≡ t → filter p (filter q xs) ≡ filter q (filter p xs) → filter p (cond t (x ∷ filter q xs) (filter q xs)) ≡ filter q (cond s (x ∷ filter p xs) (filter p xs))
    by true e true f more = ap (λ b. cond b (x ∷ filter p (filter q xs)) (filter p (filter q xs))) e ∙ ap (λ rs. x ∷ rs) more ∙ sym (ap (λ b. cond b (x ∷ filter q (filter p xs)) (filter q (filter p xs))) f)
    by true e false f more = more ∙ sym (ap (λ b. cond b (x ∷ filter q (filter p xs)) (filter q (filter p xs))) f)
    by false e true f more = ap (λ b. cond b (x ∷ filter p (filter q xs)) (filter p (filter q xs))) e ∙ more
    by false e false f more = more

filter-twice : {A : Type 0} (p : A → Bool) (xs : List A) → filter p (filter p xs) ≡ filter p xs
filter-twice p [] = refl
filter-twice p (x ∷ xs) = by (p x) refl (filter-twice p xs)
  where
    by : (s : Bool) → p x ≡ s → filter p (filter p xs) ≡ filter p xs → filter p (cond s (x ∷ filter p xs) (filter p xs)) ≡ cond s (x ∷ filter p xs) (filter p xs)
    by true e more = ap (λ b. cond b (x ∷ filter p (filter p xs)) (filter p (filter p xs))) e ∙ ap (λ rs. x ∷ rs) more
    by false e more = more

module _ {A : Type 0} (key : A → Row) where
  alike : A → A → Bool
  alike a b = row_eq (key a) (key b)

  other : Row → Part A → Bool
  other k part = not (row_eq k (key part.first))

  -- where no row has the key k, no part has it
  parts-others : (k : Row) (xs : List A) → AllByRecursion (λ x. row_eq k (key x) ≡ false) xs → filter (λ part. not (row_eq k (key part.first))) (parts (λ a b. row_eq (key a) (key b)) xs) ≡ parts (λ a b. row_eq (key a) (key b)) xs
  parts-others k [] h = refl
  parts-others k (x ∷ xs) h =
      let first : Part A = record { first = x; later = filter (λ (y : A). row_eq (key x) (key y)) xs } in
      let p : Part A → Bool = λ part. not (row_eq k (key part.first)) in
      let q : Part A → Bool = λ part. not (row_eq (key x) (key part.first)) in
      let rest = parts (λ (a b : A). row_eq (key a) (key b)) xs in
      ap (λ b. cond (not b) (first ∷ filter p (filter q rest)) (filter p (filter q rest))) h.0
      ∙ ap (λ ps. first ∷ ps) (filter-swap p q rest ∙ ap (filter q) (parts-others k xs h.1))

  -- the parts with other keys than k are those of the rows behind the run of k
  pub parts-behind : (k : Row) (xs : List A) → AllByRecursion (λ x. row_eq k (key x) ≡ false) (drop (prefix_len (λ x. row_eq k (key x)) xs) xs)
      → filter (λ part. not (row_eq k (key part.first))) (parts (λ a b. row_eq (key a) (key b)) xs) ≡ parts (λ a b. row_eq (key a) (key b)) (drop (prefix_len (λ x. row_eq k (key x)) xs) xs)
  parts-behind k [] h = refl
  parts-behind k (x ∷ xs) h = by (row_eq k (key x)) refl h (parts-behind k xs)
    where
      by : (s : Bool) → row_eq k (key x) ≡ s → AllByRecursion (λ (y : A). row_eq k (key y) ≡ false) (drop (cond s (1 + prefix_len (λ (y : A). row_eq k (key y)) xs) 0) (x ∷ xs))
          → (AllByRecursion (λ (y : A). row_eq k (key y) ≡ false) (drop (prefix_len (λ (y : A). row_eq k (key y)) xs) xs)
          → filter (λ (part : Part A). not (row_eq k (key part.first))) (parts (λ (a b : A). row_eq (key a) (key b)) xs) ≡ parts (λ (a b : A). row_eq (key a) (key b)) (drop (prefix_len (λ (y : A). row_eq k (key y)) xs) xs))
          → filter (λ (part : Part A). not (row_eq k (key part.first))) (parts (λ (a b : A). row_eq (key a) (key b)) (x ∷ xs)) ≡ parts (λ (a b : A). row_eq (key a) (key b)) (drop (cond s (1 + prefix_len (λ (y : A). row_eq k (key y)) xs) 0) (x ∷ xs))
      by true e none more =
          let n = prefix_len (λ (y : A). row_eq k (key y)) xs in
          let next : 1 + n ≡ suc n = omega arith in
          let first : Part A = record { first = x; later = filter (λ (y : A). row_eq (key x) (key y)) xs } in
          let p : Part A → Bool = λ part. not (row_eq k (key part.first)) in
          let q : Part A → Bool = λ part. not (row_eq (key x) (key part.first)) in
          let rest = parts (λ (a b : A). row_eq (key a) (key b)) xs in
          let same : filter q rest ≡ filter p rest = ap (λ (j : Row). filter (λ (part : Part A). not (row_eq j (key part.first))) rest) (sym ((row_eq-Decides k (key x)).0 e)) in
          ap (λ b. cond (not b) (first ∷ filter p (filter q rest)) (filter p (filter q rest))) e
          ∙ ap (filter p) same ∙ filter-twice p rest ∙ more (subst (λ m. AllByRecursion (λ (y : A). row_eq k (key y) ≡ false) (drop m (x ∷ xs))) next none)
          ∙ sym (ap (λ m. parts (λ (a b : A). row_eq (key a) (key b)) (drop m (x ∷ xs))) next)
      by false e none more = parts-others k (x ∷ xs) none

-- the first group of rows whose keys ascend is their first run
by_key-ascending : (columns : List ℕ) (calls : List AggCall) (x : Row) (xs : List Row) → Ascends (λ row. columns_of row columns) (x ∷ xs)
    → by_key columns calls (x ∷ xs) ≡ (columns_of x columns ++ called calls (take (prefix_len (same_key columns x) (x ∷ xs)) (x ∷ xs))) ∷ by_key columns calls (drop (prefix_len (same_key columns x) (x ∷ xs)) (x ∷ xs))
by_key-ascending columns calls x xs up =
    let key : Row → Row = λ row. columns_of row columns in
    let n = prefix_len (same_key columns x) xs in
    let all : prefix_len (same_key columns x) (x ∷ xs) ≡ suc n =
    ap (λ b. cond b (1 + n) 0) (same_key-self columns x) ∙ (omega arith) in
    let run : filter (same_key columns x) xs ≡ take n xs = run-is key (key x) xs up.0 up.1 in
    let rest : filter (λ (part : Part Row). not (same_key columns x part.first)) (parts (same_key columns) xs) ≡ parts (same_key columns) (drop n xs) =
    parts-behind key (key x) xs (none-after_run key (key x) xs up.0 up.1) in
    let row : Part Row → Row = λ part. columns_of part.first columns ++ called calls (members part) in
    (λ i. (columns_of x columns ++ called calls (x ∷ run i)) ∷ map row (rest i))
    ∙ sym (ap (λ m. (columns_of x columns ++ called calls (take m (x ∷ xs))) ∷ by_key columns calls (drop m (x ∷ xs))) all)

-- a step: from a place on, the group of the run, and then the groups behind it
pub group-step : (columns : List ℕ) (calls : List AggCall) (rows made : List Row) (start end : ℕ) (whole next : List Row) (row : Row) → IsSortedOn columns rows → start < length rows
    → end ≡ end_of_run (same_key columns (get_or rows start [])) rows start
    → made ++ by_key columns calls (drop start rows) ≡ whole → row ≡ columns_of (get_or rows start []) columns ++ called calls (take (end - start) (drop start rows)) → next ≡ made ++ row ∷ []
    → next ++ by_key columns calls (drop end rows) ≡ whole
group-step columns calls rows made start end whole next row sorted l e inv is n =
    let x = get_or rows start [] in
    let xs = drop (start + 1) rows in
    let left : drop start rows ≡ x ∷ xs = drop_more rows start [] l in
    let up = subst (Ascends (λ row. columns_of row columns)) left (Ascends-drop (λ row. columns_of row columns) start rows (Ascends-from columns rows sorted)) in
    let m = prefix_len (same_key columns x) (drop start rows) in
    let size : end - start ≡ m = omega (arith, e) in
    let behind : drop end rows ≡ drop m (drop start rows) = ap (λ n. drop n rows) e ∙ sym (drop-drop m start rows) in
    let step : by_key columns calls (drop start rows) ≡ (columns_of x columns ++ called calls (take m (drop start rows))) ∷ by_key columns calls (drop m (drop start rows)) =
    subst (λ (rs : List Row). by_key columns calls rs ≡ (columns_of x columns ++ called calls (take (prefix_len (same_key columns x) rs) rs)) ∷ by_key columns calls (drop (prefix_len (same_key columns x) rs) rs)) (sym left) (by_key-ascending columns calls x xs up) in
    (λ i. n i ++ by_key columns calls (behind i))
    ∙ append_assoc made (row ∷ []) (by_key columns calls (drop m (drop start rows)))
    ∙ ap (λ (r : Row). made ++ r ∷ by_key columns calls (drop m (drop start rows))) (is ∙ ap (λ n. columns_of x columns ++ called calls (take n (drop start rows))) size)
    ∙ ap (λ rs. made ++ rs) (sym step) ∙ inv
