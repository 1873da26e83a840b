-- Columns, keys, and columns with a key.
use Rattle.std.proofs.Common.{◌≡◌, ◌≢◌, ◌<◌, ◌≤◌, ◌+◌, ◌==◌, ◌↔◌, ℕ, zero, suc, true, false, not, cond, List, [], ◌∷◌, ◌++◌, length, get_or, slice_get, Option, Some, None, Result, Ok, Err, All, AllPairs, Contains, refl, sym, ap, subst, ◌∙◌, arith, inl, inr, nat_lt, codes}
use Rattle.std.specs.List.{list_any}
use Rattle.std.specs.Str.{chars}
use Rattle.std.specs.Fmt.{decimal}
use Rattle.std.proofs.lemmas.Bool.{ltb-false, eqb-false, eq-eqb, ne_eqb, not-true}
use Rattle.std.proofs.lemmas.List.{get_or_default}
use Rattle.std.proofs.lemmas.List.Elements.{All-nil, All-cons, All-head, All-tail, All-push, All-weaker}
use Rattle.std.proofs.lemmas.List.Folds.{list_any_none}
use Rattle.std.proofs.lemmas.List.Kept.{AllPairs-cons}
use Rattle.std.proofs.lemmas.List.Quantifiers.{all_pairs_push, position-Some}
use Rattle.serde_json.specs.Data.{Data, Items}
use Rattle.cal_value.specs.Types.{text_type}
use Rattle.cal_value.specs.declared.limits.TheConstants.{COLUMN_LIMIT, NAME_LIMIT, TEXT_LIMIT}
use Rattle.cal_schema.specs.declared.column.ColumnDef.{ColumnDef}
use Rattle.cal_schema.specs.declared.column.ColumnFault.{ColumnFault}
use Rattle.cal_schema.specs.declared.column.ColumnFault.TheVariants.{NameTooLong, BadColumn, NoMemory as NoMemoryFor}
use Rattle.cal_schema.specs.Column.{column_of}
use Rattle.cal_schema.specs.Valid.{IsColumnType, IsHeader}
use Rattle.cal_schema.proofs.ColumnLemmas.{past_if, none_passes, column_of-is, AreColumns, columns_none, columns_push, header_of_columns}
use Rattle.model_fields.specs.declared.fault.ModelCause.TheVariants.{BadValue, Repeated, TooMany}
use Rattle.model_fields.specs.Reading.{◌>>=◌, bad, each, under}
use Rattle.model_fields.specs.Kinds.{of_kind, a_list, text, short, count}
use Rattle.model_fields.specs.Rows.{is_column_named, parsed, differing, column, column_list, columns, place_of, is_place, fresh_place, key_column, key_after, key, member_key, key_member, primary_key, keyed, keyed_from, keyed_column}
use Rattle.model_fields.proofs.AnswerLemmas.{steps, under-is, each-keeps, each-count}

-- ---- the columns of a list

parsed-is : (o : Result ColumnDef ColumnFault) (c : ColumnDef) → parsed o ≡ Ok c → o ≡ Ok c
parsed-is (Ok k) c e = let same : k ≡ c = Prim.cc in ap Ok same
parsed-is (Err (NameTooLong limit)) c e = absurd (Prim.cc)
parsed-is (Err BadColumn) c e = absurd (Prim.cc)
parsed-is (Err NoMemoryFor) c e = absurd (Prim.cc)

columns-more : (before : List ColumnDef) (d : Data) (c : ColumnDef) → AreColumns before → column before d ≡ Ok c → AreColumns (before ++ c ∷ [])
columns-more before d c are e =
    let read = steps (text d >>= λ s. parsed (column_of (chars s))) (differing before) c e in
    let k = read.found in
    let named = steps (text d) (λ s. parsed (column_of (chars s))) k read.first in
    let free = past_if (list_any (is_column_named k.name) before) (bad Repeated) (Ok k) (Ok c) (λ f. Prim.cc) read.then in
    let same : k ≡ c = Prim.cc (free.1) in
    subst (λ (w : ColumnDef). AreColumns (before ++ w ∷ [])) same
    (columns_push before k are (column_of-is (chars named.found) k (parsed-is (column_of (chars named.found)) k named.then)) free.0)

list-header : (ds : Items) (cs : List ColumnDef) → column_list ds ≡ Ok cs → IsHeader cs
list-header ds cs e =
    let some = past_if (count ds == 0) (bad BadValue) (cond (nat_lt COLUMN_LIMIT (count ds)) (bad TooMany) (each column ds)) (Ok cs) (λ f. Prim.cc) e in
    let few = past_if (nat_lt COLUMN_LIMIT (count ds)) (bad TooMany) (each column ds) (Ok cs) (λ f. Prim.cc) some.1 in
    let are : AreColumns cs = each-keeps AreColumns column columns-more [] ds cs columns_none few.1 in
    let counted : length cs ≡ 0 + count ds = each-count column [] ds cs few.1 in
    let ne : count ds ≡ 0 → ⊥ = eqb-false (count ds) 0 some.0 in
    header_of_columns cs are (omega (arith, ne)) (omega (arith, ltb-false COLUMN_LIMIT (count ds) few.0))

-- the columns of a table whose rows stand in the model
pub columns-header : (d : Data) (cs : List ColumnDef) → columns d ≡ Ok cs → IsHeader cs
columns-header d cs e = let s = steps (a_list d) column_list cs e in list-header s.found cs s.then

-- ---- keys

pub record IsKeyOf (cs : List ColumnDef) (ks : List ℕ) : Type 0 where
  pub there : All (λ k. k < length cs) ks
  pub apart : AllPairs (λ a b. a ≢ b) ks

pub no_key : (cs : List ColumnDef) → IsKeyOf cs []
no_key cs = record { there = All-nil (λ k. k < length cs); apart = λ i j d lt within. absurd (omega arith) }

no_column : ColumnDef
no_column = record { name = []; kind = text_type true }

place-there : (cs : List ColumnDef) (name : List ℕ) (k : ℕ) → place_of cs name ≡ Some k → k < length cs
place-there cs name k e = (position-Some (is_column_named name) cs k no_column e).0

fresh : (cs : List ColumnDef) (name before : List ℕ) (o : Option ℕ) (k : ℕ) → place_of cs name ≡ o → fresh_place before o ≡ Ok k → (k < length cs) × (list_any (is_place k) before ≡ false)
fresh cs name before None k is e = absurd (Prim.cc)
fresh cs name before (Some n) k is e =
    let free = past_if (list_any (is_place n) before) (bad Repeated) (Ok n) (Ok k) (λ f. Prim.cc) e in
    let same : n ≡ k = Prim.cc (free.1) in
    (subst (λ i. i < length cs) same (place-there cs name n is), subst (λ i. list_any (is_place i) before ≡ false) same free.0)

key-more : (cs : List ColumnDef) (before : List ℕ) (o : Option (List ℕ)) (k : ℕ) → IsKeyOf cs before → key_column cs before o ≡ Ok k → IsKeyOf cs (before ++ k ∷ [])
key-more cs before o k is e =
    let s = steps (of_kind o >>= short TEXT_LIMIT) (λ name. fresh_place before (place_of cs (chars name))) k e in
    let new = fresh cs (chars s.found) before (place_of cs (chars s.found)) k refl s.then in
    record {
      there = All-push (λ i. i < length cs) before k is.there new.0;
      apart = all_pairs_push (λ a b. a ≢ b) before k is.apart (λ i o lt same. none_passes (is_place k) before new.1 i o lt (eq-eqb (get_or before i o) k same));
    }

key_after-is : (cs : List ColumnDef) (done : List ℕ) (os : List (Option (List ℕ))) (ks : List ℕ) → IsKeyOf cs done → key_after cs done os ≡ Ok ks → IsKeyOf cs ks
key_after-is cs done [] ks is e = let same : done ≡ ks = Prim.cc in subst (IsKeyOf cs) same is
key_after-is cs done (o ∷ os) ks is e =
    let s = steps (under (decimal (length done)) (key_column cs done o)) (λ k. key_after cs (done ++ k ∷ []) os) ks e in
    key_after-is cs (done ++ s.found ∷ []) os ks (key-more cs done o s.found is (under-is (decimal (length done)) (key_column cs done o) s.found s.first)) s.then

key-is : (cs : List ColumnDef) (o : Option (List (Option (List ℕ)))) (ks : List ℕ) → key cs o ≡ Ok ks → IsKeyOf cs ks
key-is cs o ks e = let s = steps (of_kind o) (key_after cs []) ks e in key_after-is cs [] s.found ks (no_key cs) s.then

pub member_key-is : (cs : List ColumnDef) (o : Option (Option (List (Option (List ℕ))))) (ks : List ℕ) → member_key cs o ≡ Ok ks → IsKeyOf cs ks
member_key-is cs None ks e = let same : [] ≡ ks = Prim.cc in subst (IsKeyOf cs) same (no_key cs)
member_key-is cs (Some o) ks e = key-is cs o ks (under-is (codes "primaryKey") (key cs o) ks e)

pub primary_key-is : (cs : List ColumnDef) (operand : Data) (ks : List ℕ) → primary_key cs operand ≡ Ok ks → IsKeyOf cs ks
primary_key-is cs operand ks e = member_key-is cs (key_member operand) ks e

-- ---- columns with a key

pub length-keyed : (ks : List ℕ) (n : ℕ) (cs : List ColumnDef) → length (keyed_from ks n cs) ≡ length cs
length-keyed ks n [] = refl
length-keyed ks n (c ∷ cs) = ap suc (length-keyed ks (n + 1) cs)

-- what holds of each column, and doesn't speak of NULL, holds of it with a key
keyed-all : (P Q : ColumnDef → Type 0) (ks : List ℕ) → ((n : ℕ) (c : ColumnDef) → P c → Q (keyed_column ks n c)) → (n : ℕ) (cs : List ColumnDef) → All P cs → All Q (keyed_from ks n cs)
keyed-all P Q ks f n [] h = All-nil Q
keyed-all P Q ks f n (c ∷ cs) h = All-cons Q (keyed_column ks n c) (keyed_from ks (n + 1) cs) (f n c (All-head P c cs h)) (keyed-all P Q ks f (n + 1) cs (All-tail P c cs h))

abbrev Unlike : ColumnDef → ColumnDef → Type 0
Unlike a b = a.name ≢ b.name

keyed-apart : (ks : List ℕ) (n : ℕ) (cs : List ColumnDef) → AllPairs Unlike cs → AllPairs Unlike (keyed_from ks n cs)
keyed-apart ks n [] h = λ i j d lt within. absurd (omega arith)
keyed-apart ks n (c ∷ cs) h =
    let head : All (Unlike c) cs = λ k d lt. h 0 (suc k) d (omega arith) (omega arith) in
    let tail : AllPairs Unlike cs = λ i j d lt within. h (suc i) (suc j) d (omega arith) (omega arith) in
    AllPairs-cons Unlike (keyed_column ks n c) (keyed_from ks (n + 1) cs) (keyed-all (Unlike c) (Unlike c) ks (λ m b u. u) (n + 1) cs head) (keyed-apart ks (n + 1) cs tail)

-- the column at a place, with the key
pub record KeyedAt (ks : List ℕ) (cs : List ColumnDef) (n k : ℕ) (c : ColumnDef) : Type 0 where
  pub column : ColumnDef
  pub there : slice_get cs k ≡ Some column
  pub is : keyed_column ks (n + k) column ≡ c

pub keyed-at : (ks : List ℕ) (n : ℕ) (cs : List ColumnDef) (k : ℕ) (c : ColumnDef) → slice_get (keyed_from ks n cs) k ≡ Some c → KeyedAt ks cs n k c
keyed-at ks n [] k c e = absurd (Prim.cc)
keyed-at ks n (d ∷ cs) zero c e =
    let same : keyed_column ks n d ≡ c = Prim.cc in
    let here : n + 0 ≡ n = omega arith in
    record { column = d; there = refl; is = ap (λ m. keyed_column ks m d) here ∙ same }
keyed-at ks n (d ∷ cs) (suc k) c e =
    let later = keyed-at ks (n + 1) cs k c e in
    let here : n + suc k ≡ (n + 1) + k = omega arith in
    record { column = later.column; there = later.there; is = ap (λ m. keyed_column ks m later.column) here ∙ later.is }

-- NULL may stand in a place that the key doesn't have, and in no other
null_outside : (ks : List ℕ) (k : ℕ) → (not (list_any (is_place k) ks) ≡ true) ↔ (¬ Contains ks k)
null_outside ks k = (
  λ free there. none_passes (is_place k) ks (not-true (list_any (is_place k) ks) free) there.0 k there.1 (eq-eqb (get_or ks there.0 k) k there.2),
  λ none. ap not (list_any_none (is_place k) ks (λ i d lt. ne_eqb (get_or ks i d) k (λ same. none (i, lt, get_or_default ks i k d lt ∙ same)))),
)

pub keyed-nulls : (ks : List ℕ) (cs : List ColumnDef) (k : ℕ) (c : ColumnDef) → slice_get (keyed ks cs) k ≡ Some c → (c.kind.nullable ≡ true) ↔ (¬ Contains ks k)
keyed-nulls ks cs k c e =
    let at = keyed-at ks 0 cs k c e in
    let here : 0 + k ≡ k = omega arith in
    let is : c.kind.nullable ≡ not (list_any (is_place k) ks) = sym (ap (λ (w : ColumnDef). w.kind.nullable) at.is) ∙ ap (λ m. not (list_any (is_place m) ks)) here in
    subst (λ b. (b ≡ true) ↔ (¬ Contains ks k)) (sym is) (null_outside ks k)

-- the columns and the key of a valid table
pub record HasColumns (columns : List ColumnDef) (key : List ℕ) : Type 0 where
  pub some_columns : 0 < length columns
  pub few_columns : length columns ≤ COLUMN_LIMIT
  pub columns_named : All (λ c. 0 < length c.name) columns
  pub columns_short : All (λ c. length c.name ≤ NAME_LIMIT) columns
  pub columns_apart : AllPairs (λ a b. a.name ≢ b.name) columns
  pub typed : All (λ c. IsColumnType c.kind) columns
  pub nulls : (k : ℕ) (c : ColumnDef) → slice_get columns k ≡ Some c → (c.kind.nullable ≡ true) ↔ (¬ Contains key k)
  pub key_there : All (λ k. k < length columns) key
  pub key_apart : AllPairs (λ a b. a ≢ b) key

pub header-keyed : (cs : List ColumnDef) (ks : List ℕ) → IsHeader cs → IsKeyOf cs ks → HasColumns (keyed ks cs) ks
header-keyed cs ks header is =
    let long = length-keyed ks 0 cs in
    record {
      some_columns = omega (arith, long, header.some_columns);
      few_columns = omega (arith, long, header.few_columns);
      columns_named = keyed-all (λ c. 0 < length c.name) (λ c. 0 < length c.name) ks (λ n c h. h) 0 cs header.columns_named;
      columns_short = keyed-all (λ c. length c.name ≤ NAME_LIMIT) (λ c. length c.name ≤ NAME_LIMIT) ks (λ n c h. h) 0 cs header.columns_short;
      columns_apart = keyed-apart ks 0 cs header.columns_apart;
      typed = keyed-all (λ c. IsColumnType c.kind) (λ c. IsColumnType c.kind) ks (λ n c h. h) 0 cs header.typed;
      nulls = keyed-nulls ks cs;
      key_there = All-weaker (λ k. k < length cs) (λ k. k < length (keyed ks cs)) (λ k lt. omega (arith, long, lt)) ks is.there;
      key_apart = is.apart;
    }
