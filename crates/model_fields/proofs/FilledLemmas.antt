-- The rows that stand in a model fill their table.
use Rattle.std.proofs.Common.{◌≡◌, ◌≢◌, ◌<◌, ◌≤◌, ◌+◌, ◌==◌, ◌⊎◌, ℕ, zero, suc, ℤ, Bool, true, false, not, cond, List, [], ◌∷◌, ◌++◌, length, get_or, map, slice_get, Option, Some, None, Result, Ok, All, AllPairs, refl, sym, ap, subst, ◌∙◌, arith, inl, inr, nat_lt, int_le, append_assoc}
use Rattle.std.specs.Prelude.{unwrap_or}
use Rattle.std.specs.List.{list_any}
use Rattle.std.specs.Str.{chars}
use Rattle.std.specs.Fmt.{decimal}
use Rattle.std.proofs.lemmas.Bool.{ltb-false, eqb-true, ne_eqb, and_parts, or_parts, or_from}
use Rattle.std.proofs.lemmas.Int.{ints}
use Rattle.std.proofs.lemmas.List.{append-nil, map_push, get_or-map, length-map}
use Rattle.std.proofs.lemmas.List.Elements.{All-nil, All-push, All-head, All-tail}
use Rattle.std.proofs.lemmas.List.Quantifiers.{all_pairs_push}
use Rattle.serde_json.specs.Data.{Data, null, boolean, number, string, array, object}
use Rattle.serde_json.specs.Find.{as_i64}
use Rattle.cal_value.specs.Equal.{row_eq}
use Rattle.cal_value.specs.EqualLaws.{row_eq-Decides}
use Rattle.cal_value.specs.Interval.{Holds, holds}
use Rattle.cal_value.specs.declared.limits.TheConstants.{TEXT_LIMIT}
use Rattle.cal_value.specs.Logic.{is_null}
use Rattle.cal_value.specs.Order.{column_of as value_in, columns_of}
use Rattle.cal_value.specs.Types.{HasTypes, IsOfType}
use Rattle.cal_value.specs.declared.interval.Interval.{Interval}
use Rattle.cal_value.specs.declared.interval.Interval.TheVariants.{Never, Range}
use Rattle.cal_value.specs.declared.kind.Kind.{Kind}
use Rattle.cal_value.specs.declared.kind.Kind.TheVariants.{Boolean, Integer, Text as TextKind}
use Rattle.cal_value.specs.declared.kind.SqlType.{SqlType}
use Rattle.cal_value.specs.declared.value.Value.{Value}
use Rattle.cal_value.specs.declared.value.Value.TheVariants.{Null, Bool as BoolValue, Int, Text}
use Rattle.cal_schema.specs.declared.column.ColumnDef.{ColumnDef}
use Rattle.cal_schema.specs.declared.table.TableDef.{TableDef}
use Rattle.cal_schema.specs.Fits.{IsFilledBy}
use Rattle.cal_schema.proofs.ColumnLemmas.{past_if, into_if, none_passes}
use Rattle.model_fields.specs.declared.fault.ModelCause.TheVariants.{BadValue, TooMany, NullValue, KeyTaken}
use Rattle.model_fields.specs.declared.fault.ModelFault.{ModelFault}
use Rattle.model_fields.specs.Reading.{bad, each}
use Rattle.model_fields.specs.Kinds.{a_list, short, count}
use Rattle.model_fields.specs.Rows.{whole, short_cell, cell, cell_in, next_cell, cells, row_of, row, row_list, rows, is_place, keyed, keyed_column, with_key, row_key_added, keys_from, keys_apart}
use Rattle.model_fields.proofs.AnswerLemmas.{steps, under-is, each-keeps, each-count}
use Rattle.model_fields.proofs.KeyLemmas.{keyed-at, length-keyed}

-- ---- one cell

within-holds : (i : Interval) (n : ℤ) → holds i n ≡ true → Holds i n
within-holds Never n e = Prim.cc
within-holds (Range lo hi) n e =
    let p = and_parts (int_le lo n) (int_le n hi) e in
    let low : int_le lo n ≡ true = p.0 in
    let high : int_le n hi ≡ true = p.1 in
    (grind (arith, ints), grind (arith, ints))

whole-typed : (range : Interval) (o : Option ℤ) (v : Value) (t : SqlType) → t.kind ≡ Integer → t.interval ≡ range → whole range o ≡ Ok v → IsOfType v t
whole-typed range None v t k i e = absurd (Prim.cc)
whole-typed range (Some z) v t k i e =
    let p = into_if (holds range z) (Ok (Int z)) (bad BadValue) (Ok v) (λ f. Prim.cc) e in
    let is : Int z ≡ v = Prim.cc (p.1) in
    let held : Holds t.interval z = subst (λ (r : Interval). Holds r z) (sym i) (within-holds range z p.0) in
    subst (λ (w : Value). IsOfType w t) is (k, held)

text-typed : (s : List ℕ) (v : Value) (t : SqlType) → t.kind ≡ TextKind → short_cell s ≡ Ok v → IsOfType v t
text-typed s v t k e =
    let p = steps (short TEXT_LIMIT s) (λ (w : List ℕ). Ok (Text (chars w))) v e in
    let is : Text (chars p.found) ≡ v = Prim.cc (p.then) in
    subst (λ (w : Value). IsOfType w t) is k

abbrev good : Value → Result Value ModelFault
good v = Ok v

null-typed : (v : Value) (t : SqlType) → t.nullable ≡ true → good Null ≡ Ok v → IsOfType v t
null-typed v t h e = let is : Null ≡ v = Prim.cc in subst (λ (w : Value). IsOfType w t) is h

boolean-typed : (b : Bool) (v : Value) (t : SqlType) → t.kind ≡ Boolean → good (BoolValue b) ≡ Ok v → IsOfType v t
boolean-typed b v t k e = let is : BoolValue b ≡ v = Prim.cc in subst (λ (w : Value). IsOfType w t) is k

cell-typed : (kind : Kind) (range : Interval) (d : Data) (v : Value) (t : SqlType) → t.kind ≡ kind → t.interval ≡ range → t.nullable ≡ true → cell kind range d ≡ Ok v → IsOfType v t
cell-typed Boolean range null v t k i h e = null-typed v t h e
cell-typed Integer range null v t k i h e = null-typed v t h e
cell-typed TextKind range null v t k i h e = null-typed v t h e
cell-typed Boolean range (boolean b) v t k i h e = boolean-typed b v t k e
cell-typed Integer range (boolean b) v t k i h e = absurd (Prim.cc)
cell-typed TextKind range (boolean b) v t k i h e = absurd (Prim.cc)
cell-typed Boolean range (number n) v t k i h e = absurd (Prim.cc)
cell-typed Integer range (number n) v t k i h e = whole-typed range (as_i64 n) v t k i e
cell-typed TextKind range (number n) v t k i h e = absurd (Prim.cc)
cell-typed Boolean range (string s) v t k i h e = absurd (Prim.cc)
cell-typed Integer range (string s) v t k i h e = absurd (Prim.cc)
cell-typed TextKind range (string s) v t k i h e = text-typed s v t k e
cell-typed Boolean range (array ds) v t k i h e = absurd (Prim.cc)
cell-typed Integer range (array ds) v t k i h e = absurd (Prim.cc)
cell-typed TextKind range (array ds) v t k i h e = absurd (Prim.cc)
cell-typed Boolean range (object ms) v t k i h e = absurd (Prim.cc)
cell-typed Integer range (object ms) v t k i h e = absurd (Prim.cc)
cell-typed TextKind range (object ms) v t k i h e = absurd (Prim.cc)

-- ---- one row

-- a value is of the type of the column in its place
abbrev pub AreCellsOf : List ColumnDef → List Value → Type 0
AreCellsOf cs r = (k : ℕ) (v : Value) (c : ColumnDef) → slice_get r k ≡ Some v → slice_get cs k ≡ Some c → IsOfType v c.kind

-- NULL may stand in each column
abbrev pub AllowNull : List ColumnDef → Type 0
AllowNull cs = (k : ℕ) (c : ColumnDef) → slice_get cs k ≡ Some c → c.kind.nullable ≡ true

pub header-nulls : (cs : List ColumnDef) → All (λ c. c.kind.nullable ≡ true) cs → AllowNull cs
header-nulls [] h k c e = absurd (Prim.cc)
header-nulls (d ∷ cs) h zero c e =
    let same : d ≡ c = Prim.cc in
    subst (λ (w : ColumnDef). w.kind.nullable ≡ true) same (All-head (λ (w : ColumnDef). w.kind.nullable ≡ true) d cs h)
header-nulls (d ∷ cs) h (suc k) c e = header-nulls cs (All-tail (λ (w : ColumnDef). w.kind.nullable ≡ true) d cs h) k c e

pushed : (before : List Value) (v w : Value) (k : ℕ) → slice_get (before ++ v ∷ []) k ≡ Some w → (slice_get before k ≡ Some w) ⊎ ((k ≡ length before) × (v ≡ w))
pushed [] v w zero e = inr (refl, Prim.cc)
pushed [] v w (suc k) e = absurd (Prim.cc)
pushed (b ∷ bs) v w zero e = inl e
pushed (b ∷ bs) v w (suc k) e = elim (pushed bs v w k e) [
  | inl old ↦ inl old
  | inr new ↦ inr (ap suc new.0, new.1)
]

cell_in-typed : (o : Option ColumnDef) (d : Data) (v : Value) (c : ColumnDef) → c.kind.nullable ≡ true → o ≡ Some c → cell_in o d ≡ Ok v → IsOfType v c.kind
cell_in-typed None d v c h is e = absurd (Prim.cc)
cell_in-typed (Some k) d v c h is e =
    let same : k ≡ c = Prim.cc in
    cell-typed c.kind.kind c.kind.interval d v c.kind refl refl h (subst (λ (w : ColumnDef). cell w.kind.kind w.kind.interval d ≡ Ok v) same e)

cells-more : (cs : List ColumnDef) → AllowNull cs → (before : List Value) (d : Data) (v : Value) → AreCellsOf cs before → next_cell cs before d ≡ Ok v → AreCellsOf cs (before ++ v ∷ [])
cells-more cs nulls before d v are e k w c there column = elim (pushed before v w k there) [
  | inl old ↦ are k w c old column
  | inr new ↦
      let here : slice_get cs (length before) ≡ Some c = ap (slice_get cs) (sym new.0) ∙ column in
      subst (λ (u : Value). IsOfType u c.kind) new.1 (cell_in-typed (slice_get cs (length before)) d v c (nulls (length before) c here) here e)
]

-- as many values as columns, each of its column
pub record IsRowOf (cs : List ColumnDef) (r : List Value) : Type 0 where
  pub count : length r ≡ length cs
  pub cells : AreCellsOf cs r

row-typed : (cs : List ColumnDef) → AllowNull cs → (d : Data) (r : List Value) → row_of cs d ≡ Ok r → IsRowOf cs r
row-typed cs nulls d r e =
    let s = steps (a_list d) (cells cs) r e in
    let counted = into_if (count s.found == length cs) (each (next_cell cs) s.found) (bad BadValue) (Ok r) (λ f. Prim.cc) s.then in
    let many : length r ≡ 0 + count s.found = each-count (next_cell cs) [] s.found r counted.1 in
    let same : count s.found ≡ length cs = eqb-true (count s.found) (length cs) counted.0 in
    record {
      count = omega (arith, many, same);
      cells = each-keeps (AreCellsOf cs) (next_cell cs) (cells-more cs nulls) [] s.found r (λ k v c there column. absurd (Prim.cc (there))) counted.1;
    }

pub row-types : (cs : List ColumnDef) (r : List Value) → length r ≡ length cs → AreCellsOf cs r → HasTypes r (map (λ c. c.kind) cs)
row-types [] [] l h = tt
row-types [] (v ∷ r) l h = absurd (omega (arith, l))
row-types (c ∷ cs) [] l h = absurd (omega (arith, l))
row-types (c ∷ cs) (v ∷ r) l h = (h 0 v c refl refl, row-types cs r (omega (arith, l)) (λ k w d there column. h (suc k) w d there column))

-- ---- all rows

rows-more : (cs : List ColumnDef) → AllowNull cs → (before : List (List Value)) (d : Data) (r : List Value) → All (IsRowOf cs) before → row cs before d ≡ Ok r → All (IsRowOf cs) (before ++ r ∷ [])
rows-more cs nulls before d r are e = All-push (IsRowOf cs) before r are (row-typed cs nulls d r e)

pub record AreRowsOf (cs : List ColumnDef) (most : ℕ) (rs : List (List Value)) : Type 0 where
  pub each : All (IsRowOf cs) rs
  pub few : length rs ≤ most

pub rows-typed : (cs : List ColumnDef) (most : ℕ) → AllowNull cs → (d : Data) (rs : List (List Value)) → rows cs most d ≡ Ok rs → AreRowsOf cs most rs
rows-typed cs most nulls d rs e =
    let s = steps (a_list d) (row_list cs most) rs e in
    let few = past_if (nat_lt most (count s.found)) (bad TooMany) (each (row cs) s.found) (Ok rs) (λ f. Prim.cc) s.then in
    let many : length rs ≡ 0 + count s.found = each-count (row cs) [] s.found rs few.1 in
    record {
      each = each-keeps (All (IsRowOf cs)) (row cs) (rows-more cs nulls) [] s.found rs (All-nil (IsRowOf cs)) few.1;
      few = omega (arith, many, ltb-false most (count s.found) few.0);
    }

-- ---- keys

abbrev key_values : List ℕ → List Value → List Value
key_values ks r = columns_of r ks

-- no key of the rows has NULL, and no two are one
pub record HaveKeys (ks : List ℕ) (rs : List (List Value)) : Type 0 where
  pub full : All (λ r. list_any is_null (key_values ks r) ≡ false) rs
  pub apart : AllPairs (λ a b. key_values ks a ≢ key_values ks b) rs

no_keys : (ks : List ℕ) → HaveKeys ks []
no_keys ks = record { full = All-nil (λ r. list_any is_null (key_values ks r) ≡ false); apart = λ i j d lt within. absurd (omega arith) }

keys-kept : (ks : List ℕ) (n : ℕ) (done rs : List (List Value)) → HaveKeys ks done → keys_from ks n (map (key_values ks) done) rs ≡ Ok tt → HaveKeys ks (done ++ rs)
keys-kept ks n done [] h e = subst (HaveKeys ks) (sym (append-nil done)) h
keys-kept ks n done (r ∷ rs) h e =
    let k = key_values ks r in
    let before = map (key_values ks) done in
    let s = steps (row_key_added ks n before r) (λ more. keys_from ks (n + 1) more rs) tt e in
    let added = under-is (decimal n) (with_key before k) s.found s.first in
    let full = past_if (list_any is_null k) (bad NullValue) (cond (list_any (row_eq k) before) (bad KeyTaken) (Ok (before ++ k ∷ []))) (Ok s.found) (λ f. Prim.cc) added in
    let free = past_if (list_any (row_eq k) before) (bad KeyTaken) (Ok (before ++ k ∷ [])) (Ok s.found) (λ f. Prim.cc) full.1 in
    let more : before ++ k ∷ [] ≡ s.found = Prim.cc (free.1) in
    let mapped : map (key_values ks) (done ++ r ∷ []) ≡ s.found = map_push (key_values ks) done r ∙ more in
    let next : HaveKeys ks (done ++ r ∷ []) = record {
      full = All-push (λ q. list_any is_null (key_values ks q) ≡ false) done r h.full full.0;
      apart = all_pairs_push (λ a b. key_values ks a ≢ key_values ks b) done r h.apart (λ i d lt same. unlike ks done r free.0 i d lt same);
    } in
    subst (HaveKeys ks) (append_assoc done (r ∷ []) rs)
    (keys-kept ks (n + 1) (done ++ r ∷ []) rs next (ap (λ (keys : List (List Value)). keys_from ks (n + 1) keys rs) mapped ∙ s.then))
  where
    unlike : (ks : List ℕ) (done : List (List Value)) (r : List Value) → list_any (row_eq (key_values ks r)) (map (key_values ks) done) ≡ false → (i : ℕ) (d : List Value) → i < length done
        → key_values ks (get_or done i d) ≡ key_values ks r → ⊥
    unlike ks done r free i d lt same =
        let k = key_values ks r in
        let there : get_or (map (key_values ks) done) i k ≡ k = get_or-map (key_values ks) done i d k lt ∙ same in
        none_passes (row_eq k) (map (key_values ks) done) free i k (omega (arith, length-map done (key_values ks)))
        ((row_eq-Decides k (get_or (map (key_values ks) done) i k)).1 (sym there))

pub keys_apart-is : (ks : List ℕ) (rs : List (List Value)) → ks ≢ [] → keys_apart ks rs ≡ Ok tt → HaveKeys ks rs
keys_apart-is [] rs some e = absurd (some refl)
keys_apart-is (k ∷ ks) rs some e = keys-kept (k ∷ ks) 0 [] rs (no_keys (k ∷ ks)) e

-- a column with NULL in a row whose key has none is no column of the key
null-outside : (ks : List ℕ) (r : List Value) (n : ℕ) → slice_get r n ≡ Some Null → list_any is_null (key_values ks r) ≡ false → list_any (is_place n) ks ≡ false
null-outside [] r n there full = refl
null-outside (k ∷ ks) r n there full =
    let p = or_parts (is_null (value_in r k)) (list_any is_null (key_values ks r)) full in
    let other : (k == n) ≡ false = ne_eqb k n (λ same. is_not r k n same there p.0) in
    or_from (k == n) (list_any (is_place n) ks) other (null-outside ks r n there p.1)
  where
    is_not : (r : List Value) (k n : ℕ) → k ≡ n → slice_get r n ≡ Some Null → is_null (value_in r k) ≡ false → ⊥
    is_not r k n same there full =
        let is : is_null (value_in r k) ≡ true = ap (λ i. is_null (value_in r i)) same ∙ ap (λ o. is_null (unwrap_or o Null)) there in
        Prim.cc

-- ---- rows and columns with a key

-- a value that is of a type, of that type without NULL
still-typed : (v : Value) (t u : SqlType) → t.kind ≡ u.kind → t.interval ≡ u.interval → (v ≡ Null → u.nullable ≡ true) → IsOfType v t → IsOfType v u
still-typed Null t u k i h is = h refl
still-typed (BoolValue b) t u k i h is = sym k ∙ is
still-typed (Int n) t u k i h is = (sym k ∙ is.0, subst (λ (r : Interval). Holds r n) i is.1)
still-typed (Text s) t u k i h is = sym k ∙ is

-- where the key has a column, the row has no NULL there
abbrev IsFull : List ℕ → List Value → Type 0
IsFull ks r = (n : ℕ) → slice_get r n ≡ Some Null → list_any (is_place n) ks ≡ false

keyed-cells : (ks : List ℕ) (cs : List ColumnDef) (r : List Value) → IsFull ks r → AreCellsOf cs r → AreCellsOf (keyed ks cs) r
keyed-cells ks cs r full are k v c there column =
    let at = keyed-at ks 0 cs k c column in
    let here : 0 + k ≡ k = omega arith in
    let is : keyed_column ks k at.column ≡ c = ap (λ m. keyed_column ks m at.column) (sym here) ∙ at.is in
    subst (λ (w : ColumnDef). IsOfType v w.kind) is
    (still-typed v at.column.kind (keyed_column ks k at.column).kind refl refl (λ null. ap not (full k (there ∙ ap Some null))) (are k v at.column there at.there))

keyed-row : (ks : List ℕ) (cs : List ColumnDef) (r : List Value) → IsFull ks r → IsRowOf cs r → HasTypes r (map (λ c. c.kind) (keyed ks cs))
keyed-row ks cs r full is = row-types (keyed ks cs) r (omega (arith, is.count, length-keyed ks 0 cs)) (keyed-cells ks cs r full is.cells)

full-rows : (ks : List ℕ) (rs : List (List Value)) → keys_apart ks rs ≡ Ok tt → All (IsFull ks) rs
full-rows [] rs e = λ i d lt n there. refl
full-rows (k ∷ ks) rs e =
    let have = keys_apart-is (k ∷ ks) rs (λ f. Prim.cc) e in
    λ i d lt n there. null-outside (k ∷ ks) (get_or rs i d) n there (have.full i d lt)

-- rows of the columns, apart by the key, fill a table of the columns with the key
pub record Fills (columns : List ColumnDef) (key : List ℕ) (most : ℕ) (rs : List (List Value)) : Type 0 where
  pub typed : All (λ r. HasTypes r (map (λ c. c.kind) columns)) rs
  pub few : length rs ≤ most
  pub keys : key ≢ [] → AllPairs (λ a b. map (value_in a) key ≢ map (value_in b) key) rs

pub rows-fill : (cs : List ColumnDef) (ks : List ℕ) (most : ℕ) (rs : List (List Value)) → AreRowsOf cs most rs → keys_apart ks rs ≡ Ok tt → Fills (keyed ks cs) ks most rs
rows-fill cs ks most rs are e = record {
  typed = λ i d lt. keyed-row ks cs (get_or rs i d) (full-rows ks rs e i d lt) (are.each i d lt);
  few = are.few;
  keys = λ some. (keys_apart-is ks rs some e).apart;
}

pub fills-table : (t : TableDef) (rs : List (List Value)) → Fills t.columns t.primary_key t.max_rows rs → IsFilledBy t rs
fills-table t rs h = record { typed = h.typed; few = h.few; keys = h.keys }
