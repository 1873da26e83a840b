-- The order of values, of rows under keys, and equality of bags.
use Rattle.std.specs.Prelude.{◌≡◌, ℕ, List, [], ◌∷◌, if◌then◌else◌, slice_get, unwrap_or, count_by, map}
use Rattle.std.specs.declared.cmp.Ordering.{Ordering}
use Rattle.std.specs.declared.cmp.Ordering.TheVariants.{Less, Equal, Greater}
use Rattle.std.specs.Ordering.{nat_cmp, int_cmp, bool_cmp, ordering_then}
use Rattle.std.specs.Cmp.Lexicographic.{slice_cmp}
use Rattle.std.specs.List.Sorted.{IsSorted}
use Rattle.cal_value.specs.Equal.{row_eq}
use Rattle.cal_value.specs.declared.value.Value.{Value}
use Rattle.cal_value.specs.declared.value.Value.TheVariants.{Null, Bool as BoolValue, Int, Text}
use Rattle.cal_value.specs.declared.order.KeyOrder.{KeyOrder}

-- the kinds in their order
abbrev pub class : Value → ℕ
class Null = 0
class (BoolValue b) = 1
class (Int n) = 2
class (Text t) = 3

-- FALSE before TRUE, numbers by size, texts by code point. Values of two kinds are never compared;
-- here their kinds decide
abbrev pub value_cmp : Value → Value → Ordering
value_cmp (BoolValue x) (BoolValue y) = bool_cmp x y
value_cmp (Int x) (Int y) = int_cmp x y
value_cmp (Text x) (Text y) = slice_cmp nat_cmp x y
value_cmp a b = nat_cmp (class a) (class b)

-- the order of a sort by one key
abbrev pub key_cmp : KeyOrder → Value → Value → Ordering
key_cmp k Null Null = Equal
key_cmp k Null b = if k.nulls_first then Less else Greater
key_cmp k a Null = if k.nulls_first then Greater else Less
key_cmp k a b = if k.descending then value_cmp b a else value_cmp a b

-- the value in a column, and NULL past the end
abbrev pub column_of : List Value → ℕ → Value
column_of row at = unwrap_or (slice_get row at) Null

-- the values in these columns, in this order
abbrev pub columns_of : List Value → List ℕ → List Value
columns_of row columns = map (column_of row) columns

-- key after key
abbrev pub row_cmp : List KeyOrder → List Value → List Value → Ordering
row_cmp [] a b = Equal
row_cmp (k ∷ ks) a b =
    ordering_then (key_cmp k (column_of a k.column) (column_of b k.column)) (row_cmp ks a b)

-- no row is greater than the next one
abbrev pub IsInOrder : List KeyOrder → List (List Value) → Type 0
IsInOrder keys rows = IsSorted (row_cmp keys) rows

-- each row occurs equally often in both lists
abbrev pub SameBag : List (List Value) → List (List Value) → Type 0
SameBag a b = (r : List Value) → count_by (row_eq r) a ≡ count_by (row_eq r) b
