-- The orders of sorts are total.
use Rattle.std.proofs.Common.{◌≡◌, ℕ, ℤ, pos, Bool, true, false, List, [], ◌∷◌, refl, subst, ap}
use Rattle.std.specs.declared.cmp.Ordering.{Ordering}
use Rattle.std.specs.declared.cmp.Ordering.TheVariants.{Less, Equal, Greater}
use Rattle.std.specs.Ordering.{nat_cmp, int_cmp, bool_cmp, ordering_then, on, then_cmp, flip_args}
use Rattle.std.specs.Cmp.{IsTotalOrder}
use Rattle.std.specs.Cmp.Lexicographic.{slice_cmp}
use Rattle.std.specs.FinMap.{IsAntisymmetric, nat_cmp-IsAntisymmetric, int_cmp-IsAntisymmetric, slice_cmp-IsAntisymmetric}
use Rattle.std.proofs.lemmas.Cmp.{on_total, then_total, back_total, nat_cmp_total, int_cmp_total, nat_list_cmp_total}
use Rattle.cal_value.specs.declared.value.Value.{Value}
use Rattle.cal_value.specs.declared.value.Value.TheVariants.{Null, Bool as BoolValue, Int, Text}
use Rattle.cal_value.specs.declared.order.KeyOrder.{KeyOrder}
use Rattle.cal_value.specs.Order.{class, value_cmp, key_cmp, row_cmp, column_of}

then-Equal : (o : Ordering) → ordering_then o Equal ≡ o
then-Equal Less = refl
then-Equal Equal = refl
then-Equal Greater = refl

abbrev truth : Value → ℕ
truth Null = 0
truth (BoolValue false) = 0
truth (BoolValue true) = 1
truth (Int n) = 0
truth (Text t) = 0

abbrev number : Value → ℤ
number Null = pos 0
number (BoolValue b) = pos 0
number (Int n) = n
number (Text t) = pos 0

abbrev points : Value → List ℕ
points Null = []
points (BoolValue b) = []
points (Int n) = []
points (Text t) = t

abbrev by_parts : Value → Value → Ordering
by_parts = then_cmp (on class nat_cmp) (then_cmp (on truth nat_cmp) (then_cmp (on number int_cmp) (on points (slice_cmp nat_cmp))))

by_parts_total : IsTotalOrder by_parts
by_parts_total = then_total (on_total class nat_cmp_total) (then_total (on_total truth nat_cmp_total) (then_total (on_total number int_cmp_total) (on_total points nat_list_cmp_total)))

value_cmp-is : (a b : Value) → by_parts a b ≡ value_cmp a b
value_cmp-is Null Null = refl
value_cmp-is Null (BoolValue y) = refl
value_cmp-is Null (Int y) = refl
value_cmp-is Null (Text y) = refl
value_cmp-is (BoolValue x) Null = refl
value_cmp-is (BoolValue false) (BoolValue false) = refl
value_cmp-is (BoolValue false) (BoolValue true) = refl
value_cmp-is (BoolValue true) (BoolValue false) = refl
value_cmp-is (BoolValue true) (BoolValue true) = refl
value_cmp-is (BoolValue x) (Int y) = refl
value_cmp-is (BoolValue x) (Text y) = refl
value_cmp-is (Int x) Null = refl
value_cmp-is (Int x) (BoolValue y) = refl
value_cmp-is (Int x) (Int y) = then-Equal (int_cmp x y)
value_cmp-is (Int x) (Text y) = refl
value_cmp-is (Text x) Null = refl
value_cmp-is (Text x) (BoolValue y) = refl
value_cmp-is (Text x) (Int y) = refl
value_cmp-is (Text x) (Text y) = refl

total_along : {K : Type 0} (R S : K → K → Ordering) → ((a b : K) → R a b ≡ S a b) → IsTotalOrder R → IsTotalOrder S
total_along R S e t = subst IsTotalOrder (λ i a b. e a b i) t

pub value_cmp_total : IsTotalOrder value_cmp
value_cmp_total = total_along by_parts value_cmp value_cmp-is by_parts_total

-- equal values alone tie
bool_cmp-IsAntisymmetric : IsAntisymmetric bool_cmp
bool_cmp-IsAntisymmetric true true e = refl
bool_cmp-IsAntisymmetric true false e = absurd (cc)
bool_cmp-IsAntisymmetric false true e = absurd (cc)
bool_cmp-IsAntisymmetric false false e = refl

pub value_cmp-IsAntisymmetric : IsAntisymmetric value_cmp
value_cmp-IsAntisymmetric Null Null e = refl
value_cmp-IsAntisymmetric Null (BoolValue y) e = absurd (cc)
value_cmp-IsAntisymmetric Null (Int y) e = absurd (cc)
value_cmp-IsAntisymmetric Null (Text y) e = absurd (cc)
value_cmp-IsAntisymmetric (BoolValue x) Null e = absurd (cc)
value_cmp-IsAntisymmetric (BoolValue x) (BoolValue y) e = ap BoolValue (bool_cmp-IsAntisymmetric x y e)
value_cmp-IsAntisymmetric (BoolValue x) (Int y) e = absurd (cc)
value_cmp-IsAntisymmetric (BoolValue x) (Text y) e = absurd (cc)
value_cmp-IsAntisymmetric (Int x) Null e = absurd (cc)
value_cmp-IsAntisymmetric (Int x) (BoolValue y) e = absurd (cc)
value_cmp-IsAntisymmetric (Int x) (Int y) e = ap Int (int_cmp-IsAntisymmetric x y e)
value_cmp-IsAntisymmetric (Int x) (Text y) e = absurd (cc)
value_cmp-IsAntisymmetric (Text x) Null e = absurd (cc)
value_cmp-IsAntisymmetric (Text x) (BoolValue y) e = absurd (cc)
value_cmp-IsAntisymmetric (Text x) (Int y) e = absurd (cc)
value_cmp-IsAntisymmetric (Text x) (Text y) e = ap Text (slice_cmp-IsAntisymmetric nat_cmp-IsAntisymmetric x y e)

abbrev directed : Bool → Value → Value → Ordering
directed false = value_cmp
directed true = flip_args value_cmp

directed_total : (d : Bool) → IsTotalOrder (directed d)
directed_total false = value_cmp_total
directed_total true = back_total value_cmp_total

-- where NULL stands
abbrev rank : Bool → Value → ℕ
rank true Null = 0
rank false Null = 1
rank true (BoolValue b) = 1
rank false (BoolValue b) = 0
rank true (Int n) = 1
rank false (Int n) = 0
rank true (Text t) = 1
rank false (Text t) = 0

abbrev ranked : Bool → Bool → Value → Value → Ordering
ranked d n = then_cmp (on (rank n) nat_cmp) (directed d)

abbrev key : Bool → Bool → KeyOrder → KeyOrder
key d n k = record k { descending = d; nulls_first = n }

key_cmp-is : (k : KeyOrder) (d n : Bool) (a b : Value) → ranked d n a b ≡ key_cmp (key d n k) a b
key_cmp-is k false false Null Null = refl
key_cmp-is k false false Null (BoolValue y) = refl
key_cmp-is k false false Null (Int y) = refl
key_cmp-is k false false Null (Text y) = refl
key_cmp-is k false false (BoolValue x) Null = refl
key_cmp-is k false false (BoolValue x) (BoolValue y) = refl
key_cmp-is k false false (BoolValue x) (Int y) = refl
key_cmp-is k false false (BoolValue x) (Text y) = refl
key_cmp-is k false false (Int x) Null = refl
key_cmp-is k false false (Int x) (BoolValue y) = refl
key_cmp-is k false false (Int x) (Int y) = refl
key_cmp-is k false false (Int x) (Text y) = refl
key_cmp-is k false false (Text x) Null = refl
key_cmp-is k false false (Text x) (BoolValue y) = refl
key_cmp-is k false false (Text x) (Int y) = refl
key_cmp-is k false false (Text x) (Text y) = refl
key_cmp-is k false true Null Null = refl
key_cmp-is k false true Null (BoolValue y) = refl
key_cmp-is k false true Null (Int y) = refl
key_cmp-is k false true Null (Text y) = refl
key_cmp-is k false true (BoolValue x) Null = refl
key_cmp-is k false true (BoolValue x) (BoolValue y) = refl
key_cmp-is k false true (BoolValue x) (Int y) = refl
key_cmp-is k false true (BoolValue x) (Text y) = refl
key_cmp-is k false true (Int x) Null = refl
key_cmp-is k false true (Int x) (BoolValue y) = refl
key_cmp-is k false true (Int x) (Int y) = refl
key_cmp-is k false true (Int x) (Text y) = refl
key_cmp-is k false true (Text x) Null = refl
key_cmp-is k false true (Text x) (BoolValue y) = refl
key_cmp-is k false true (Text x) (Int y) = refl
key_cmp-is k false true (Text x) (Text y) = refl
key_cmp-is k true false Null Null = refl
key_cmp-is k true false Null (BoolValue y) = refl
key_cmp-is k true false Null (Int y) = refl
key_cmp-is k true false Null (Text y) = refl
key_cmp-is k true false (BoolValue x) Null = refl
key_cmp-is k true false (BoolValue x) (BoolValue y) = refl
key_cmp-is k true false (BoolValue x) (Int y) = refl
key_cmp-is k true false (BoolValue x) (Text y) = refl
key_cmp-is k true false (Int x) Null = refl
key_cmp-is k true false (Int x) (BoolValue y) = refl
key_cmp-is k true false (Int x) (Int y) = refl
key_cmp-is k true false (Int x) (Text y) = refl
key_cmp-is k true false (Text x) Null = refl
key_cmp-is k true false (Text x) (BoolValue y) = refl
key_cmp-is k true false (Text x) (Int y) = refl
key_cmp-is k true false (Text x) (Text y) = refl
key_cmp-is k true true Null Null = refl
key_cmp-is k true true Null (BoolValue y) = refl
key_cmp-is k true true Null (Int y) = refl
key_cmp-is k true true Null (Text y) = refl
key_cmp-is k true true (BoolValue x) Null = refl
key_cmp-is k true true (BoolValue x) (BoolValue y) = refl
key_cmp-is k true true (BoolValue x) (Int y) = refl
key_cmp-is k true true (BoolValue x) (Text y) = refl
key_cmp-is k true true (Int x) Null = refl
key_cmp-is k true true (Int x) (BoolValue y) = refl
key_cmp-is k true true (Int x) (Int y) = refl
key_cmp-is k true true (Int x) (Text y) = refl
key_cmp-is k true true (Text x) Null = refl
key_cmp-is k true true (Text x) (BoolValue y) = refl
key_cmp-is k true true (Text x) (Int y) = refl
key_cmp-is k true true (Text x) (Text y) = refl

pub key_cmp_total : (k : KeyOrder) → IsTotalOrder (key_cmp k)
key_cmp_total k = total_along (ranked k.descending k.nulls_first) (key_cmp k) (key_cmp-is k k.descending k.nulls_first)
    (then_total (on_total (rank k.nulls_first) nat_cmp_total) (directed_total k.descending))

pub row_cmp_total : (keys : List KeyOrder) → IsTotalOrder (row_cmp keys)
row_cmp_total [] = record { antisymm = λ x y. refl; trans = λ x y z p q. p; congr = λ x y z p. refl }
row_cmp_total (k ∷ ks) = then_total (on_total (λ r. column_of r k.column) (key_cmp_total k)) (row_cmp_total ks)

pub ruleset orders = (value_cmp_total, value_cmp-IsAntisymmetric, row_cmp_total)
