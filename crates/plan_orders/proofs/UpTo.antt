-- Rows in order, by recursion on the list, and orders with which another one begins.
use Rattle.std.proofs.Common.{◌≡◌, ◌+◌, ℕ, zero, suc, get_or, Bool, true, false, List, [], ◌∷◌, refl, sym, ap, subst, arith}
use Rattle.std.specs.List.Sorted.{IsSortedBy}
use Rattle.std.specs.Ordering.{is_lt, ordering_then}
use Rattle.std.specs.declared.cmp.Ordering.{Ordering}
use Rattle.std.specs.declared.cmp.Ordering.TheVariants.{Less, Equal, Greater}
use Rattle.std.proofs.lemmas.Cmp.{tied_itself}
use Rattle.std.proofs.lemmas.List.Elements.{recursion_from_All}
use Rattle.std.proofs.lemmas.List.Sorted.{ranks_by, sorted_far}
use Rattle.cal_value.specs.declared.order.KeyOrder.{KeyOrder}
use Rattle.cal_value.specs.Order.{key_cmp, row_cmp, column_of, IsInOrder}
use Rattle.cal_value.proofs.OrderLemmas.{row_cmp_total}
use Rattle.cal_value.proofs.TypeLemmas.{and-both}
use Rattle.cal_rel.specs.Operators.{Row}
use Rattle.plan_nodes.specs.Orders.{key_eq, is_prefix}
use Rattle.plan_nodes.proofs.OrderLemmas.{key-from}
use Rattle.plan_orders.proofs.Rising.{Rises, Rises-weaker}

-- the first row isn't greater than the second one
abbrev pub IsUpTo : List KeyOrder → Row → Row → Type 0
IsUpTo keys a b = is_lt (row_cmp keys b a) ≡ false

pub itself : (keys : List KeyOrder) (a : Row) → IsUpTo keys a a
itself keys a = ap is_lt (tied_itself (row_cmp_total keys) a)

sorted-tail : {A : Type 0} (lt : A → A → Bool) (x : A) (xs : List A) → IsSortedBy lt (x ∷ xs) → IsSortedBy lt xs
sorted-tail lt x xs up k d low l =
    let next : suc k + 1 ≡ suc (k + 1) = omega arith in
    subst (λ (n : ℕ). lt (get_or (x ∷ xs) n d) (get_or xs k d) ≡ false) next (up (suc k) d (omega arith) (omega arith))

pub rises-from : (keys : List KeyOrder) (rows : List Row) → IsInOrder keys rows → Rises (IsUpTo keys) rows
rises-from keys [] up = tt
rises-from keys (row ∷ rows) up =
    (recursion_from_All (IsUpTo keys row) rows (λ k d l. sorted_far lt (ranks_by (row_cmp_total keys) (λ r. r)) (row ∷ rows) up 0 (suc k) d (omega arith) (omega arith)), rises-from keys rows (sorted-tail lt row rows up))
  where
    lt : Row → Row → Bool
    lt a b = is_lt (row_cmp keys a b)

pub order-from : (keys : List KeyOrder) (rows : List Row) → Rises (IsUpTo keys) rows → IsInOrder keys rows
order-from keys [] h k d low l = absurd (omega arith)
order-from keys (row ∷ []) h k d low l = absurd (omega arith)
order-from keys (row ∷ (next ∷ rows)) h zero d low l = h.0.0
order-from keys (row ∷ (next ∷ rows)) h (suc k) d low l =
    let at : suc k + 1 ≡ suc (k + 1) = omega arith in
    let more : is_lt (row_cmp keys (get_or (next ∷ rows) (k + 1) d) (get_or (next ∷ rows) k d)) ≡ false = order-from keys (next ∷ rows) h.1 k d (omega arith) (omega arith) in
    subst (λ (n : ℕ). is_lt (row_cmp keys (get_or (row ∷ (next ∷ rows)) n d) (get_or (next ∷ rows) k d)) ≡ false) (sym at) more

-- any rows are in no order
pub in-none : (rows : List Row) → IsInOrder [] rows
in-none rows = λ k d low l. refl

pub in-one : (keys : List KeyOrder) (row : Row) → IsInOrder keys (row ∷ [])
in-one keys row = order-from keys (row ∷ []) (tt, tt)

-- ---- prefixes

pub then-up : (o p q : Ordering) → is_lt (ordering_then o q) ≡ false → (is_lt q ≡ false → is_lt p ≡ false) → is_lt (ordering_then o p) ≡ false
then-up Less p q h f = h
then-up Equal p q h f = f h
then-up Greater p q h f = refl

prefix-up : (need order : List KeyOrder) (a b : Row) → is_prefix need order ≡ true → IsUpTo order a b → IsUpTo need a b
prefix-up [] order a b p h = refl
prefix-up (k ∷ need) [] a b p h = absurd (Prim.cc)
prefix-up (k ∷ need) (c ∷ order) a b p h =
    let parts = and-both (key_eq k c) (is_prefix need order) p in
    let same : c ≡ k = sym (key-from k c parts.0) in
    subst (λ (x : KeyOrder). is_lt (ordering_then (key_cmp x (column_of b x.column) (column_of a x.column)) (row_cmp need b a)) ≡ false) same
    (then-up (key_cmp c (column_of b c.column) (column_of a c.column)) (row_cmp need b a) (row_cmp order b a) h (prefix-up need order a b parts.1))

-- rows in an order are in each with which it begins
pub prefix-order : (order need : List KeyOrder) (rows : List Row) → is_prefix need order ≡ true → IsInOrder order rows → IsInOrder need rows
prefix-order order need rows p h = order-from need rows (Rises-weaker (IsUpTo order) (IsUpTo need) (λ a b. prefix-up need order a b p) rows (rises-from order rows h))
