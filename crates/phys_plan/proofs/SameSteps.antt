-- Orders of one length, of which the second begins with the first, are the same.
use Rattle.std.proofs.Common.{◌≡◌, ℕ, ◌==◌, Bool, List, [], ◌∷◌, length, refl, sym, ◌∙◌, ap, subst, arith, true, false}
use Rattle.cal_value.specs.declared.order.KeyOrder.{KeyOrder}
use Rattle.cal_value.proofs.TypeLemmas.{and-both}
use Rattle.plan_nodes.specs.Orders.{key_eq, is_prefix}
use Rattle.plan_nodes.proofs.OrderLemmas.{key-from, prefix-self}

pub prefix-same : (xs ys : List KeyOrder) → length xs ≡ length ys → is_prefix xs ys ≡ true → xs ≡ ys
prefix-same [] [] l p = refl
prefix-same [] (y ∷ ys) l p = absurd (omega arith)
prefix-same (x ∷ xs) [] l p = absurd (omega arith)
prefix-same (x ∷ xs) (y ∷ ys) l p =
    let both = and-both (key_eq x y) (is_prefix xs ys) p in
    let head : x ≡ y = key-from x y both.0 in
    let tail : xs ≡ ys = prefix-same xs ys (omega arith) both.1 in
    ap (λ z. z ∷ xs) head ∙ ap (λ zs. y ∷ zs) tail

pub prefix-of-same : (xs ys : List KeyOrder) → xs ≡ ys → is_prefix xs ys ≡ true
prefix-of-same xs ys e = rw e (prefix-self ys)

pub ruleset same_steps = (prefix-same, prefix-of-same)
