-- Names: where a colon divides them, when a text is spelled alike, and the place of the first one.
use Rattle.std.proofs.Common.{◌≡◌, ◌≢◌, ◌≤◌, ◌<◌, ◌+◌, ◌-◌, ◌==◌, ◌&&◌, ℕ, Bool, true, false, not, List, [], ◌∷◌, length, drop, get_or, Some, None, sym, ap, ◌∙◌, refl, inl, inr, arith, add-one, drop-cons, eq-eqb, ne_eqb}
use Rattle.std.specs.List.{position, position_or_len}
use Rattle.std.proofs.lemmas.List.Sums.{suffix_len_is, position_or_len_is}
use Rattle.std.proofs.lemmas.Bool.{lt-ltb, le-ltb, cases_lt}
use Rattle.std.proofs.lemmas.Bool.Decides.{nat_tests}
use Rattle.std.proofs.Math.ListN.{drop_of_length-le}
use Rattle.std.specs.Cmp.Lexicographic.{pointwise}
use Rattle.std.proofs.Common.{Option}
use Rattle.std.proofs.lemmas.List.Quantifiers.{position-Some}
use Rattle.cal_schema.specs.declared.schema.Schema.{Schema}
use Rattle.cal_schema.specs.Column.{divided_at}
use Rattle.cal_schema.specs.Lookup.{is_named, table_named}

-- no colon from n on, and a colon right before n
pub divided-is : (text : List ℕ) (n d : ℕ) → n ≤ length text → ((k : ℕ) → n ≤ k → k < length text → get_or text k d ≢ 58) → (0 < n → get_or text (n - 1) d ≡ 58) → n ≡ divided_at text
divided-is text n d within after before =
    let passes : (k : ℕ) → n ≤ k → k < length text → not (get_or text k d == 58) ≡ true = λ k le lt. let ne : get_or text k d ≢ 58 = after k le lt in grind (arith, nat_tests) in
    let fails : 0 < n → not (get_or text (n - 1) d == 58) ≡ false = λ h. let eq : get_or text (n - 1) d ≡ 58 = before h in grind (arith, nat_tests) in
    let e = suffix_len_is (λ c. not (c == 58)) text n d within passes fails in
    omega (arith, e)

-- the first place that passes
pub position-found : {X : Type 0} (p : X → Bool) (xs : List X) (i : ℕ) (d : X) → i < length xs → ((k : ℕ) → k < i → p (get_or xs k d) ≡ false) → p (get_or xs i d) ≡ true → Some i ≡ position p xs
position-found p xs i d within before here =
    let e : position_or_len p xs ≡ i = position_or_len_is p xs i d (omega arith) before (λ _. here) in
    sym (rw (e, lt-ltb i (length xs) within) refl)

pub position-none : {X : Type 0} (p : X → Bool) (xs : List X) → ((k : ℕ) (d : X) → k < length xs → p (get_or xs k d) ≡ false) → None ≡ position p xs
position-none p [] before = refl
position-none p (x ∷ xs) before =
    let e : position_or_len p (x ∷ xs) ≡ length (x ∷ xs) = position_or_len_is p (x ∷ xs) (length (x ∷ xs)) x (omega arith) (λ k h. before k x h) (λ h. absurd (omega arith)) in
    sym (rw (e, le-ltb (length (x ∷ xs)) (length (x ∷ xs)) (omega arith)) refl)

-- the text has ended, and the name goes on
pub spelled-past : (a cs : List ℕ) (n c : ℕ) → length a ≤ n → (n < length cs) × (c ≡ get_or cs n c) → false ≡ pointwise ◌==◌ (drop n a) (drop n cs)
spelled-past a cs n c past h = let lt : n < length cs = h.0 in rw (drop_of_length-le a past, drop-cons cs n c lt) refl

-- the next characters of both
spelled-next : (a cs : List ℕ) (n c d : ℕ) → n < length a → (n < length cs) × (c ≡ get_or cs n c) → pointwise ◌==◌ (drop n a) (drop n cs) ≡ ((get_or a n d == c) && pointwise ◌==◌ (drop (n + 1) a) (drop (n + 1) cs))
spelled-next a cs n c d lt h =
    let there : n < length cs = h.0 in
    let same : get_or cs n c ≡ c = sym h.1 in
    rw (drop-cons a n d lt, drop-cons cs n c there, same, add-one) refl

pub spelled-differs : (a cs : List ℕ) (n c d : ℕ) → n < length a → (n < length cs) × (c ≡ get_or cs n c) → get_or a n d ≢ c → false ≡ pointwise ◌==◌ (drop n a) (drop n cs)
spelled-differs a cs n c d lt h ne =
    let unequal : (get_or a n d == c) ≡ false = ne_eqb (get_or a n d) c ne in
    sym (spelled-next a cs n c d lt h ∙ ap (λ b. b && pointwise ◌==◌ (drop (n + 1) a) (drop (n + 1) cs)) unequal)

pub spelled-alike : (a cs : List ℕ) (n c d : ℕ) → n < length a → (n < length cs) × (c ≡ get_or cs n c) → get_or a n d ≡ c → pointwise ◌==◌ (drop n a) (drop n cs) ≡ pointwise ◌==◌ (drop (n + 1) a) (drop (n + 1) cs)
spelled-alike a cs n c d lt h e =
    let equal : (get_or a n d == c) ≡ true = eq-eqb (get_or a n d) c e in
    spelled-next a cs n c d lt h ∙ ap (λ b. b && pointwise ◌==◌ (drop (n + 1) a) (drop (n + 1) cs)) equal

-- both have ended, or the text goes on
pub spelled-end : (a cs : List ℕ) (n : ℕ) → n ≤ length a → length cs ≤ n → (n == length a) ≡ pointwise ◌==◌ (drop n a) (drop n cs)
spelled-end a cs n within past = rw (drop_of_length-le cs past) (ended a n within)
  where
    at_more : (a : List ℕ) (n : ℕ) → n < length a → (n == length a) ≡ pointwise ◌==◌ (drop n a) []
    at_more a n lt = rw (drop-cons a n 0 lt) (grind (arith, nat_tests))

    at_end : (a : List ℕ) (n : ℕ) → n ≤ length a → length a ≤ n → (n == length a) ≡ pointwise ◌==◌ (drop n a) []
    at_end a n within ge = rw (drop_of_length-le a ge) (grind (arith, nat_tests))

    ended : (a : List ℕ) (n : ℕ) → n ≤ length a → (n == length a) ≡ pointwise ◌==◌ (drop n a) []
    ended a n within = elim (cases_lt n (length a)) [ inl lt ↦ at_more a n lt | inr ge ↦ at_end a n within ge ]

pub position-below : {X : Type 0} (p : X → Bool) (xs : List X) (at : ℕ) → position p xs ≡ Some at → at < length xs
position-below p [] at e = absurd (cc)
position-below p (x ∷ xs) at e = (position-Some p (x ∷ xs) at x e).0

pub table_named-below : (s : Schema) (schema : Option (List ℕ)) (name : List ℕ) (at : ℕ) → Some at ≡ table_named s schema name → at < length s.tables
table_named-below s schema name at e = position-below (is_named s schema name) s.tables at (sym e)

pub ruleset place_rules = (table_named-below)
