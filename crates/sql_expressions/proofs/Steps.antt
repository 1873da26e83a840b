-- The steps of a reader, taken apart and put together.
use Rattle.std.proofs.Common.{◌≡◌, ℕ, ◌+◌, ℤ, pos, negsuc, int_le, Bool, true, false, if◌then◌else◌, List, [], ◌∷◌, ◌++◌, length, Some, None, refl, sym, ap, subst, ◌∙◌, rules}
use denote.Enum.Bare.{same_true, true_same, false_same}
use Rattle.sql_text.specs.declared.token.Token.{Token}
use Rattle.sql_text.specs.declared.token.Token.TheVariants.{Name, Word, Number, Text, Symbol}
use Rattle.sql_text.specs.declared.token.Reserved.{Reserved}
use Rattle.sql_text.specs.declared.token.Symbol.{Symbol as Sign}
use Rattle.sql_text.specs.contracts.token.Reserved.{the_type as reserved_type}
use Rattle.sql_text.specs.contracts.token.Symbol.{the_type as symbol_type}
use Rattle.sql_expressions.specs.Input.{Input, Outcome, Reader, and_then, same_word, same_symbol, sees_word, sees_symbol, next, after_word, after_symbol, expect_word, expect_symbol, by_token, name, number}

abbrev pub at : ℕ → List Token → Input
at p l = record { place = p; left = l }

pub no_some : {A : Type 0} {C : Type 0} {x : A} → None ≡ Some x → C
no_some e = cc

pub some_same : {A : Type 0} {x y : A} → Some x ≡ Some y → x ≡ y
some_same e = cc

pub bind_some : {A B : Type 0} (o : Outcome A) (f : A → Reader B) (y : B × Input) → and_then o f ≡ Some y
    → (p : A × Input) × (o ≡ Some p) × (f p.0 p.1 ≡ Some y)
bind_some None f y e = no_some e
bind_some (Some p) f y e = (p, refl, e)

pub guard_some : {A : Type 0} (b : Bool) (x y : A) → (if b then Some x else None) ≡ Some y → (b ≡ true) × (x ≡ y)
guard_some true x y e = (refl, some_same e)
guard_some false x y e = no_some e

pub guard_reader : {A : Type 0} (b : Bool) (f : Reader A) (i : Input) (y : A × Input) → (if b then f else (λ _. None)) i ≡ Some y → (b ≡ true) × (f i ≡ Some y)
guard_reader true f i y e = (refl, e)
guard_reader false f i y e = no_some e

-- what a reader took: these tokens, which are spelled so
pub record Took {A : Type 0} (Part : ℕ → List Token → A → Type 0) (i : Input) (x : A) (j : Input) : Type 0 where
  pub tokens : List Token
  pub split : i.left ≡ tokens ++ j.left
  pub place : j.place ≡ i.place + length tokens
  pub spelled : Part i.place tokens x

pub word_same : (v w : Reserved) → same_word v w ≡ true → v ≡ w
unfolding same_word
word_same v w e = same_true reserved_type (search rules) v w e

pub symbol_same : (v w : Sign) → same_symbol v w ≡ true → v ≡ w
unfolding same_symbol
symbol_same v w e = same_true symbol_type (search rules) v w e

false_true : {C : Type 0} → false ≡ true → C
false_true e = cc

pub word_first : (w : Reserved) (p : ℕ) (l : List Token) → sees_word w (at p l) ≡ true → (l ≡ Word w ∷ (next (at p l)).left) × ((next (at p l)).place ≡ p + 1)
unfolding sees_word next
word_first w p [] e = false_true e
word_first w p (Name n ∷ ts) e = false_true e
word_first w p (Word v ∷ ts) e = (ap (λ u. Word u ∷ ts) (word_same v w e), refl)
word_first w p (Number n ∷ ts) e = false_true e
word_first w p (Text t ∷ ts) e = false_true e
word_first w p (Symbol s ∷ ts) e = false_true e

pub symbol_first : (w : Sign) (p : ℕ) (l : List Token) → sees_symbol w (at p l) ≡ true → (l ≡ Symbol w ∷ (next (at p l)).left) × ((next (at p l)).place ≡ p + 1)
unfolding sees_symbol next
symbol_first w p [] e = false_true e
symbol_first w p (Name n ∷ ts) e = false_true e
symbol_first w p (Word v ∷ ts) e = false_true e
symbol_first w p (Number n ∷ ts) e = false_true e
symbol_first w p (Text t ∷ ts) e = false_true e
symbol_first w p (Symbol s ∷ ts) e = (ap (λ u. Symbol u ∷ ts) (symbol_same s w e), refl)

pub word_expected : (w : Reserved) (p : ℕ) (l : List Token) (r : Unit {0} × Input) → expect_word w (at p l) ≡ Some r → (l ≡ Word w ∷ r.1.left) × (r.1.place ≡ p + 1)
unfolding expect_word
word_expected w p l r e =
    let g = guard_some (sees_word w (at p l)) (tt, next (at p l)) r e in
    let f = word_first w p l g.0 in
    let same : next (at p l) ≡ r.1 = ap (λ q. q.1) g.1 in
    (f.0 ∙ ap (λ j. Word w ∷ j.left) same, ap (λ j. j.place) (sym same) ∙ f.1)

pub symbol_expected : (w : Sign) (p : ℕ) (l : List Token) (r : Unit {0} × Input) → expect_symbol w (at p l) ≡ Some r → (l ≡ Symbol w ∷ r.1.left) × (r.1.place ≡ p + 1)
unfolding expect_symbol
symbol_expected w p l r e =
    let g = guard_some (sees_symbol w (at p l)) (tt, next (at p l)) r e in
    let f = symbol_first w p l g.0 in
    let same : next (at p l) ≡ r.1 = ap (λ q. q.1) g.1 in
    (f.0 ∙ ap (λ j. Symbol w ∷ j.left) same, ap (λ j. j.place) (sym same) ∙ f.1)

-- what eating a token did
pub data Ate (sees : Bool) (after i : Input) (t : Token) : Type 0 where
  ate : sees ≡ true → after ≡ next i → i.left ≡ t ∷ (next i).left → (next i).place ≡ i.place + 1 → Ate sees after i t
  left_it : sees ≡ false → after ≡ i → Ate sees after i t

pub symbol_eaten : (w : Sign) (i : Input) → Ate (sees_symbol w i) (after_symbol w i) i (Symbol w)
unfolding after_symbol
symbol_eaten w i = symbol_eaten_by w i (sees_symbol w i) refl where
  symbol_eaten_by : (w : Sign) (i : Input) (b : Bool) → sees_symbol w i ≡ b → Ate (sees_symbol w i) (if sees_symbol w i then next i else i) i (Symbol w)
  symbol_eaten_by w i true e = let f = symbol_first w i.place i.left e in ate e (ap (λ b. if b then next i else i) e) f.0 f.1
  symbol_eaten_by w i false e = left_it e (ap (λ b. if b then next i else i) e)

pub word_eaten : (w : Reserved) (i : Input) → Ate (sees_word w i) (after_word w i) i (Word w)
unfolding after_word
word_eaten w i = word_eaten_by w i (sees_word w i) refl where
  word_eaten_by : (w : Reserved) (i : Input) (b : Bool) → sees_word w i ≡ b → Ate (sees_word w i) (if sees_word w i then next i else i) i (Word w)
  word_eaten_by w i true e = let f = word_first w i.place i.left e in ate e (ap (λ b. if b then next i else i) e) f.0 f.1
  word_eaten_by w i false e = left_it e (ap (λ b. if b then next i else i) e)

pub name_found : (i : Input) (r : List ℕ × Input) → name i ≡ Some r → (i.left ≡ Name r.0 ∷ r.1.left) × (r.1.place ≡ i.place + 1)
unfolding name by_token next
name_found i r e = found i.place i.left e where
  found : (p : ℕ) (l : List Token) → name (at p l) ≡ Some r → (l ≡ Name r.0 ∷ r.1.left) × (r.1.place ≡ p + 1)
  found p [] e = no_some e
  found p (Name n ∷ ts) e = subst (λ q. (Name n ∷ ts ≡ Name q.0 ∷ q.1.left) × (q.1.place ≡ p + 1)) (some_same e) (refl, refl)
  found p (Word v ∷ ts) e = no_some e
  found p (Number n ∷ ts) e = no_some e
  found p (Text t ∷ ts) e = no_some e
  found p (Symbol s ∷ ts) e = no_some e

pub number_found : (i : Input) (r : ℤ × Input) → number i ≡ Some r → (n : ℕ) × (r.0 ≡ pos n) × (i.left ≡ Number (pos n) ∷ r.1.left) × (r.1.place ≡ i.place + 1)
unfolding number by_token next
number_found i r e = found i.place i.left e where
  found : (p : ℕ) (l : List Token) → number (at p l) ≡ Some r → (n : ℕ) × (r.0 ≡ pos n) × (l ≡ Number (pos n) ∷ r.1.left) × (r.1.place ≡ p + 1)
  found p [] e = no_some e
  found p (Name n ∷ ts) e = no_some e
  found p (Word v ∷ ts) e = no_some e
  found p (Number (pos n) ∷ ts) e = subst (λ q. (n' : ℕ) × (q.0 ≡ pos n') × (Number (pos n) ∷ ts ≡ Number (pos n') ∷ q.1.left) × (q.1.place ≡ p + 1)) (some_same (guard_reader (int_le (pos 0) (pos n)) (λ i. Some (pos n, next i)) _ r e).1) (n, refl, refl, refl)
  found p (Number (negsuc n) ∷ ts) e = no_some e
  found p (Text t ∷ ts) e = no_some e
  found p (Symbol s ∷ ts) e = no_some e

pub not_same : (u v : Reserved) → (u ≡ v → ⊥) → same_word u v ≡ false
unfolding same_word
not_same u v f = false_same reserved_type (search rules) u v f

pub same_self : (v : Reserved) → same_word v v ≡ true
unfolding same_word
same_self v = true_same reserved_type v v refl
