-- What is read of lists and names is spelled so.
use Rattle.std.proofs.Common.{◌≡◌, ℕ, zero, suc, ◌+◌, Bool, true, false, if◌then◌else◌, List, [], ◌∷◌, ◌++◌, length, Option, Some, None, refl, sym, ap, subst, ◌∙◌, arith, append_assoc, append-nil, length-append}
use Rattle.sql_text.specs.declared.token.Token.{Token}
use Rattle.sql_text.specs.declared.token.Token.TheVariants.{Name, Word, Symbol}
use Rattle.sql_text.specs.declared.token.Reserved.TheVariants as w
use Rattle.sql_text.specs.declared.token.Symbol.TheVariants as s
use Rattle.sql_tree.specs.declared.select.TableName.{TableName}
use Rattle.sql_tree.specs.declared.select.UsingName.{UsingName}
use Rattle.sql_expressions.specs.Input.{Input, Reader, ◌>>=◌, pure, next, name, sees_name}
use Rattle.sql_parser.specs.ReadingList.{separated_from, separated}
use Rattle.sql_parser.specs.ReadingList as reading
use Rattle.sql_parser.specs.Grammar.{Separated, last, comma, IsTable, plain_table, qualified_table, IsAlias, no_alias, alias, as_alias, IsUsingName}
use Rattle.sql_parser.specs.Grammar as grammar
use Rattle.sql_expressions.proofs.Steps.{some_same, bind_some, Took, ate, left_it, symbol_eaten, word_eaten, name_found}

-- ---- what was taken, one after another

pub followed : {A B C : Type 0} (P : ℕ → List Token → A → Type 0) (Q : ℕ → List Token → B → Type 0) (R : ℕ → List Token → C → Type 0) (i j k : Input) (x : A) (y : B) (z : C)
    → ((ts us : List Token) → P i.place ts x → Q (i.place + length ts) us y → R i.place (ts ++ us) z) → Took P i x j → Took Q j y k → Took R i z k
followed P Q R i j k x y z both a b = record {
  tokens = a.tokens ++ b.tokens;
  split = a.split ∙ ap (λ l. a.tokens ++ l) b.split ∙ sym (append_assoc a.tokens b.tokens k.left);
  place = simp length-append (omega (arith, a.place, b.place));
  spelled = both a.tokens b.tokens a.spelled (subst (λ p. Q p b.tokens y) a.place b.spelled);
}

pub behind : {B C : Type 0} (t : Token) (Q : ℕ → List Token → B → Type 0) (R : ℕ → List Token → C → Type 0) (i j k : Input) (y : B) (z : C)
    → ((us : List Token) → Q (i.place + 1) us y → R i.place (t ∷ us) z) → i.left ≡ t ∷ j.left → j.place ≡ i.place + 1 → Took Q j y k → Took R i z k
behind t Q R i j k y z whole first place b = record {
  tokens = t ∷ b.tokens;
  split = first ∙ ap (λ l. t ∷ l) b.split;
  place = omega (arith, b.place);
  spelled = whole b.tokens (subst (λ p. Q p b.tokens y) place b.spelled);
}

pub closed : {A C : Type 0} (t : Token) (P : ℕ → List Token → A → Type 0) (R : ℕ → List Token → C → Type 0) (i j k : Input) (x : A) (z : C)
    → ((ts : List Token) → P i.place ts x → R i.place (ts ++ t ∷ []) z) → Took P i x j → j.left ≡ t ∷ k.left → k.place ≡ j.place + 1 → Took R i z k
closed t P R i j k x z whole a first place = record {
  tokens = a.tokens ++ t ∷ [];
  split = a.split ∙ ap (λ l. a.tokens ++ l) first ∙ sym (append_assoc a.tokens (t ∷ []) k.left);
  place = simp length-append (omega (arith, a.place));
  spelled = whole a.tokens a.spelled;
}

pub alone : {C : Type 0} (t : Token) (R : ℕ → List Token → C → Type 0) (i j : Input) (z : C) → R i.place (t ∷ []) z → i.left ≡ t ∷ j.left → j.place ≡ i.place + 1 → Took R i z j
alone t R i j z spelled first place = record { tokens = t ∷ []; split = first; place = omega arith; spelled = spelled }

pub nothing : {C : Type 0} (R : ℕ → List Token → C → Type 0) (i : Input) (z : C) → R i.place [] z → Took R i z i
nothing R i z spelled = record { tokens = []; split = refl; place = omega arith; spelled = spelled }

pub seen_as : {A C : Type 0} (P : ℕ → List Token → A → Type 0) (R : ℕ → List Token → C → Type 0) (i j : Input) (x : A) (z : C)
    → ((ts : List Token) → P i.place ts x → R i.place ts z) → Took P i x j → Took R i z j
seen_as P R i j x z seen a = record { tokens = a.tokens; split = a.split; place = a.place; spelled = seen a.tokens a.spelled }

-- ---- lists

-- what follows the first part of a list
pub data Tail {A : Type 0} (Part : ℕ → List Token → A → Type 0) : ℕ → List Token → List A → Type 0 where
  no_tail : {p : ℕ} → Tail Part p [] []
  tail : {p : ℕ} {ts : List Token} {xs : List A} → Separated Part (p + 1) ts xs → Tail Part p (Symbol s.Comma ∷ ts) xs

pub with_tail : {A : Type 0} (Part : ℕ → List Token → A → Type 0) (p : ℕ) (x : A) (xs : List A) (ts us : List Token) → Part p ts x → Tail Part (p + length ts) us xs
    → Separated Part p (ts ++ us) (x ∷ xs)
with_tail Part p x xs ts us d no_tail = subst (λ l. Separated Part p l (x ∷ [])) (sym (append-nil ts)) (last d)
with_tail Part p x xs ts us d (tail ds) = comma d ds

module _ {A : Type 0} (part : Reader A) (Part : ℕ → List Token → A → Type 0) (sound : (i : Input) (r : A × Input) → part i ≡ Some r → Took Part i r.0 r.1) where
  Found : List A → Input → List A × Input → Type 0
  Found found i r = (xs : List A) × (r.0 ≡ found ++ xs) × Took (Tail Part) i xs r.1

  separated_from-sound : (n : ℕ) (found : List A) (i : Input) (r : List A × Input) → separated_from part n found i ≡ Some r
      → (xs : List A) × (r.0 ≡ found ++ xs) × Took (Tail Part) i xs r.1
  unfolding separated_from
  separated_from-sound zero found i r e =
      subst (λ r. (xs : List A) × (r.0 ≡ found ++ xs) × Took (Tail Part) i xs r.1) (some_same e) ([], sym (append-nil found), nothing (Tail Part) i [] no_tail)
  separated_from-sound (suc n) found i r e =
      elim (symbol_eaten s.Comma i) [
        | ate sees after first place ↦
            let a = bind_some (part (next i)) _ r (rw (sees, after) at e) in
            let more = separated_from-sound n (found ++ a.0.0 ∷ []) a.0.1 r a.2 in
            let listed = followed Part (Tail Part) (Separated Part) (next i) a.0.1 r.1 a.0.0 more.0 (a.0.0 ∷ more.0) (with_tail Part (next i).place a.0.0 more.0)
            (sound (next i) a.0 a.1) more.2 in (
              a.0.0 ∷ more.0,
              more.1 ∙ append_assoc found (a.0.0 ∷ []) more.0,
              behind (Symbol s.Comma) (Separated Part) (Tail Part) i (next i) r.1 (a.0.0 ∷ more.0) (a.0.0 ∷ more.0) (λ us d. tail d) first place listed,
            )
        | left_it sees after ↦
            subst (λ r. (xs : List A) × (r.0 ≡ found ++ xs) × Took (Tail Part) i xs r.1) (some_same (rw (sees, after) at e)) ([], sym (append-nil found), nothing (Tail Part) i [] no_tail)
      ]

  pub separated-sound : (i : Input) (r : List A × Input) → separated part i ≡ Some r → Took (Separated Part) i r.0 r.1
  unfolding separated
  separated-sound i r e =
      let a = bind_some (part i) _ r e in
      let more = separated_from-sound (length a.0.1.left) (a.0.0 ∷ []) a.0.1 r a.2 in
      subst (λ xs. Took (Separated Part) i xs r.1) (sym more.1)
      (followed Part (Tail Part) (Separated Part) i a.0.1 r.1 a.0.0 more.0 (a.0.0 ∷ more.0) (with_tail Part i.place a.0.0 more.0) (sound i a.0 a.1) more.2)

-- ---- names

abbrev pub TableAt : ℕ → List Token → TableName → Type 0
TableAt p = IsTable

abbrev pub AliasAt : ℕ → List Token → Option (List ℕ) → Type 0
AliasAt p = IsAlias

pub table-sound : (i : Input) (r : TableName × Input) → reading.table i ≡ Some r → Took TableAt i r.0 r.1
unfolding reading.table
table-sound i r e =
    let a = bind_some (name i) _ r e in
    let first = name_found i a.0 a.1 in
    elim (symbol_eaten s.Dot a.0.1) [
      | ate sees after dot place ↦
          let b = bind_some (name (next a.0.1)) _ r (rw (sees, after) at a.2) in
          let second = name_found (next a.0.1) b.0 b.1 in
          subst (λ r. Took TableAt i r.0 r.1) (some_same b.2) (record {
            tokens = Name a.0.0 ∷ Symbol s.Dot ∷ Name b.0.0 ∷ [];
            split = cc;
            place = omega (arith, first, second);
            spelled = qualified_table;
          })
      | left_it sees after ↦
          subst (λ r. Took TableAt i r.0 r.1) (some_same (rw (sees, after) at a.2)) (alone (Name a.0.0) TableAt i a.0.1 _ plain_table first.0 first.1)
    ]

alias_if : (i : Input) (r : Option (List ℕ) × Input) (b : Bool) → (if b then (name >>= λ n. pure (Some n)) else pure None) i ≡ Some r → Took AliasAt i r.0 r.1
alias_if i r true e =
    let a = bind_some (name i) _ r e in
    let found = name_found i a.0 a.1 in
    subst (λ r. Took AliasAt i r.0 r.1) (some_same a.2) (alone (Name a.0.0) AliasAt i a.0.1 _ alias found.0 found.1)
alias_if i r false e = subst (λ r. Took AliasAt i r.0 r.1) (some_same e) (nothing AliasAt i None no_alias)

pub alias-sound : (i : Input) (r : Option (List ℕ) × Input) → reading.alias i ≡ Some r → Took AliasAt i r.0 r.1
unfolding reading.alias
alias-sound i r e = elim (word_eaten w.As i) [
  | ate sees after first place ↦
      let a = bind_some (name (next i)) _ r (rw (sees, after) at e) in
      let found = name_found (next i) a.0 a.1 in
      subst (λ r. Took AliasAt i r.0 r.1) (some_same a.2) (record {
        tokens = Word w.As ∷ Name a.0.0 ∷ [];
        split = cc;
        place = omega (arith, found);
        spelled = as_alias;
      })
  | left_it sees after ↦ alias_if i r (sees_name i) (rw (sees, after) at e)
]

pub using_name-sound : (i : Input) (r : UsingName × Input) → reading.using_name i ≡ Some r → Took IsUsingName i r.0 r.1
unfolding reading.using_name
using_name-sound i r e =
    let a = bind_some (name i) _ r e in
    let found = name_found i a.0 a.1 in
    subst (λ r. Took IsUsingName i r.0 r.1) (some_same a.2) (alone (Name a.0.0) IsUsingName i a.0.1 _ grammar.using_name found.0 found.1)
