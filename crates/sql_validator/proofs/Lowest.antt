-- The lowest place of what stands in parts.
use Rattle.std.proofs.Common.{◌≡◌, ◌<◌, ◌+◌, ◌∙◌, ap, sym, refl, arith, add-one, append-nil, length, take, get_or, ℕ, cond, List, [], ◌∷◌, ◌++◌, Option, Some, None}
use Rattle.std.specs.Prelude.{nat_lt}
use Rattle.std.specs.List.{flat_map}
use Rattle.std.proofs.Math.Seq.{take-suc}
use Rattle.std.proofs.lemmas.Bool.Decides.{nat_tests}
use Rattle.std.proofs.lemmas.Grind.{flat_map-append}
use Rattle.cal_value.specs.declared.operator.Op.{Op}
use Rattle.sql_tree.specs.declared.tree.Tree.{Tree}
use Rattle.sql_tree.specs.declared.tree.Tree.TheFolds.{fold-Tree, fold-roll-Tree}
use Rattle.sql_tree.specs.declared.tree.Tree.TheOpen.{Tree-F}
use Rattle.sql_tree.specs.declared.tree.Tree.TheVariants.{Binary, rolls-Binary}
use Rattle.sql_meaning.specs.Parts.{listed}
use Rattle.sql_meaning.specs.Refused.{lower, lowest}

abbrev lower_of : Option ℕ → Option ℕ → Option ℕ
lower_of None other = other
lower_of (Some place) other = lower place other

abbrev least : ℕ → ℕ → ℕ
least a b = cond (nat_lt b a) b a

least_assoc : (a b c : ℕ) → least a (least b c) ≡ least (least a b) c
least_assoc a b c = grind (arith, nat_tests)

lower_assoc : (a : ℕ) (o p : Option ℕ) → lower a (lower_of o p) ≡ lower_of (lower a o) p
lower_assoc a None p = refl
lower_assoc a (Some b) None = refl
lower_assoc a (Some b) (Some c) = ap Some (least_assoc a b c)

lowest-append : (xs ys : List ℕ) → lowest (xs ++ ys) ≡ lower_of (lowest xs) (lowest ys)
lowest-append [] ys = refl
lowest-append (x ∷ xs) ys = ap (lower x) (lowest-append xs ys) ∙ lower_assoc x (lowest xs) (lowest ys)

lowest-two : (a b : Option ℕ) → lowest (listed a ++ listed b) ≡ lower_of a b
lowest-two None None = refl
lowest-two None (Some b) = refl
lowest-two (Some a) None = refl
lowest-two (Some a) (Some b) = refl

-- the lowest of two parts is the lower one of theirs
pub lowest-parts : (xs ys : List ℕ) → lowest (listed (lowest xs) ++ listed (lowest ys)) ≡ lowest (xs ++ ys)
lowest-parts xs ys = lowest-two (lowest xs) (lowest ys) ∙ sym (lowest-append xs ys)

-- of a loop over the parts
pub lowest-turn : {A : Type 0} (f : A → List ℕ) (xs : List A) (i : ℕ) (x : A) (found here new : Option ℕ) → x ≡ get_or xs i x → i < length xs
    → found ≡ lowest (flat_map f (take i xs)) → here ≡ lowest (f x) → new ≡ lowest (listed found ++ listed here) → new ≡ lowest (flat_map f (take (i + 1) xs))
lowest-turn f xs i x found here new is lt ef eh en =
    en
    ∙ ap (λ o. lowest (listed o ++ listed here)) ef
    ∙ ap (λ o. lowest (listed (lowest (flat_map f (take i xs))) ++ listed o)) (eh ∙ ap (λ y. lowest (f y)) is)
    ∙ lowest-parts (flat_map f (take i xs)) (f (get_or xs i x))
    ∙ ap (λ ys. lowest (flat_map f (take i xs) ++ ys)) (sym (append-nil (f (get_or xs i x))))
    ∙ ap lowest (sym (ap (λ n. flat_map f (take n xs)) (add-one i) ∙ ap (flat_map f) (take-suc xs i x lt) ∙ flat_map-append f (take i xs) (get_or xs i x ∷ [])))

-- ---- an operator's operands

fold-Binary : {A : Type 0} (step : Tree-F A → A) (place : ℕ) (op : Op) (l r : Tree) → fold-Tree A step (Binary place op l r) ≡ step (Tree-F.Binary place op (fold-Tree A step l) (fold-Tree A step r))
fold-Binary {A} step place op l r = ap (fold-Tree A step) (sym (rolls-Binary place op l r)) ∙ fold-roll-Tree A step (Tree-F.Binary place op l r)

-- what a walk tells of an operator whose operands' places stand behind one another
pub lowest-Binary : {A : Type 0} (step : Tree-F A → A) (places : A → List ℕ) → ((place : ℕ) (op : Op) (a b : A) → places (step (Tree-F.Binary place op a b)) ≡ places a ++ places b)
    → (place : ℕ) (op : Op) (l r tree left right : Tree) (a b new : Option ℕ) → tree ≡ Binary place op l r → left ≡ l → right ≡ r
    → a ≡ lowest (places (fold-Tree A step left)) → b ≡ lowest (places (fold-Tree A step right)) → new ≡ lowest (listed a ++ listed b) → new ≡ lowest (places (fold-Tree A step tree))
lowest-Binary {A} step places both place op l r tree left right a b new is el er ea eb en =
    en
    ∙ ap (λ o. lowest (listed o ++ listed b)) (ea ∙ ap (λ t. lowest (places (fold-Tree A step t))) el)
    ∙ ap (λ o. lowest (listed (lowest (places (fold-Tree A step l))) ++ listed o)) (eb ∙ ap (λ t. lowest (places (fold-Tree A step t))) er)
    ∙ lowest-parts (places (fold-Tree A step l)) (places (fold-Tree A step r))
    ∙ ap lowest (sym (both place op (fold-Tree A step l) (fold-Tree A step r)))
    ∙ ap (λ x. lowest (places x)) (sym (fold-Binary step place op l r))
    ∙ ap (λ t. lowest (places (fold-Tree A step t))) (sym is)

pub ruleset lowest_rules = (lowest-parts)
