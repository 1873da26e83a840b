-- Quantifiers over the trees of a SELECT.
use Rattle.std.proofs.Common.{◌≡◌, refl, ap, sym, ◌∙◌, map, Bool, true, false, ◌||◌, List, [], ◌∷◌, ◌++◌}
use Rattle.std.specs.List.{list_any}
use Rattle.sql_tree.specs.declared.select.Item.{Item}
use Rattle.sql_meaning.specs.Parts.{has_aggregate}

pub any-map : {A B : Type 0} (p : B → Bool) (f : A → B) (xs : List A) → list_any p (map f xs) ≡ list_any (λ x. p (f x)) xs
any-map p f [] = refl
any-map p f (x ∷ xs) = ap (λ b. p (f x) || b) (any-map p f xs)

pub has_aggregate-items : (items : List Item) (b : Bool) → b ≡ list_any (λ item. has_aggregate item.tree) items → b ≡ list_any has_aggregate (map (λ item. item.tree) items)
has_aggregate-items items b e = e ∙ sym (any-map has_aggregate (λ (item : Item). item.tree) items)

pub ruleset any_rules = (has_aggregate-items)
