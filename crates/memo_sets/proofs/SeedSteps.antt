-- Seeds by their numbers, and lists with one more.
use Rattle.std.proofs.Common.{◌≡◌, ℕ, ◌<◌, ◌≤◌, ◌-◌, List, [], ◌∷◌, ◌++◌, map, length, get_or, take, drop, suc, Option, Some, None, refl, sym, ◌∙◌, ap, append_assoc, arith}
use Rattle.std.specs.Prelude.{slice_get, remove}
use Rattle.std.specs.Option.{unwrap_or, option_map}
use Rattle.std.proofs.Math.Seq.{get_or-append_right}
use Rattle.std.proofs.lemmas.List.{map_push, map-append, take-map, drop-map, length-map, get_or_append_left, append-nil}
use Rattle.std.proofs.lemmas.Option.{slice_get-map, unwrap_or-slice_get}
use Rattle.cal_rel.specs.declared.rel.Rel.{Rel}
use Rattle.cal_rel.specs.declared.rel.Rel.TheVariants as r
use Rattle.cal_rel.specs.Tree.{Tree, hole, tree_of}
use Rattle.cal_rel.proofs.TreeSteps.{tree-Hole}
use Rattle.memo_model.specs.Sets.{seed_at}

-- the seed at a place of a list

copy_get : (seeds : List Rel) (at : ℕ) (d : Tree) → get_or (map tree_of seeds) at d ≡ unwrap_or (option_map tree_of (slice_get seeds at)) d
copy_get seeds at d = sym (unwrap_or-slice_get (map tree_of seeds) at d) ∙ ap (λ o. unwrap_or o d) (slice_get-map tree_of seeds at)

pub copy-some : (seeds : List Rel) (at set : ℕ) (x : Rel) → slice_get seeds at ≡ Some x → tree_of x ≡ get_or (map tree_of seeds) at (hole set)
copy-some seeds at set x e = sym (copy_get seeds at (hole set) ∙ ap (λ o. unwrap_or (option_map tree_of o) (hole set)) e)

pub copy-none : (seeds : List Rel) (at set : ℕ) → slice_get seeds at ≡ None → tree_of (r.Hole set) ≡ get_or (map tree_of seeds) at (hole set)
copy-none seeds at set e = tree-Hole set ∙ sym (copy_get seeds at (hole set) ∙ ap (λ o. unwrap_or (option_map tree_of o) (hole set)) e)

pub ruleset copy_steps = (copy-some, copy-none)

-- of one list behind another

pub seed-first : (xs ys : List Rel) (k : ℕ) → k < length xs → get_or (map tree_of xs) k (hole k) ≡ seed_at (map tree_of xs ++ map tree_of ys) k
unfolding seed_at
seed-first xs ys k l = let n = length-map xs tree_of in sym (get_or_append_left (map tree_of xs) (map tree_of ys) (hole k) k (omega arith))

pub seed-second : (xs ys : List Rel) (k : ℕ) → length xs ≤ k → get_or (map tree_of ys) (k - length xs) (hole k) ≡ seed_at (map tree_of xs ++ map tree_of ys) k
unfolding seed_at
seed-second xs ys k l =
    let n = length-map xs tree_of in
    ap (λ m. get_or (map tree_of ys) (k - m) (hole k)) (sym n) ∙ sym (get_or-append_right (map tree_of xs) (map tree_of ys) k (hole k) (omega arith))

pub ruleset seed_steps = (seed-first, seed-second)

-- one more

pub push_behind : {A B : Type 0} (f : A → B) (xs : List B) (ys : List A) (y : A) → xs ++ map f (ys ++ y ∷ []) ≡ (xs ++ map f ys) ++ f y ∷ []
push_behind f xs ys y = ap (λ zs. xs ++ zs) (map_push f ys y) ∙ sym (append_assoc xs (map f ys) (f y ∷ []))

pub push_last : {A : Type 0} (xs ys : List A) (y : A) → xs ++ (ys ++ y ∷ []) ≡ (xs ++ ys) ++ y ∷ []
push_last xs ys y = sym (append_assoc xs ys (y ∷ []))

pub ruleset push_steps = (map_push, push_behind, push_last)

pub map-remove : {A B : Type 0} (f : A → B) (xs : List A) (j : ℕ) → map f (remove xs j) ≡ remove (map f xs) j
map-remove f xs j = rw (map-append f (take j xs) (drop (suc j) xs), take-map f j xs, drop-map f (suc j) xs) refl

pub ruleset remove_steps = (map-remove, length-map)

pub ruleset draft_steps = (append-nil, map-append)
