-- How a loop over the elements of a fold goes on.
use Rattle.std.proofs.Common.{◌≡◌, ℕ, ◌+◌, ◌<◌, ◌≤◌, List, length, get_or, drop}
use Rattle.std.specs.List.{fold}
use Rattle.std.proofs.Math.Seq.{drop-cons}
use Rattle.std.proofs.Math.Numerals.{add-one}
use Rattle.std.proofs.lemmas.List.{drop_all}

module _ {A B : Type 0} (f : B → A → B) where
  pub fold-next : (d : B) (xs : List A) (i : ℕ) (x : A) → i < length xs → x ≡ get_or xs i x → fold f d (drop i xs) ≡ fold f (f d x) (drop (i + 1) xs)
  fold-next d xs i x h e = rw (drop-cons xs i x h, ← e, add-one)

  pub fold-end : (d : B) (xs : List A) (i : ℕ) → length xs ≤ i → fold f d (drop i xs) ≡ d
  fold-end d xs i h = rw (drop_all i xs h)

pub ruleset fold_steps = (fold-next, fold-end)
