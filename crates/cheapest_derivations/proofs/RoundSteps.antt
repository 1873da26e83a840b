-- The steps of a round.
use Rattle.std.proofs.Common.{◌≡◌, ℕ, zero, suc, ◌+◌, ◌<◌, ◌≤◌, ⊎_elim, List, [], ◌∷◌, ◌++◌, length, replicate, Option, Some, None, refl, sym, ◌∙◌, subst, arith, set}
use Rattle.std.specs.List.{slice_get}
use Rattle.std.proofs.lemmas.Option.{slice_get_within}
use Rattle.std.proofs.lemmas.Bool.{cases_eq}
use Rattle.std.proofs.lemmas.List.{length-set, length_push}
use Rattle.cheapest_derivations.specs.declared.table.Edge.{Edge}
use Rattle.cheapest_derivations.specs.declared.table.Cell.{Cell}
use Rattle.cheapest_derivations.specs.declared.table.Step.{Step}
use Rattle.cheapest_derivations.specs.Offers.{cell_at, offered}
use Rattle.cheapest_derivations.specs.Tables.{IsSound, AreSettled}
use Rattle.cheapest_derivations.specs.Offers.{step_for}
use Rattle.cheapest_derivations.proofs.Sound.{sound-record}

-- none of the edges from n on offers less
pub record IsSettledFrom (limit : ℕ) (edges : List Edge) (cells : List (Option Cell)) (n : ℕ) : Type 0 where
  pub settled : (k : ℕ) (edge : Edge) → n ≤ k → slice_get edges k ≡ Some edge → offered limit cells edge ≡ None

-- what a round keeps, from a table with `wide` cells and `long` steps: with n edges left
pub record Goes (limit : ℕ) (edges : List Edge) (wide long : ℕ) (cells : List (Option Cell)) (steps : List Step) (n : ℕ) : Type 0 where
  pub len : length cells ≡ wide
  pub sound : IsSound limit edges cells steps
  pub grown : long ≤ length steps
  pub settled : long ≡ length steps → IsSettledFrom limit edges cells n

pub none-settled : (limit : ℕ) (edges : List Edge) (cells : List (Option Cell)) → IsSettledFrom limit edges cells (length edges)
none-settled limit edges cells = record { settled = λ k edge low got. let high : k < length edges = slice_get_within edges k edge got in absurd (omega arith) }

pub more-settled : (limit : ℕ) (edges : List Edge) (cells : List (Option Cell)) (n : ℕ) (edge : Edge) → IsSettledFrom limit edges cells (n + 1)
    → slice_get edges n ≡ Some edge → offered limit cells edge ≡ None → IsSettledFrom limit edges cells n
more-settled limit edges cells n edge above got none = record {
  settled = λ k other low is. ⊎_elim
      (λ same. let e : other ≡ edge = cc in subst (λ x. offered limit cells x ≡ None) (sym e) none)
      (λ apart. above.settled k other (omega arith) is)
      (cases_eq k n);
}

pub all-settled : (limit : ℕ) (edges : List Edge) (cells : List (Option Cell)) (n : ℕ) → IsSettledFrom limit edges cells n → n ≤ 0 → AreSettled limit edges cells
all-settled limit edges cells n from least = record { settled = λ k edge got. from.settled k edge (omega arith) got }

pub cells-none : (n s : ℕ) → cell_at (replicate n None) s ≡ None
cells-none zero s = refl
cells-none (suc n) zero = refl
cells-none (suc n) (suc s) = cells-none n s

-- an empty table is sound
pub none-sound : (limit : ℕ) (edges : List Edge) (n : ℕ) → IsSound limit edges (replicate n None) []
none-sound limit edges n = record {
  held = λ s c is. let e : cell_at (replicate n None) s ≡ None = cells-none n s in absurd cc;
  ordered = record { edge = λ k x got. absurd cc; first = λ k x got. absurd cc; second = λ k x got. absurd cc };
}

pub goes-offer : (limit : ℕ) (edges : List Edge) (wide long : ℕ) (cells : List (Option Cell)) (steps : List Step) (n : ℕ) (edge : Edge) (cost : ℕ)
    → Goes limit edges wide long cells steps (n + 1) → slice_get edges n ≡ Some edge → offered limit cells edge ≡ Some cost → edge.target < wide
    → Goes limit edges wide long (set cells edge.target (Some (record { cost = cost; place = length steps }))) (steps ++ step_for cells n edge ∷ []) n
goes-offer limit edges wide long cells steps n edge cost goes got offer within =
    let here : edge.target < length cells = subst (λ w. edge.target < w) (sym goes.len) within in
    record {
      len = length-set cells edge.target (Some (record { cost = cost; place = length steps })) ∙ goes.len;
      sound = sound-record limit edges cells steps goes.sound n edge cost got offer here;
      grown = let e = length_push steps (step_for cells n edge) in let h = goes.grown in omega arith;
      settled = λ same. let e = length_push steps (step_for cells n edge) in let h = goes.grown in absurd (omega arith);
    }

pub goes-none : (limit : ℕ) (edges : List Edge) (wide long : ℕ) (cells : List (Option Cell)) (steps : List Step) (n : ℕ) (edge : Edge)
    → Goes limit edges wide long cells steps (n + 1) → slice_get edges n ≡ Some edge → offered limit cells edge ≡ None
    → Goes limit edges wide long cells steps n
goes-none limit edges wide long cells steps n edge goes got none = record {
  len = goes.len;
  sound = goes.sound;
  grown = goes.grown;
  settled = λ same. more-settled limit edges cells n edge (goes.settled same) got none;
}

pub goes-end : (limit : ℕ) (edges : List Edge) (wide long : ℕ) (cells : List (Option Cell)) (steps : List Step) (n : ℕ)
    → Goes limit edges wide long cells steps n → n ≤ 0 → long ≡ length steps → AreSettled limit edges cells
goes-end limit edges wide long cells steps n goes all same = all-settled limit edges cells n (goes.settled same) all

pub goes-start : (limit : ℕ) (edges : List Edge) (cells : List (Option Cell)) (steps : List Step) → IsSound limit edges cells steps
    → Goes limit edges (length cells) (length steps) cells steps (length edges)
goes-start limit edges cells steps sound = record { len = refl; sound = sound; grown = omega arith; settled = λ same. none-settled limit edges cells }
