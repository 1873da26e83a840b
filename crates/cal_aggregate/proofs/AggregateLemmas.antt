-- Aggregates: the ends that the code computes, and that their values are of their types.
use Rattle.std.proofs.Common.{◌≡◌, refl, ap, ◌∙◌, sym, arith, ℕ, ℤ, pos, ◌*ℤ◌, max}
use Rattle.std.specs.Int.{int_min, int_max, w128}
use Rattle.std.specs.Int.RustNames.{FitsSigned}
use Rattle.std.proofs.lemmas.Int.{ints, clamps, to_z-of_z}
use Rattle.cal_value.specs.declared.interval.Interval.{Interval}
use Rattle.cal_value.specs.declared.interval.Interval.TheVariants.{Never, Range}
use Rattle.cal_aggregate.specs.ResultType.{row_bound, sums, with_zero}
use Rattle.cal_value.specs.Interval.{cut, cut_ends}
use Rattle.cal_value.proofs.IntervalLemmas.{number_type-cut_ends, cut-int_min, cut-int_max, read}

-- ---- ends

cut-zero : cut (pos 0) ≡ pos 0
cut-zero = refl

pub with_zero-cut_ends : (i : Interval) → with_zero (cut_ends i) ≡ cut_ends (with_zero i)
with_zero-cut_ends Never = refl
with_zero-cut_ends (Range lo hi) =
    sym (ap (λ z. Range z (cut (int_max hi (pos 0)))) (cut-int_min lo (pos 0)) ∙ ap (Range (int_min (cut lo) (pos 0))) (cut-int_max hi (pos 0)))

pub least_at : (lo rows p q r : ℤ) → FitsSigned w128 lo → FitsSigned w128 rows → FitsSigned w128 p → FitsSigned w128 q → FitsSigned w128 r
    → p ≡ cut (read lo *ℤ read rows) → q ≡ cut (read lo) → r ≡ int_min (read q) (read p) → read r ≡ cut (int_min lo (lo *ℤ rows))
least_at lo rows p q r fl fn fp fq fr ep eq er =
    let ep' : p ≡ cut (lo *ℤ rows) = simp to_z-of_z at ep in
    let eq' : q ≡ cut lo = simp to_z-of_z at eq in
    let er' : r ≡ int_min q p = simp to_z-of_z at er in
    simp to_z-of_z (er' ∙ rw (eq', ep') (sym (cut-int_min lo (lo *ℤ rows))))

pub greatest_at : (hi rows p q r : ℤ) → FitsSigned w128 hi → FitsSigned w128 rows → FitsSigned w128 p → FitsSigned w128 q → FitsSigned w128 r
    → p ≡ cut (read hi *ℤ read rows) → q ≡ cut (read hi) → r ≡ int_max (read q) (read p) → read r ≡ cut (int_max hi (hi *ℤ rows))
greatest_at hi rows p q r fl fn fp fq fr ep eq er =
    let ep' : p ≡ cut (hi *ℤ rows) = simp to_z-of_z at ep in
    let eq' : q ≡ cut hi = simp to_z-of_z at eq in
    let er' : r ≡ int_max q p = simp to_z-of_z at er in
    simp to_z-of_z (er' ∙ rw (eq', ep') (sym (cut-int_max hi (hi *ℤ rows))))

at_least_one : (n : ℕ) (m k : ℤ) → FitsSigned w128 m → m ≡ pos n → k ≡ int_max (read m) (pos 1) → k ≡ pos (max n 1)
at_least_one n m k f e h =
    let h' : k ≡ int_max m (pos 1) = simp to_z-of_z at h in
    h' ∙ ap (λ z. int_max z (pos 1)) e ∙ omega (arith, ints, clamps)

pub sums_at : (n : ℕ) (lo hi m k p q : ℤ) → FitsSigned w128 lo → FitsSigned w128 hi → FitsSigned w128 m → FitsSigned w128 k → FitsSigned w128 p → FitsSigned w128 q
    → m ≡ pos (row_bound n) → k ≡ int_max (read m) (pos 1) → p ≡ cut (int_min (read lo) (read lo *ℤ read k)) → q ≡ cut (int_max (read hi) (read hi *ℤ read k))
    → Range (read p) (read q) ≡ cut_ends (sums n (Range lo hi))
sums_at n lo hi m k p q fl fh fm fk fp fq em ek ep eq =
    let k' : k ≡ pos (max (row_bound n) 1) = at_least_one (row_bound n) m k fm em ek in
    let ep' : p ≡ cut (int_min lo (lo *ℤ k)) = simp to_z-of_z at ep in
    let eq' : q ≡ cut (int_max hi (hi *ℤ k)) = simp to_z-of_z at eq in
    simp to_z-of_z (ap (λ z. Range z q) (ep' ∙ ap (λ z. cut (int_min lo (lo *ℤ z))) k') ∙ ap (Range (cut (int_min lo (lo *ℤ pos (max (row_bound n) 1))))) (eq' ∙ ap (λ z. cut (int_max hi (hi *ℤ z))) k'))

pub ruleset sum_rules = (number_type-cut_ends, with_zero-cut_ends)
