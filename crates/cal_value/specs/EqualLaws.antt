-- The tests of equality decide `≡`.
use Rattle.std.specs.Prelude.{◌≡◌, Bool, true, false, ◌==◌, List, refl}
use Rattle.std.specs.Bool.{Decides}
use Rattle.std.specs.Cmp.{IsEquivalence}
use Rattle.std.specs.Cmp.Lexicographic.{pointwise}
use Rattle.std.specs.Ordering.{int_eq}
use Rattle.std.proofs.Common.{sym, ap}
use Rattle.std.proofs.lemmas.Bool.Decides.{Decides-eqb, Decides-int_eq, Decides-like, same_from_decides}
use Rattle.std.proofs.lemmas.Slice.Eq.{slice_eq-Decides}
use Rattle.cal_value.specs.declared.value.Value.{Value}
use Rattle.cal_value.specs.declared.value.Value.TheVariants.{Null, Bool as BoolValue, Int, Text}
use Rattle.cal_value.specs.Equal.{bool_eq, value_eq, row_eq}

pub bool_eq-Decides : (a b : Bool) → Decides (bool_eq a b) (a ≡ b)
bool_eq-Decides true true = (λ _. refl, λ _. refl)
bool_eq-Decides true false = (λ e. absurd (Prim.cc), λ e. absurd (Prim.cc))
bool_eq-Decides false true = (λ e. absurd (Prim.cc), λ e. absurd (Prim.cc))
bool_eq-Decides false false = (λ _. refl, λ _. refl)

pub value_eq-Decides : (a b : Value) → Decides (value_eq a b) (a ≡ b)
value_eq-Decides Null Null = (λ _. refl, λ _. refl)
value_eq-Decides Null (BoolValue y) = (λ e. absurd (Prim.cc), λ e. absurd (Prim.cc))
value_eq-Decides Null (Int y) = (λ e. absurd (Prim.cc), λ e. absurd (Prim.cc))
value_eq-Decides Null (Text y) = (λ e. absurd (Prim.cc), λ e. absurd (Prim.cc))
value_eq-Decides (BoolValue x) Null = (λ e. absurd (Prim.cc), λ e. absurd (Prim.cc))
value_eq-Decides (BoolValue x) (BoolValue y) = Decides-like (bool_eq x y) (ap BoolValue) (λ e. Prim.cc) (bool_eq-Decides x y)
value_eq-Decides (BoolValue x) (Int y) = (λ e. absurd (Prim.cc), λ e. absurd (Prim.cc))
value_eq-Decides (BoolValue x) (Text y) = (λ e. absurd (Prim.cc), λ e. absurd (Prim.cc))
value_eq-Decides (Int x) Null = (λ e. absurd (Prim.cc), λ e. absurd (Prim.cc))
value_eq-Decides (Int x) (BoolValue y) = (λ e. absurd (Prim.cc), λ e. absurd (Prim.cc))
value_eq-Decides (Int x) (Int y) = Decides-like (int_eq x y) (ap Int) (λ e. Prim.cc) (Decides-int_eq x y)
value_eq-Decides (Int x) (Text y) = (λ e. absurd (Prim.cc), λ e. absurd (Prim.cc))
value_eq-Decides (Text x) Null = (λ e. absurd (Prim.cc), λ e. absurd (Prim.cc))
value_eq-Decides (Text x) (BoolValue y) = (λ e. absurd (Prim.cc), λ e. absurd (Prim.cc))
value_eq-Decides (Text x) (Int y) = (λ e. absurd (Prim.cc), λ e. absurd (Prim.cc))
value_eq-Decides (Text x) (Text y) = Decides-like (pointwise ◌==◌ x y) (ap Text) (λ e. Prim.cc) (slice_eq-Decides Decides-eqb x y (pointwise ◌==◌ x y) refl)

pub row_eq-Decides : (a b : List Value) → Decides (row_eq a b) (a ≡ b)
row_eq-Decides a b = slice_eq-Decides value_eq-Decides a b (row_eq a b) refl

pub equivalence_from_Decides : {K : Type 0} (E : K → K → Bool) → ((a b : K) → Decides (E a b) (a ≡ b)) → IsEquivalence E
equivalence_from_Decides E d = record {
  refl = λ x. (d x x).1 refl;
  symm = λ x y. same_from_decides (E x y) (E y x) (d x y) (Decides-like (E y x) sym sym (d y x));
  congr = λ x y z e. ap (λ w. E w z) ((d x y).0 e);
}

pub value_eq_equiv : IsEquivalence value_eq
value_eq_equiv = equivalence_from_Decides value_eq value_eq-Decides
