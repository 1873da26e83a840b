-- What the types of trees say of other rows and other types, and of the sets that a tree names.
use Rattle.std.proofs.Common.{◌≡◌, ℕ, List, Some, arith}
use Rattle.std.proofs.lemmas.List.Elements.{All-weaker}
use Rattle.cal_value.specs.Order.{SameBag}
use Rattle.cal_value.specs.Types.{HasTypes}
use Rattle.cal_value.proofs.BagLemmas.{IsPermutation-from_SameBag}
use Rattle.cal_value.proofs.TypeLaws.{wider-has_types}
use Rattle.cal_schema.specs.declared.rel_type.RelType.{RelType}
use Rattle.cal_schema.specs.RelType.{IsTrueOf, IsWithin}
use Rattle.cal_rel.specs.Holes.{EachHole}
use Rattle.cal_rel.specs.Info.{Info, set_at}
use Rattle.cal_rel.specs.Operators.{Row}
use Rattle.cal_rel.specs.Tree.{Tree, leaf, unary, binary, hole}
use Rattle.cal_rel.specs.Typing.{type_of, unary_type, binary_type}
use Rattle.cal_rel.proofs.Totals.{Weighs-from_SameBag, same-length}
use Rattle.cal_rel.proofs.RowLemmas.{of_both-some}
use Rattle.cal_rel.proofs.TrueTypes.{and_then-some}
use Rattle.std.proofs.lemmas.List.Sorted.{All-permutation}

pub true-same : (t : RelType) (a b : List Row) → SameBag a b → IsTrueOf t a → IsTrueOf t b
true-same t a b h k = record {
  typed = All-permutation (λ row. HasTypes row t.columns) a b (IsPermutation-from_SameBag a b h) k.typed;
  few = λ l. let few = k.few l in omega (arith, same-length a b (Weighs-from_SameBag a b h));
}

pub true-wider : (s t : RelType) (rows : List Row) → IsWithin s t → IsTrueOf s rows → IsTrueOf t rows
true-wider s t rows w h = record {
  typed = All-weaker (λ row. HasTypes row s.columns) (λ row. HasTypes row t.columns) (λ row k. wider-has_types row s.columns t.columns w.columns k) rows h.typed;
  few = λ l. let b = w.bound in let few = h.few (omega arith) in omega arith;
}

-- the set is there
abbrev pub IsTyped : Info → ℕ → Type 0
IsTyped info set = (s : RelType) × (set_at info.sets set ≡ Some s)

pub typed-holes : (info : Info) (tree : Tree) (t : RelType) → type_of info tree ≡ Some t → EachHole (IsTyped info) tree
typed-holes info (leaf l) t e = tt
typed-holes info (unary n x) t e =
    let m = and_then-some (unary_type n) (type_of info x) t e in
    typed-holes info x m.from m.found
typed-holes info (binary n a b) t e =
    let m = of_both-some (binary_type info n a b) (type_of info a) (type_of info b) t e in
    (typed-holes info a m.first m.first_is, typed-holes info b m.second m.second_is)
typed-holes info (hole set) t e = (t, e)
