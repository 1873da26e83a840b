-- A tree that means the same in the place of a part.
use Rattle.std.proofs.Common.{◌≡◌, ℕ, ◌+◌, ◌==◌, Bool, true, false, cond, List, [], ◌∷◌, Some, None, refl, sym, ◌∙◌, ap, subst}
use Rattle.std.proofs.lemmas.Option.{same_Some}
use Rattle.cal_schema.specs.declared.database.Db.{Db}
use Rattle.cal_rel.specs.Bag.{bag, width, unary_width, binary_bag}
use Rattle.cal_rel.specs.Info.{Info}
use Rattle.cal_rel.specs.Meaning.{MeansTheSame}
use Rattle.cal_rel.specs.Operators.{Row}
use Rattle.cal_rel.specs.Places.{place, replaced}
use Rattle.cal_rel.specs.Tree.{Unary, Binary, Tree, leaf, unary, binary, hole}
use Rattle.cal_rel.proofs.Totals.{Weighs, weighs-refl, Weighs-from_SameBag, SameBag-from_Weighs}
use Rattle.cal_rel.proofs.SameBags.{same-unary, same-binary}

module _ (info : Info) (db : Db) (holes : ℕ → List Row) where
  abbrev rows : Tree → List Row
  rows t = bag info db holes t

  -- over this database and these rows in the holes
  pub record Alike (a b : Tree) : Type 0 where
    pub columns : width info a ≡ width info b
    pub weight : Weighs (rows a) (rows b)

  alike-refl : (t : Tree) → Alike t t
  alike-refl t = record { columns = refl; weight = weighs-refl (rows t) }

  alike-unary : (u : Unary) (s t : Tree) → Alike s t → Alike (unary u s) (unary u t)
  alike-unary u s t h = record { columns = ap (unary_width u) h.columns; weight = same-unary u (rows s) (rows t) h.weight }

  alike-left : (b : Binary) (r s t : Tree) → Alike r s → Alike (binary b r t) (binary b s t)
  alike-left b r s t h =
      record { columns = ap (λ n. n + width info t) h.columns; weight = same-binary b (width info t) (rows r) (rows s) (rows t) (rows t) h.weight (weighs-refl (rows t)) }

  alike-right : (b : Binary) (r s t : Tree) → Alike s t → Alike (binary b r s) (binary b r t)
  alike-right b r s t h = record {
    columns = ap (λ n. width info r + n) h.columns;
    weight = subst (λ n. Weighs (binary_bag b (width info s) (rows r) (rows s)) (binary_bag b n (rows r) (rows t))) h.columns
        (same-binary b (width info s) (rows r) (rows r) (rows s) (rows t) (weighs-refl (rows r)) h.weight);
  }

  module _ (part new : Tree) (alike : Alike new part) where
    abbrev Put : Tree → List ℕ → Type 0
    Put t path = place t path ≡ Some part → Alike (replaced t path new) t

    put-here : (t : Tree) → Some t ≡ Some part → Alike new t
    put-here t e = subst (Alike new) (sym (same_Some t part e)) alike

    put-unary : (u : Unary) (t : Tree) (path : List ℕ) (b : Bool) → Put t path
        → cond b (place t path) None ≡ Some part → Alike (cond b (unary u (replaced t path new)) (unary u t)) (unary u t)
    put-unary u t path true h e = alike-unary u (replaced t path new) t (h e)
    put-unary u t path false h e = absurd (cc)

    put-binary : (n : Binary) (s t : Tree) (path : List ℕ) (b c : Bool) → Put s path → Put t path
        → cond b (place s path) (cond c (place t path) None) ≡ Some part
        → Alike (cond b (binary n (replaced s path new) t) (cond c (binary n s (replaced t path new)) (binary n s t))) (binary n s t)
    put-binary n s t path true c h k e = alike-left n (replaced s path new) s t (h e)
    put-binary n s t path false true h k e = alike-right n s (replaced t path new) t (k e)
    put-binary n s t path false false h k e = absurd (cc)

    pub put : (t : Tree) (path : List ℕ) → Put t path
    put (leaf l) [] e = put-here (leaf l) e
    put (leaf l) (k ∷ path) e = absurd (cc)
    put (unary u t) [] e = put-here (unary u t) e
    put (unary u t) (k ∷ path) e = put-unary u t path (k == 0) (put t path) e
    put (binary b s t) [] e = put-here (binary b s t) e
    put (binary b s t) (k ∷ path) e = put-binary b s t path (k == 0) (k == 1) (put s path) (put t path) e
    put (hole set) [] e = put-here (hole set) e
    put (hole set) (k ∷ path) e = absurd (cc)

abbrev WidthPut : Info → Tree → Tree → List ℕ → Type 0
WidthPut info new t path = width info (replaced t path new) ≡ width info t

width-unary : (info : Info) (part new : Tree) (u : Unary) (t : Tree) (path : List ℕ) (b : Bool) → (place t path ≡ Some part → WidthPut info new t path)
    → cond b (place t path) None ≡ Some part → width info (cond b (unary u (replaced t path new)) (unary u t)) ≡ unary_width u (width info t)
width-unary info part new u t path true h e = ap (unary_width u) (h e)
width-unary info part new u t path false h e = absurd (cc)

width-binary : (info : Info) (part new : Tree) (n : Binary) (s t : Tree) (path : List ℕ) (b c : Bool)
    → (place s path ≡ Some part → WidthPut info new s path) → (place t path ≡ Some part → WidthPut info new t path)
    → cond b (place s path) (cond c (place t path) None) ≡ Some part
    → width info (cond b (binary n (replaced s path new) t) (cond c (binary n s (replaced t path new)) (binary n s t))) ≡ width info s + width info t
width-binary info part new n s t path true c h k e = ap (λ m. m + width info t) (h e)
width-binary info part new n s t path false true h k e = ap (λ m. width info s + m) (k e)
width-binary info part new n s t path false false h k e = absurd (cc)

width-here : (info : Info) (part new t : Tree) → width info new ≡ width info part → Some t ≡ Some part → width info new ≡ width info t
width-here info part new t w e = w ∙ ap (width info) (sym (same_Some t part e))

pub width-replaced : (info : Info) (part new : Tree) → width info new ≡ width info part → (t : Tree) (path : List ℕ) → place t path ≡ Some part → WidthPut info new t path
width-replaced info part new w (leaf l) [] e = width-here info part new (leaf l) w e
width-replaced info part new w (leaf l) (k ∷ path) e = absurd (cc)
width-replaced info part new w (unary u t) [] e = width-here info part new (unary u t) w e
width-replaced info part new w (unary u t) (k ∷ path) e = width-unary info part new u t path (k == 0) (width-replaced info part new w t path) e
width-replaced info part new w (binary b s t) [] e = width-here info part new (binary b s t) w e
width-replaced info part new w (binary b s t) (k ∷ path) e =
    width-binary info part new b s t path (k == 0) (k == 1) (width-replaced info part new w s path) (width-replaced info part new w t path) e
width-replaced info part new w (hole set) [] e = width-here info part new (hole set) w e
width-replaced info part new w (hole set) (k ∷ path) e = absurd (cc)

pub replaced-means : (info : Info) (tree part new : Tree) (path : List ℕ) → place tree path ≡ Some part → MeansTheSame info new part → MeansTheSame info (replaced tree path new) tree
replaced-means info tree part new path at same = record {
  columns = width-replaced info part new same.columns tree path at;
  rows = λ db holes fits true_of.
      SameBag-from_Weighs (bag info db holes (replaced tree path new)) (bag info db holes tree)
      ((put info db holes part new (record { columns = same.columns; weight = Weighs-from_SameBag (bag info db holes new) (bag info db holes part) (same.rows db holes fits true_of) }) tree path at).weight);
}
