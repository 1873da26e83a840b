-- The empty tree in the place of another: it has no rows and no sets, and is the same over narrower types. For proofs alone.
use Rattle.std.proofs.Common.{◌≡◌, ℕ, false, List, [], ◌∷◌, map, Some, refl, sym, ◌∙◌, ap, subst}
use mathlib.Core.Path.{ap₂}
use Rattle.std.specs.Prelude.{count_by}
use Rattle.std.specs.Option.{option_map}
use Rattle.cal_value.specs.declared.kind.Kind.{Kind}
use Rattle.cal_value.specs.declared.kind.SqlType.{SqlType}
use Rattle.cal_value.specs.Equal.{row_eq}
use Rattle.cal_value.specs.Order.{SameBag}
use Rattle.cal_value.specs.Types.{AreAtMostAsWide}
use Rattle.cal_schema.specs.declared.database.Db.{Db}
use Rattle.cal_schema.specs.declared.rel_type.RelType.{RelType}
use Rattle.cal_schema.specs.Valid.{IsValidSchema}
use Rattle.cal_rel.specs.Bag.{bag}
use Rattle.cal_rel.specs.Holes.{renumbered, EachHole, Narrows}
use Rattle.cal_rel.specs.Info.{Info}
use Rattle.cal_rel.specs.Operators.{Row}
use Rattle.cal_rel.specs.Tree.{Tree, leaf, empty_of}
use Rattle.cal_rel.specs.Typing.{type_of}
use Rattle.cal_rel.proofs.Narrower.{type-narrow}
use Rattle.cal_rel.proofs.TrueTypes.{option_map-some}
use Rattle.project_images.specs.Empties.{no_interval, empty_column, empty_with, empty_for}

-- the very rows are the same bag
pub same-rows : (a b : List Row) → a ≡ b → SameBag a b
same-rows a b e = λ r. ap (count_by (row_eq r)) e

-- ---- what it is

pub record IsEmptyFor (info : Info) (rel out : Tree) : Type 0 where
  pub type : RelType
  pub typed : type_of info rel ≡ Some type
  pub is : empty_with type.columns ≡ out

pub empty-is : (info : Info) (rel out : Tree) → empty_for info rel ≡ Some out → IsEmptyFor info rel out
empty-is info rel out e =
    let m = option_map-some (λ (t : RelType). empty_with t.columns) (type_of info rel) out e in
    record { type = m.from; typed = m.found; is = m.is }

pub empty-sets : (info : Info) (rel out : Tree) (P : ℕ → Type 0) → empty_for info rel ≡ Some out → EachHole P out
empty-sets info rel out P e = subst (EachHole P) (empty-is info rel out e).is tt

pub empty-rows : (info : Info) (rel out : Tree) (db : Db) (holes : ℕ → List Row) → empty_for info rel ≡ Some out → bag info db holes out ≡ []
empty-rows info rel out db holes e = ap (bag info db holes) (sym (empty-is info rel out e).is)

-- ---- over narrower types

column-same : (s t : SqlType) → s.kind ≡ t.kind → empty_column s ≡ empty_column t
column-same s t e = ap (λ (k : Kind). record { kind = k; nullable = false; interval = no_interval k }) e

columns-same : (ss ts : List SqlType) → AreAtMostAsWide ss ts → map empty_column ss ≡ map empty_column ts
columns-same [] [] h = refl
columns-same [] (t ∷ ts) h = absurd h
columns-same (s ∷ ss) [] h = absurd h
columns-same (s ∷ ss) (t ∷ ts) h = ap₂ (λ (c : SqlType) cs. c ∷ cs) (column-same s t h.0.kind) (columns-same ss ts h.1)

pub empty-steady : (m : ℕ → ℕ) (from to : Info) (rel out : Tree) → IsValidSchema from.schema → Narrows m from to → empty_for from rel ≡ Some out
    → empty_for to (renumbered m rel) ≡ Some (renumbered m out)
empty-steady m from to rel out valid narrows e =
    let is = empty-is from rel out e in
    let narrow = type-narrow m from to rel is.type valid narrows is.typed in
    ap (option_map (λ (t : RelType). empty_with t.columns)) narrow.is
    ∙ ap (λ cs. Some (leaf (empty_of cs))) (columns-same narrow.found.columns is.type.columns narrow.within.columns)
    ∙ ap (λ t. Some (renumbered m t)) is.is
