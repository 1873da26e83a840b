-- How a rule of width 1 is shown lawful. For proofs alone.
use Rattle.std.proofs.Common.{◌≡◌, ℕ, ◌≤◌, ◌==◌, Bool, true, false, cond, ◌&&◌, List, [], ◌∷◌, length, Option, Some, None, refl, sym, ◌∙◌, ap, subst, arith}
use mathlib.Core.Path.{ap₂}
use Rattle.std.specs.Cmp.Lexicographic.{pointwise}
use Rattle.cal_value.specs.declared.kind.Kind.{Kind}
use Rattle.cal_value.specs.declared.kind.Kind.TheVariants.{Boolean, Integer, Text as TextKind}
use Rattle.cal_value.specs.declared.kind.SqlType.{SqlType}
use Rattle.cal_value.specs.Types.{same_kind, AreAtMostAsWide}
use Rattle.cal_value.proofs.TypeLemmas.{split_if, and-both, same_kind-is, some_is}
use Rattle.cal_schema.specs.declared.rel_type.RelType.{RelType}
use Rattle.cal_schema.specs.RelType.{kinds_of}
use Rattle.cal_schema.specs.Valid.{IsValidSchema}
use Rattle.cal_rel.specs.Holes.{renumbered, Narrows}
use Rattle.cal_rel.specs.Info.{Info}
use Rattle.cal_rel.specs.Tree.{Tree}
use Rattle.cal_rel.specs.Typing.{type_of}
use Rattle.cal_rel.proofs.Narrower.{type-narrow}
use Rattle.cal_rel.proofs.TrueTypes.{type-width}
use Rattle.rule_hep.specs.Law.{StandsFor, IsLawful}
use Rattle.rule_hep.specs.Local.{same_columns, kept, local_image, one, IsLocal}

-- ---- kinds of columns

pub kinds-same : (a b : List Kind) → pointwise same_kind a b ≡ true → a ≡ b
kinds-same [] [] e = refl
kinds-same [] (l ∷ b) e = absurd (cc)
kinds-same (k ∷ a) [] e = absurd (cc)
kinds-same (k ∷ a) (l ∷ b) e =
    let both = and-both (same_kind k l) (pointwise same_kind a b) e in
    ap₂ (λ m c. m ∷ c) (same_kind-is k l both.0) (kinds-same a b both.1)

itself : (k : Kind) → same_kind k k ≡ true
itself Boolean = refl
itself Integer = refl
itself TextKind = refl

same-kinds : (a : List Kind) → pointwise same_kind a a ≡ true
same-kinds [] = refl
same-kinds (k ∷ a) = ap₂ (λ p q. p && q) (itself k) (same-kinds a)

pub wide-kinds : (ss ts : List SqlType) → AreAtMostAsWide ss ts → kinds_of ss ≡ kinds_of ts
wide-kinds [] [] h = refl
wide-kinds [] (t ∷ ts) h = absurd h
wide-kinds (s ∷ ss) [] h = absurd h
wide-kinds (s ∷ ss) (t ∷ ts) h = ap₂ (λ (k : Kind) ks. k ∷ ks) h.0.kind (wide-kinds ss ts h.1)

kinds-length : (ss : List SqlType) → length (kinds_of ss) ≡ length ss
kinds-length [] = refl
kinds-length (s ∷ ss) = grind (arith, kinds-length ss)

pub kinds-long : (ss ts : List SqlType) → kinds_of ss ≡ kinds_of ts → length ss ≡ length ts
kinds-long ss ts e = sym (kinds-length ss) ∙ ap length e ∙ kinds-length ts

-- ---- what is kept

-- both are well formed, with columns of the same kinds
pub record IsKept (info : Info) (rel out : Tree) (made : Option Tree) : Type 0 where
  pub own : RelType
  pub other : RelType
  pub well_formed : type_of info out ≡ Some own
  pub over : type_of info rel ≡ Some other
  pub kinds : kinds_of own.columns ≡ kinds_of other.columns
  pub is : made ≡ Some out

kept-by : (info : Info) (rel made out : Tree) (o p : Option RelType) → type_of info made ≡ o → type_of info rel ≡ p
    → cond (same_columns o p) (Some made) None ≡ Some out → IsKept info rel out (Some made)
kept-by info rel made out None None f g e = absurd (cc)
kept-by info rel made out None (Some t) f g e = absurd (cc)
kept-by info rel made out (Some s) None f g e = absurd (cc)
kept-by info rel made out (Some s) (Some t) f g e =
    let both = split_if (pointwise same_kind (kinds_of s.columns) (kinds_of t.columns)) (Some made) out e in
    record {
      own = s;
      other = t;
      well_formed = subst (λ x. type_of info x ≡ Some s) (some_is made out both.1) f;
      over = g;
      kinds = kinds-same (kinds_of s.columns) (kinds_of t.columns) both.0;
      is = both.1;
    }

pub kept-some : (info : Info) (rel out : Tree) (made : Option Tree) → kept info rel made ≡ Some out → IsKept info rel out made
kept-some info rel out None e = absurd (cc)
kept-some info rel out (Some tree) e = kept-by info rel tree out (type_of info tree) (type_of info rel) refl refl e

same_columns-true : (o p : Option RelType) (s t : RelType) → o ≡ Some s → p ≡ Some t → kinds_of s.columns ≡ kinds_of t.columns → same_columns o p ≡ true
same_columns-true o p s t e f k =
    ap₂ same_columns e f ∙ ap (λ a. pointwise same_kind a (kinds_of t.columns)) k ∙ same-kinds (kinds_of t.columns)

pub kept-is : (info : Info) (rel out : Tree) (s t : RelType) → type_of info out ≡ Some s → type_of info rel ≡ Some t → kinds_of s.columns ≡ kinds_of t.columns
    → kept info rel (Some out) ≡ Some out
kept-is info rel out s t e f k = ap (λ b. cond b (Some out) None) (same_columns-true (type_of info out) (type_of info rel) s t e f k)

-- ---- images at 0

at-zero : (n : ℕ) (b : Bool) (o : Option Tree) (out : Tree) → (n == 0) ≡ b → cond b o None ≡ Some out → (n ≡ 0) × (o ≡ Some out)
at-zero n true o out h e = (grind arith, e)
at-zero n false o out h e = absurd (cc)

from-one : (n : ℕ) (o : Option Tree) → 1 ≤ n → cond (n == 0) o None ≡ None
from-one n o h = grind arith

image-some : (rewrite : Info → Tree → Option Tree) (info : Info) (rel out : Tree) (n : ℕ) → local_image rewrite info rel n ≡ Some out
    → (n ≡ 0) × IsKept info rel out (rewrite info rel)
image-some rewrite info rel out n e =
    let found = at-zero n (n == 0) (kept info rel (rewrite info rel)) out refl e in
    (found.0, kept-some info rel out (rewrite info rel) found.1)

image-is : (rewrite : Info → Tree → Option Tree) (info : Info) (rel out : Tree) (n : ℕ) (s t : RelType) → n ≡ 0 → rewrite info rel ≡ Some out
    → type_of info out ≡ Some s → type_of info rel ≡ Some t → kinds_of s.columns ≡ kinds_of t.columns → local_image rewrite info rel n ≡ Some out
image-is rewrite info rel out n s t zero is e f k =
    ap (local_image rewrite info rel) zero ∙ ap (kept info rel) is ∙ kept-is info rel out s t e f k

-- ---- the law

stands : (rewrite : Info → Tree → Option Tree) → IsLocal rewrite → (info : Info) (rel out : Tree) (n : ℕ) → local_image rewrite info rel n ≡ Some out → StandsFor info out rel
stands rewrite is info rel out n e =
    let found = (image-some rewrite info rel out n e).1 in
    record {
      own = found.own;
      other = found.other;
      well_formed = found.well_formed;
      over = found.over;
      kinds = found.kinds;
      sets = λ p. is.sets info rel out p found.is;
      means = record {
        columns = sym (type-width info out found.own found.well_formed) ∙ kinds-long found.own.columns found.other.columns found.kinds ∙ type-width info rel found.other found.over;
        rows = λ db holes fits true_of. is.means info rel out found.other found.own found.over found.well_formed found.is db holes fits true_of;
      };
    }

steady : (rewrite : Info → Tree → Option Tree) → IsLocal rewrite → (m : ℕ → ℕ) (from to : Info) (rel out : Tree) (n : ℕ) → IsValidSchema from.schema → Narrows m from to
    → local_image rewrite from rel n ≡ Some out → local_image rewrite to (renumbered m rel) n ≡ Some (renumbered m out)
steady rewrite is m from to rel out n valid narrows e =
    let some = image-some rewrite from rel out n e in
    let found = some.1 in
    let own = type-narrow m from to out found.own valid narrows found.well_formed in
    let other = type-narrow m from to rel found.other valid narrows found.over in
    image-is rewrite to (renumbered m rel) (renumbered m out) n own.found other.found some.0
    (is.steady m from to rel out found.other valid narrows found.over found.is) own.is other.is
    (wide-kinds own.found.columns found.own.columns own.within.columns ∙ found.kinds ∙ sym (wide-kinds other.found.columns found.other.columns other.within.columns))

-- a local rewrite, kept where types are, is lawful
pub lawful_local : (rewrite : Info → Tree → Option Tree) → IsLocal rewrite → IsLawful one (local_image rewrite)
lawful_local rewrite is = record {
  below_width = λ info rel n h. from-one n (kept info rel (rewrite info rel)) h;
  fixed_width = λ from to h. refl;
  stands = stands rewrite is;
  steady = steady rewrite is;
}
