-- Places and types of columns among those of all entries.
use Rattle.std.proofs.Common.{◌≡◌, ◌<◌, ◌≤◌, ◌+◌, ◌∙◌, ℕ, zero, suc, Bool, true, false, cond, refl, ap, sym, arith, add_assoc, zero-add, add-one, append-nil, length-append, drop-cons, List, [], ◌∷◌, ◌++◌, length, map, drop, get_or, Option, Some, None, option_map, unwrap_or, slice_get, IfSome}
use Rattle.std.specs.Prelude.{position}
use Rattle.std.specs.Option.{option_and_then}
use Rattle.std.proofs.lemmas.List.{length-map}
use Rattle.std.proofs.Math.ListN.{drop_of_length-le}
use Rattle.cal_value.specs.declared.kind.SqlType.{SqlType}
use Rattle.cal_schema.specs.declared.column.ColumnDef.{ColumnDef}
use Rattle.cal_schema.specs.Lookup.{is_same_name}
use Rattle.cal_schema.proofs.NameLemmas.{position-below}
use Rattle.sql_tree.specs.declared.tree.ColumnName.{ColumnName}
use Rattle.sql_meaning.specs.Scope.{Header, is_searched, place_in, place_of, type_in, type_of_column, types_in}

-- ---- of one entry

pub place-searched : (h : Header) (c : ColumnName) → is_searched h c ≡ true → place_in h c ≡ position (λ d. is_same_name d.name c.name) h.table.columns
place-searched h c e = ap (λ b. cond b (position (λ d. is_same_name d.name c.name) h.table.columns) None) e

pub place-elsewhere : (h : Header) (c : ColumnName) → is_searched h c ≡ false → place_in h c ≡ None
place-elsewhere h c e = ap (λ b. cond b (position (λ d. is_same_name d.name c.name) h.table.columns) None) e

pub position-within : {X : Type 0} (p : X → Bool) (xs : List X) → IfSome (position p xs) (λ at. at < length xs)
position-within p xs = by (position p xs) refl
  where
    by : (o : Option ℕ) → position p xs ≡ o → IfSome o (λ at. at < length xs)
    by None e = tt
    by (Some at) e = position-below p xs at e

pub ruleset place_rules = (place-searched, place-elsewhere, position-within)

pub place_in-within : (h : Header) (c : ColumnName) (at : ℕ) → place_in h c ≡ Some at → at < length h.table.columns
place_in-within h c at e = by (is_searched h c) e
  where
    by : (b : Bool) → cond b (position (λ d. is_same_name d.name c.name) h.table.columns) None ≡ Some at → at < length h.table.columns
    by true f = position-below (λ d. is_same_name d.name c.name) h.table.columns at f
    by false f = absurd (cc)

-- ---- of all entries

pub types-one : (h : Header) → types_in (h ∷ []) ≡ map (type_of_column h) h.table.columns
types-one h = append-nil (map (type_of_column h) h.table.columns)

pub length-one : (h : Header) → length (types_in (h ∷ [])) ≡ length h.table.columns
length-one h = ap length (types-one h) ∙ length-map h.table.columns (type_of_column h)

pub length-types : (h : Header) (hs : List Header) → length (types_in (h ∷ hs)) ≡ length h.table.columns + length (types_in hs)
length-types h hs = length-append (map (type_of_column h) h.table.columns) (types_in hs) ∙ ap (λ n. n + length (types_in hs)) (length-map h.table.columns (type_of_column h))

pub place_of-within : (hs : List Header) (c : ColumnName) (at : ℕ) → place_of hs c ≡ Some at → at < length (types_in hs)
place_of-within [] c at e = absurd (cc)
place_of-within (h ∷ hs) c at e = by (place_in h c) refl (place_of hs c) (place_of-within hs c) e
  where
    by : (o : Option ℕ) → place_in h c ≡ o → (p : Option ℕ) → ((k : ℕ) → p ≡ Some k → k < length (types_in hs))
        → unwrap_or (option_map Some o) (option_map (λ k. length h.table.columns + k) p) ≡ Some at → at < length (types_in (h ∷ hs))
    by (Some k) f p later g = let lt : k < length h.table.columns = place_in-within h c k f in let same : k ≡ at = cc in omega (arith, length-types h hs)
    by None f None later g = absurd (cc)
    by None f (Some k) later g = let lt : k < length (types_in hs) = later k refl in let same : length h.table.columns + k ≡ at = cc in omega (arith, length-types h hs)

-- the first entry has it, or the others
pub place-front : (h : Header) (hs : List Header) (c : ColumnName) (at : ℕ) → place_in h c ≡ Some at → place_of (h ∷ hs) c ≡ Some at
place-front h hs c at e = ap (λ o. unwrap_or (option_map Some o) (option_map (λ k. length h.table.columns + k) (place_of hs c))) e

pub place-behind : (h : Header) (hs : List Header) (c : ColumnName) → place_in h c ≡ None → place_of (h ∷ hs) c ≡ option_map (λ k. length h.table.columns + k) (place_of hs c)
place-behind h hs c e = ap (λ o. unwrap_or (option_map Some o) (option_map (λ k. length h.table.columns + k) (place_of hs c))) e

type-there : (f : ColumnDef → SqlType) (columns : List ColumnDef) (rest : List SqlType) (at : ℕ) (d : ColumnDef) → at < length columns → slice_get (map f columns ++ rest) at ≡ Some (f (get_or columns at d))
type-there f [] rest at d lt = absurd (omega arith)
type-there f (c ∷ columns) rest zero d lt = refl
type-there f (c ∷ columns) rest (suc at) d lt = type-there f columns rest at d (omega arith)

type-later : (f : ColumnDef → SqlType) (columns : List ColumnDef) (rest : List SqlType) (at : ℕ) → slice_get (map f columns ++ rest) (length columns + at) ≡ slice_get rest at
type-later f [] rest at = ap (slice_get rest) (zero-add at)
type-later f (c ∷ columns) rest at =
    let next : length (c ∷ columns) + at ≡ suc (length columns + at) = omega arith in
    ap (slice_get (map f (c ∷ columns) ++ rest)) next ∙ type-later f columns rest at

type-front : (h : Header) (hs : List Header) (c : ColumnName) (at : ℕ) (d : ColumnDef) → place_in h c ≡ Some at → type_in (h ∷ hs) c ≡ Some (type_of_column h (get_or h.table.columns at d))
type-front h hs c at d e =
    ap (option_and_then (slice_get (types_in (h ∷ hs)))) (place-front h hs c at e)
    ∙ type-there (type_of_column h) h.table.columns (types_in hs) at d (place_in-within h c at e)

type-behind : (h : Header) (hs : List Header) (c : ColumnName) → place_in h c ≡ None → type_in (h ∷ hs) c ≡ type_in hs c
type-behind h hs c e = ap (option_and_then (slice_get (types_in (h ∷ hs)))) (place-behind h hs c e) ∙ by (place_of hs c)
  where
    by : (o : Option ℕ) → option_and_then (slice_get (types_in (h ∷ hs))) (option_map (λ k. length h.table.columns + k) o) ≡ option_and_then (slice_get (types_in hs)) o
    by None = refl
    by (Some k) = type-later (type_of_column h) h.table.columns (types_in hs) k

-- ---- of a loop over the entries

from-here : {A : Type 0} (xs : List A) (i : ℕ) (x : A) → x ≡ get_or xs i x → i < length xs → drop i xs ≡ x ∷ drop (i + 1) xs
from-here xs i x is lt = drop-cons xs i x lt ∙ ap (λ y. y ∷ drop (suc i) xs) (sym is) ∙ ap (λ n. x ∷ drop n xs) (sym (add-one i))

-- the columns of this entry and those of the later ones
pub count-next : (hs : List Header) (i : ℕ) (h : Header) → h ≡ get_or hs i h → i < length hs
    → length (types_in (drop i hs)) ≡ length h.table.columns + length (types_in (drop (i + 1) hs))
count-next hs i h is lt = ap (λ r. length (types_in r)) (from-here hs i h is lt) ∙ length-types h (drop (i + 1) hs)

pub count-end : (hs : List Header) (i : ℕ) → length hs ≤ i → length (types_in (drop i hs)) ≡ 0
count-end hs i past = ap (λ r. length (types_in r)) (drop_of_length-le hs past)

shifted : (n m : ℕ) (o : Option ℕ) → option_map (λ k. n + k) (option_map (λ k. m + k) o) ≡ option_map (λ k. n + m + k) o
shifted n m None = refl
shifted n m (Some k) = ap Some (sym (add_assoc n m k))

unshifted : (o : Option ℕ) → o ≡ option_map (λ k. 0 + k) o
unshifted None = refl
unshifted (Some k) = ap Some (sym (zero-add k))

pub place-init : (hs : List Header) (c : ColumnName) → place_of hs c ≡ option_map (λ k. 0 + k) (place_of (drop 0 hs) c)
place-init hs c = unshifted (place_of hs c)

pub place-next : (hs : List Header) (i : ℕ) (h : Header) (c : ColumnName) (before : ℕ) (o : Option ℕ) → h ≡ get_or hs i h → i < length hs → place_in h c ≡ None
    → o ≡ option_map (λ k. before + k) (place_of (drop i hs) c) → o ≡ option_map (λ k. before + length h.table.columns + k) (place_of (drop (i + 1) hs) c)
place-next hs i h c before o is lt none e =
    e
    ∙ ap (λ r. option_map (λ k. before + k) (place_of r c)) (from-here hs i h is lt)
    ∙ ap (option_map (λ k. before + k)) (place-behind h (drop (i + 1) hs) c none)
    ∙ shifted before (length h.table.columns) (place_of (drop (i + 1) hs) c)

pub place-here : (hs : List Header) (i : ℕ) (h : Header) (c : ColumnName) (before at : ℕ) (o : Option ℕ) → h ≡ get_or hs i h → i < length hs → place_in h c ≡ Some at
    → o ≡ option_map (λ k. before + k) (place_of (drop i hs) c) → o ≡ Some (before + at)
place-here hs i h c before at o is lt some e =
    e
    ∙ ap (λ r. option_map (λ k. before + k) (place_of r c)) (from-here hs i h is lt)
    ∙ ap (option_map (λ k. before + k)) (place-front h (drop (i + 1) hs) c at some)

pub place-end : (hs : List Header) (i : ℕ) (c : ColumnName) (before : ℕ) (o : Option ℕ) → length hs ≤ i → o ≡ option_map (λ k. before + k) (place_of (drop i hs) c) → o ≡ None
place-end hs i c before o past e = e ∙ ap (λ r. option_map (λ k. before + k) (place_of r c)) (drop_of_length-le hs past)

pub type-next : (hs : List Header) (i : ℕ) (h : Header) (c : ColumnName) (o : Option SqlType) → h ≡ get_or hs i h → i < length hs → place_in h c ≡ None
    → o ≡ type_in (drop i hs) c → o ≡ type_in (drop (i + 1) hs) c
type-next hs i h c o is lt none e = e ∙ ap (λ r. type_in r c) (from-here hs i h is lt) ∙ type-behind h (drop (i + 1) hs) c none

pub type-here : (hs : List Header) (i : ℕ) (h : Header) (c : ColumnName) (at : ℕ) (d : ColumnDef) (o : Option SqlType) → h ≡ get_or hs i h → i < length hs → place_in h c ≡ Some at
    → o ≡ type_in (drop i hs) c → o ≡ Some (type_of_column h (get_or h.table.columns at d))
type-here hs i h c at d o is lt some e = e ∙ ap (λ r. type_in r c) (from-here hs i h is lt) ∙ type-front h (drop (i + 1) hs) c at d some

pub type-end : (hs : List Header) (i : ℕ) (c : ColumnName) (o : Option SqlType) → length hs ≤ i → o ≡ type_in (drop i hs) c → o ≡ None
type-end hs i c o past e = e ∙ ap (λ r. type_in r c) (drop_of_length-le hs past)
