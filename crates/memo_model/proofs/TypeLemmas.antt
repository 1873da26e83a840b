-- Types of rows: narrower ones, the meet, and the type of one node over sets.
use Rattle.std.proofs.Common.{◌≡◌, ℕ, zero, suc, ◌<◌, ◌≤◌, ◌==◌, min, cond, Bool, true, false, List, [], ◌∷◌, ◌++◌, length, All, Option, Some, None, slice_get, refl, sym, ◌∙◌, ap, subst, arith}
use Rattle.std.specs.Prelude.{unwrap_or}
use Rattle.std.specs.Option.{option_and_then}
use Rattle.std.proofs.lemmas.Option.{same_Some, cond_some}
use Rattle.cal_value.specs.declared.kind.Kind.{Kind}
use Rattle.cal_value.specs.declared.kind.SqlType.{SqlType}
use Rattle.cal_value.specs.declared.value.Value.{Value}
use Rattle.cal_value.specs.Interval.{limit}
use Rattle.cal_value.specs.Order.{SameBag}
use Rattle.cal_value.specs.Types.{IsOfType, HasTypes, AreAtMostAsWide}
use Rattle.cal_value.proofs.TypeLaws.{are-wide-trans, met-typed}
use Rattle.cal_schema.specs.declared.database.Db.{Db}
use Rattle.cal_schema.specs.declared.rel_type.RelType.{RelType}
use Rattle.cal_schema.specs.Fits.{Fits}
use Rattle.cal_schema.specs.RelType.{IsTrueOf, IsWithin, kinds_of, met_columns, met_rel_type}
use Rattle.cal_schema.specs.Valid.{IsValidSchema}
use Rattle.cal_schema.proofs.MeetLemmas.{met-IsRelTypeMeet}
use Rattle.cal_expr.specs.declared.expr.Expr.{Expr}
use Rattle.cal_rel.specs.Holes.{renumbered, EachHole, HasWithin}
use Rattle.cal_rel.specs.Info.{Info, set_at}
use Rattle.cal_rel.specs.Operators.{Row}
use Rattle.cal_rel.specs.Tree.{Unary, Binary, join_on, Tree, leaf, unary, binary, hole}
use Rattle.cal_rel.specs.Typing.{is_condition, of_columns, join_bound, join_columns, join_type, keyed, unary_type, binary_type, type_of}
use Rattle.cal_rel.proofs.Counts.{either-few}
use Rattle.cal_rel.proofs.Narrower.{type-narrow, wide-length}
use Rattle.memo_model.specs.Sound.{over}

-- ---- narrower types

pub within-trans : (r s t : RelType) → IsWithin r s → IsWithin s t → IsWithin r t
within-trans r s t w x = record { columns = are-wide-trans r.columns s.columns t.columns w.columns x.columns; bound = let a = w.bound in let b = x.bound in omega arith }

wide-kinds : (ss ts : List SqlType) → AreAtMostAsWide ss ts → kinds_of ss ≡ kinds_of ts
wide-kinds [] [] w = refl
wide-kinds [] (t ∷ ts) w = absurd w
wide-kinds (s ∷ ss) [] w = absurd w
wide-kinds (s ∷ ss) (t ∷ ts) w = let k = w.0.kind in let e = wide-kinds ss ts w.1 in cc

pub within-kinds : (s t : RelType) → IsWithin s t → kinds_of s.columns ≡ kinds_of t.columns
within-kinds s t w = wide-kinds s.columns t.columns w.columns

pub kinds-length : (ss ts : List SqlType) → kinds_of ss ≡ kinds_of ts → length ss ≡ length ts
kinds-length [] [] e = refl
kinds-length [] (t ∷ ts) e = absurd (cc)
kinds-length (s ∷ ss) [] e = absurd (cc)
kinds-length (s ∷ ss) (t ∷ ts) e = ap suc (kinds-length ss ts (cc))

pub within-length : (s t : RelType) → IsWithin s t → length s.columns ≡ length t.columns
within-length s t w = wide-length s.columns t.columns w.columns

-- ---- the meet

pub meet-left : (s t : RelType) → kinds_of s.columns ≡ kinds_of t.columns → IsWithin (met_rel_type s t) s
meet-left s t e = (met-IsRelTypeMeet s t e).first

pub meet-right : (s t : RelType) → kinds_of s.columns ≡ kinds_of t.columns → IsWithin (met_rel_type s t) t
meet-right s t e = (met-IsRelTypeMeet s t e).second

-- its ends stand in order
pub meet-ordered : (s t : RelType) → kinds_of s.columns ≡ kinds_of t.columns → IsWithin (met_rel_type s t) (met_rel_type s t)
meet-ordered s t e = let m = met-IsRelTypeMeet s t e in m.greatest (met_rel_type s t) m.first m.second

pub meet-kinds : (s t : RelType) → kinds_of s.columns ≡ kinds_of t.columns → kinds_of (met_rel_type s t).columns ≡ kinds_of s.columns
meet-kinds s t e = within-kinds (met_rel_type s t) s (meet-left s t e)

both-types : (row : Row) (ss ts : List SqlType) → HasTypes row ss → HasTypes row ts → HasTypes row (met_columns ss ts)
both-types [] [] [] h k = tt
both-types [] [] (t ∷ ts) h k = absurd k
both-types [] (s ∷ ss) ts h k = absurd h
both-types (v ∷ row) [] ts h k = absurd h
both-types (v ∷ row) (s ∷ ss) [] h k = absurd k
both-types (v ∷ row) (s ∷ ss) (t ∷ ts) h k = (met-typed v s t h.0 k.0, both-types row ss ts h.1 k.1)

pub true-meet : (s t : RelType) (rows : List Row) → IsTrueOf s rows → IsTrueOf t rows → IsTrueOf (met_rel_type s t) rows
true-meet s t rows h k = record {
  typed = λ at d l. both-types _ s.columns t.columns (h.typed at d l) (k.typed at d l);
  few = either-few limit s.bound t.bound (length rows) h.few k.few;
}

-- ---- one node over sets whose types are narrower than those of its inputs

-- there is a type of these kinds
pub record IsTypedAs (o : Option RelType) (t : RelType) : Type 0 where
  pub found : RelType
  pub is : o ≡ Some found
  pub kinds : kinds_of found.columns ≡ kinds_of t.columns

module _ (info : Info) (valid : IsValidSchema info.schema) (types : List (Option RelType)) where
  one_set : (k : ℕ) (t : RelType) → HasWithin (set_at types k) t → (j : ℕ) (s : RelType) → set_at (Some t ∷ []) j ≡ Some s → HasWithin (set_at types k) s
  one_set k t h zero s e = subst (HasWithin (set_at types k)) (same_Some t s e) h
  one_set k t h (suc j) s e = absurd (cc)

  pub node-unary : (u : Unary) (t v : RelType) (k : ℕ) → unary_type u t ≡ Some v → HasWithin (set_at types k) t → IsTypedAs (type_of (over info types) (unary u (hole k))) v
  node-unary u t v k e h =
      let own = type-narrow (λ j. k) (over info (Some t ∷ [])) (over info types) (unary u (hole 0)) v valid (record { else = record { schema = refl; stars = refl; tiles = refl }; sets = one_set k t h }) e in
      record { found = own.found; is = own.is; kinds = within-kinds own.found v own.within }

  two_numbers : ℕ → ℕ → ℕ → ℕ
  two_numbers k l zero = k
  two_numbers k l (suc j) = l

  two_sets : (k l : ℕ) (s t : RelType) → HasWithin (set_at types k) s → HasWithin (set_at types l) t → (j : ℕ) (v : RelType) → set_at (Some s ∷ Some t ∷ []) j ≡ Some v
      → HasWithin (set_at types (two_numbers k l j)) v
  unfolding two_numbers
  two_sets k l s t h g zero v e = subst (HasWithin (set_at types k)) (same_Some s v e) h
  two_sets k l s t h g (suc zero) v e = subst (HasWithin (set_at types l)) (same_Some t v e) g
  two_sets k l s t h g (suc (suc j)) v e = absurd (cc)

  -- the type of the node over two sets doesn't look for keys below them
  over_two : (b : Binary) (x y : Tree) (s t v : RelType) → binary_type info b x y s t ≡ Some v
      → IsTypedAs (binary_type (over info (Some s ∷ Some t ∷ [])) b (hole 0) (hole 1) s t) v
  over_two (join_on kind on) x y s t v e =
      let columns = join_columns kind s.columns t.columns in
      let by = keyed info (length s.columns) on x y in
      let made : RelType = of_columns (join_bound kind by s.bound t.bound) columns in
      let other : RelType = of_columns (join_bound kind (record { left = false; right = false }) s.bound t.bound) columns in
      let c = cond_some (is_condition on (s.columns ++ t.columns)) made v e in
      record { found = other; is = ap (λ b. cond b (Some other) None) c.0; kinds = ap (λ (u : RelType). kinds_of u.columns) c.1 }

  pub node-binary : (b : Binary) (x y : Tree) (s t v : RelType) (k l : ℕ) → binary_type info b x y s t ≡ Some v → HasWithin (set_at types k) s → HasWithin (set_at types l) t
      → IsTypedAs (type_of (over info types) (binary b (hole k) (hole l))) v
  unfolding two_numbers
  node-binary b x y s t v k l e h g =
      let first = over_two b x y s t v e in
      let own = type-narrow (two_numbers k l) (over info (Some s ∷ Some t ∷ [])) (over info types) (binary b (hole 0) (hole 1)) first.found valid
      (record { else = record { schema = refl; stars = refl; tiles = refl }; sets = two_sets k l s t h g }) first.is in
      record { found = own.found; is = own.is; kinds = within-kinds own.found first.found own.within ∙ first.kinds }
