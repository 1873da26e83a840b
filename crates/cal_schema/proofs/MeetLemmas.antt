-- What both of two types of rows say.
use Rattle.std.proofs.Common.{◌≡◌, ℕ, zero, suc, ◌+◌, ◌<◌, ◌≤◌, List, [], ◌∷◌, ◌++◌, map, length, get_or, drop, refl, sym, ap, ◌∙◌, arith, append_assoc, append-nil, add-one, ◌&&◌, Bool, true, false}
use Rattle.std.proofs.Math.Seq.{drop-cons}
use Rattle.std.proofs.lemmas.List.{append-nil, get_or-map, length-map, drop_all}
use Rattle.cal_value.specs.declared.kind.SqlType.{SqlType}
use Rattle.cal_value.specs.Types.{IsAtMostAsWide, AreAtMostAsWide, met_type}
use Rattle.cal_value.proofs.IntervalLemmas.{meet_of-IsMeet}
use Rattle.cal_schema.specs.declared.rel_type.RelType.{RelType}
use Rattle.cal_schema.specs.RelType.{IsWithin, kinds_of, met_columns, met_rel_type, IsRelTypeMeet}

-- ---- one column after another

met-nothing : (ss : List SqlType) → met_columns ss [] ≡ []
met-nothing [] = refl
met-nothing (s ∷ ss) = refl

pub met-more : (met ss ts : List SqlType) (i : ℕ) (d : SqlType) → i < length ss → i < length ts
    → (met ++ met_type (get_or ss i d) (get_or ts i d) ∷ []) ++ met_columns (drop (i + 1) ss) (drop (i + 1) ts) ≡ met ++ met_columns (drop i ss) (drop i ts)
met-more met ss ts i d l m =
    rw (drop-cons ss i d l, drop-cons ts i d m, add-one)
    (append_assoc met (met_type (get_or ss i d) (get_or ts i d) ∷ []) (met_columns (drop (suc i) ss) (drop (suc i) ts)))

pub met-end : (met ss ts : List SqlType) (i : ℕ) → length ss ≤ i → met ++ met_columns (drop i ss) (drop i ts) ≡ met
met-end met ss ts i l = rw (drop_all i ss l) (append-nil met)

pub met-short : (met ss ts : List SqlType) (i : ℕ) → length ts ≤ i → met ++ met_columns (drop i ss) (drop i ts) ≡ met
met-short met ss ts i l = rw (drop_all i ts l) (ap (λ xs. met ++ xs) (met-nothing (drop i ss)) ∙ append-nil met)

-- ---- the meet

null-left : (p q : Bool) → (p && q) ≡ true → p ≡ true
null-left true q e = refl
null-left false q e = absurd (cc)

null-right : (p q : Bool) → (p && q) ≡ true → q ≡ true
null-right true q e = e
null-right false q e = absurd (cc)

null-both : (p q : Bool) → p ≡ true → q ≡ true → (p && q) ≡ true
null-both p q e f = cc

one-left : (s t : SqlType) → IsAtMostAsWide (met_type s t) s
one-left s t = record { kind = refl; nullable = null-left s.nullable t.nullable; interval = λ k. (meet_of-IsMeet s.interval t.interval).first }

one-right : (s t : SqlType) → s.kind ≡ t.kind → IsAtMostAsWide (met_type s t) t
one-right s t e = record { kind = e; nullable = null-right s.nullable t.nullable; interval = λ k. (meet_of-IsMeet s.interval t.interval).second }

one-greatest : (u s t : SqlType) → IsAtMostAsWide u s → IsAtMostAsWide u t → IsAtMostAsWide u (met_type s t)
one-greatest u s t w x = record {
  kind = w.kind;
  nullable = λ n. null-both s.nullable t.nullable (w.nullable n) (x.nullable n);
  interval = λ k. (meet_of-IsMeet s.interval t.interval).greatest u.interval (w.interval k) (x.interval k);
}

columns-left : (ss ts : List SqlType) → kinds_of ss ≡ kinds_of ts → AreAtMostAsWide (met_columns ss ts) ss
columns-left [] ts e = tt
columns-left (s ∷ ss) [] e = absurd (cc)
columns-left (s ∷ ss) (t ∷ ts) e = (one-left s t, columns-left ss ts (cc))

columns-right : (ss ts : List SqlType) → kinds_of ss ≡ kinds_of ts → AreAtMostAsWide (met_columns ss ts) ts
columns-right [] [] e = tt
columns-right [] (t ∷ ts) e = absurd (cc)
columns-right (s ∷ ss) [] e = absurd (cc)
columns-right (s ∷ ss) (t ∷ ts) e = (one-right s t (cc), columns-right ss ts (cc))

columns-greatest : (us ss ts : List SqlType) → AreAtMostAsWide us ss → AreAtMostAsWide us ts → AreAtMostAsWide us (met_columns ss ts)
columns-greatest [] [] ts w x = tt
columns-greatest [] (s ∷ ss) ts w x = absurd w
columns-greatest (u ∷ us) [] ts w x = absurd w
columns-greatest (u ∷ us) (s ∷ ss) [] w x = absurd x
columns-greatest (u ∷ us) (s ∷ ss) (t ∷ ts) w x = (one-greatest u s t w.0 x.0, columns-greatest us ss ts w.1 x.1)

pub ruleset met_steps = (met-more, met-end, met-short)

pub met-IsRelTypeMeet : (s t : RelType) → kinds_of s.columns ≡ kinds_of t.columns → IsRelTypeMeet s t (met_rel_type s t)
met-IsRelTypeMeet s t e = record {
  first = record { columns = columns-left s.columns t.columns e; bound = omega arith };
  second = record { columns = columns-right s.columns t.columns e; bound = omega arith };
  greatest = λ u w x. record { columns = columns-greatest u.columns s.columns t.columns w.columns x.columns; bound = let a = w.bound in let b = x.bound in omega arith };
}
