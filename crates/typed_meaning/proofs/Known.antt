-- An expression of known columns in which kinds go together and everything fits has a type, which is of its kind.
use Rattle.std.proofs.Common.{◌≡◌, ◌<◌, ◌+◌, ◌==◌, ◌∙◌, sym, ap, subst, refl, arith, ℕ, zero, suc, ℤ, ◌+ℤ◌, ◌-ℤ◌, ◌*ℤ◌, Bool, true, false, cond, ◌&&◌, List, [], ◌∷◌, ◌++◌, length, find, Option, Some, None, slice_get, unwrap_or, option_map}
use Rattle.std.specs.Prelude.{is_some}
use Rattle.std.specs.Int.RustNames.{int_div}
use Rattle.std.specs.Option.{option_and_then, IsSomeAnd}
use Rattle.std.proofs.lemmas.List.Folds.{find-append}
use Rattle.std.proofs.lemmas.List.Sums.{sum_by-cons}
use Rattle.cal_value.specs.declared.interval.Interval.{Interval}
use Rattle.cal_value.specs.declared.interval.Interval.TheVariants.{Never, Range}
use Rattle.cal_value.specs.declared.kind.Kind.{Kind}
use Rattle.cal_value.specs.declared.kind.Kind.TheVariants.{Boolean, Integer}
use Rattle.cal_value.specs.declared.kind.SqlType.{SqlType}
use Rattle.cal_value.specs.declared.operator.Agg.{Agg}
use Rattle.cal_value.specs.declared.operator.Agg.TheVariants.{Count, Sum, Sum0, Min, Max}
use Rattle.cal_value.specs.declared.operator.Op.{Op}
use Rattle.cal_value.specs.declared.operator.Op.TheVariants.{Add, Subtract, Multiply, Divide, Equal, NotEqual, Less, LessEqual, Greater, GreaterEqual, And, Or}
use Rattle.cal_value.specs.declared.value.Value.{Value}
use Rattle.cal_value.specs.declared.value.Value.TheVariants.{Null, Bool as BoolValue, Int, Text}
use Rattle.cal_value.specs.Interval.{excludes_zero, at_ends, negated, is_in_range}
use Rattle.cal_value.specs.Types.{number_type, same_kind, is_integer, is_boolean, boolean_type, integer_type}
use Rattle.cal_value.proofs.TypeLemmas.{and-both, same_kind-is}
use Rattle.cal_aggregate.specs.ResultType.{counts, sums, with_zero, agg_type}
use Rattle.cal_expr.specs.Typing.{column_type, negation_type, not_type, op_type, of_both, arithmetic_type, quotient_type, comparison_type, connective_type, either_nullable}
use Rattle.sql_tree.specs.declared.tree.ColumnName.{ColumnName}
use Rattle.sql_tree.specs.declared.tree.Tree.{Tree}
use Rattle.sql_tree.specs.declared.tree.Tree.TheFolds.{fold-roll-Tree, ind-Tree, map-Tree}
use Rattle.sql_tree.specs.declared.tree.Tree.TheOpen.{Tree-F}
use Rattle.sql_tree.specs.declared.tree.Tree.TheViews.{roll-Tree}
use Rattle.sql_meaning.specs.Kinds.{Kinded, kinded, kinded_step, clashes, literal_kinded, unless, is_of_kind, not_boolean, op_kind, op_clash, arithmetic_clash, agg_kind, agg_clash}
use Rattle.sql_meaning.specs.Parts.{columns_in, columns_step}
use Rattle.sql_meaning.specs.Scope.{Header, homes, place_in, place_of, type_in, types_in}
use Rattle.sql_meaning.specs.Sizes.{Sized, sized, sized_step, misfits, own, told, quotient_own, op_own, of_part, of_parts, column_own, agg_own}
use Rattle.sql_meaning.proofs.Nothing.{both-empty, or-none}
use Rattle.sql_meaning.proofs.Places.{place_of-within}
use Rattle.typed_meaning.specs.Known.{HasKnownColumns, HasType}

-- ---- nothing is told

pub unless-right : (b : Bool) (place : ℕ) → unless b place ≡ [] → b ≡ true
unless-right true place e = refl
unless-right false place e = absurd (cc)

own-fits : (place : ℕ) (i : Interval) → own place i ≡ [] → is_in_range i ≡ true
own-fits place Never e = refl
own-fits place (Range lo hi) e = by (is_in_range (Range lo hi)) e
  where
    by : (b : Bool) → cond b [] (told place (Range lo hi)) ≡ [] → b ≡ true
    by true f = refl
    by false f = absurd (cc)

-- a number that fits has a type
has_number : (nullable : Bool) (i : Interval) (k : Kind) → k ≡ Integer → is_in_range i ≡ true → IsSomeAnd (number_type nullable i) (λ t. t.kind ≡ k)
has_number nullable i k is fits = let P : Bool → Type 0 = λ b. IsSomeAnd (cond b (Some (integer_type nullable i)) None) (λ t. t.kind ≡ k) in subst P (sym fits) (sym is)

-- one kind is itself
same : (k l : Kind) → k ≡ l → l ≡ Integer → same_kind k Integer ≡ true
same k l e f = ap (λ m. same_kind m Integer) (e ∙ f)

truth : (k l : Kind) → k ≡ l → l ≡ Boolean → same_kind k Boolean ≡ true
truth k l e f = ap (λ m. same_kind m Boolean) (e ∙ f)

-- ---- what holds of a part

abbrev IsTyped : Kinded → Sized → Type 0
IsTyped k s = IsSomeAnd s.type (λ t. t.kind ≡ k.kind)

-- no entry has the column
abbrev pub is_unknown : List Header → ColumnName → Bool
is_unknown scope c = homes scope c == 0

record Sound (scope : List Header) (columns : List ColumnName) (k : Kinded) (s : Sized) : Type 0 where
  typed : find (is_unknown scope) columns ≡ None → k.clashes ≡ [] → s.misfits ≡ [] → IsTyped k s

-- ---- one level

there : (ts : List SqlType) (at : ℕ) → at < length ts → (t : SqlType) × (slice_get ts at ≡ Some t)
there [] at lt = absurd (omega arith)
there (t ∷ ts) zero lt = (t, refl)
there (t ∷ ts) (suc at) lt = there ts at (omega arith)

nowhere : (hs : List Header) (c : ColumnName) → place_of hs c ≡ None → homes hs c ≡ 0
nowhere [] c e = refl
nowhere (h ∷ hs) c e = sum_by-cons (λ h. cond (is_some (place_in h c)) 1 0) h hs ∙ by (place_in h c) (place_of hs c) (nowhere hs c) e
  where
    by : (o p : Option ℕ) → (p ≡ None → homes hs c ≡ 0) → unwrap_or (option_map Some o) (option_map (λ k. length h.table.columns + k) p) ≡ None → cond (is_some o) 1 0 + homes hs c ≡ 0
    by None None later f = omega (arith, later refl)
    by None (Some k) later f = absurd (cc)
    by (Some k) p later f = absurd (cc)

column-known : (scope : List Header) (c : ColumnName) → find (is_unknown scope) (c ∷ []) ≡ None → (t : SqlType) × (type_in scope c ≡ Some t)
column-known scope c e = by (place_of scope c) refl
  where
    some-home : (n : ℕ) → cond (n == 0) (Some c) None ≡ None → n ≡ 0 → ⊥
    some-home zero f g = absurd (cc)
    some-home (suc n) f g = absurd (cc)

    by : (o : Option ℕ) → place_of scope c ≡ o → (t : SqlType) × (type_in scope c ≡ Some t)
    by None f = absurd (some-home (homes scope c) e (nowhere scope c f))
    by (Some at) f =
        let t = there (types_in scope) at (place_of-within scope c at f) in
        (t.0, ap (option_and_then (slice_get (types_in scope))) f ∙ t.1)

column-typed : (place : ℕ) (o : Option SqlType) (t : SqlType) → o ≡ Some t → of_part (column_own place) o ≡ [] → IsSomeAnd (option_and_then column_type o) (λ u. u.kind ≡ unwrap_or (option_map (λ t. t.kind) o) Boolean)
column-typed place None t e f = absurd (cc)
column-typed place (Some s) t e f = by (is_integer s) refl f
  where
    by : (b : Bool) → is_integer s ≡ b → cond b (own place s.interval) [] ≡ [] → IsSomeAnd (cond b (number_type s.nullable s.interval) (Some s)) (λ u. u.kind ≡ s.kind)
    by true g h = has_number s.nullable s.interval s.kind (same_kind-is s.kind Integer g) (own-fits place s.interval h)
    by false g h = refl

literal-sound : (rows : ℕ) (scope : List Header) (place : ℕ) (v : Value) → Sound scope [] (literal_kinded place v) (sized_step rows scope (Tree-F.Literal place v))
literal-sound rows scope place Null = record { typed = λ known right fits. absurd (cc) }
literal-sound rows scope place (BoolValue b) = record { typed = λ known right fits. refl }
literal-sound rows scope place (Int n) = record { typed = λ known right fits. has_number false (Range n n) Integer refl (own-fits place (Range n n) fits) }
literal-sound rows scope place (Text t) = record { typed = λ known right fits. refl }

negation-typed : (place : ℕ) (k : Kinded) (o : Option SqlType) → IsSomeAnd o (λ t. t.kind ≡ k.kind) → is_of_kind Integer k ≡ true → of_part (λ t. own place (negated t.interval)) o ≡ []
    → IsSomeAnd (option_and_then negation_type o) (λ t. t.kind ≡ Integer)
negation-typed place k None h e f = absurd h
negation-typed place k (Some t) h e f =
    let numbers : is_integer t ≡ true = same t.kind k.kind h (same_kind-is k.kind Integer e) in
    let P : Bool → Type 0 = λ b. IsSomeAnd (cond b (number_type t.nullable (negated t.interval)) None) (λ u. u.kind ≡ Integer) in
    subst P (sym numbers) (has_number t.nullable (negated t.interval) Integer refl (own-fits place (negated t.interval) f))

not-typed : (k : Kinded) (o : Option SqlType) → IsSomeAnd o (λ t. t.kind ≡ k.kind) → is_of_kind Boolean k ≡ true → IsSomeAnd (option_and_then not_type o) (λ t. t.kind ≡ Boolean)
not-typed k None h e = absurd h
not-typed k (Some t) h e =
    let P : Bool → Type 0 = λ b. IsSomeAnd (cond b (Some (boolean_type t.nullable)) None) (λ u. u.kind ≡ Boolean) in
    subst P (sym (truth t.kind k.kind h (same_kind-is k.kind Boolean e))) refl

null-typed : (k : Kind) (o : Option SqlType) → IsSomeAnd o (λ t. t.kind ≡ k) → IsSomeAnd (option_map (λ _. boolean_type false) o) (λ t. t.kind ≡ Boolean)
null-typed k None h = absurd h
null-typed k (Some t) h = refl

-- ---- operators

arithmetic-typed : (f : ℤ → ℤ → ℤ) (place : ℕ) (a b : Kinded) (s t : SqlType) → s.kind ≡ a.kind → t.kind ≡ b.kind → arithmetic_clash place a b ≡ [] → is_in_range (at_ends f s.interval t.interval) ≡ true
    → IsSomeAnd (arithmetic_type f s t) (λ u. u.kind ≡ Integer)
arithmetic-typed f place a b s t h k e fits =
    let p = and-both (is_of_kind Integer a) (is_of_kind Integer b) (unless-right (is_of_kind Integer a && is_of_kind Integer b) place e) in
    let first : is_integer s ≡ true = same s.kind a.kind h (same_kind-is a.kind Integer p.0) in
    let second : is_integer t ≡ true = same t.kind b.kind k (same_kind-is b.kind Integer p.1) in
    let P : Bool → Type 0 = λ c. IsSomeAnd (cond c (number_type (either_nullable s t) (at_ends f s.interval t.interval)) None) (λ u. u.kind ≡ Integer) in
    let both : (is_integer s && is_integer t) ≡ true = ap (λ c. c && is_integer t) first ∙ second in
    subst P (sym both) (has_number (either_nullable s t) (at_ends f s.interval t.interval) Integer refl fits)

divisor-fits : (place : ℕ) (s t : SqlType) → quotient_own place s t ≡ [] → (excludes_zero t.interval ≡ true) × (is_in_range (at_ends int_div s.interval t.interval) ≡ true)
divisor-fits place s t e = by (excludes_zero t.interval) refl e
  where
    told-none : (i : Interval) → excludes_zero i ≡ false → told place i ≡ [] → ⊥
    told-none Never f g = absurd (cc)
    told-none (Range lo hi) f g = absurd (cc)

    by : (b : Bool) → excludes_zero t.interval ≡ b → cond b (own place (at_ends int_div s.interval t.interval)) (told place t.interval) ≡ [] → (excludes_zero t.interval ≡ true) × (is_in_range (at_ends int_div s.interval t.interval) ≡ true)
    by true f g = (f, own-fits place (at_ends int_div s.interval t.interval) g)
    by false f g = absurd (told-none t.interval f g)

comparison-typed : (place : ℕ) (a b : Kinded) (s t : SqlType) → s.kind ≡ a.kind → t.kind ≡ b.kind → unless (same_kind a.kind b.kind) place ≡ [] → IsSomeAnd (comparison_type s t) (λ u. u.kind ≡ Boolean)
comparison-typed place a b s t h k e =
    let P : Bool → Type 0 = λ c. IsSomeAnd (cond c (Some (boolean_type (either_nullable s t))) None) (λ u. u.kind ≡ Boolean) in
    let alike : same_kind s.kind t.kind ≡ true = ap (λ x. same_kind x t.kind) h ∙ ap (same_kind a.kind) k ∙ unless-right (same_kind a.kind b.kind) place e in
    subst P (sym alike) refl

connective-typed : (a b : Kinded) (s t : SqlType) → s.kind ≡ a.kind → t.kind ≡ b.kind → not_boolean a ++ not_boolean b ≡ [] → IsSomeAnd (connective_type s t) (λ u. u.kind ≡ Boolean)
connective-typed a b s t h k e =
    let p = both-empty (not_boolean a) (not_boolean b) e in
    let first : is_boolean s ≡ true = truth s.kind a.kind h (same_kind-is a.kind Boolean (unless-right (is_of_kind Boolean a) a.place p.0)) in
    let second : is_boolean t ≡ true = truth t.kind b.kind k (same_kind-is b.kind Boolean (unless-right (is_of_kind Boolean b) b.place p.1)) in
    let P : Bool → Type 0 = λ c. IsSomeAnd (cond c (Some (boolean_type (either_nullable s t))) None) (λ u. u.kind ≡ Boolean) in
    let both : (is_boolean s && is_boolean t) ≡ true = ap (λ c. c && is_boolean t) first ∙ second in
    subst P (sym both) refl

quotient-typed : (place : ℕ) (a b : Kinded) (s t : SqlType) → s.kind ≡ a.kind → t.kind ≡ b.kind → arithmetic_clash place a b ≡ [] → quotient_own place s t ≡ [] → IsSomeAnd (quotient_type s t) (λ u. u.kind ≡ Integer)
quotient-typed place a b s t h k e f =
    let p = divisor-fits place s t f in
    let P : Bool → Type 0 = λ c. IsSomeAnd (cond c (arithmetic_type int_div s t) None) (λ u. u.kind ≡ Integer) in
    subst P (sym p.0) (arithmetic-typed int_div place a b s t h k e p.1)

op-typed : (place : ℕ) (op : Op) (a b : Kinded) (s t : SqlType) → s.kind ≡ a.kind → t.kind ≡ b.kind → op_clash place op a b ≡ [] → op_own place op s t ≡ [] → IsSomeAnd (op_type op s t) (λ u. u.kind ≡ op_kind op)
op-typed place Add a b s t h k e f = arithmetic-typed ◌+ℤ◌ place a b s t h k e (own-fits place (at_ends ◌+ℤ◌ s.interval t.interval) f)
op-typed place Subtract a b s t h k e f = arithmetic-typed ◌-ℤ◌ place a b s t h k e (own-fits place (at_ends ◌-ℤ◌ s.interval t.interval) f)
op-typed place Multiply a b s t h k e f = arithmetic-typed ◌*ℤ◌ place a b s t h k e (own-fits place (at_ends ◌*ℤ◌ s.interval t.interval) f)
op-typed place Divide a b s t h k e f = quotient-typed place a b s t h k e f
op-typed place Equal a b s t h k e f = comparison-typed place a b s t h k e
op-typed place NotEqual a b s t h k e f = comparison-typed place a b s t h k e
op-typed place Less a b s t h k e f = comparison-typed place a b s t h k e
op-typed place LessEqual a b s t h k e f = comparison-typed place a b s t h k e
op-typed place Greater a b s t h k e f = comparison-typed place a b s t h k e
op-typed place GreaterEqual a b s t h k e f = comparison-typed place a b s t h k e
op-typed place And a b s t h k e f = connective-typed a b s t h k e
op-typed place Or a b s t h k e f = connective-typed a b s t h k e

ops-typed : (place : ℕ) (op : Op) (a b : Kinded) (o p : Option SqlType) → IsSomeAnd o (λ t. t.kind ≡ a.kind) → IsSomeAnd p (λ t. t.kind ≡ b.kind) → op_clash place op a b ≡ [] → of_parts (op_own place op) o p ≡ []
    → IsSomeAnd (of_both (op_type op) o p) (λ u. u.kind ≡ op_kind op)
ops-typed place op a b None p h k e f = absurd h
ops-typed place op a b (Some s) None h k e f = absurd k
ops-typed place op a b (Some s) (Some t) h k e f = op-typed place op a b s t h k e f

binary-sound : (rows : ℕ) (scope : List Header) (place : ℕ) (op : Op) (c d : List ColumnName) (a b : Kinded) (s t : Sized) → Sound scope c a s → Sound scope d b t
    → Sound scope (c ++ d) (kinded_step scope (Tree-F.Binary place op a b)) (sized_step rows scope (Tree-F.Binary place op s t))
binary-sound rows scope place op c d a b s t h k = record {
  typed = λ known right fits.
      let n = or-none (find (is_unknown scope) c) (find (is_unknown scope) d) (sym (find-append (is_unknown scope) c d) ∙ known) in
      let r = both-empty (a.clashes ++ op_clash place op a b) b.clashes right in
      let l = both-empty a.clashes (op_clash place op a b) r.0 in
      let f = both-empty (s.misfits ++ of_parts (op_own place op) s.type t.type) t.misfits fits in
      let g = both-empty s.misfits (of_parts (op_own place op) s.type t.type) f.0 in
      ops-typed place op a b s.type t.type (h.typed n.0 l.0 g.0) (k.typed n.1 r.1 f.1) l.1 g.1;
}

-- ---- aggregates

counted : (rows place : ℕ) → own place (counts rows) ≡ [] → IsSomeAnd (agg_type Count None rows) (λ t. t.kind ≡ Integer)
counted rows place f = has_number false (counts rows) Integer refl (own-fits place (counts rows) f)

summed : (nullable : Bool) (i : Interval) (place : ℕ) (a : Kinded) (t : SqlType) → t.kind ≡ a.kind → unless (is_of_kind Integer a) place ≡ [] → own place i ≡ []
    → IsSomeAnd (cond (is_integer t) (number_type nullable i) None) (λ u. u.kind ≡ Integer)
summed nullable i place a t h e f =
    let numbers : is_integer t ≡ true = same t.kind a.kind h (same_kind-is a.kind Integer (unless-right (is_of_kind Integer a) place e)) in
    let P : Bool → Type 0 = λ b. IsSomeAnd (cond b (number_type nullable i) None) (λ u. u.kind ≡ Integer) in
    subst P (sym numbers) (has_number nullable i Integer refl (own-fits place i f))

agg-typed : (agg : Agg) (rows place : ℕ) (a : Kinded) (o : Option SqlType) → IsSomeAnd o (λ t. t.kind ≡ a.kind) → agg_clash place agg a ≡ [] → of_part (agg_own rows place agg) o ≡ []
    → IsSomeAnd (option_and_then (λ t. agg_type agg (Some t) rows) o) (λ u. u.kind ≡ agg_kind agg a.kind)
agg-typed agg rows place a None h e f = absurd h
agg-typed Count rows place a (Some t) h e f = has_number false (counts rows) Integer refl (own-fits place (counts rows) f)
agg-typed Sum rows place a (Some t) h e f = summed true (sums rows t.interval) place a t h e f
agg-typed Sum0 rows place a (Some t) h e f = summed false (with_zero (sums rows t.interval)) place a t h e f
agg-typed Min rows place a (Some t) h e f = h
agg-typed Max rows place a (Some t) h e f = h

-- ---- a whole tree

module _ (rows : ℕ) (scope : List Header) where
  abbrev IsSound : Tree → Type 0
  IsSound tree = Sound scope (columns_in tree) (kinded scope tree) (sized rows scope tree)

  abbrev IsSoundLevel : Tree-F Tree → Type 0
  IsSoundLevel x =
      Sound scope (columns_step (map-Tree Tree (List ColumnName) columns_in x))
      (kinded_step scope (map-Tree Tree Kinded (kinded scope) x)) (sized_step rows scope (map-Tree Tree Sized (sized rows scope) x))

  level : (y : Tree-F ((t : Tree) × IsSound t)) → IsSoundLevel (map-Tree ((t : Tree) × IsSound t) Tree (λ t. t.0) y)
  level (Tree-F.Column place name) = record { typed = λ known right fits. let t = column-known scope name known in column-typed place (type_in scope name) t.0 t.1 fits }
  level (Tree-F.Literal place v) = literal-sound rows scope place v
  level (Tree-F.Negate place a) = record {
    typed = λ known right fits.
        let r = both-empty (unless (is_of_kind Integer (kinded scope a.0)) place) (kinded scope a.0).clashes right in
        let f = both-empty (of_part (λ t. own place (negated t.interval)) (sized rows scope a.0).type) (sized rows scope a.0).misfits fits in
        negation-typed place (kinded scope a.0) (sized rows scope a.0).type (a.1.typed known r.1 f.1) (unless-right (is_of_kind Integer (kinded scope a.0)) place r.0) f.0;
  }
  level (Tree-F.Binary place op a b) =
      binary-sound rows scope place op (columns_in a.0) (columns_in b.0) (kinded scope a.0) (kinded scope b.0) (sized rows scope a.0) (sized rows scope b.0) a.1 b.1
  level (Tree-F.Not place a) = record {
    typed = λ known right fits.
        let r = both-empty (not_boolean (kinded scope a.0)) (kinded scope a.0).clashes right in
        not-typed (kinded scope a.0) (sized rows scope a.0).type (a.1.typed known r.1 fits) (unless-right (is_of_kind Boolean (kinded scope a.0)) (kinded scope a.0).place r.0);
  }
  level (Tree-F.IsNull place a) = record { typed = λ known right fits. null-typed (kinded scope a.0).kind (sized rows scope a.0).type (a.1.typed known right fits) }
  level (Tree-F.Aggregate place agg None) = record { typed = λ known right fits. counted rows place fits }
  level (Tree-F.Aggregate place agg (Some a)) = record {
    typed = λ known right fits.
        let r = both-empty (agg_clash place agg (kinded scope a.0)) (kinded scope a.0).clashes right in
        let f = both-empty (of_part (agg_own rows place agg) (sized rows scope a.0).type) (sized rows scope a.0).misfits fits in
        agg-typed agg rows place (kinded scope a.0) (sized rows scope a.0).type (a.1.typed known r.1 f.1) r.0 f.0;
  }

  carried : (c d : List ColumnName) (a b : Kinded) (s t : Sized) → c ≡ d → a ≡ b → s ≡ t → Sound scope c a s → Sound scope d b t
  carried c d a b s t e f g h = subst (Sound scope d b) g (subst (λ x. Sound scope d x s) f (subst (λ x. Sound scope x a s) e h))

  at_roll : (x : Tree-F Tree) → IsSoundLevel x → IsSound (roll-Tree x)
  at_roll x l = carried _ _ _ _ _ _ (sym (fold-roll-Tree (List ColumnName) columns_step x)) (sym (fold-roll-Tree Kinded (kinded_step scope) x)) (sym (fold-roll-Tree Sized (sized_step rows scope) x)) l

  sound : (tree : Tree) → IsSound tree
  sound = ind-Tree IsSound (λ x y is. subst (λ z. IsSound (roll-Tree z)) is (at_roll _ (level y)))

  pub has_type : (tree : Tree) → HasKnownColumns scope tree → clashes scope tree ≡ [] → misfits rows scope tree ≡ [] → HasType rows scope tree
  has_type tree known right fits = (sound tree).typed known right fits
