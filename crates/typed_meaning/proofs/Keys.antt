-- Rows of one entry with keys that differ, and conditions that equate the key's columns: a row before has at most one partner.
use Rattle.std.proofs.Common.{◌≡◌, ℕ, zero, suc, ◌-◌, ◌==◌, ◌<◌, ◌≤◌, nat_lt, nat_le, Bool, true, false, cond, ◌&&◌, ◌||◌, List, [], ◌∷◌, ◌++◌, map, filter, length, All, AllPairs, Option, Some, None, refl, sym, ◌∙◌, ap, subst, arith}
use Rattle.std.specs.Prelude.{◌≢◌}
use Rattle.std.specs.List.{flat_map, list_all, list_any}
use Rattle.std.specs.Ordering.{is_eq}
use Rattle.std.specs.declared.cmp.Ordering.{Ordering}
use Rattle.std.specs.declared.cmp.Ordering.TheVariants.{Less, Equal, Greater}
use Rattle.std.proofs.lemmas.Bool.Decides.{nat_tests, Decides-eqb}
use Rattle.std.proofs.lemmas.Grind.{flat_map-append}
use Rattle.std.proofs.lemmas.List.{append-nil}
use Rattle.std.proofs.lemmas.List.Elements.{All-nil, All-cons, All-head, All-tail, All-append, All-weaker}
use Rattle.cal_value.specs.declared.operator.Op.{Op}
use Rattle.cal_value.specs.declared.operator.Op.TheVariants as op
use Rattle.cal_value.specs.declared.value.Value.{Value}
use Rattle.cal_value.specs.declared.value.Value.TheVariants.{Null, Bool as BoolValue, Int, Text}
use Rattle.cal_value.specs.Logic.{and3, truth_of, value_of, is_true}
use Rattle.cal_value.specs.Order.{value_cmp, column_of, columns_of}
use Rattle.cal_value.specs.Types.{HasTypes}
use Rattle.cal_value.proofs.OrderLemmas.{value_cmp-IsAntisymmetric}
use Rattle.cal_value.proofs.TypeLemmas.{and-both}
use Rattle.cal_expr.specs.Meaning.{applied}
use Rattle.sql_tree.specs.declared.tree.Tree.{Tree}
use Rattle.sql_tree.specs.declared.tree.Tree.TheFolds.{fold-Tree, fold-roll-Tree, ind-Tree, map-Tree}
use Rattle.sql_tree.specs.declared.tree.Tree.TheOpen.{Tree-F}
use Rattle.sql_tree.specs.declared.tree.Tree.TheViews.{roll-Tree}
use Rattle.sql_meaning.specs.Bounds.{Equated, key_of, equated_op, equated_step, equated, has_key}
use Rattle.sql_meaning.specs.Scope.{Header, place_of, types_in, type_of_column}
use Rattle.sql_meaning.specs.Value.{EntryRow, look_up, value, value_step}
use Rattle.typed_meaning.specs.Rows.{IsTypedRow}
use Rattle.typed_meaning.proofs.LookUp.{look_up-flat}
use Rattle.typed_meaning.proofs.Rows.{flat, row-more, row-types, types-length}

-- ---- elements apart

-- each element from each later one
abbrev pub Apart : {A : Type 0} → (A → A → Type 0) → List A → Type 0
Apart R [] = Unit {0}
Apart R (x ∷ xs) = All (R x) xs × Apart R xs

pub Apart-from_AllPairs : {A : Type 0} (R : A → A → Type 0) (xs : List A) → AllPairs R xs → Apart R xs
Apart-from_AllPairs R [] h = tt
Apart-from_AllPairs R (x ∷ xs) h = ((λ k d l. h zero (suc k) d (omega arith) (omega arith)), Apart-from_AllPairs R xs (λ i j d l m. h (suc i) (suc j) d (omega arith) (omega arith)))

-- of elements of which something holds
pub Apart-within : {A : Type 0} (R S : A → A → Type 0) (P : A → Type 0) → ((x y : A) → P x → P y → R x y → S x y) → (xs : List A) → All P xs → Apart R xs → Apart S xs
Apart-within R S P f [] all h = tt
Apart-within {A} R S P f (x ∷ xs) all h =
    ((λ k d l. f x _ (All-head P x xs all) (All-tail P x xs all k d l) (h.0 k d l)), Apart-within R S P f xs (All-tail P x xs all) h.1)

-- of two elements not both pass a test
abbrev pub NotBoth : {A : Type 0} → (A → Bool) → A → A → Type 0
NotBoth p x y = p x ≡ true → p y ≡ true → ⊥

none-passes : {A B : Type 0} (p : B → Bool) (f : A → B) (xs : List A) → All (λ x. p (f x) ≡ true → ⊥) xs → length (filter p (map f xs)) ≡ 0
none-passes p f [] h = refl
none-passes p f (x ∷ xs) h = by (p (f x)) refl (none-passes p f xs (All-tail (λ x. p (f x) ≡ true → ⊥) x xs h))
  where
    by : (b : Bool) → p (f x) ≡ b → length (filter p (map f xs)) ≡ 0 → length (cond b (f x ∷ filter p (map f xs)) (filter p (map f xs))) ≡ 0
    by true e k = absurd (All-head (λ x. p (f x) ≡ true → ⊥) x xs h e)
    by false e k = k

-- so at most one passes
pub one-passes : {A B : Type 0} (p : B → Bool) (f : A → B) (xs : List A) → Apart (NotBoth (λ x. p (f x))) xs → length (filter p (map f xs)) ≤ 1
one-passes p f [] h = omega arith
one-passes p f (x ∷ xs) h = by (p (f x)) refl (one-passes p f xs h.1)
  where
    by : (b : Bool) → p (f x) ≡ b → length (filter p (map f xs)) ≤ 1 → length (cond b (f x ∷ filter p (map f xs)) (filter p (map f xs))) ≤ 1
    by true e k = omega (arith, none-passes p f xs (All-weaker (NotBoth (λ x. p (f x)) x) (λ y. p (f y) ≡ true → ⊥) (λ y g. g e) xs h.0))
    by false e k = k

-- ---- what an equation says

column-left : (x y : List Value) (c : ℕ) → c < length x → column_of (x ++ y) c ≡ column_of x c
column-left [] y c l = absurd (omega arith)
column-left (v ∷ x) y zero l = refl
column-left (v ∷ x) y (suc c) l = column-left x y c (omega arith)

column-right : (x y : List Value) (c : ℕ) → length x ≤ c → column_of (x ++ y) c ≡ column_of y (c - length x)
column-right [] y c l = let e : c - 0 ≡ c = omega arith in sym (ap (column_of y) e)
column-right (v ∷ x) y zero l = absurd (omega arith)
column-right (v ∷ x) y (suc c) l =
    let e : suc c - length (v ∷ x) ≡ c - length x = omega arith in
    column-right x y c (omega arith) ∙ sym (ap (column_of y) e)

order-equal : (v w : Value) (o : Ordering) → value_cmp v w ≡ o → is_eq o ≡ true → v ≡ w
order-equal v w Less e k = absurd (cc)
order-equal v w Equal e k = value_cmp-IsAntisymmetric v w e
order-equal v w Greater e k = absurd (cc)

equal-means : (v w : Value) → is_true (applied op.Equal v w) ≡ true → v ≡ w
equal-means Null w e = absurd (cc)
equal-means (BoolValue b) Null e = absurd (cc)
equal-means (BoolValue b) (BoolValue c) e = order-equal (BoolValue b) (BoolValue c) (value_cmp (BoolValue b) (BoolValue c)) refl e
equal-means (BoolValue b) (Int n) e = order-equal (BoolValue b) (Int n) (value_cmp (BoolValue b) (Int n)) refl e
equal-means (BoolValue b) (Text t) e = order-equal (BoolValue b) (Text t) (value_cmp (BoolValue b) (Text t)) refl e
equal-means (Int n) Null e = absurd (cc)
equal-means (Int n) (BoolValue c) e = order-equal (Int n) (BoolValue c) (value_cmp (Int n) (BoolValue c)) refl e
equal-means (Int n) (Int m) e = order-equal (Int n) (Int m) (value_cmp (Int n) (Int m)) refl e
equal-means (Int n) (Text t) e = order-equal (Int n) (Text t) (value_cmp (Int n) (Text t)) refl e
equal-means (Text s) Null e = absurd (cc)
equal-means (Text s) (BoolValue c) e = order-equal (Text s) (BoolValue c) (value_cmp (Text s) (BoolValue c)) refl e
equal-means (Text s) (Int n) e = order-equal (Text s) (Int n) (value_cmp (Text s) (Int n)) refl e
equal-means (Text s) (Text t) e = order-equal (Text s) (Text t) (value_cmp (Text s) (Text t)) refl e

-- AND is TRUE of two that are
and3-both : (a b : Option Bool) → is_true (value_of (and3 a b)) ≡ true → (is_true (value_of a) ≡ true) × (is_true (value_of b) ≡ true)
and3-both None None e = absurd (cc)
and3-both None (Some true) e = absurd (cc)
and3-both None (Some false) e = absurd (cc)
and3-both (Some true) None e = absurd (cc)
and3-both (Some true) (Some b) e = (refl, e)
and3-both (Some false) b e = absurd (cc)

of_truth : (v : Value) → is_true (value_of (truth_of v)) ≡ true → is_true v ≡ true
of_truth Null e = e
of_truth (BoolValue b) e = e
of_truth (Int n) e = e
of_truth (Text t) e = e

and-means : (v w : Value) → is_true (applied op.And v w) ≡ true → (is_true v ≡ true) × (is_true w ≡ true)
and-means v w e = let both = and3-both (truth_of v) (truth_of w) e in (of_truth v both.0, of_truth w both.1)

-- two rows have the same in a column
abbrev pub Agree : List Value → List Value → ℕ → Type 0
Agree y z k = column_of y k ≡ column_of z k

-- what an expression's column and keys say of its values over two rows behind the same one
record Says (x y z : List Value) (e : Equated) (v w : Value) : Type 0 where
  column : (c : ℕ) → e.column ≡ Some c → (v ≡ column_of (x ++ y) c) × (w ≡ column_of (x ++ z) c)
  keys : is_true v ≡ true → is_true w ≡ true → All (Agree y z) e.keys

tests : (width c d : ℕ) → (nat_lt c width && nat_le width d) ≡ true → (c < width) × (width ≤ d)
tests width c d e = let p = and-both (nat_lt c width) (nat_le width d) e in (grind (arith, nat_tests), grind (arith, nat_tests))

module _ (x y z : List Value) where
  no-column : (v w : Value) → Says x y z (record { column = None; keys = [] }) v w
  no-column v w = record { column = λ c e. absurd (cc); keys = λ h k. All-nil (Agree y z) }

  one-key : (k : ℕ) → Agree y z k → All (Agree y z) (k ∷ [])
  one-key k h = All-cons (Agree y z) k [] h (All-nil (Agree y z))

  -- the one column stands before the rows, the other in them
  sides-agree : (c d : ℕ) → c < length x → length x ≤ d → column_of (x ++ y) c ≡ column_of (x ++ y) d → column_of (x ++ z) c ≡ column_of (x ++ z) d → Agree y z (d - length x)
  sides-agree c d l m p q =
      sym (column-right x y d m) ∙ sym p ∙ column-left x y c l ∙ sym (column-left x z c l) ∙ q ∙ column-right x z d m

  columns-agree : (c d : ℕ) → column_of (x ++ y) c ≡ column_of (x ++ y) d → column_of (x ++ z) c ≡ column_of (x ++ z) d → All (Agree y z) (key_of (length x) (Some c) (Some d))
  columns-agree c d p q = by (nat_lt c (length x) && nat_le (length x) d) refl (nat_lt d (length x) && nat_le (length x) c) refl
    where
      by : (a : Bool) → (nat_lt c (length x) && nat_le (length x) d) ≡ a → (b : Bool) → (nat_lt d (length x) && nat_le (length x) c) ≡ b
          → All (Agree y z) (cond a ((d - length x) ∷ []) (cond b ((c - length x) ∷ []) []))
      by true e b f = let t = tests (length x) c d e in one-key (d - length x) (sides-agree c d t.0 t.1 p q)
      by false e true f = let t = tests (length x) d c f in one-key (c - length x) (sides-agree d c t.0 t.1 (sym p) (sym q))
      by false e false f = All-nil (Agree y z)

  equal-keys : (o p : Option ℕ) (v w v' w' : Value) → ((c : ℕ) → o ≡ Some c → (v ≡ column_of (x ++ y) c) × (v' ≡ column_of (x ++ z) c)) → ((c : ℕ) → p ≡ Some c → (w ≡ column_of (x ++ y) c) × (w' ≡ column_of (x ++ z) c))
      → v ≡ w → v' ≡ w' → All (Agree y z) (key_of (length x) o p)
  equal-keys None p v w v' w' h k e f = All-nil (Agree y z)
  equal-keys (Some c) None v w v' w' h k e f = All-nil (Agree y z)
  equal-keys (Some c) (Some d) v w v' w' h k e f = let a = h c refl in let b = k d refl in columns-agree c d (sym a.0 ∙ e ∙ b.0) (sym a.1 ∙ f ∙ b.1)

  op-keys : (o : Op) (a b : Equated) (v w v' w' : Value) → Says x y z a v v' → Says x y z b w w' → is_true (applied o v w) ≡ true → is_true (applied o v' w') ≡ true → All (Agree y z) (equated_op (length x) o a b)
  op-keys op.Add a b v w v' w' h k e f = All-nil (Agree y z)
  op-keys op.Subtract a b v w v' w' h k e f = All-nil (Agree y z)
  op-keys op.Multiply a b v w v' w' h k e f = All-nil (Agree y z)
  op-keys op.Divide a b v w v' w' h k e f = All-nil (Agree y z)
  op-keys op.Equal a b v w v' w' h k e f = equal-keys a.column b.column v w v' w' h.column k.column (equal-means v w e) (equal-means v' w' f)
  op-keys op.NotEqual a b v w v' w' h k e f = All-nil (Agree y z)
  op-keys op.Less a b v w v' w' h k e f = All-nil (Agree y z)
  op-keys op.LessEqual a b v w v' w' h k e f = All-nil (Agree y z)
  op-keys op.Greater a b v w v' w' h k e f = All-nil (Agree y z)
  op-keys op.GreaterEqual a b v w v' w' h k e f = All-nil (Agree y z)
  op-keys op.And a b v w v' w' h k e f =
      let p = and-means v w e in
      let q = and-means v' w' f in
      All-append (Agree y z) a.keys b.keys (h.keys p.0 q.0) (k.keys p.1 q.1)
  op-keys op.Or a b v w v' w' h k e f = All-nil (Agree y z)

-- ---- a whole condition

module _ (before : List Header) (h : Header) (env : List EntryRow) (typed : IsTypedRow before env) where
  abbrev behind : List Value → List EntryRow
  behind row = env ++ record { header = h; row = row } ∷ []

  abbrev IsRow : List Value → Type 0
  IsRow row = HasTypes row (map (type_of_column h) h.table.columns)

  abbrev scope : List Header
  scope = before ++ h ∷ []

  abbrev width : ℕ
  width = length (flat env)

  flat-behind : (row : List Value) → flat (behind row) ≡ flat env ++ row
  flat-behind row = flat_map-append (λ (b : EntryRow). b.row) env (record { header = h; row = row } ∷ []) ∙ ap (λ r. flat env ++ r) (append-nil row)

  column-value : (row : List Value) → IsRow row → (place : ℕ) (name : _) (c : ℕ) → place_of scope name ≡ Some c → look_up (behind row) name ≡ column_of (flat env ++ row) c
  column-value row r place name c e =
      let t = row-more before env (record { header = h; row = row }) typed r in
      look_up-flat (behind row) name c t.filled (ap (λ hs. place_of hs name) t.headers ∙ e) ∙ ap (λ all. column_of all c) (flat-behind row)

  module _ (y z : List Value) (first : IsRow y) (second : IsRow z) where
    abbrev equations : Tree → Equated
    equations tree = fold-Tree Equated (equated_step scope width) tree

    abbrev SaysOf : Tree → Type 0
    SaysOf tree = Says (flat env) y z (equations tree) (value (behind y) tree) (value (behind z) tree)

    abbrev SaysLevel : Tree-F Tree → Type 0
    SaysLevel x = Says (flat env) y z (equated_step scope width (map-Tree Tree Equated equations x)) (value_step (behind y) (map-Tree Tree Value (value (behind y)) x)) (value_step (behind z) (map-Tree Tree Value (value (behind z)) x))

    level : (x : Tree-F ((t : Tree) × SaysOf t)) → SaysLevel (map-Tree ((t : Tree) × SaysOf t) Tree (λ t. t.0) x)
    level (Tree-F.Column place name) = record {
      column = λ c e. (column-value y first place name c e, column-value z second place name c e);
      keys = λ p q. All-nil (Agree y z);
    }
    level (Tree-F.Literal place v) = no-column (flat env) y z v v
    level (Tree-F.Negate place a) = no-column (flat env) y z _ _
    level (Tree-F.Binary place o a b) = record {
      column = λ c e. absurd (cc);
      keys = op-keys (flat env) y z o (equations a.0) (equations b.0) (value (behind y) a.0) (value (behind y) b.0) (value (behind z) a.0) (value (behind z) b.0) a.1 b.1;
    }
    level (Tree-F.Not place a) = no-column (flat env) y z _ _
    level (Tree-F.IsNull place a) = no-column (flat env) y z _ _
    level (Tree-F.Aggregate place agg a) = no-column (flat env) y z _ _

    carried : (e f : Equated) (v w v' w' : Value) → e ≡ f → v ≡ w → v' ≡ w' → Says (flat env) y z e v v' → Says (flat env) y z f w w'
    carried e f v w v' w' i j k s = subst (Says (flat env) y z f w) k (subst (λ u. Says (flat env) y z f u v') j (subst (λ u. Says (flat env) y z u v v') i s))

    at_roll : (x : Tree-F Tree) → SaysLevel x → SaysOf (roll-Tree x)
    at_roll x l = carried _ _ _ _ _ _ (sym (fold-roll-Tree Equated (equated_step scope width) x)) (sym (fold-roll-Tree Value (value_step (behind y)) x)) (sym (fold-roll-Tree Value (value_step (behind z)) x)) l

    condition-says : (tree : Tree) → SaysOf tree
    condition-says = ind-Tree SaysOf (λ x s is. subst (λ t. SaysOf (roll-Tree t)) is (at_roll _ (level s)))

    keys-agree : (trees : List Tree) → list_all (λ tree. is_true (value (behind y) tree)) trees ≡ true → list_all (λ tree. is_true (value (behind z) tree)) trees ≡ true → All (Agree y z) (flat_map (equated scope width) trees)
    keys-agree [] e f = All-nil (Agree y z)
    keys-agree (tree ∷ trees) e f =
        let p = and-both (is_true (value (behind y) tree)) (list_all (λ tree. is_true (value (behind y) tree)) trees) e in
        let q = and-both (is_true (value (behind z) tree)) (list_all (λ tree. is_true (value (behind z) tree)) trees) f in
        All-append (Agree y z) (equations tree).keys (flat_map (equated scope width) trees) ((condition-says tree).keys p.0 q.0) (keys-agree trees p.1 q.1)

-- ---- keys

equal-test : (m n : ℕ) → (m == n) ≡ true → m ≡ n
equal-test m n e = (Decides-eqb m n).0 e

among-agrees : (y z : List Value) (columns : List ℕ) (k : ℕ) → list_any (λ other. other == k) columns ≡ true → All (Agree y z) columns → Agree y z k
among-agrees y z [] k e h = absurd (cc)
among-agrees y z (c ∷ cs) k e h = by (c == k) refl (λ f. among-agrees y z cs k f (All-tail (Agree y z) c cs h)) e
  where
    by : (b : Bool) → (c == k) ≡ b → (list_any (λ other. other == k) cs ≡ true → Agree y z k) → (b || list_any (λ other. other == k) cs) ≡ true → Agree y z k
    by true f more e = subst (Agree y z) (equal-test c k f) (All-head (Agree y z) c cs h)
    by false f more e = more e

-- the same in each column of the key
same-columns : (y z : List Value) (columns key : List ℕ) → All (Agree y z) columns → list_all (λ c. list_any (λ other. other == c) columns) key ≡ true → columns_of y key ≡ columns_of z key
same-columns y z columns [] h e = refl
same-columns y z columns (k ∷ key) h e =
    let p = and-both (list_any (λ other. other == k) columns) (list_all (λ c. list_any (λ other. other == c) columns) key) e in
    let here = among-agrees y z columns k p.0 h in
    let rest = same-columns y z columns key h p.1 in
    cc

has_key-some : (columns key : List ℕ) → has_key columns key ≡ true → (key ≢ []) × (list_all (λ c. list_any (λ other. other == c) columns) key ≡ true)
has_key-some columns [] e = absurd (cc)
has_key-some columns (k ∷ key) e = ((λ f. absurd (cc)), e)

-- two rows that go with the same one have one key
pub same-key : (before : List Header) (h : Header) (env : List EntryRow) → IsTypedRow before env → (trees : List Tree) (y z : List Value)
    → HasTypes y (map (type_of_column h) h.table.columns) → HasTypes z (map (type_of_column h) h.table.columns)
    → has_key (flat_map (equated (before ++ h ∷ []) (length (types_in before))) trees) h.table.primary_key ≡ true
    → list_all (λ tree. is_true (value (env ++ record { header = h; row = y } ∷ []) tree)) trees ≡ true → list_all (λ tree. is_true (value (env ++ record { header = h; row = z } ∷ []) tree)) trees ≡ true
    → columns_of y h.table.primary_key ≡ columns_of z h.table.primary_key
same-key before h env typed trees y z first second keyed e f =
    let wide : length (flat env) ≡ length (types_in before) = types-length (flat env) (types_in before) (row-types before env typed) in
    same-columns y z (flat_map (equated (before ++ h ∷ []) (length (types_in before))) trees) h.table.primary_key
    (subst (λ n. All (Agree y z) (flat_map (equated (before ++ h ∷ []) n) trees)) wide (keys-agree before h env typed y z first second trees e f))
    (has_key-some (flat_map (equated (before ++ h ∷ []) (length (types_in before))) trees) h.table.primary_key keyed).1

pub has_some_key : (columns key : List ℕ) → has_key columns key ≡ true → key ≢ []
has_some_key columns key e = (has_key-some columns key e).0
