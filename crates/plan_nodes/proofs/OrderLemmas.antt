-- The order that a node needs of its input is exactly the one with which it delivers what is needed.
use Rattle.std.proofs.Common.{◌≡◌, ℕ, zero, suc, ◌+◌, ◌<◌, ◌≤◌, List, [], ◌∷◌, length, Option, Some, None, refl, sym, ◌∙◌, ap, subst, arith, cond, true, false, Bool, get_or}
use Rattle.std.specs.Prelude.{◌&&◌, ◌==◌, position, slice_get, option_map}
use Rattle.std.specs.Option.{option_and_then}
use Rattle.cal_value.specs.declared.order.KeyOrder.{KeyOrder}
use Rattle.cal_value.specs.Equal.{bool_eq}
use Rattle.cal_value.specs.EqualLaws.{bool_eq-Decides}
use Rattle.cal_value.proofs.TypeLemmas.{and-both}
use Rattle.cal_expr.specs.declared.expr.Expr.{Expr}
use Rattle.cal_expr.specs.declared.expr.Expr.TheVariants.{Column}
use Rattle.std.proofs.lemmas.List.Quantifiers.{position-Some}
use Rattle.std.proofs.lemmas.Option.{slice_get-get_or}
use Rattle.cal_rel.specs.Info.{Info}
use Rattle.cal_rel.specs.Tiles.{ascending}
use Rattle.plan_nodes.specs.declared.nodes.PlanNode.{PlanNode}
use Rattle.plan_nodes.specs.declared.nodes.PlanNode.TheVariants.{MemScan, CsvScan, TileRead, MemFilter, MemProject, CsvProject, ToEnumerable, Filter, Project, NestedLoopJoin, HashJoin, MergeJoin, HashAggregate, SortedAggregate, EmptyRows, Sort}
use Rattle.plan_nodes.specs.Orders.{key_eq, is_prefix, ascending_by, left_order, tile_order, item_column, is_at, first_place, moved, and_then, through, gives, asked_order, column_at, source, joined, back, where_given, below, Found}

-- ---- keys and prefixes

same-true : (n : ℕ) → (n == n) ≡ true
same-true n = grind arith

same-from : (m n : ℕ) → (m == n) ≡ true → m ≡ n
same-from m n h = grind (arith, h)

bool-true : (b : Bool) → bool_eq b b ≡ true
bool-true b = (bool_eq-Decides b b).1 refl

pub key-true : (k : KeyOrder) → key_eq k k ≡ true
key-true k = rw (same-true k.column, bool-true k.descending, bool-true k.nulls_first) refl

key_of : ℕ → Bool → Bool → KeyOrder
key_of column descending nulls_first = record { column = column; descending = descending; nulls_first = nulls_first }

pub key-from : (k c : KeyOrder) → key_eq k c ≡ true → k ≡ c
unfolding key_of
key-from k c h =
    let one = and-both (k.column == c.column) (bool_eq k.descending c.descending && bool_eq k.nulls_first c.nulls_first) h in
    let two = and-both (bool_eq k.descending c.descending) (bool_eq k.nulls_first c.nulls_first) one.1 in
    ap (λ n. key_of n k.descending k.nulls_first) (same-from k.column c.column one.0)
    ∙ ap (λ b. key_of c.column b k.nulls_first) ((bool_eq-Decides k.descending c.descending).0 two.0)
    ∙ ap (λ b. key_of c.column c.descending b) ((bool_eq-Decides k.nulls_first c.nulls_first).0 two.1)

pub prefix-self : (ks : List KeyOrder) → is_prefix ks ks ≡ true
prefix-self [] = refl
prefix-self (k ∷ ks) = rw (key-true k) (prefix-self ks)

pub prefix-trans : (xs ys zs : List KeyOrder) → is_prefix xs ys ≡ true → is_prefix ys zs ≡ true → is_prefix xs zs ≡ true
prefix-trans [] ys zs p q = refl
prefix-trans (x ∷ xs) [] zs p q = absurd (Prim.cc)
prefix-trans (x ∷ xs) (y ∷ ys) [] p q = absurd (Prim.cc)
prefix-trans (x ∷ xs) (y ∷ ys) (z ∷ zs) p q =
    let a = and-both (key_eq x y) (is_prefix xs ys) p in
    let b = and-both (key_eq y z) (is_prefix ys zs) q in
    let e : x ≡ z = key-from x y a.0 ∙ key-from y z b.0 in
    rw (e, key-true z) (prefix-trans xs ys zs a.1 b.1)

-- ---- through items

at-true : (k : ℕ) (p : Option ℕ) → is_at k p ≡ true → p ≡ Some k
at-true k None h = absurd (Prim.cc)
at-true k (Some j) h = ap Some (sym (same-from k j h))

-- the item at the place that is found
first-get : (column : ℕ) (items : List Expr) (k : ℕ) → first_place column items ≡ Some k → column_at items k ≡ Some column
first-get column items k h =
    let d : Expr = Column 0 in
    let found = position-Some (λ item. is_at column (item_column item)) items k d h in
    let here : slice_get items k ≡ Some (get_or items k d) = slice_get-get_or items k d found.0 in
    rw here (at-true column (item_column (get_or items k d)) found.1)

moved-back : (key other : KeyOrder) (k : ℕ) → key_eq key (moved other k) ≡ true → moved key other.column ≡ other
unfolding key_of
moved-back key other k h =
    let e : key ≡ moved other k = key-from key (moved other k) h in
    ap (λ (x : KeyOrder). moved x other.column) e

back-up : (items : List Expr) (need order : List KeyOrder) → is_prefix need (through items order) ≡ true → Found (back items need) order
back-up items [] order h = record { need = []; is = refl; ordered = refl }
back-up items (key ∷ need) [] h = absurd (Prim.cc)
back-up items (key ∷ need) (c ∷ order) h = at_place (first_place c.column items) refl h (back-up items need order)
  where
    at_place : (p : Option ℕ) → first_place c.column items ≡ p → is_prefix (key ∷ need) (and_then c p (through items order)) ≡ true
        → (is_prefix need (through items order) ≡ true → Found (back items need) order) → Found (back items (key ∷ need)) (c ∷ order)
    at_place None is h rest = absurd (Prim.cc)
    at_place (Some j) is h rest =
        let parts = and-both (key_eq key (moved c j)) (is_prefix need (through items order)) h in
        let here : key ≡ moved c j = key-from key (moved c j) parts.0 in
        let at : key.column ≡ j = ap (λ (x : KeyOrder). x.column) here in
        let column : column_at items key.column ≡ Some c.column = ap (column_at items) at ∙ first-get c.column items j is in
        let found : first_place c.column items ≡ Some key.column = is ∙ ap Some (sym at) in
        let more : Found (back items need) order = rest parts.1 in
        let from : source items key (column_at items key.column) ≡ Some c = rw (column, found, same-true key.column) (ap Some (moved-back key c j parts.0)) in
        record {
          need = c ∷ more.need;
          is = rw (from, more.is) refl;
          ordered = rw (key-true c) more.ordered;
        }

record Taken (items : List Expr) (key : KeyOrder) (need rest : List KeyOrder) : Type 0 where
  column : ℕ
  more : List KeyOrder
  at : first_place column items ≡ Some key.column
  back_is : back items need ≡ Some more
  rest_is : rest ≡ moved key column ∷ more

taken : (items : List Expr) (key : KeyOrder) (need rest : List KeyOrder) → back items (key ∷ need) ≡ Some rest → Taken items key need rest
taken items key need rest h = at_item (column_at items key.column) h
  where
    at_more : (c : ℕ) (p : Option (List KeyOrder)) → back items need ≡ p → first_place c items ≡ Some key.column → joined (Some (moved key c)) p ≡ Some rest → Taken items key need rest
    at_more c None is at e = absurd (Prim.cc)
    at_more c (Some more) is at e = record { column = c; more = more; at = at; back_is = is; rest_is = cc }

    at_test : (c : ℕ) (t : Bool) → (t ≡ true → first_place c items ≡ Some key.column) → joined (cond t (Some (moved key c)) None) (back items need) ≡ Some rest → Taken items key need rest
    at_test c true is e = at_more c (back items need) refl (is refl) e
    at_test c false is e = absurd (Prim.cc)

    at_item : (p : Option ℕ) → joined (source items key p) (back items need) ≡ Some rest → Taken items key need rest
    at_item None e = absurd (Prim.cc)
    at_item (Some c) e = at_test c (is_at key.column (first_place c items)) (at-true key.column (first_place c items)) e

moved-twice : (key other : KeyOrder) (column k : ℕ) → key_eq (moved key column) other ≡ true → key.column ≡ k → key ≡ moved other k
moved-twice key other column k h e =
    let same : moved key column ≡ other = key-from (moved key column) other h in
    ap (λ n. moved key n) e ∙ ap (λ (x : KeyOrder). moved x k) same

back-down : (items : List Expr) (need rest order : List KeyOrder) → back items need ≡ Some rest → is_prefix rest order ≡ true → is_prefix need (through items order) ≡ true
back-down items [] rest order e h = refl
back-down items (key ∷ need) rest order e h = at_rest (taken items key need rest e) order h (back-down items need)
  where
    at_rest : Taken items key need rest → (order : List KeyOrder) → is_prefix rest order ≡ true
        → ((more order : List KeyOrder) → back items need ≡ Some more → is_prefix more order ≡ true → is_prefix need (through items order) ≡ true)
        → is_prefix (key ∷ need) (through items order) ≡ true
    at_rest t [] h below = let e : is_prefix (moved key t.column ∷ t.more) [] ≡ true = subst (λ r. is_prefix r [] ≡ true) t.rest_is h in absurd (Prim.cc)
    at_rest t (c ∷ order) h below =
        let e : is_prefix (moved key t.column ∷ t.more) (c ∷ order) ≡ true = subst (λ r. is_prefix r (c ∷ order) ≡ true) t.rest_is h in
        let parts = and-both (key_eq (moved key t.column) c) (is_prefix t.more order) e in
        let column : t.column ≡ c.column = ap (λ (x : KeyOrder). x.column) (key-from (moved key t.column) c parts.0) in
        let at : first_place c.column items ≡ Some key.column = subst (λ d. first_place d items ≡ Some key.column) column t.at in
        let same : key_eq key (moved c key.column) ≡ true = subst (λ x. key_eq key x ≡ true) (moved-twice key c t.column key.column parts.0 refl) (key-true key) in
        rw (at, same) (below t.more order t.back_is parts.1)

-- ---- nodes

given-up : (need order given : List KeyOrder) (o : List KeyOrder) → is_prefix need given ≡ true → is_prefix order o ≡ true → Found (where_given (is_prefix need given) order) o
given-up need order given o p q = record { need = order; is = rw p refl; ordered = q }

-- a node that delivers what is needed has it from below
pub below-up : (info : Info) (width : ℕ) (node : PlanNode) (need order : List KeyOrder) → is_prefix need (gives info width node order) ≡ true
    → is_prefix (asked_order width node) order ≡ true → Found (below info width node need) order
below-up info width (MemScan table) need order p q = given-up need [] [] order p q
below-up info width (CsvScan table) need order p q = given-up need [] [] order p q
below-up info width (TileRead tile) need order p q = given-up need [] (tile_order info tile) order p q
below-up info width (MemFilter predicate) need order p q = given-up need [] [] order p q
below-up info width (MemProject items) need order p q = given-up need [] [] order p q
below-up info width (CsvProject items) need order p q = given-up need [] [] order p q
below-up info width ToEnumerable need order p q = record { need = need; is = refl; ordered = p }
below-up info width (Filter predicate) need order p q = record { need = need; is = refl; ordered = p }
below-up info width (Project items) need order p q = back-up items need order p
below-up info width (NestedLoopJoin kind on) need order p q = record { need = need; is = refl; ordered = p }
below-up info width (HashJoin kind on) need order p q = given-up need [] [] order p q
below-up info width (MergeJoin on) need order p q = given-up need (left_order width on) (left_order width on) order p q
below-up info width (HashAggregate groups calls) need order p q = given-up need [] [] order p q
below-up info width (SortedAggregate groups calls) need order p q = given-up need (ascending_by groups) (ascending (length groups)) order p q
below-up info width (EmptyRows types) need order p q = given-up need [] [] order p q
below-up info width (Sort keys) need order p q = given-up need [] keys order p q

pub given-parts : (t : Bool) (order rest : List KeyOrder) → where_given t order ≡ Some rest → (t ≡ true) × (rest ≡ order)
given-parts true order rest h = (refl, cc)
given-parts false order rest h = absurd (Prim.cc)

same-need : (need rest order : List KeyOrder) → ◌≡◌ {A = Option (List KeyOrder)} (Some need) (Some rest) → is_prefix rest order ≡ true → is_prefix need order ≡ true
same-need need rest order e h = let at : need ≡ rest = cc in rw at h

-- what is needed from below is enough
pub below-down : (info : Info) (width : ℕ) (node : PlanNode) (need rest order : List KeyOrder) → below info width node need ≡ Some rest → is_prefix rest order ≡ true
    → is_prefix need (gives info width node order) ≡ true
below-down info width (MemScan table) need rest order e h = (given-parts (is_prefix need []) [] rest e).0
below-down info width (CsvScan table) need rest order e h = (given-parts (is_prefix need []) [] rest e).0
below-down info width (TileRead tile) need rest order e h = (given-parts (is_prefix need (tile_order info tile)) [] rest e).0
below-down info width (MemFilter predicate) need rest order e h = (given-parts (is_prefix need []) [] rest e).0
below-down info width (MemProject items) need rest order e h = (given-parts (is_prefix need []) [] rest e).0
below-down info width (CsvProject items) need rest order e h = (given-parts (is_prefix need []) [] rest e).0
below-down info width ToEnumerable need rest order e h = same-need need rest order e h
below-down info width (Filter predicate) need rest order e h = same-need need rest order e h
below-down info width (Project items) need rest order e h = back-down items need rest order e h
below-down info width (NestedLoopJoin kind on) need rest order e h = same-need need rest order e h
below-down info width (HashJoin kind on) need rest order e h = (given-parts (is_prefix need []) [] rest e).0
below-down info width (MergeJoin on) need rest order e h = (given-parts (is_prefix need (left_order width on)) (left_order width on) rest e).0
below-down info width (HashAggregate groups calls) need rest order e h = (given-parts (is_prefix need []) [] rest e).0
below-down info width (SortedAggregate groups calls) need rest order e h = (given-parts (is_prefix need (ascending (length groups))) (ascending_by groups) rest e).0
below-down info width (EmptyRows types) need rest order e h = (given-parts (is_prefix need []) [] rest e).0
below-down info width (Sort keys) need rest order e h = (given-parts (is_prefix need keys) [] rest e).0

same-order : (order rest : List KeyOrder) → rest ≡ order → is_prefix order rest ≡ true
same-order order rest e = rw e (prefix-self order)

-- and begins with what the row asks
pub below-asked : (info : Info) (width : ℕ) (node : PlanNode) (need rest : List KeyOrder) → below info width node need ≡ Some rest → is_prefix (asked_order width node) rest ≡ true
below-asked info width (MemScan table) need rest e = refl
below-asked info width (CsvScan table) need rest e = refl
below-asked info width (TileRead tile) need rest e = refl
below-asked info width (MemFilter predicate) need rest e = refl
below-asked info width (MemProject items) need rest e = refl
below-asked info width (CsvProject items) need rest e = refl
below-asked info width ToEnumerable need rest e = refl
below-asked info width (Filter predicate) need rest e = refl
below-asked info width (Project items) need rest e = refl
below-asked info width (NestedLoopJoin kind on) need rest e = refl
below-asked info width (HashJoin kind on) need rest e = refl
below-asked info width (MergeJoin on) need rest e = same-order (left_order width on) rest (given-parts (is_prefix need (left_order width on)) (left_order width on) rest e).1
below-asked info width (HashAggregate groups calls) need rest e = refl
below-asked info width (SortedAggregate groups calls) need rest e = same-order (ascending_by groups) rest (given-parts (is_prefix need (ascending (length groups))) (ascending_by groups) rest e).1
below-asked info width (EmptyRows types) need rest e = refl
below-asked info width (Sort keys) need rest e = refl
