-- JoinAssociate is lawful: three rows are joined where all conjuncts are TRUE of them, and come in the same order.
use Rattle.std.proofs.Common.{◌≡◌, ℕ, ◌+◌, ◌<◌, true, cond, ◌&&◌, List, [], ◌∷◌, ◌++◌, map, filter, length, All, Some, refl, sym, ◌∙◌, ap, subst, append_assoc, length-append}
use mathlib.Core.Path.{ap₂, fun_ext}
use Rattle.std.specs.List.{flat_map}
use Rattle.std.specs.Option.{option_map}
use Rattle.std.proofs.lemmas.Grind.{flat_map-append}
use Rattle.std.proofs.lemmas.List.{map-append}
use Rattle.std.proofs.lemmas.List.Elements.{All-head, All-tail, All-map}
use Rattle.std.proofs.lemmas.List.Folds.{flat_map-map}
use Rattle.cal_value.specs.Logic.{is_true}
use Rattle.cal_expr.specs.declared.expr.Expr.{Expr}
use Rattle.cal_schema.specs.declared.database.Db.{Db}
use Rattle.cal_schema.specs.declared.join_kind.JoinKind.TheVariants.{Inner}
use Rattle.cal_schema.specs.declared.rel_type.RelType.{RelType}
use Rattle.cal_schema.specs.Fits.{Fits}
use Rattle.cal_schema.specs.Valid.{IsValidSchema}
use Rattle.cal_rel.specs.Bag.{bag, width}
use Rattle.cal_rel.specs.Holes.{renumbered, EachHole, Narrows}
use Rattle.cal_rel.specs.Info.{Info}
use Rattle.cal_rel.specs.Meaning.{AreTrueOf}
use Rattle.cal_rel.specs.Operators.{Row, holds, partners}
use Rattle.cal_rel.specs.Tree.{Tree, join_on, binary}
use Rattle.cal_rel.specs.Typing.{type_of}
use Rattle.cal_rel.proofs.Reorders.{map-map}
use Rattle.expr_parts.specs.Columns.{columns_read}
use Rattle.expr_parts.specs.Conjuncts.{conjuncts_of, conjunction}
use Rattle.expr_parts.proofs.ColumnLaws.{first_part-mean}
use Rattle.expr_parts.proofs.ConjunctLaws.{conjunction-true}
use Rattle.rule_hep.specs.Local.{IsLocal}
use Rattle.filter_images.specs.Filtered.{is_none}
use Rattle.filter_images.specs.FilterIntoJoin.{is_right}
use Rattle.filter_images.specs.FilterIntoJoinLawful.{rows-long, width-steady}
use Rattle.filter_images.specs.FilterMergeLawful.{both-hold}
use Rattle.filter_images.specs.FilteredLemmas.{right-hold, changed-is, changed-renumbered, SameBag-same}
use Rattle.filter_images.specs.ListLemmas.{filter-decided, filter-flat_map, flat_map-filtered, filter-of_map, All-each, list_all-parted}
use Rattle.join_images.specs.JoinAssociate.{inside, outside, regrouped, associated, associated_joins}
use Rattle.join_images.specs.JoinTypes.{IsJoin, join-typed}

-- ---- lists made of lists

flat_map-flat_map : {A B C : Type 0} (g : B → List C) (f : A → List B) (xs : List A) → flat_map g (flat_map f xs) ≡ flat_map (λ x. flat_map g (f x)) xs
flat_map-flat_map g f [] = refl
flat_map-flat_map g f (x ∷ xs) = flat_map-append g (f x) (flat_map f xs) ∙ ap (λ ys. flat_map g (f x) ++ ys) (flat_map-flat_map g f xs)

map-flat_map : {A B C : Type 0} (g : B → C) (f : A → List B) (xs : List A) → map g (flat_map f xs) ≡ flat_map (λ x. map g (f x)) xs
map-flat_map g f [] = refl
map-flat_map g f (x ∷ xs) = map-append g (f x) (flat_map f xs) ∙ ap (λ ys. map g (f x) ++ ys) (map-flat_map g f xs)

flat_map-same : {A B : Type 0} (P : A → Type 0) (f g : A → List B) → ((x : A) → P x → f x ≡ g x) → (xs : List A) → All P xs → flat_map f xs ≡ flat_map g xs
flat_map-same P f g h [] all = refl
flat_map-same P f g h (x ∷ xs) all = ap₂ (λ ys zs. ys ++ zs) (h x (All-head P x xs all)) (flat_map-same P f g h xs (All-tail P x xs all))

-- ---- conditions

-- what both conditions ask of three rows, the inner one asks of the last two, and the outer one of all
conjuncts-split : (n : ℕ) (lower upper : Expr) (x w : Row) → length x ≡ n
    → (holds lower (x ++ w) && holds upper (x ++ w))
    ≡ (holds (conjunction (inside n (conjuncts_of lower ++ conjuncts_of upper))) w && holds (conjunction (outside n (conjuncts_of lower ++ conjuncts_of upper))) (x ++ w))
conjuncts-split n lower upper x w long =
    let conjuncts = conjuncts_of lower ++ conjuncts_of upper in
    sym (both-hold lower upper (x ++ w))
    ∙ list_all-parted (λ c. holds c (x ++ w)) (is_right n) conjuncts
    ∙ ap₂ (λ p q. p && q) (right-hold n conjuncts x w long ∙ sym (conjunction-true (inside n conjuncts) w)) (sym (conjunction-true (outside n conjuncts) (x ++ w)))

-- the lower condition doesn't read the last row
lower-decides : (m n : ℕ) (lower : Expr) → All (λ at. at < m + n) (columns_read lower) → (x y z : Row) → length x ≡ m → length y ≡ n
    → holds lower (x ++ (y ++ z)) ≡ holds lower (x ++ y)
lower-decides m n lower reads x y z long other =
    let both : length (x ++ y) ≡ m + n = length-append x y ∙ ap₂ (λ a b. a + b) long other in
    ap (holds lower) (sym (append_assoc x y z))
    ∙ ap is_true (first_part-mean (x ++ y) z lower (subst (λ k. All (λ at. at < k) (columns_read lower)) (sym both) reads))

-- ---- rows

-- what two rows make with the third ones
third-rows : (lower upper within without : Expr) (x y : Row) → ((z : Row) → holds lower (x ++ (y ++ z)) ≡ holds lower (x ++ y))
    → ((w : Row) → (holds lower (x ++ w) && holds upper (x ++ w)) ≡ (holds within w && holds without (x ++ w)))
    → (last : List Row) → cond (holds lower (x ++ y)) (partners upper last (x ++ y)) [] ≡ filter (holds without) (map (λ w. x ++ w) (partners within last y))
third-rows lower upper within without x y decides split last =
    ap (λ rows. cond (holds lower (x ++ y)) (filter (holds upper) rows) []) regroup
    ∙ sym (filter-decided (λ row. holds lower row && holds upper row) (holds upper) (holds lower (x ++ y)) three
    (All-map (λ row. (holds lower row && holds upper row) ≡ (holds lower (x ++ y) && holds upper row)) (λ w. x ++ w) (map (λ z. y ++ z) last)
    (All-map (λ w. (holds lower (x ++ w) && holds upper (x ++ w)) ≡ (holds lower (x ++ y) && holds upper (x ++ w))) (λ z. y ++ z) last
    (All-each (λ z. (holds lower (x ++ (y ++ z)) && holds upper (x ++ (y ++ z))) ≡ (holds lower (x ++ y) && holds upper (x ++ (y ++ z))))
    (λ z. ap (λ b. b && holds upper (x ++ (y ++ z))) (decides z)) last))))
    ∙ filter-of_map (λ row. holds lower row && holds upper row) (holds without) (holds within) (λ w. x ++ w) split (map (λ z. y ++ z) last)
  where
    three : List Row
    three = map (λ w. x ++ w) (map (λ z. y ++ z) last)

    regroup : map (λ z. (x ++ y) ++ z) last ≡ map (λ w. x ++ w) (map (λ z. y ++ z) last)
    regroup = ap (λ f. map f last) (fun_ext (λ (z : Row). append_assoc x y z)) ∙ sym (map-map (λ w. x ++ w) (λ z. y ++ z) last)

abbrev if_holds : Expr → Expr → List Row → Row → List Row
if_holds lower upper last row = cond (holds lower row) (partners upper last row) []

-- what one row makes with the second and the third ones
one-row : (m n : ℕ) (lower upper within without : Expr) (x : Row) → ((y z : Row) → length y ≡ n → holds lower (x ++ (y ++ z)) ≡ holds lower (x ++ y))
    → ((w : Row) → (holds lower (x ++ w) && holds upper (x ++ w)) ≡ (holds within w && holds without (x ++ w)))
    → (middle last : List Row) → All (λ y. length y ≡ n) middle → flat_map (partners upper last) (partners lower middle x) ≡ partners without (flat_map (partners within last) middle) x
one-row m n lower upper within without x decides split middle last all =
    sym (flat_map-filtered (λ row. Unit {0}) (holds lower) (if_holds lower upper last) (partners upper last) (λ row _. refl) (map (λ y. x ++ y) middle) (All-each (λ row. Unit {0}) (λ row. tt) (map (λ y. x ++ y) middle)))
    ∙ flat_map-map (if_holds lower upper last) (λ y. x ++ y) middle
    ∙ flat_map-same (λ y. length y ≡ n) (λ y. if_holds lower upper last (x ++ y)) (λ y. filter (holds without) (map (λ w. x ++ w) (partners within last y)))
    (λ y long. third-rows lower upper within without x y (λ z. decides y z long) split last) middle all
    ∙ sym (filter-flat_map (holds without) (λ y. map (λ w. x ++ w) (partners within last y)) middle)
    ∙ ap (filter (holds without)) (sym (map-flat_map (λ w. x ++ w) (partners within last) middle))

regrouped-bag : (info : Info) (db : Db) (holes : ℕ → List Row) (lower upper : Expr) (a b c : Tree) → IsJoin info lower a b → Fits db info.schema → AreTrueOf info.sets holes
    → bag info db holes (regrouped (width info a) (conjuncts_of lower ++ conjuncts_of upper) a b c)
    ≡ bag info db holes (binary (join_on Inner upper) (binary (join_on Inner lower) a b) c)
regrouped-bag info db holes lower upper a b c join fits true_of =
    sym (flat_map-flat_map (partners upper last) (partners lower middle) first
    ∙ flat_map-same (λ x. length x ≡ m) (λ x. flat_map (partners upper last) (partners lower middle x)) (partners without (flat_map (partners within last) middle))
    (λ x long. one-row m n lower upper within without x (λ y z other. lower-decides m n lower join.reads x y z long other) (λ w. conjuncts-split m lower upper x w long)
    middle last (rows-long info db holes b join.right fits true_of))
    first (rows-long info db holes a join.left fits true_of))
  where
    m : ℕ
    m = width info a

    n : ℕ
    n = width info b

    first : List Row
    first = bag info db holes a

    middle : List Row
    middle = bag info db holes b

    last : List Row
    last = bag info db holes c

    within : Expr
    within = conjunction (inside m (conjuncts_of lower ++ conjuncts_of upper))

    without : Expr
    without = conjunction (outside m (conjuncts_of lower ++ conjuncts_of upper))

-- ---- the rule

lower-typed : (info : Info) (upper lower : Expr) (a b c : Tree) (u : RelType) → type_of info (binary (join_on Inner upper) (binary (join_on Inner lower) a b) c) ≡ Some u → IsJoin info lower a b
lower-typed info upper lower a b c u typed =
    let below = (join-typed info Inner upper (binary (join_on Inner lower) a b) c u typed).left in
    join-typed info Inner lower a b below.own below.is

associated-is : (n : ℕ) (conjuncts : List Expr) (a b c out : Tree) → associated n conjuncts a b c ≡ Some out → regrouped n conjuncts a b c ≡ out
associated-is n conjuncts a b c out e = changed-is (is_none (inside n conjuncts)) (regrouped n conjuncts a b c) out e

associated-sets : (P : ℕ → Type 0) (info : Info) (rel out : Tree) → associated_joins info rel ≡ Some out → EachHole P rel → EachHole P out
associated-sets P info (binary (join_on Inner upper) (binary (join_on Inner lower) a b) c) out e h =
    subst (EachHole P) (associated-is (width info a) (conjuncts_of lower ++ conjuncts_of upper) a b c out e) (h.0.0, (h.0.1, h.1))
associated-sets P info _ out e h = absurd (cc)

pub associated-means : (info : Info) (db : Db) (holes : ℕ → List Row) (rel out : Tree) (u : RelType) → Fits db info.schema → AreTrueOf info.sets holes → type_of info rel ≡ Some u
    → associated_joins info rel ≡ Some out → bag info db holes out ≡ bag info db holes rel
associated-means info db holes (binary (join_on Inner upper) (binary (join_on Inner lower) a b) c) out u fits true_of typed e =
    ap (bag info db holes) (sym (associated-is (width info a) (conjuncts_of lower ++ conjuncts_of upper) a b c out e))
    ∙ regrouped-bag info db holes lower upper a b c (lower-typed info upper lower a b c u typed) fits true_of
associated-means info db holes _ out u fits true_of typed e = absurd (cc)

associated-steady : (m : ℕ → ℕ) (from to : Info) (rel out : Tree) (u : RelType) → IsValidSchema from.schema → Narrows m from to → type_of from rel ≡ Some u
    → associated_joins from rel ≡ Some out → associated_joins to (renumbered m rel) ≡ Some (renumbered m out)
associated-steady m from to (binary (join_on Inner upper) (binary (join_on Inner lower) a b) c) out u valid narrows typed e =
    let conjuncts = conjuncts_of lower ++ conjuncts_of upper in
    ap (λ n. associated n conjuncts (renumbered m a) (renumbered m b) (renumbered m c)) (width-steady m from to a (lower-typed from upper lower a b c u typed).left valid narrows)
    ∙ changed-renumbered m (is_none (inside (width from a) conjuncts)) (regrouped (width from a) conjuncts a b c)
    ∙ ap (option_map (renumbered m)) e
associated-steady m from to _ out u valid narrows typed e = absurd (cc)

pub local_associated_joins : IsLocal associated_joins
local_associated_joins = record {
  sets = λ info rel out p e h. associated-sets (λ k. p k ≡ true) info rel out e h;
  means = λ info rel out s t typed made e db holes fits true_of. SameBag-same (bag info db holes out) (bag info db holes rel) (associated-means info db holes rel out s fits true_of typed e);
  steady = λ m from to rel out t valid narrows typed e. associated-steady m from to rel out t valid narrows typed e;
}
