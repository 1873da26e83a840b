-- Each name of an accepted SELECT is that of a column.
use Rattle.std.proofs.Common.{◌≡◌, ◌∙◌, ◌+◌, ◌==◌, ℕ, Bool, true, false, cond, ◌&&◌, List, [], ◌∷◌, ◌++◌, map, find, All, Some, None, refl, sym, ap, subst, arith}
use Rattle.std.specs.Prelude.{is_some}
use Rattle.std.specs.List.{flat_map}
use Rattle.std.specs.Cmp.Lexicographic.{pointwise}
use Rattle.std.proofs.lemmas.Bool.Decides.{nat_tests}
use Rattle.std.proofs.lemmas.List.{append-nil, append_assoc}
use Rattle.std.proofs.lemmas.List.Folds.{find-append}
use Rattle.std.proofs.lemmas.List.Sums.{sum_by-cons, sum_by-append}
use Rattle.std.proofs.lemmas.List.Elements.{All-nil, All-cons, All-map}
use Rattle.cal_value.specs.declared.operator.Op.{Op}
use Rattle.cal_value.specs.declared.operator.Op.TheVariants.{Equal}
use Rattle.cal_schema.specs.Lookup.{is_same_name}
use Rattle.sql_tree.specs.declared.select.Cond.{Cond}
use Rattle.sql_tree.specs.declared.select.Cond.TheVariants.{On, Using}
use Rattle.sql_tree.specs.declared.select.How.{How}
use Rattle.sql_tree.specs.declared.select.How.TheVariants.{First, Cross, Inner, Left}
use Rattle.sql_tree.specs.declared.select.Select.{Select}
use Rattle.sql_tree.specs.declared.select.UsingName.{UsingName}
use Rattle.sql_tree.specs.declared.tree.ColumnName.{ColumnName}
use Rattle.sql_tree.specs.declared.tree.Tree.{Tree}
use Rattle.sql_tree.specs.declared.tree.Tree.TheFolds.{fold-roll-Tree}
use Rattle.sql_tree.specs.declared.tree.Tree.TheOpen.{Tree-F}
use Rattle.sql_tree.specs.declared.tree.Tree.TheVariants.{Column, Binary, rolls-Column, rolls-Binary}
use Rattle.sql_meaning.specs.declared.mention.Mention.{Mention}
use Rattle.sql_meaning.specs.Mentions.{unqualified, column_mention, tree_mentions, alias_mention, has_column, using_mention, cond_mentions, how_mentions, entry_mentions, from_mentions, key_names, mentions}
use Rattle.sql_meaning.specs.Parts.{columns_in, columns_step, column_tree, equal_columns, conditions_in, conditions_by, item_trees, listed}
use Rattle.sql_meaning.specs.Scope.{Header, place_in, homes}
use Rattle.sql_meaning.proofs.Nothing.{or-none}
use Rattle.sql_meaning.proofs.Places.{place-searched}
use Rattle.typed_meaning.specs.Known.{HasKnownColumns}

-- no entry has a column of the name
abbrev pub is_lost : Mention → Bool
is_lost m = m.homes == 0

-- ---- found nowhere in a list

split : {A : Type 0} (p : A → Bool) (xs ys : List A) → find p (xs ++ ys) ≡ None → (find p xs ≡ None) × (find p ys ≡ None)
split p xs ys e = or-none (find p xs) (find p ys) (sym (find-append p xs ys) ∙ e)

first-no : {A : Type 0} (p : A → Bool) (x : A) (xs : List A) → find p (x ∷ xs) ≡ None → (p x ≡ false) × (find p xs ≡ None)
first-no p x xs e = by (p x) e
  where
    by : (b : Bool) → cond b (Some x) (find p xs) ≡ None → (b ≡ false) × (find p xs ≡ None)
    by true f = absurd (cc)
    by false f = (refl, f)

one-more : {A : Type 0} (p : A → Bool) (x : A) (xs : List A) → p x ≡ false → find p xs ≡ None → find p (x ∷ xs) ≡ None
one-more p x xs e f = ap (λ b. cond b (Some x) (find p xs)) e ∙ f

before-map : {A B : Type 0} (p : B → Bool) (f : A → B) (xs : List A) → find p (map f xs) ≡ None → find (λ x. p (f x)) xs ≡ None
before-map p f [] e = refl
before-map p f (x ∷ xs) e = let q = first-no p (f x) (map f xs) e in one-more (λ x. p (f x)) x xs q.0 (before-map p f xs q.1)

known : (scope : List Header) (tree : Tree) → find is_lost (tree_mentions scope tree) ≡ None → HasKnownColumns scope tree
known scope tree e = before-map is_lost (column_mention scope) (columns_in tree) e

each-known : (scope : List Header) (trees : List Tree) → find is_lost (flat_map (tree_mentions scope) trees) ≡ None → All (HasKnownColumns scope) trees
each-known scope [] e = All-nil (HasKnownColumns scope)
each-known scope (tree ∷ trees) e =
    let q = split is_lost (tree_mentions scope tree) (flat_map (tree_mentions scope) trees) e in
    All-cons (HasKnownColumns scope) tree trees (known scope tree q.0) (each-known scope trees q.1)

-- ---- a name of USING

same-itself : (name : List ℕ) → is_same_name name name ≡ true
same-itself [] = refl
same-itself (c ∷ cs) = by (c == c) (grind (arith, nat_tests)) (same-itself cs)
  where
    by : (b : Bool) → b ≡ true → pointwise ◌==◌ cs cs ≡ true → (b && pointwise ◌==◌ cs cs) ≡ true
    by true e f = f
    by false e f = absurd (cc)

-- entries more have no fewer
homes-first : (before after : List Header) (c : ColumnName) → (homes before c == 0) ≡ false → (homes (before ++ after) c == 0) ≡ false
homes-first before after c e =
    let both = sum_by-append (λ h. cond (is_some (place_in h c)) 1 0) before after in
    grind (arith, nat_tests)

homes-last : (before : List Header) (h : Header) (c : ColumnName) → is_some (place_in h c) ≡ true → (homes (before ++ h ∷ []) c == 0) ≡ false
homes-last before h c e =
    let both = sum_by-append (λ h. cond (is_some (place_in h c)) 1 0) before (h ∷ []) in
    let one : homes (h ∷ []) c ≡ 1 = sum_by-cons (λ h. cond (is_some (place_in h c)) 1 0) h [] ∙ ap (λ b. cond b 1 0 + 0) e in
    grind (arith, nat_tests)

-- the entry's own column, by its alias
own-place : (h : Header) (name : List ℕ) → has_column h name ≡ true → is_some (place_in h (record { alias = Some h.entry.alias; name = name })) ≡ true
own-place h name e = ap is_some (place-searched h (record { alias = Some h.entry.alias; name = name }) (same-itself h.entry.alias)) ∙ e

columns-Column : (place : ℕ) (name : ColumnName) → columns_in (Column place name) ≡ name ∷ []
columns-Column place name = ap columns_in (sym (rolls-Column place name)) ∙ fold-roll-Tree (List ColumnName) columns_step (Tree-F.Column place name)

columns-Binary : (place : ℕ) (op : Op) (a b : Tree) → columns_in (Binary place op a b) ≡ columns_in a ++ columns_in b
columns-Binary place op a b = ap columns_in (sym (rolls-Binary place op a b)) ∙ fold-roll-Tree (List ColumnName) columns_step (Tree-F.Binary place op a b)

columns-equal : (alias : List ℕ) (n : UsingName) → columns_in (equal_columns alias n) ≡ record { alias = None; name = n.name } ∷ record { alias = Some alias; name = n.name } ∷ []
columns-equal alias n =
    columns-Binary n.place Equal (column_tree n.place None n.name) (column_tree n.place (Some alias) n.name)
    ∙ ap (λ xs. xs ++ columns_in (column_tree n.place (Some alias) n.name)) (columns-Column n.place (record { alias = None; name = n.name }))
    ∙ ap (λ xs. record { alias = None; name = n.name } ∷ xs) (columns-Column n.place (record { alias = Some alias; name = n.name }))

using-known : (before : List Header) (h : Header) (n : UsingName) → is_lost (using_mention before h n.name) ≡ false → HasKnownColumns (before ++ h ∷ []) (equal_columns h.entry.alias n)
using-known before h n e = by (has_column h n.name) refl e
  where
    by : (b : Bool) → has_column h n.name ≡ b → (cond b (homes before (unqualified n.name)) 0 == 0) ≡ false → HasKnownColumns (before ++ h ∷ []) (equal_columns h.entry.alias n)
    by true f g =
        ap (find (λ c. homes (before ++ h ∷ []) c == 0)) (columns-equal h.entry.alias n)
        ∙ one-more (λ c. homes (before ++ h ∷ []) c == 0) (record { alias = None; name = n.name }) (record { alias = Some h.entry.alias; name = n.name } ∷ [])
        (homes-first before (h ∷ []) (unqualified n.name) g)
        (one-more (λ c. homes (before ++ h ∷ []) c == 0) (record { alias = Some h.entry.alias; name = n.name }) []
        (homes-last before h (record { alias = Some h.entry.alias; name = n.name }) (own-place h n.name f)) refl)
    by false f g = absurd (cc)

usings-known : (before : List Header) (h : Header) (names : List UsingName) → find is_lost (map (λ n. using_mention before h n.name) names) ≡ None
    → All (λ n. HasKnownColumns (before ++ h ∷ []) (equal_columns h.entry.alias n)) names
usings-known before h [] e = All-nil (λ n. HasKnownColumns (before ++ h ∷ []) (equal_columns h.entry.alias n))
usings-known before h (n ∷ names) e =
    let q = first-no is_lost (using_mention before h n.name) (map (λ n. using_mention before h n.name) names) e in
    All-cons (λ n. HasKnownColumns (before ++ h ∷ []) (equal_columns h.entry.alias n)) n names (using-known before h n q.0) (usings-known before h names q.1)

-- ---- joins

cond-known : (before : List Header) (h : Header) (on : Cond) → find is_lost (cond_mentions before h on) ≡ None → All (HasKnownColumns (before ++ h ∷ [])) (conditions_in h.entry.alias on)
cond-known before h (On tree) e = All-cons (HasKnownColumns (before ++ h ∷ [])) tree [] (known (before ++ h ∷ []) tree e) (All-nil (HasKnownColumns (before ++ h ∷ [])))
cond-known before h (Using names) e = All-map (HasKnownColumns (before ++ h ∷ [])) (equal_columns h.entry.alias) names (usings-known before h names e)

how-known : (before : List Header) (h : Header) (how : How) → find is_lost (how_mentions before h how) ≡ None → All (HasKnownColumns (before ++ h ∷ [])) (conditions_by h.entry.alias how)
how-known before h First e = All-nil (HasKnownColumns (before ++ h ∷ []))
how-known before h Cross e = All-nil (HasKnownColumns (before ++ h ∷ []))
how-known before h (Inner on) e = cond-known before h on e
how-known before h (Left on) e = cond-known before h on e

from-entry : (before front : List Header) (h : Header) (back : List Header) → find is_lost (from_mentions before (front ++ h ∷ back)) ≡ None → find is_lost (entry_mentions (before ++ front) h) ≡ None
from-entry before [] h back e =
    subst (λ hs. find is_lost (entry_mentions hs h) ≡ None) (sym (append-nil before)) (split is_lost (entry_mentions before h) (from_mentions (before ++ h ∷ []) back) e).0
from-entry before (x ∷ front) h back e =
    subst (λ hs. find is_lost (entry_mentions hs h) ≡ None) (append_assoc before (x ∷ []) front)
    (from-entry (before ++ x ∷ []) front h back (split is_lost (entry_mentions before x) (from_mentions (before ++ x ∷ []) (front ++ h ∷ back)) e).1)

pub joins-known : (front : List Header) (h : Header) (back : List Header) → find is_lost (from_mentions [] (front ++ h ∷ back)) ≡ None → All (HasKnownColumns (front ++ h ∷ [])) (conditions_by h.entry.alias h.entry.how)
joins-known front h back e = how-known front h h.entry.how (first-no is_lost (alias_mention front h) (how_mentions front h h.entry.how) (from-entry [] front h back e)).1

-- ---- the whole

pub record AreKnown (scope : List Header) (select : Select) : Type 0 where
  pub items : All (HasKnownColumns scope) (item_trees select.items)
  pub from : find is_lost (from_mentions [] scope) ≡ None
  pub filter : All (HasKnownColumns scope) (listed select.filter)
  pub having : All (HasKnownColumns scope) (listed select.having)

pub are_known : (scope : List Header) (select : Select) → find is_lost (mentions scope select) ≡ None → AreKnown scope select
are_known scope select e =
    let items : List Mention = flat_map (tree_mentions scope) (item_trees select.items) in
    let from : List Mention = from_mentions [] scope in
    let filters : List Mention = flat_map (tree_mentions scope) (listed select.filter) in
    let groups : List Mention = map (column_mention scope) select.groups in
    let havings : List Mention = flat_map (tree_mentions scope) (listed select.having) in
    let keys : List Mention = map (column_mention scope) (key_names select.order) in
    let five = split is_lost (items ++ from ++ filters ++ groups ++ havings) keys e in
    let four = split is_lost (items ++ from ++ filters ++ groups) havings five.0 in
    let three = split is_lost (items ++ from ++ filters) groups four.0 in
    let two = split is_lost (items ++ from) filters three.0 in
    let one = split is_lost items from two.0 in
    record { items = each-known scope (item_trees select.items) one.0; from = one.1; filter = each-known scope (listed select.filter) two.1; having = each-known scope (listed select.having) four.1 }
