-- Names that are made.
use Rattle.std.proofs.Common.{◌≡◌, ◌<◌, ◌≤◌, ◌+◌, ◌^◌, ◌∙◌, ap, sym, refl, lit<, add-zero, zero-add, add-one, take, get_or, arith, ℕ, Bool, true, false, cond, if◌then◌else◌, List, [], ◌∷◌, ◌++◌, length, map, append-nil, append_assoc}
use Rattle.std.specs.Prelude.{decimal}
use Rattle.std.proofs.Math.Seq.{take-suc}
use Rattle.std.proofs.lemmas.List.{length-take-le, take_all}
use Rattle.std.proofs.lemmas.Grind.{flat_map-append}
use Rattle.std.proofs.lemmas.Fmt.{length-decimal-le}
use Rattle.cal_value.specs.declared.limits.TheConstants.{TEXT_LIMIT}
use Rattle.cal_schema.specs.declared.column.ColumnDef.{ColumnDef}
use Rattle.sql_tree.specs.declared.select.Item.{Item}
use Rattle.sql_meaning.specs.Direct.{shown}
use Rattle.sql_meaning.specs.Names.{made_name, star_names, shown_names, item_name, item_names}
use Rattle.sql_meaning.specs.Scope.{Header, is_among}

pub made_name-short : (place : ℕ) → place < 2 ^ 64 → length (made_name place) ≤ TEXT_LIMIT
made_name-short place small =
    let wide : place < 10 ^ 20 = omega arith in
    let short : length (decimal place) ≤ 20 = length-decimal-le 20 place (lit< tt) wide small in
    omega arith

pub item_names-push : (k : ℕ) (items : List Item) (item : Item) → item_names k (items ++ item ∷ []) ≡ item_names k items ++ item_name (k + length items) item ∷ []
item_names-push k [] item = ap (λ n. item_name n item ∷ []) (sym (add-zero k))
item_names-push k (x ∷ items) item =
    let next : k + 1 + length items ≡ k + length (x ∷ items) = omega arith in
    ap (λ names. item_name k x ∷ names) (item_names-push (k + 1) items item ∙ ap (λ n. item_names (k + 1) items ++ item_name n item ∷ []) next)

-- of a loop over the items
pub names-turn : (items : List Item) (i : ℕ) (item : Item) (name : List ℕ) (names new : List (List ℕ)) → item ≡ get_or items i item → i < length items → names ≡ item_names 0 (take i items) → name ≡ item_name i item
    → new ≡ names ++ name ∷ [] → new ≡ item_names 0 (take (i + 1) items)
names-turn items i item name names new is lt e en ew =
    let here : length (take i items) ≡ i = length-take-le i items (omega arith) in
    ew
    ∙ ap (λ ns. ns ++ name ∷ []) e
    ∙ ap (λ n. item_names 0 (take i items) ++ n ∷ []) (en ∙ ap (item_name i) is)
    ∙ ap (λ n. item_names 0 (take i items) ++ item_name n (get_or items i item) ∷ []) (sym (zero-add (length (take i items)) ∙ here))
    ∙ sym (ap (λ n. item_names 0 (take n items)) (add-one i) ∙ ap (item_names 0) (take-suc items i item lt) ∙ item_names-push 0 (take i items) (get_or items i item))

shown-push : (hidden : List (List ℕ)) (columns : List ColumnDef) (c : ColumnDef) → shown hidden (columns ++ c ∷ []) (map (λ d. d.name) (columns ++ c ∷ []))
    ≡ shown hidden columns (map (λ d. d.name) columns) ++ (if is_among c.name hidden then [] else c.name ∷ [])
shown-push hidden [] c = refl
shown-push hidden (d ∷ columns) c = by (is_among d.name hidden) (shown-push hidden columns c)
  where
    by : (b : Bool) → shown hidden (columns ++ c ∷ []) (map (λ x. x.name) (columns ++ c ∷ [])) ≡ shown hidden columns (map (λ x. x.name) columns) ++ (if is_among c.name hidden then [] else c.name ∷ [])
        → cond b (shown hidden (columns ++ c ∷ []) (map (λ x. x.name) (columns ++ c ∷ []))) (d.name ∷ shown hidden (columns ++ c ∷ []) (map (λ x. x.name) (columns ++ c ∷ [])))
        ≡ cond b (shown hidden columns (map (λ x. x.name) columns)) (d.name ∷ shown hidden columns (map (λ x. x.name) columns)) ++ (if is_among c.name hidden then [] else c.name ∷ [])
    by true e = e
    by false e = ap (λ names. d.name ∷ names) e

abbrev pub shown_in : List (List ℕ) → List ColumnDef → List (List ℕ)
shown_in hidden columns = shown hidden columns (map (λ c. c.name) columns)

-- of a loop over the columns of an entry
shown-next : (hidden : List (List ℕ)) (columns : List ColumnDef) (i : ℕ) (c : ColumnDef) → c ≡ get_or columns i c → i < length columns
    → shown_in hidden (take (i + 1) columns) ≡ shown_in hidden (take i columns) ++ (if is_among c.name hidden then [] else c.name ∷ [])
shown-next hidden columns i c is lt =
    ap (λ n. shown_in hidden (take n columns)) (add-one i)
    ∙ ap (shown_in hidden) (take-suc columns i c lt)
    ∙ shown-push hidden (take i columns) (get_or columns i c)
    ∙ ap (λ (d : ColumnDef). shown_in hidden (take i columns) ++ (if is_among d.name hidden then [] else d.name ∷ [])) (sym is)

pub shown-turn : (hidden : List (List ℕ)) (columns : List ColumnDef) (i : ℕ) (c : ColumnDef) (old names new : List (List ℕ)) → c ≡ get_or columns i c → i < length columns
    → names ≡ old ++ shown_in hidden (take i columns) → new ≡ names ++ (if is_among c.name hidden then [] else c.name ∷ []) → new ≡ old ++ shown_in hidden (take (i + 1) columns)
shown-turn hidden columns i c old names new is lt e f =
    f
    ∙ ap (λ ns. ns ++ (if is_among c.name hidden then [] else c.name ∷ [])) e
    ∙ append_assoc old (shown_in hidden (take i columns)) (if is_among c.name hidden then [] else c.name ∷ [])
    ∙ ap (λ ns. old ++ ns) (sym (shown-next hidden columns i c is lt))

pub shown-all : (hidden : List (List ℕ)) (columns : List ColumnDef) (i : ℕ) (old names : List (List ℕ)) → length columns ≤ i → names ≡ old ++ shown_in hidden (take i columns) → names ≡ old ++ shown_in hidden columns
shown-all hidden columns i old names past e = e ∙ ap (λ cs. old ++ shown_in hidden cs) (take_all i columns past)

-- of a loop over the entries
pub star-next : (scope : List Header) (i : ℕ) (h : Header) (names new : List (List ℕ)) → h ≡ get_or scope i h → i < length scope → names ≡ star_names (take i scope) → new ≡ names ++ shown_names h
    → new ≡ star_names (take (i + 1) scope)
star-next scope i h names new is lt e f =
    f
    ∙ ap (λ ns. ns ++ shown_names h) e
    ∙ ap (λ ns. star_names (take i scope) ++ ns) (sym (append-nil (shown_names h)))
    ∙ ap (λ (x : Header). star_names (take i scope) ++ star_names (x ∷ [])) is
    ∙ sym (ap (λ n. star_names (take n scope)) (add-one i) ∙ ap star_names (take-suc scope i h lt) ∙ flat_map-append shown_names (take i scope) (get_or scope i h ∷ []))

pub ruleset name_rules = (made_name-short)
