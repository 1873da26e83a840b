-- The bound on the rows of FROM, entry by entry.
use Rattle.std.proofs.Common.{◌≡◌, ◌<◌, ◌≤◌, ◌+◌, ◌*◌, ◌==◌, ◌∙◌, ℕ, Bool, true, false, cond, ap, sym, refl, arith, Option, List, [], ◌∷◌, ◌++◌, length, take, drop, get_or, append-nil, append_assoc, length-append, add-one}
use Rattle.std.specs.List.{list_all, list_any}
use Rattle.std.proofs.Math.Seq.{take-suc}
use Rattle.std.proofs.lemmas.List.{take-append-drop}
use Rattle.std.proofs.lemmas.Grind.{flat_map-append}
use Rattle.cal_value.specs.declared.operator.Op.{Op}
use Rattle.cal_value.specs.declared.operator.Op.TheVariants.{Equal}
use Rattle.cal_value.specs.Interval.{limit}
use Rattle.cal_aggregate.specs.ResultType.{row_bound}
use Rattle.sql_tree.specs.declared.tree.Tree.{Tree}
use Rattle.sql_tree.specs.declared.tree.Tree.TheFolds.{fold-roll-Tree}
use Rattle.sql_tree.specs.declared.tree.Tree.TheOpen.{Tree-F}
use Rattle.sql_tree.specs.declared.tree.Tree.TheVariants.{Binary, rolls-Binary}
use Rattle.sql_meaning.specs.Bounds.{Equated, bound_behind, bound_of, equated, equated_step, has_key, is_keyed, joined_bound, key_of, partners_bound}
use Rattle.sql_meaning.specs.Parts.{listed}
use Rattle.sql_meaning.specs.Scope.{Header, types_in}
use Rattle.sql_types.specs.Walks.{equated_of}

-- ---- the entries before one

pub seen-next : (scope : List Header) (i : ℕ) (h : Header) → h ≡ get_or scope i h → i < length scope → take (i + 1) scope ≡ take i scope ++ h ∷ []
seen-next scope i h is lt = ap (λ n. take n scope) (add-one i) ∙ take-suc scope i h lt ∙ ap (λ x. take i scope ++ x ∷ []) (sym is)

types-append : (hs ks : List Header) → types_in (hs ++ ks) ≡ types_in hs ++ types_in ks
types-append hs ks = flat_map-append _ hs ks

pub types-fewer : (scope : List Header) (i : ℕ) → length (types_in (take i scope)) ≤ length (types_in scope)
types-fewer scope i =
    let whole : length (types_in scope) ≡ length (types_in (take i scope)) + length (types_in (drop i scope)) =
    ap (λ hs. length (types_in hs)) (sym (take-append-drop i scope)) ∙ ap length (types-append (take i scope) (drop i scope)) ∙ length-append (types_in (take i scope)) (types_in (drop i scope)) in
    omega (arith, whole)

-- ---- keys

pub has_key-some : (columns key : List ℕ) → 1 ≤ length key → has_key columns key ≡ list_all (λ c. list_any (λ other. other == c) columns) key
has_key-some columns [] le = absurd (omega arith)
has_key-some columns (column ∷ key) le = refl

equated-Equal : (scope : List Header) (width place : ℕ) (l r : Tree)
    → equated scope width (Binary place Equal l r) ≡ key_of width (equated_of scope width l).column (equated_of scope width r).column
equated-Equal scope width place l r =
    ap (λ (e : Equated). e.keys) (ap (equated_of scope width) (sym (rolls-Binary place Equal l r)) ∙ fold-roll-Tree Equated (equated_step scope width) (Tree-F.Binary place Equal l r))

-- of an equality, whose sides are these columns
pub keys-Equal : (scope : List Header) (width place : ℕ) (op : Op) (l r tree left right : Tree) (a b key : Option ℕ) → tree ≡ Binary place op l r → op ≡ Equal → left ≡ l → right ≡ r
    → a ≡ (equated_of scope width left).column → b ≡ (equated_of scope width right).column → listed key ≡ key_of width a b → equated scope width tree ≡ listed key
keys-Equal scope width place op l r tree left right a b key et eo el er ea eb ek =
    ap (equated scope width) (et ∙ ap (λ o. Binary place o l r) eo)
    ∙ equated-Equal scope width place l r
    ∙ sym (ek ∙ ap (λ c. key_of width c b) (ea ∙ ap (λ t. (equated_of scope width t).column) el) ∙ ap (key_of width (equated_of scope width l).column) (eb ∙ ap (λ t. (equated_of scope width t).column) er))

-- ---- bounds

behind-push : (before : List Header) (rows : ℕ) (hs : List Header) (h : Header) → bound_behind before rows (hs ++ h ∷ []) ≡ joined_bound (before ++ hs) h (bound_behind before rows hs)
behind-push before rows [] h = ap (λ b. joined_bound b h rows) (sym (append-nil before))
behind-push before rows (x ∷ hs) h =
    behind-push (before ++ x ∷ []) (joined_bound before x rows) hs h
    ∙ ap (λ b. joined_bound b h (bound_behind (before ++ x ∷ []) (joined_bound before x rows) hs)) (append_assoc before (x ∷ []) hs)

-- with one more entry
pub bound-turn : (scope : List Header) (i : ℕ) (h : Header) (rows new : ℕ) → h ≡ get_or scope i h → i < length scope
    → rows ≡ bound_of (take i scope) → new ≡ joined_bound (take i scope) h rows → new ≡ bound_of (take (i + 1) scope)
bound-turn scope i h rows new is lt er en =
    en
    ∙ ap (joined_bound (take i scope) h) er
    ∙ sym (ap bound_of (seen-next scope i h is lt) ∙ behind-push [] 1 (take i scope) h)

joined-within : (before : List Header) (h : Header) (rows : ℕ) → rows ≤ limit → joined_bound before h rows ≤ limit
joined-within before h rows le = by (is_keyed before h)
  where
    by : (b : Bool) → cond b rows (row_bound (rows * partners_bound h)) ≤ limit
    by true = le
    by false = omega arith

behind-within : (before : List Header) (rows : ℕ) (hs : List Header) → rows ≤ limit → bound_behind before rows hs ≤ limit
behind-within before rows [] le = le
behind-within before rows (h ∷ hs) le = behind-within (before ++ h ∷ []) (joined_bound before h rows) hs (joined-within before h rows le)

pub bound-within : (scope : List Header) → bound_of scope ≤ limit
bound-within scope = behind-within [] 1 scope (omega arith)

pub ruleset bound_rules = (types-fewer, bound-within)
