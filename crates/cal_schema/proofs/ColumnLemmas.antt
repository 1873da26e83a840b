-- Columns that were named one after another.
use Rattle.std.proofs.Common.{◌≡◌, ◌≢◌, ◌<◌, ◌≤◌, ◌==◌, ℕ, Bool, true, false, cond, List, [], ◌∷◌, ◌++◌, length, get_or, Option, Some, None, Ok, Err, refl, sym, ap, subst, ◌∙◌, arith, nat_lt, codes, if◌then◌else◌}
use Rattle.std.specs.List.{All, AllPairs, list_any}
use Rattle.std.proofs.lemmas.Bool.{ltb-false, eqb-false}
use Rattle.std.proofs.lemmas.Bool.Decides.{Decides-eqb}
use Rattle.std.proofs.lemmas.List.Elements.{All-nil, All-push, All-weaker}
use Rattle.std.proofs.lemmas.List.Folds.{list_any_at}
use Rattle.std.proofs.lemmas.List.Quantifiers.{all_pairs_push}
use Rattle.std.proofs.lemmas.Slice.Eq.{slice_eq-Decides}
use Rattle.std.specs.Cmp.Lexicographic.{pointwise}
use Rattle.cal_value.specs.declared.kind.SqlType.{SqlType}
use Rattle.cal_value.specs.declared.limits.TheConstants.{COLUMN_LIMIT, NAME_LIMIT}
use Rattle.cal_value.specs.Types.{boolean_type, text_type}
use Rattle.cal_schema.specs.declared.column.ColumnDef.{ColumnDef}
use Rattle.cal_schema.specs.declared.column.ColumnFault.TheVariants.{NameTooLong, BadColumn}
use Rattle.cal_schema.specs.Column.{type_named, short_type, int_type, long_type, is_word, column_of, typed_column, name_part, word_part}
use Rattle.cal_schema.specs.Lookup.{is_same_name}
use Rattle.cal_schema.specs.Valid.{IsColumnType, IsHeader}

-- the second branch, where the first gives another answer
pub past_if : {X : Type 0} (b : Bool) (x y z : X) → (x ≡ z → ⊥) → cond b x y ≡ z → (b ≡ false) × (y ≡ z)
past_if true x y z other e = absurd (other e)
past_if false x y z other e = (refl, e)

-- the first branch, where the second gives another answer
pub into_if : {X : Type 0} (b : Bool) (x y z : X) → (y ≡ z → ⊥) → cond b x y ≡ z → (b ≡ true) × (x ≡ z)
into_if true x y z other e = (refl, e)
into_if false x y z other e = absurd (other e)

pub same_name : (a b : List ℕ) → is_same_name a b ≡ true → a ≡ b
same_name a b e = (slice_eq-Decides Decides-eqb a b (pointwise ◌==◌ a b) refl).0 e

pub is_same : (a b : List ℕ) → a ≡ b → is_same_name a b ≡ true
is_same a b e = (slice_eq-Decides Decides-eqb a b (pointwise ◌==◌ a b) refl).1 e

-- no element passes a test that none passes
pub none_passes : {X : Type 0} (p : X → Bool) (xs : List X) → list_any p xs ≡ false → (k : ℕ) (d : X) → k < length xs → p (get_or xs k d) ≡ true → ⊥
none_passes p xs none k d lt passes = let any = list_any_at p xs k d lt passes in Prim.cc

-- ---- types

abbrev AllowsNull : Option SqlType → Type 0
AllowsNull o = (t : SqlType) → o ≡ Some t → t.nullable ≡ true

allows : (u : SqlType) → u.nullable ≡ true → AllowsNull (Some u)
allows u h t e = let same : u ≡ t = Prim.cc in sym (ap (λ (w : SqlType). w.nullable) same) ∙ h

one_of : (b : Bool) (u : SqlType) (o : Option SqlType) → u.nullable ≡ true → AllowsNull o → AllowsNull (if b then Some u else o)
one_of true u o h k = allows u h
one_of false u o h k = k

-- NULL may stand in each type that has a word
pub type_named-nullable : (word : List ℕ) (t : SqlType) → type_named word ≡ Some t → t.nullable ≡ true
type_named-nullable word =
    let long = if is_word word (codes "long") then Some long_type else None in
    let int = if is_word word (codes "int") then Some int_type else long in
    let short = if is_word word (codes "short") then Some short_type else int in
    let boolean = if is_word word (codes "boolean") then Some (boolean_type true) else short in
    one_of (is_word word (codes "string")) (text_type true) boolean refl
    (one_of (is_word word (codes "boolean")) (boolean_type true) short refl
    (one_of (is_word word (codes "short")) short_type int refl
    (one_of (is_word word (codes "int")) int_type long refl
    (one_of (is_word word (codes "long")) long_type None refl (λ t e. absurd (Prim.cc))))))

pub named_type : (word : List ℕ) (t : SqlType) → type_named word ≡ Some t → IsColumnType t
named_type word t e = (word, e ∙ ap (λ b. Some (record t { nullable = b })) (type_named-nullable word t e))

-- ---- one column

pub record IsColumn (c : ColumnDef) : Type 0 where
  pub named : 0 < length c.name
  pub short : length c.name ≤ NAME_LIMIT
  pub typed : IsColumnType c.kind
  pub nullable : c.kind.nullable ≡ true

typed_column-parts : (name : List ℕ) (o : Option SqlType) (c : ColumnDef) → typed_column name o ≡ Ok c → (name ≡ c.name) × (o ≡ Some c.kind)
typed_column-parts name None c e = absurd (Prim.cc)
typed_column-parts name (Some t) c e =
    let column : ColumnDef = record { name = name; kind = t } in
    let same : column ≡ c = Prim.cc in
    (ap (λ (k : ColumnDef). k.name) same, ap (λ (k : ColumnDef). Some k.kind) same)

typed_column-is : (name word : List ℕ) (o : Option SqlType) (c : ColumnDef) → type_named word ≡ o → 0 < length name → length name ≤ NAME_LIMIT → typed_column name o ≡ Ok c → IsColumn c
typed_column-is name word None c is some few e = absurd (Prim.cc)
typed_column-is name word (Some t) c is some few e =
    let column : ColumnDef = record { name = name; kind = t } in
    let same : column ≡ c = Prim.cc in
    subst IsColumn same (record { named = some; short = few; typed = named_type word t is; nullable = type_named-nullable word t is })

-- the text names a column: its name is short, and not empty
pub record Names (text : List ℕ) (c : ColumnDef) : Type 0 where
  pub some : 0 < length (name_part text)
  pub few : length (name_part text) ≤ NAME_LIMIT
  pub column : typed_column (name_part text) (type_named (word_part text)) ≡ Ok c

names : (text : List ℕ) (c : ColumnDef) → column_of text ≡ Ok c → Names text c
names text c e =
    let name = name_part text in
    let short = past_if (nat_lt NAME_LIMIT (length name)) (Err (NameTooLong NAME_LIMIT)) (cond (length name == 0) (Err BadColumn) (typed_column name (type_named (word_part text)))) (Ok c) (λ f. Prim.cc) e in
    let some = past_if (length name == 0) (Err BadColumn) (typed_column name (type_named (word_part text))) (Ok c) (λ f. Prim.cc) short.1 in
    let ne : length name ≡ 0 → ⊥ = eqb-false (length name) 0 some.0 in
    record { some = omega (arith, ne); few = ltb-false NAME_LIMIT (length name) short.0; column = some.1 }

-- what a text names is a column
pub column_of-is : (text : List ℕ) (c : ColumnDef) → column_of text ≡ Ok c → IsColumn c
column_of-is text c e =
    let n = names text c e in
    typed_column-is (name_part text) (word_part text) (type_named (word_part text)) c refl n.some n.few n.column

pub column_of-parts : (text : List ℕ) (c : ColumnDef) → column_of text ≡ Ok c → (name_part text ≡ c.name) × (type_named (word_part text) ≡ Some c.kind)
column_of-parts text c e = typed_column-parts (name_part text) (type_named (word_part text)) c (names text c e).column

-- ---- columns

pub record AreColumns (cs : List ColumnDef) : Type 0 where
  pub each : All IsColumn cs
  pub apart : AllPairs (λ a b. a.name ≢ b.name) cs

pub columns_none : AreColumns []
columns_none = record { each = All-nil IsColumn; apart = λ i j d lt within. absurd (omega arith) }

-- one more column, whose name none before it has
pub columns_push : (cs : List ColumnDef) (c : ColumnDef) → AreColumns cs → IsColumn c → list_any (λ e. is_same_name e.name c.name) cs ≡ false → AreColumns (cs ++ c ∷ [])
columns_push cs c are is none = record {
  each = All-push IsColumn cs c are.each is;
  apart = all_pairs_push (λ a b. a.name ≢ b.name) cs c are.apart (λ k d lt same. none_passes (λ e. is_same_name e.name c.name) cs none k d lt (is_same (get_or cs k d).name c.name same));
}

pub header_of_columns : (cs : List ColumnDef) → AreColumns cs → 0 < length cs → length cs ≤ COLUMN_LIMIT → IsHeader cs
header_of_columns cs are some few = record {
  some_columns = some;
  few_columns = few;
  columns_named = All-weaker IsColumn (λ c. 0 < length c.name) (λ c is. is.named) cs are.each;
  columns_short = All-weaker IsColumn (λ c. length c.name ≤ NAME_LIMIT) (λ c is. is.short) cs are.each;
  columns_apart = are.apart;
  typed = All-weaker IsColumn (λ c. IsColumnType c.kind) (λ c is. is.typed) cs are.each;
  nullable = All-weaker IsColumn (λ c. c.kind.nullable ≡ true) (λ c is. is.nullable) cs are.each;
}
