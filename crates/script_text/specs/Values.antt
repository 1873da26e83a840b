-- The printed text of an answer.
use Rattle.std.specs.Prelude.{ℕ, ℤ, ◌&&◌, ◌||◌, ◌==◌, List, [], ◌∷◌, ◌++◌, Bool, true, false, nat_le, if◌then◌else◌, codes, encode_utf8_all}
use Rattle.std.specs.Fmt.{signed_decimal}
use Rattle.std.specs.List.{list_all, flat_map}
use Rattle.cal_value.specs.declared.value.Value.{Value}
use Rattle.cal_value.specs.declared.value.Value.TheVariants.{Null, Bool as BoolValue, Int, Text}
use Rattle.sql_text.specs.Tokens.{quoted}

-- an upper-case letter or `_`
abbrev pub is_name_start : ℕ → Bool
is_name_start c = (nat_le 65 c && nat_le c 90) || c == 95

-- an upper-case letter, a digit, `_` or `$`
abbrev pub is_name_part : ℕ → Bool
is_name_part c = (is_name_start c || (nat_le 48 c && nat_le c 57)) || c == 36

abbrev pub prints_plainly : List ℕ → Bool
prints_plainly [] = false
prints_plainly (c ∷ cs) = is_name_start c && list_all is_name_part cs

-- a name that doesn't print plainly stands in quotes
abbrev pub name_text : List ℕ → List ℕ
name_text name = if prints_plainly name then encode_utf8_all name else encode_utf8_all (quoted 34 name)

abbrev pub number_text : ℤ → List ℕ
number_text n = signed_decimal n

abbrev pub value_text : Value → List ℕ
value_text Null = codes "NULL"
value_text (BoolValue true) = codes "TRUE"
value_text (BoolValue false) = codes "FALSE"
value_text (Int n) = number_text n
value_text (Text t) = encode_utf8_all (quoted 39 t)

-- the texts of these, each behind a comma and a space
abbrev pub more : {A : Type 0} → (A → List ℕ) → List A → List ℕ
more text xs = flat_map (λ x. codes ", " ++ text x) xs

-- the texts with commas between them, and a line feed
abbrev pub line : {A : Type 0} → (A → List ℕ) → List A → List ℕ
line text [] = codes "\n"
line text (x ∷ xs) = (text x ++ more text xs) ++ codes "\n"

abbrev pub rows_text : List (List Value) → List ℕ
rows_text rows = flat_map (line value_text) rows

-- the header, then a line for each row
abbrev pub answer_text : List (List ℕ) → List (List Value) → List ℕ
answer_text names rows = line name_text names ++ rows_text rows

-- a table with its schema
abbrev pub table_text : List ℕ → List ℕ → List ℕ
table_text schema name = name_text schema ++ (codes "." ++ name_text name)
