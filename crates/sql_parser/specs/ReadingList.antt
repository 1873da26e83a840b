-- How lists and names are read.
use Rattle.std.specs.Prelude.{ℕ, zero, suc, if◌then◌else◌, ◌||◌, List, [], ◌∷◌, ◌++◌, length, Option, Some, None}
use Rattle.sql_text.specs.declared.token.Reserved.TheVariants as w
use Rattle.sql_text.specs.declared.token.Symbol.TheVariants as s
use Rattle.sql_tree.specs.declared.select.TableName.{TableName}
use Rattle.sql_tree.specs.declared.select.UsingName.{UsingName}
use Rattle.sql_expressions.specs.Input.{Reader, ◌>>=◌, pure, here, look, sees_name, eat_word, eat_symbol, name}

-- The number bounds the commas.
unfoldable pub separated_from : {A : Type 0} → Reader A → ℕ → List A → Reader (List A)
separated_from part zero found = pure found
separated_from part (suc n) found = do
  more ← eat_symbol s.Comma
  if more then (part >>= λ x. separated_from part n (found ++ x ∷ [])) else pure found

-- one part, or several with commas between
unfoldable pub separated : {A : Type 0} → Reader A → Reader (List A)
separated part = do
  first ← part
  λ i. separated_from part (length i.left) (first ∷ []) i

unfoldable pub table : Reader TableName
table = do
  first ← name
  is_qualified ← eat_symbol s.Dot
  if is_qualified then (name >>= λ second. pure (record { schema = Some first; name = second })) else pure (record { schema = None; name = first })

unfoldable pub using_name : Reader UsingName
using_name = do
  place ← here
  n ← name
  pure (record { place = place; name = n })

unfoldable pub alias : Reader (Option (List ℕ))
alias = do
  is_as ← eat_word w.As
  is_name ← look sees_name
  if is_as || is_name then (name >>= λ n. pure (Some n)) else pure None
