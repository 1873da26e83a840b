-- How an expression is read, from left to right. Each rule of the grammar has a reader.
use Rattle.std.specs.Prelude.{ℕ, zero, suc, Bool, true, false, if◌then◌else◌, List, [], ◌∷◌, length, Option, Some, None}
use Rattle.cal_value.specs.declared.value.Value.TheVariants as value
use Rattle.cal_value.specs.declared.operator.Op.{Op}
use Rattle.cal_value.specs.declared.operator.Op.TheVariants as op
use Rattle.cal_value.specs.declared.operator.Agg.{Agg}
use Rattle.cal_value.specs.declared.operator.Agg.TheVariants as agg
use Rattle.sql_text.specs.declared.token.Token.{Token}
use Rattle.sql_text.specs.declared.token.Token.TheVariants.{Name, Word, Number, Text, Symbol}
use Rattle.sql_text.specs.declared.token.Reserved.{Reserved}
use Rattle.sql_text.specs.declared.token.Reserved.TheVariants as w
use Rattle.sql_text.specs.declared.token.Symbol.{Symbol as Sign}
use Rattle.sql_text.specs.declared.token.Symbol.TheVariants as s
use Rattle.sql_tree.specs.declared.tree.Tree.{Tree}
use Rattle.sql_tree.specs.declared.tree.Tree.TheVariants as tree
use Rattle.sql_tree.specs.declared.tree.ColumnName.{ColumnName}
use Rattle.sql_expressions.specs.declared.expression.Level.{Level}
use Rattle.sql_expressions.specs.declared.expression.Level.TheVariants as level
use Rattle.sql_expressions.specs.declared.expression.Part.{Part}
use Rattle.sql_expressions.specs.declared.expression.Part.TheVariants as part
use Rattle.sql_expressions.specs.Input.{Input, Reader, ◌>>=◌, ◌>>◌, pure, refuse, skip, next, here, same_word, eat_word, eat_symbol, expect_word, expect_symbol, name, number, by_token}
use Rattle.sql_expressions.specs.Operators.{compares, adds, multiplies}

abbrev pub word_links : Level → Reserved → Option Op
word_links level.Or v = if same_word v w.Or then Some op.Or else None
word_links level.And v = if same_word v w.And then Some op.And else None
word_links level.Comparison v = None
word_links level.Sum v = None
word_links level.Term v = None

abbrev pub symbol_links : Level → Sign → Option Op
symbol_links level.Or s = None
symbol_links level.And s = None
symbol_links level.Comparison s = compares s
symbol_links level.Sum s = adds s
symbol_links level.Term s = multiplies s

-- which operator of the level a token is
abbrev pub links : Level → Token → Option Op
links l (Name n) = None
links l (Word v) = word_links l v
links l (Number n) = None
links l (Text t) = None
links l (Symbol s) = symbol_links l s

abbrev pub links_first : Level → List Token → Option Op
links_first l [] = None
links_first l (t ∷ ts) = links l t

unfoldable pub operator_at : Level → Input → Option Op
operator_at l i = links_first l i.left

abbrev pub after_if : Option Op → Input → Input
after_if None i = i
after_if (Some o) i = next i

unfoldable pub after_operator : Level → Input → Input
after_operator l i = after_if (operator_at l i) i

-- takes the token, if it is an operator of the level
abbrev pub eat_operator : Level → Reader (Option Op)
eat_operator l = λ i. Some (operator_at l i, after_operator l i)

abbrev pub linked : {A : Type 0} → Option Op → Reader A → (Op → Reader A) → Reader A
linked None stop go = stop
linked (Some o) stop go = go o

-- A chain goes on to the right of what was read. The number bounds the operators.
unfoldable pub chain_from : Level → Reader Tree → ℕ → Tree → Reader Tree
chain_from l operand zero left = pure left
chain_from l operand (suc n) left = do
  place ← here
  found ← eat_operator l
  linked found (pure left) (λ o. operand >>= λ right. chain_from l operand n (tree.Binary place o left right))

unfoldable pub chain : Level → Reader Tree → Reader Tree
chain l operand = do
  left ← operand
  λ i. chain_from l operand (length i.left) left i

unfoldable pub column : Reader ColumnName
column = do
  first ← name
  is_qualified ← eat_symbol s.Dot
  if is_qualified then (name >>= λ second. pure (record { alias = Some first; name = second })) else pure (record { alias = None; name = first })

unfoldable pub truth : Bool → Reader Tree
truth b = do
  place ← here
  skip
  pure (tree.Literal place (value.Bool b))

-- from behind the IS at this place
unfoldable pub is_null : ℕ → Tree → Reader Tree
is_null place left = do
  is_negated ← eat_word w.Not
  expect_word w.Null
  pure (if is_negated then tree.Not place (tree.IsNull place left) else tree.IsNull place left)

module _ (nested : Part → Reader Tree) where
  -- what an aggregate's brackets hold, from behind the opening one
  unfoldable pub argument : ℕ → Agg → Reader Tree
  argument place a = do
    inner ← nested part.Expression
    expect_symbol s.Close
    pure (tree.Aggregate place a (Some inner))

  unfoldable pub aggregate : Agg → Reader Tree
  aggregate a = do
    place ← here
    skip
    expect_symbol s.Open
    argument place a

  unfoldable pub count : Reader Tree
  count = do
    place ← here
    skip
    expect_symbol s.Open
    all ← eat_symbol s.Star
    if all then expect_symbol s.Close >> pure (tree.Aggregate place agg.Count None) else argument place agg.Count

  abbrev pub aggregate_word : Reserved → Reader Tree
  aggregate_word w.Count = count
  aggregate_word w.Sum = aggregate agg.Sum
  aggregate_word w.Min = aggregate agg.Min
  aggregate_word w.Max = aggregate agg.Max
  aggregate_word _ = refuse

  abbrev pub aggregate_by : Token → Reader Tree
  aggregate_by (Name n) = refuse
  aggregate_by (Word v) = aggregate_word v
  aggregate_by (Number n) = refuse
  aggregate_by (Text t) = refuse
  aggregate_by (Symbol s) = refuse

  unfoldable pub any_aggregate : Reader Tree
  any_aggregate = by_token aggregate_by

  abbrev pub primary_word : Reserved → Reader Tree
  primary_word w.True = truth true
  primary_word w.False = truth false
  primary_word v = aggregate_word v

  -- from behind the opening bracket
  unfoldable pub bracketed : Reader Tree
  bracketed = do
    inner ← nested part.Expression
    expect_symbol s.Close
    pure inner

  abbrev pub primary_symbol : Sign → Reader Tree
  primary_symbol s.Open = skip >> bracketed
  primary_symbol _ = refuse

  abbrev pub primary_by : Token → Reader Tree
  primary_by (Name n) = here >>= λ place. column >>= λ c. pure (tree.Column place c)
  primary_by (Word v) = primary_word v
  primary_by (Number n) = here >>= λ place. number >>= λ m. pure (tree.Literal place (value.Int m))
  primary_by (Text t) = here >>= λ place. skip >> pure (tree.Literal place (value.Text t))
  primary_by (Symbol s) = primary_symbol s

  unfoldable pub primary : Reader Tree
  primary = by_token primary_by

  unfoldable pub factor : Reader Tree
  factor = do
    place ← here
    is_negative ← eat_symbol s.Minus
    if is_negative then (nested part.Factor >>= λ inner. pure (tree.Negate place inner)) else primary

  unfoldable pub term : Reader Tree
  term = chain level.Term factor

  unfoldable pub sum : Reader Tree
  sum = chain level.Sum term

  unfoldable pub comparison : ℕ → Tree → Reader Tree
  comparison place left = do
    found ← eat_operator level.Comparison
    linked found (pure left) (λ o. sum >>= λ right. pure (tree.Binary place o left right))

  unfoldable pub predicate : Reader Tree
  predicate = do
    left ← sum
    place ← here
    is_test ← eat_word w.Is
    if is_test then is_null place left else comparison place left

  unfoldable pub negation : Reader Tree
  negation = do
    place ← here
    is_negated ← eat_word w.Not
    if is_negated then (nested part.Negation >>= λ inner. pure (tree.Not place inner)) else predicate

  unfoldable pub conjunction : Reader Tree
  conjunction = chain level.And negation

  unfoldable pub disjunction : Reader Tree
  disjunction = chain level.Or conjunction

  abbrev pub part_by : Part → Reader Tree
  part_by part.Expression = disjunction
  part_by part.Negation = negation
  part_by part.Factor = factor
  part_by part.Aggregate = any_aggregate

-- with brackets, NOTs and signs nested less deep than the number
unfoldable pub reads_part : ℕ → Part → Reader Tree
reads_part zero p = refuse
reads_part (suc depth) p = part_by (reads_part depth) p

unfoldable pub expression : ℕ → Reader Tree
expression depth = reads_part depth part.Expression

unfoldable pub aggregation : ℕ → Reader Tree
aggregation depth = reads_part depth part.Aggregate
