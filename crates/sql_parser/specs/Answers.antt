-- What the parser answers, where each fault comes, and when a text is a statement.
use Rattle.std.specs.Prelude.{◌≡◌, ℕ, ◌<◌, ◌≤◌, false, List, Option, Some, None, Result, Ok, Err}
use Rattle.cal_value.specs.declared.limits.TheConstants.{BRACKET_LIMIT, OPERATOR_LIMIT}
use Rattle.sql_text.specs.declared.token.Token.{Token}
use Rattle.sql_tree.specs.declared.statement.Statement.{Statement}
use Rattle.sql_tree.specs.Same.{IsSame}
use Rattle.sql_text.specs.Tokens.{HasTokens}
use Rattle.sql_expressions.specs.declared.fault.ParseFault.{ParseFault}
use Rattle.sql_expressions.specs.declared.fault.ParseFault.TheVariants.{TooDeep, TooManyOperators, NotSql, NoMemory}
use Rattle.sql_expressions.specs.Limits.{most_open, operators, is_insert}
use Rattle.sql_parser.specs.Grammar.{Spells}

-- at most BRACKET_LIMIT brackets are open at any token, and unless the first token is INSERT there are at most OPERATOR_LIMIT operators
pub record IsWithinLimits (tokens : List Token) : Type 0 where
  pub brackets : most_open 0 tokens ≤ BRACKET_LIMIT
  pub few : is_insert tokens ≡ false → operators tokens ≤ OPERATOR_LIMIT

abbrev pub IsFaultOf : List Token → ParseFault → Type 0
IsFaultOf tokens (TooDeep limit) = (limit ≡ BRACKET_LIMIT) × (BRACKET_LIMIT < most_open 0 tokens)
IsFaultOf tokens (TooManyOperators limit) = (limit ≡ OPERATOR_LIMIT)
    × (most_open 0 tokens ≤ BRACKET_LIMIT) × (is_insert tokens ≡ false) × (OPERATOR_LIMIT < operators tokens)
IsFaultOf tokens NotSql = IsWithinLimits tokens × ((x : Statement) → Spells tokens x → ⊥)
IsFaultOf tokens NoMemory = IsWithinLimits tokens

-- a reader's answer, unless memory fails
abbrev pub IsAnswer : Option Statement → Result Statement ParseFault → Type 0
IsAnswer read (Ok x) = read ≡ Some x
IsAnswer read (Err NotSql) = read ≡ None
IsAnswer read (Err NoMemory) = Unit {0}
IsAnswer read (Err (TooDeep limit)) = ⊥
IsAnswer read (Err (TooManyOperators limit)) = ⊥

-- a text whose tokens spell the statement, places aside
pub record IsTextOf (cs : List ℕ) (x : Statement) : Type 0 where
  pub tokens : List Token
  pub statement : Statement
  pub has : HasTokens cs tokens
  pub spelled : Spells tokens statement
  pub same : IsSame statement x

-- the text's tokens keep the limits and spell the statement
pub record IsStatement (text : List ℕ) (statement : Statement) : Type 0 where
  pub tokens : List Token
  pub has_tokens : HasTokens text tokens
  pub within : IsWithinLimits tokens
  pub spelled : Spells tokens statement

-- the text has tokens, and they have this fault
pub record HasFault (text : List ℕ) (fault : ParseFault) : Type 0 where
  pub tokens : List Token
  pub has_tokens : HasTokens text tokens
  pub is_fault : IsFaultOf tokens fault
