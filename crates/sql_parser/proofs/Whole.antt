-- The reader against the grammar.
use Rattle.std.proofs.Common.{◌≡◌, ℕ, ◌+◌, true, false, List, [], ◌∷◌, Some, None, Result, Ok, Err, IfOk, IfErr, refl, sym, ◌∙◌, arith}
use Rattle.sql_text.specs.declared.token.Token.{Token}
use Rattle.sql_text.specs.declared.token.Token.TheVariants.{Name, Word, Number, Text, Symbol}
use Rattle.sql_text.specs.declared.token.Reserved.TheVariants as w
use Rattle.sql_tree.specs.declared.statement.Statement.{Statement}
use Rattle.sql_expressions.specs.Input.{begins, is_word, same_word}
use Rattle.sql_expressions.specs.Limits.{most_open, operators, is_insert}
use Rattle.sql_parser.specs.Grammar.{Spells}
use Rattle.sql_parser.specs.ReadingStatement.{read_tokens}
use Rattle.sql_parser.specs.Answers.{IsWithinLimits, IsFaultOf, IsAnswer}
use Rattle.sql_expressions.specs.declared.fault.ParseFault.{ParseFault}
use Rattle.sql_expressions.specs.declared.limits.TheConstants.{NESTING_LIMIT}
use Rattle.sql_expressions.specs.declared.fault.ParseFault.TheVariants.{TooDeep, TooManyOperators, NotSql, NoMemory}
use Rattle.sql_expressions.proofs.Steps.{some_same, no_some}
use Rattle.sql_parser.proofs.SoundStatement.{read-spells}
use Rattle.sql_parser.proofs.CompleteStatement.{read-complete}

false_true : {C : Type 0} → true ≡ false → C
false_true e = cc

not_insert : (l : List Token) → begins (is_word w.Insert) l ≡ false → is_insert l ≡ false
unfolding same_word
not_insert [] e = refl
not_insert (Name n ∷ ts) e = refl
not_insert (Word w.Insert ∷ ts) e = false_true e
not_insert (Word _ ∷ ts) e = refl
not_insert (Number n ∷ ts) e = refl
not_insert (Text t ∷ ts) e = refl
not_insert (Symbol s ∷ ts) e = refl

-- what is spelled within the limits is read
pub spelled-reads : (ts : List Token) (x : Statement) → IsWithinLimits ts → Spells ts x → read_tokens NESTING_LIMIT ts ≡ Some x
spelled-reads ts x limits spelled =
    read-complete 320 spelled (λ e. omega (arith, limits.brackets, limits.few (not_insert ts e)))

-- a list of tokens spells one statement, also beyond the limits
pub one_statement : (ts : List Token) (x y : Statement) → Spells ts x → Spells ts y → x ≡ y
one_statement ts x y a b =
    let depth : ℕ = most_open 0 ts + operators ts in
    some_same (sym (read-complete depth a (λ e. omega arith)) ∙ read-complete depth b (λ e. omega arith))

pub read-is_spelled : (ts : List Token) (x : Statement) → read_tokens NESTING_LIMIT ts ≡ Some x → Spells ts x
read-is_spelled ts x e = read-spells NESTING_LIMIT ts x e

pub none-spelled : (ts : List Token) → IsWithinLimits ts → read_tokens NESTING_LIMIT ts ≡ None → (x : Statement) → Spells ts x → ⊥
none-spelled ts limits e x spelled = no_some (sym e ∙ spelled-reads ts x limits spelled)

pub answer-spelled : (ts : List Token) (r : Result Statement ParseFault) → IsAnswer (read_tokens NESTING_LIMIT ts) r → IfOk r (λ x. Spells ts x)
answer-spelled ts (Ok x) e = read-is_spelled ts x e
answer-spelled ts (Err f) e = tt

pub answer-only : (ts : List Token) (r : Result Statement ParseFault) → IsWithinLimits ts → IsAnswer (read_tokens NESTING_LIMIT ts) r → IfOk r (λ x. (y : Statement) → Spells ts y → y ≡ x)
answer-only ts (Ok x) limits e = λ y spelled. some_same (sym (spelled-reads ts y limits spelled) ∙ e)
answer-only ts (Err f) limits e = tt

pub answer-fault : (ts : List Token) (r : Result Statement ParseFault) → IsWithinLimits ts → IsAnswer (read_tokens NESTING_LIMIT ts) r → IfErr r (IsFaultOf ts)
answer-fault ts (Ok x) limits e = tt
answer-fault ts (Err NotSql) limits e = (limits, λ x spelled. none-spelled ts limits e x spelled)
answer-fault ts (Err NoMemory) limits e = limits
answer-fault ts (Err (TooDeep limit)) limits e = absurd e
answer-fault ts (Err (TooManyOperators limit)) limits e = absurd e
