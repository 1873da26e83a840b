-- The grammar of expressions. `IsExpr place tokens tree` says that these tokens, the first of which has this place, are an `expr`
-- with this tree; likewise for the other parts. Each part has one constructor for each production.
use Rattle.std.specs.Prelude.{◌≡◌, ℕ, ◌+◌, pos, true, false, List, [], ◌∷◌, ◌++◌, length, Some, None}
use Rattle.cal_value.specs.declared.value.Value.TheVariants as value
use Rattle.cal_value.specs.declared.operator.Op.{Op}
use Rattle.cal_value.specs.declared.operator.Op.TheVariants as op
use Rattle.cal_value.specs.declared.operator.Agg.{Agg}
use Rattle.cal_value.specs.declared.operator.Agg.TheVariants as agg
use Rattle.sql_text.specs.declared.token.Token.{Token}
use Rattle.sql_text.specs.declared.token.Token.TheVariants.{Name, Word, Number, Text, Symbol}
use Rattle.sql_text.specs.declared.token.Reserved.{Reserved}
use Rattle.sql_text.specs.declared.token.Reserved.TheVariants as w
use Rattle.sql_text.specs.declared.token.Symbol.{Symbol as Sign}
use Rattle.sql_text.specs.declared.token.Symbol.TheVariants as s
use Rattle.sql_tree.specs.declared.tree.Tree.{Tree}
use Rattle.sql_tree.specs.declared.tree.Tree.TheVariants.{Column, Literal, Negate, Binary, Not, IsNull, Aggregate}
use Rattle.sql_tree.specs.declared.tree.ColumnName.{ColumnName}
use Rattle.sql_expressions.specs.Operators.{compares, adds, multiplies, aggregates}

-- column = name [. name]
pub data IsColumn : List Token → ColumnName → Type 0 where
  plain : {n : List ℕ} → IsColumn (Name n ∷ []) (record { alias = None; name = n })
  qualified : {a n : List ℕ} → IsColumn (Name a ∷ Symbol s.Dot ∷ Name n ∷ []) (record { alias = Some a; name = n })

mutual
  -- expr = conj {OR conj}
  pub data IsExpr : ℕ → List Token → Tree → Type 0 where
    one_conj : {p : ℕ} {ts : List Token} {t : Tree} → IsConj p ts t → IsExpr p ts t
    or_conj : {p : ℕ} {ts us : List Token} {l r : Tree} → IsExpr p ts l → IsConj (p + length ts + 1) us r
        → IsExpr p (ts ++ Word w.Or ∷ us) (Binary (p + length ts) op.Or l r)

  -- conj = neg {AND neg}
  pub data IsConj : ℕ → List Token → Tree → Type 0 where
    one_neg : {p : ℕ} {ts : List Token} {t : Tree} → IsNeg p ts t → IsConj p ts t
    and_neg : {p : ℕ} {ts us : List Token} {l r : Tree} → IsConj p ts l → IsNeg (p + length ts + 1) us r
        → IsConj p (ts ++ Word w.And ∷ us) (Binary (p + length ts) op.And l r)

  -- neg = NOT neg | pred
  pub data IsNeg : ℕ → List Token → Tree → Type 0 where
    not_neg : {p : ℕ} {ts : List Token} {t : Tree} → IsNeg (p + 1) ts t → IsNeg p (Word w.Not ∷ ts) (Not p t)
    one_pred : {p : ℕ} {ts : List Token} {t : Tree} → IsPred p ts t → IsNeg p ts t

  -- pred = sum [(= | <> | < | <= | > | >=) sum | IS [NOT] NULL]
  pub data IsPred : ℕ → List Token → Tree → Type 0 where
    one_sum : {p : ℕ} {ts : List Token} {t : Tree} → IsSum p ts t → IsPred p ts t
    compared : {p : ℕ} {ts us : List Token} {l r : Tree} (sign : Sign) {o : Op} → IsSum p ts l → compares sign ≡ Some o → IsSum (p + length ts + 1) us r
        → IsPred p (ts ++ Symbol sign ∷ us) (Binary (p + length ts) o l r)
    is_null : {p : ℕ} {ts : List Token} {t : Tree} → IsSum p ts t
        → IsPred p (ts ++ Word w.Is ∷ Word w.Null ∷ []) (IsNull (p + length ts) t)
    is_not_null : {p : ℕ} {ts : List Token} {t : Tree} → IsSum p ts t
        → IsPred p (ts ++ Word w.Is ∷ Word w.Not ∷ Word w.Null ∷ []) (Not (p + length ts) (IsNull (p + length ts) t))

  -- sum = term {(+ | -) term}
  pub data IsSum : ℕ → List Token → Tree → Type 0 where
    one_term : {p : ℕ} {ts : List Token} {t : Tree} → IsTerm p ts t → IsSum p ts t
    add_term : {p : ℕ} {ts us : List Token} {l r : Tree} (sign : Sign) {o : Op} → IsSum p ts l → adds sign ≡ Some o → IsTerm (p + length ts + 1) us r
        → IsSum p (ts ++ Symbol sign ∷ us) (Binary (p + length ts) o l r)

  -- term = fact {(* | /) fact}
  pub data IsTerm : ℕ → List Token → Tree → Type 0 where
    one_fact : {p : ℕ} {ts : List Token} {t : Tree} → IsFact p ts t → IsTerm p ts t
    times_fact : {p : ℕ} {ts us : List Token} {l r : Tree} (sign : Sign) {o : Op} → IsTerm p ts l → multiplies sign ≡ Some o → IsFact (p + length ts + 1) us r
        → IsTerm p (ts ++ Symbol sign ∷ us) (Binary (p + length ts) o l r)

  -- fact = - fact | prim
  pub data IsFact : ℕ → List Token → Tree → Type 0 where
    minus_fact : {p : ℕ} {ts : List Token} {t : Tree} → IsFact (p + 1) ts t → IsFact p (Symbol s.Minus ∷ ts) (Negate p t)
    one_prim : {p : ℕ} {ts : List Token} {t : Tree} → IsPrim p ts t → IsFact p ts t

  -- prim = number | text | TRUE | FALSE | column | agg | ( expr )
  pub data IsPrim : ℕ → List Token → Tree → Type 0 where
    number : {p n : ℕ} → IsPrim p (Number (pos n) ∷ []) (Literal p (value.Int (pos n)))
    text : {p : ℕ} {t : List ℕ} → IsPrim p (Text t ∷ []) (Literal p (value.Text t))
    true_word : {p : ℕ} → IsPrim p (Word w.True ∷ []) (Literal p (value.Bool true))
    false_word : {p : ℕ} → IsPrim p (Word w.False ∷ []) (Literal p (value.Bool false))
    column : {p : ℕ} {ts : List Token} {c : ColumnName} → IsColumn ts c → IsPrim p ts (Column p c)
    one_agg : {p : ℕ} {ts : List Token} {t : Tree} → IsAgg p ts t → IsPrim p ts t
    bracket : {p : ℕ} {ts : List Token} {t : Tree} → IsExpr (p + 1) ts t → IsPrim p (Symbol s.Open ∷ ts ++ Symbol s.Close ∷ []) t

  -- agg = COUNT ( * ) | (COUNT | SUM | MIN | MAX) ( expr )
  pub data IsAgg : ℕ → List Token → Tree → Type 0 where
    count_all : {p : ℕ} → IsAgg p (Word w.Count ∷ Symbol s.Open ∷ Symbol s.Star ∷ Symbol s.Close ∷ []) (Aggregate p agg.Count None)
    aggregate : {p : ℕ} {ts : List Token} {t : Tree} (word : Reserved) {a : Agg} → aggregates word ≡ Some a → IsExpr (p + 2) ts t
        → IsAgg p (Word word ∷ Symbol s.Open ∷ ts ++ Symbol s.Close ∷ []) (Aggregate p a (Some t))
