-- What the code's recursion uses at each variant.
use Rattle.std.proofs.Common.{◌≡◌, ℕ, Bool, ◌&&◌, List, [], ◌∷◌, ◌++◌, refl, ap, ◌∙◌}
use Rattle.std.specs.List.{list_all}
use Rattle.std.proofs.lemmas.List.Folds.{list_all-append}
use Rattle.cal_value.specs.declared.operator.Op.{Op}
use Rattle.cal_value.specs.declared.operator.Op.TheVariants.{Add, Subtract, Multiply, Divide, Equal, NotEqual, Less, LessEqual, Greater, GreaterEqual, And, Or}
use Rattle.cal_expr.specs.declared.expr.Expr.{Expr}
use Rattle.cal_expr.specs.declared.expr.Expr.TheVariants.{Negate, Binary, Not, IsNull}
use Rattle.expr_parts.specs.Columns.{columns_read, is_none}
use Rattle.expr_parts.specs.Conjuncts.{conjuncts_of, and_all}
use Rattle.expr_parts.proofs.ConjunctLaws.{split-whole, conjuncts-Binary, alone-is, conjuncts-Negate, conjuncts-Not, conjuncts-IsNull}
use Rattle.expr_parts.proofs.ExprSteps.{columns-Negate, columns-Binary, columns-Not, columns-IsNull}

-- ---- tests of columns

pub is_none-append : (xs ys : List ℕ) → is_none (xs ++ ys) ≡ (is_none xs && is_none ys)
is_none-append [] ys = refl
is_none-append (x ∷ xs) ys = refl

pub ruleset test_steps = (list_all-append, is_none-append)

pub all-Negate : (p : ℕ → Bool) (e : Expr) → list_all p (columns_read (Negate e)) ≡ list_all p (columns_read e)
all-Negate p e = ap (list_all p) (columns-Negate e)

pub all-Binary : (p : ℕ → Bool) (op : Op) (a b : Expr) → list_all p (columns_read (Binary op a b)) ≡ (list_all p (columns_read a) && list_all p (columns_read b))
all-Binary p op a b = ap (list_all p) (columns-Binary op a b) ∙ list_all-append p (columns_read a) (columns_read b)

pub all-Not : (p : ℕ → Bool) (e : Expr) → list_all p (columns_read (Not e)) ≡ list_all p (columns_read e)
all-Not p e = ap (list_all p) (columns-Not e)

pub all-IsNull : (p : ℕ → Bool) (e : Expr) → list_all p (columns_read (IsNull e)) ≡ list_all p (columns_read e)
all-IsNull p e = ap (list_all p) (columns-IsNull e)

pub ruleset read_steps = (all-Negate, all-Binary, all-Not, all-IsNull)

-- ---- conjuncts

pub ruleset split_steps = (split-whole, conjuncts-Negate, conjuncts-Not, conjuncts-IsNull)

pub conjuncts-other : (op : Op) (a b : Expr) → (op ≡ And → ⊥) → conjuncts_of (Binary op a b) ≡ Binary op a b ∷ []
conjuncts-other Add a b other = conjuncts-Binary Add a b ∙ alone-is Add a b
conjuncts-other Subtract a b other = conjuncts-Binary Subtract a b ∙ alone-is Subtract a b
conjuncts-other Multiply a b other = conjuncts-Binary Multiply a b ∙ alone-is Multiply a b
conjuncts-other Divide a b other = conjuncts-Binary Divide a b ∙ alone-is Divide a b
conjuncts-other Equal a b other = conjuncts-Binary Equal a b ∙ alone-is Equal a b
conjuncts-other NotEqual a b other = conjuncts-Binary NotEqual a b ∙ alone-is NotEqual a b
conjuncts-other Less a b other = conjuncts-Binary Less a b ∙ alone-is Less a b
conjuncts-other LessEqual a b other = conjuncts-Binary LessEqual a b ∙ alone-is LessEqual a b
conjuncts-other Greater a b other = conjuncts-Binary Greater a b ∙ alone-is Greater a b
conjuncts-other GreaterEqual a b other = conjuncts-Binary GreaterEqual a b ∙ alone-is GreaterEqual a b
conjuncts-other And a b other = absurd (other refl)
conjuncts-other Or a b other = conjuncts-Binary Or a b ∙ alone-is Or a b

pub and_all-push : (before : Expr) (cs : List Expr) (c : Expr) → and_all before (cs ++ c ∷ []) ≡ Binary And (and_all before cs) c
and_all-push before [] c = refl
and_all-push before (d ∷ cs) c = and_all-push (Binary And before d) cs c

pub ruleset conjunction_steps = (and_all-push)
