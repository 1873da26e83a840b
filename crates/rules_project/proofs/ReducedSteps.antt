-- What an expression is reduced to at each variant, and what its parts have where it is well formed.
use Rattle.std.proofs.Common.{◌≡◌, ℕ, Bool, true, false, cond, List, [], ◌∷◌, All, Option, Some, None, IsSome, refl, sym, ◌∙◌, ap, subst}
use Rattle.std.specs.Option.{option_and_then, option_map}
use Rattle.std.proofs.lemmas.List.Elements.{All-nil, All-cons}
use Rattle.cal_value.specs.declared.kind.SqlType.{SqlType}
use Rattle.cal_value.specs.declared.operator.Op.{Op}
use Rattle.cal_value.specs.declared.value.Value.{Value}
use Rattle.cal_value.specs.Types.{boolean_type}
use Rattle.cal_expr.specs.declared.expr.Expr.{Expr}
use Rattle.cal_expr.specs.declared.expr.Expr.TheVariants.{Column, Literal, Negate, Binary, Not, IsNull}
use Rattle.cal_expr.specs.Meaning.{meaning_of}
use Rattle.cal_expr.specs.Typing.{type_of, negation_type, not_type, op_type, of_both}
use Rattle.cal_expr.specs.WellFormed.{IsWellFormed}
use Rattle.cal_schema.specs.declared.rel_type.RelType.{RelType}
use Rattle.cal_rel.specs.declared.rel.Rel.{Rel}
use Rattle.cal_rel.specs.declared.rel.Rel.TheVariants.{Project}
use Rattle.cal_rel.specs.Info.{Info}
use Rattle.cal_rel.specs.Tree.{tree_of}
use Rattle.cal_rel.specs.Typing.{types_by, of_columns, project_type, type_of as tree_type, of_both as of_both_trees}
use Rattle.cal_rel.proofs.TreeSteps.{tree-Project}
use Rattle.expr_parts.specs.Columns.{is_constant}
use Rattle.expr_parts.proofs.ColumnLaws.{constant-type}
use Rattle.expr_parts.proofs.ExprSteps.{AtEach, each_expr, type-Negate, type-Binary, type-Not, type-IsNull}
use Rattle.project_images.specs.ReduceExpressions.{literal_or, reduction, reduced}
use Rattle.project_images.specs.ReducedMeaning.{reduction_of, at-Column, at-Literal, at-Negate, at-Binary, at-Not, at-IsNull, reduced-whole}

-- ---- what it is reduced to

abbrev one_level : Expr → Expr → Expr
one_level whole parts = (reduction whole parts).reduced

level-Column : (at : ℕ) → reduced (Column at) ≡ one_level (Column at) (Column at)
level-Column at = ap (λ r. r.reduced) (at-Column at)

level-Literal : (v : Value) → reduced (Literal v) ≡ one_level (Literal v) (Literal v)
level-Literal v = ap (λ r. r.reduced) (at-Literal v)

level-Negate : (a : Expr) → reduced (Negate a) ≡ one_level (Negate a) (Negate (reduced a))
level-Negate a = ap (λ r. r.reduced) (at-Negate a) ∙ ap (λ w. one_level (Negate w) (Negate (reduced a))) (reduced-whole a)

level-Binary : (op : Op) (a b : Expr) → reduced (Binary op a b) ≡ one_level (Binary op a b) (Binary op (reduced a) (reduced b))
level-Binary op a b =
    ap (λ r. r.reduced) (at-Binary op a b)
    ∙ ap (λ w. one_level (Binary op w (reduction_of b).whole) (Binary op (reduced a) (reduced b))) (reduced-whole a)
    ∙ ap (λ w. one_level (Binary op a w) (Binary op (reduced a) (reduced b))) (reduced-whole b)

level-Not : (a : Expr) → reduced (Not a) ≡ one_level (Not a) (Not (reduced a))
level-Not a = ap (λ r. r.reduced) (at-Not a) ∙ ap (λ w. one_level (Not w) (Not (reduced a))) (reduced-whole a)

level-IsNull : (a : Expr) → reduced (IsNull a) ≡ one_level (IsNull a) (IsNull (reduced a))
level-IsNull a = ap (λ r. r.reduced) (at-IsNull a) ∙ ap (λ w. one_level (IsNull w) (IsNull (reduced a))) (reduced-whole a)

-- ---- a constant

abbrev ReducesToValue : Expr → Type 0
ReducesToValue e = is_constant e ≡ true → reduced e ≡ literal_or e (meaning_of e [])

value-level : (whole parts : Expr) → is_constant whole ≡ true → one_level whole parts ≡ literal_or whole (meaning_of whole [])
value-level whole parts is = ap (λ b. cond b (literal_or whole (meaning_of whole [])) parts) is

pub reduced-constant : (e : Expr) → is_constant e ≡ true → reduced e ≡ literal_or e (meaning_of e [])
reduced-constant e = each_expr ReducesToValue each e
  where
    each : AtEach ReducesToValue
    each = record {
      column = λ at is. level-Column at ∙ value-level (Column at) (Column at) is;
      literal = λ v is. level-Literal v ∙ value-level (Literal v) (Literal v) is;
      negate = λ a h is. level-Negate a ∙ value-level (Negate a) (Negate (reduced a)) is;
      binary = λ op a b h k is. level-Binary op a b ∙ value-level (Binary op a b) (Binary op (reduced a) (reduced b)) is;
      not = λ a h is. level-Not a ∙ value-level (Not a) (Not (reduced a)) is;
      is_null = λ a h is. level-IsNull a ∙ value-level (IsNull a) (IsNull (reduced a)) is;
    }

-- a constant is well formed over a row without columns where it is so over any columns
pub constant-formed : (e : Expr) (ts : List SqlType) → is_constant e ≡ true → IsSome (type_of e ts) → IsWellFormed e []
constant-formed e ts is typed = record {
  types = [];
  has_types = tt;
  typed = subst IsSome (constant-type e ts [] is) typed;
}

-- ---- another expression

parts-level : (whole parts : Expr) → is_constant whole ≡ false → one_level whole parts ≡ parts
parts-level whole parts is = ap (λ b. cond b (literal_or whole (meaning_of whole [])) parts) is

pub reduced-Column : (at : ℕ) → is_constant (Column at) ≡ false → reduced (Column at) ≡ Column at
reduced-Column at is = level-Column at ∙ parts-level (Column at) (Column at) is

pub reduced-Literal : (v : Value) → is_constant (Literal v) ≡ false → reduced (Literal v) ≡ Literal v
reduced-Literal v is = level-Literal v ∙ parts-level (Literal v) (Literal v) is

pub reduced-Negate : (a : Expr) → is_constant (Negate a) ≡ false → reduced (Negate a) ≡ Negate (reduced a)
reduced-Negate a is = level-Negate a ∙ parts-level (Negate a) (Negate (reduced a)) is

pub reduced-Binary : (op : Op) (a b : Expr) → is_constant (Binary op a b) ≡ false → reduced (Binary op a b) ≡ Binary op (reduced a) (reduced b)
reduced-Binary op a b is = level-Binary op a b ∙ parts-level (Binary op a b) (Binary op (reduced a) (reduced b)) is

pub reduced-Not : (a : Expr) → is_constant (Not a) ≡ false → reduced (Not a) ≡ Not (reduced a)
reduced-Not a is = level-Not a ∙ parts-level (Not a) (Not (reduced a)) is

pub reduced-IsNull : (a : Expr) → is_constant (IsNull a) ≡ false → reduced (IsNull a) ≡ IsNull (reduced a)
reduced-IsNull a is = level-IsNull a ∙ parts-level (IsNull a) (IsNull (reduced a)) is

-- ---- parts of what is well formed

some-part : {A B : Type 0} (f : A → Option B) (o : Option A) → IsSome (option_and_then f o) → IsSome o
some-part f None h = absurd (cc)
some-part f (Some a) h = refl

some-mapped : {A B : Type 0} (f : A → B) (o : Option A) → IsSome (option_map f o) → IsSome o
some-mapped f None h = absurd (cc)
some-mapped f (Some a) h = refl

some-left : (f : SqlType → SqlType → Option SqlType) (o p : Option SqlType) → IsSome (of_both f o p) → IsSome o
some-left f None p h = absurd (cc)
some-left f (Some s) None h = absurd (cc)
some-left f (Some s) (Some t) h = refl

some-right : (f : SqlType → SqlType → Option SqlType) (o p : Option SqlType) → IsSome (of_both f o p) → IsSome p
some-right f None p h = absurd (cc)
some-right f (Some s) None h = absurd (cc)
some-right f (Some s) (Some t) h = refl

pub typed-Negate : (a : Expr) (ts : List SqlType) → IsSome (type_of (Negate a) ts) → IsSome (type_of a ts)
typed-Negate a ts h = some-part negation_type (type_of a ts) (subst IsSome (type-Negate a ts) h)

pub typed-left : (op : Op) (a b : Expr) (ts : List SqlType) → IsSome (type_of (Binary op a b) ts) → IsSome (type_of a ts)
typed-left op a b ts h = some-left (op_type op) (type_of a ts) (type_of b ts) (subst IsSome (type-Binary op a b ts) h)

pub typed-right : (op : Op) (a b : Expr) (ts : List SqlType) → IsSome (type_of (Binary op a b) ts) → IsSome (type_of b ts)
typed-right op a b ts h = some-right (op_type op) (type_of a ts) (type_of b ts) (subst IsSome (type-Binary op a b ts) h)

pub typed-Not : (a : Expr) (ts : List SqlType) → IsSome (type_of (Not a) ts) → IsSome (type_of a ts)
typed-Not a ts h = some-part not_type (type_of a ts) (subst IsSome (type-Not a ts) h)

pub typed-IsNull : (a : Expr) (ts : List SqlType) → IsSome (type_of (IsNull a) ts) → IsSome (type_of a ts)
typed-IsNull a ts h = some-mapped (λ _. boolean_type false) (type_of a ts) (subst IsSome (type-IsNull a ts) h)

-- ---- items of a project that is well formed

some-both : {A B C : Type 0} (f : A → B → Option C) (o : Option A) (p : Option B) → IsSome (of_both_trees f o p) → IsSome o × IsSome p
some-both f None p h = absurd (cc)
some-both f (Some a) None h = absurd (cc)
some-both f (Some a) (Some b) h = (refl, refl)

each-typed : (f : Expr → Option SqlType) (items : List Expr) → IsSome (types_by f items) → All (λ item. IsSome (f item)) items
each-typed f [] h = All-nil (λ item. IsSome (f item))
each-typed f (item ∷ items) h =
    let both = some-both (λ (t : SqlType) ts. Some (t ∷ ts)) (f item) (types_by f items) h in
    All-cons (λ item. IsSome (f item)) item items both.0 (each-typed f items both.1)

pub items-typed : (info : Info) (rel input : Rel) (items : List Expr) (t : RelType) → rel ≡ Project input items → tree_type info (tree_of input) ≡ Some t
    → IsSome (tree_type info (tree_of rel)) → All (λ item. IsSome (type_of item t.columns)) items
items-typed info rel input items t is first h =
    each-typed (λ item. type_of item t.columns) items
    (some-mapped (of_columns t.bound) (types_by (λ item. type_of item t.columns) items)
    (subst (λ o. IsSome (option_and_then (project_type items) o)) first
    (subst (λ x. IsSome (tree_type info x)) (ap tree_of is ∙ tree-Project input items) h)))

pub ruleset reduced_steps = (reduced-constant, reduced-Column, reduced-Literal, reduced-Negate, reduced-Binary, reduced-Not, reduced-IsNull)
