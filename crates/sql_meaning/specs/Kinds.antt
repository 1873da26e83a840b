-- The kinds of expressions, and the places of those that don't go together.
use Rattle.std.specs.Prelude.{ℕ, ◌&&◌, Bool, List, [], ◌∷◌, ◌++◌, Option, Some, None, option_map, unwrap_or, if◌then◌else◌}
use Rattle.cal_value.specs.declared.kind.Kind.{Kind}
use Rattle.cal_value.specs.declared.kind.Kind.TheVariants.{Boolean, Integer, Text as TextKind}
use Rattle.cal_value.specs.declared.operator.Agg.{Agg}
use Rattle.cal_value.specs.declared.operator.Agg.TheVariants.{Count, Sum, Sum0, Min, Max}
use Rattle.cal_value.specs.declared.operator.Op.{Op}
use Rattle.cal_value.specs.declared.operator.Op.TheVariants.{Add, Subtract, Multiply, Divide, And, Or}
use Rattle.cal_value.specs.declared.value.Value.{Value}
use Rattle.cal_value.specs.declared.value.Value.TheVariants.{Null, Bool as BoolValue, Int, Text}
use Rattle.cal_value.specs.Types.{same_kind}
use Rattle.sql_tree.specs.declared.tree.Tree.{Tree}
use Rattle.sql_tree.specs.declared.tree.Tree.TheFolds.{fold-Tree}
use Rattle.sql_tree.specs.declared.tree.Tree.TheOpen.{Tree-F}
use Rattle.sql_meaning.specs.declared.parts.SelectPart.{SelectPart}
use Rattle.sql_meaning.specs.Parts.{seen_by, is_condition}
use Rattle.sql_meaning.specs.Scope.{Header, type_in}

-- the kind of an expression, its own place, and the places in it where kinds don't go together
pub record Kinded : Type 0 where
  pub kind : Kind
  pub place : ℕ
  pub clashes : List ℕ

abbrev pub is_of_kind : Kind → Kinded → Bool
is_of_kind kind k = same_kind k.kind kind

-- the place, unless all is right there
abbrev pub unless : Bool → ℕ → List ℕ
unless right place = if right then [] else place ∷ []

-- an operand that isn't BOOLEAN is told at its own place
abbrev pub not_boolean : Kinded → List ℕ
not_boolean k = unless (is_of_kind Boolean k) k.place

abbrev pub op_kind : Op → Kind
op_kind Add = Integer
op_kind Subtract = Integer
op_kind Multiply = Integer
op_kind Divide = Integer
op_kind op = Boolean

abbrev pub arithmetic_clash : ℕ → Kinded → Kinded → List ℕ
arithmetic_clash place a b = unless (is_of_kind Integer a && is_of_kind Integer b) place

-- arithmetic takes whole numbers, a connective truth values, a comparison two values of one kind
abbrev pub op_clash : ℕ → Op → Kinded → Kinded → List ℕ
op_clash place Add a b = arithmetic_clash place a b
op_clash place Subtract a b = arithmetic_clash place a b
op_clash place Multiply a b = arithmetic_clash place a b
op_clash place Divide a b = arithmetic_clash place a b
op_clash place And a b = not_boolean a ++ not_boolean b
op_clash place Or a b = not_boolean a ++ not_boolean b
op_clash place op a b = unless (same_kind a.kind b.kind) place

-- NULL is no literal of an expression: it has no kind
abbrev pub literal_kinded : ℕ → Value → Kinded
literal_kinded place Null = record { kind = Boolean; place = place; clashes = place ∷ [] }
literal_kinded place (BoolValue b) = record { kind = Boolean; place = place; clashes = [] }
literal_kinded place (Int n) = record { kind = Integer; place = place; clashes = [] }
literal_kinded place (Text t) = record { kind = TextKind; place = place; clashes = [] }

abbrev pub column_kind : Option Kind → Kind
column_kind kind = unwrap_or kind Boolean

-- SUM and COUNT are whole numbers, MIN and MAX of their argument's kind
abbrev pub agg_kind : Agg → Kind → Kind
agg_kind Count kind = Integer
agg_kind Sum kind = Integer
agg_kind Sum0 kind = Integer
agg_kind Min kind = kind
agg_kind Max kind = kind

-- SUM takes whole numbers
abbrev pub agg_clash : ℕ → Agg → Kinded → List ℕ
agg_clash place Sum a = unless (is_of_kind Integer a) place
agg_clash place Sum0 a = unless (is_of_kind Integer a) place
agg_clash place agg a = []

-- without an argument it is COUNT(*)
abbrev pub aggregate_kinded : ℕ → Agg → Option Kinded → Kinded
aggregate_kinded place agg None = record { kind = Integer; place = place; clashes = [] }
aggregate_kinded place agg (Some a) = record { kind = agg_kind agg a.kind; place = place; clashes = agg_clash place agg a ++ a.clashes }

-- one level, with what holds of each part in its place
abbrev pub kinded_step : List Header → Tree-F Kinded → Kinded
kinded_step scope (Tree-F.Column place name) = record { kind = column_kind (option_map (λ t. t.kind) (type_in scope name)); place = place; clashes = [] }
kinded_step scope (Tree-F.Literal place v) = literal_kinded place v
kinded_step scope (Tree-F.Negate place a) = record { kind = Integer; place = place; clashes = unless (is_of_kind Integer a) place ++ a.clashes }
kinded_step scope (Tree-F.Binary place op a b) = record { kind = op_kind op; place = place; clashes = a.clashes ++ op_clash place op a b ++ b.clashes }
kinded_step scope (Tree-F.Not place a) = record { kind = Boolean; place = place; clashes = not_boolean a ++ a.clashes }
kinded_step scope (Tree-F.IsNull place a) = record { kind = Boolean; place = place; clashes = a.clashes }
kinded_step scope (Tree-F.Aggregate place agg a) = aggregate_kinded place agg a

abbrev pub kinded : List Header → Tree → Kinded
kinded scope tree = fold-Tree Kinded (kinded_step scope) tree

abbrev pub clashes : List Header → Tree → List ℕ
clashes scope tree = (kinded scope tree).clashes

-- the same of a condition, which is BOOLEAN
abbrev pub condition_clashes : List Header → Tree → List ℕ
condition_clashes scope tree = not_boolean (kinded scope tree) ++ clashes scope tree

abbrev pub part_clashes : List Header → SelectPart → List ℕ
part_clashes scope part =
    if is_condition part.role then condition_clashes (seen_by scope part) part.tree else clashes (seen_by scope part) part.tree
