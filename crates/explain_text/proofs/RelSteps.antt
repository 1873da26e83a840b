-- What is printed of a member, by its variant.
use Rattle.std.proofs.Common.{◌≡◌, ℕ, List, ◌++◌, Result, OnOk, sym, ◌∙◌, ap, append_assoc, append-nil, codes}
use Rattle.std.proofs.lemmas.Result.{on_ok_weaker}
use Rattle.cal_value.specs.declared.kind.SqlType.{SqlType}
use Rattle.cal_expr.specs.declared.expr.Expr.{Expr}
use Rattle.cal_schema.specs.declared.agg_call.AggCall.{AggCall}
use Rattle.cal_schema.specs.declared.join_kind.JoinKind.{JoinKind}
use Rattle.cal_schema.specs.declared.schema.Schema.{Schema}
use Rattle.cal_rel.specs.declared.rel.Rel.{Rel}
use Rattle.cal_rel.specs.declared.rel.Rel.TheVariants as r
use Rattle.cal_rel.specs.Tree.{tree_of}
use Rattle.cal_rel.proofs.TreeSteps.{tree-Scan, tree-TileScan, tree-StarScan, tree-Filter, tree-Project, tree-Join, tree-Aggregate, tree-Empty, tree-Hole}
use Rattle.explain_text.specs.Details.{named, items_text, join_text, aggregate_text}
use Rattle.explain_text.specs.Expressions.{expression_text}
use Rattle.explain_text.specs.Memos.{input_text, member_text}

pub input-Scan : (start : List ℕ) (table : ℕ) → start ++ input_text (tree_of (r.Scan table)) ≡ start
input-Scan start table = rw (tree-Scan table) (append-nil start)

pub input-TileScan : (start : List ℕ) (at : ℕ) → start ++ input_text (tree_of (r.TileScan at)) ≡ start
input-TileScan start at = rw (tree-TileScan at) (append-nil start)

pub input-StarScan : (start : List ℕ) (lattice : ℕ) → start ++ input_text (tree_of (r.StarScan lattice)) ≡ start
input-StarScan start lattice = rw (tree-StarScan lattice) (append-nil start)

pub input-Filter : (start : List ℕ) (t : Rel) (predicate : Expr) → start ++ input_text (tree_of (r.Filter t predicate)) ≡ start
input-Filter start t predicate = rw (tree-Filter t predicate) (append-nil start)

pub input-Project : (start : List ℕ) (t : Rel) (items : List Expr) → start ++ input_text (tree_of (r.Project t items)) ≡ start
input-Project start t items = rw (tree-Project t items) (append-nil start)

pub input-Join : (start : List ℕ) (kind : JoinKind) (a b : Rel) (on : Expr) → start ++ input_text (tree_of (r.Join kind a b on)) ≡ start
input-Join start kind a b on = rw (tree-Join kind a b on) (append-nil start)

pub input-Aggregate : (start : List ℕ) (t : Rel) (groups : List ℕ) (calls : List AggCall) → start ++ input_text (tree_of (r.Aggregate t groups calls)) ≡ start
input-Aggregate start t groups calls = rw (tree-Aggregate t groups calls) (append-nil start)

pub input-Empty : (start : List ℕ) (types : List SqlType) → start ++ input_text (tree_of (r.Empty types)) ≡ start
input-Empty start types = rw (tree-Empty types) (append-nil start)

pub ruleset input_steps = (input-Scan, input-TileScan, input-StarScan, input-Filter, input-Project, input-Join, input-Aggregate, input-Empty, tree-Hole)

pub rel-Filter : (start : List ℕ) (schema : Schema) (tiles : List ℕ) (t : Rel) (predicate : Expr)
    → start ++ member_text schema tiles (tree_of (r.Filter t predicate)) ≡ (start ++ named (codes "Filter") (expression_text predicate)) ++ input_text (tree_of t)
rel-Filter start schema tiles t predicate = rw (tree-Filter t predicate) (sym (append_assoc start (named (codes "Filter") (expression_text predicate)) (input_text (tree_of t))))

pub rel-Project : (start : List ℕ) (schema : Schema) (tiles : List ℕ) (t : Rel) (items : List Expr)
    → start ++ member_text schema tiles (tree_of (r.Project t items)) ≡ (start ++ named (codes "Project") (items_text items)) ++ input_text (tree_of t)
rel-Project start schema tiles t items = rw (tree-Project t items) (sym (append_assoc start (named (codes "Project") (items_text items)) (input_text (tree_of t))))

pub rel-Aggregate : (start : List ℕ) (schema : Schema) (tiles : List ℕ) (t : Rel) (groups : List ℕ) (calls : List AggCall)
    → start ++ member_text schema tiles (tree_of (r.Aggregate t groups calls)) ≡ (start ++ named (codes "Aggregate") (aggregate_text groups calls)) ++ input_text (tree_of t)
rel-Aggregate start schema tiles t groups calls =
    rw (tree-Aggregate t groups calls) (sym (append_assoc start (named (codes "Aggregate") (aggregate_text groups calls)) (input_text (tree_of t))))

pub rel-Join : (start : List ℕ) (schema : Schema) (tiles : List ℕ) (kind : JoinKind) (a b : Rel) (on : Expr)
    → start ++ member_text schema tiles (tree_of (r.Join kind a b on)) ≡ ((start ++ named (codes "Join") (join_text kind on)) ++ input_text (tree_of a)) ++ input_text (tree_of b)
rel-Join start schema tiles kind a b on =
    let text = named (codes "Join") (join_text kind on) in
    rw (tree-Join kind a b on)
    (sym (append_assoc start (text ++ input_text (tree_of a)) (input_text (tree_of b))) ∙ ap (λ x. x ++ input_text (tree_of b)) (sym (append_assoc start text (input_text (tree_of a)))))

-- an aggregate is printed part after part
pub aggregate-printed : {T E : Type 0} (result : Result T E) (schema : Schema) (tiles : List ℕ) (rel t input : Rel) (groups : List ℕ) (calls : List AggCall) (old first new : List ℕ)
    → rel ≡ r.Aggregate t groups calls → input ≡ t → first ≡ old ++ named (codes "Aggregate") (aggregate_text groups calls) → OnOk result (new ≡ first ++ input_text (tree_of input))
    → OnOk result (new ≡ old ++ member_text schema tiles (tree_of rel))
aggregate-printed result schema tiles rel t input groups calls old first new is input_is node last =
    on_ok_weaker result (λ e. e ∙ ap (λ u. first ++ input_text (tree_of u)) input_is ∙ ap (λ x. x ++ input_text (tree_of t)) node
    ∙ sym (rel-Aggregate old schema tiles t groups calls) ∙ ap (λ u. old ++ member_text schema tiles (tree_of u)) (sym is)) last

pub ruleset rel_steps = (tree-Scan, tree-TileScan, tree-StarScan, tree-Empty, tree-Hole, rel-Filter, rel-Project, rel-Join)
