-- Two right replies to a text are the same up to the order of rows.
use Rattle.std.proofs.Common.{◌≡◌, ℕ, List, Option, Some, None, ◌⊎◌, inl, inr, sym, ap, subst, ◌∙◌, arith, refl}
use Rattle.std.specs.Prelude.{◌≢◌, count_by}
use Rattle.cal_schema.specs.declared.database.Db.{Db}
use Rattle.cal_snapshot.specs.Parts.{Parts}
use Rattle.plan_scans.specs.Scans.{tables_of}
use Rattle.cal_schema.specs.declared.refusal.Refusal.{Refusal}
use Rattle.cal_schema.specs.declared.refusal.Refusal.TheVariants as refused
use Rattle.cal_schema.specs.declared.schema.Schema.{Schema}
use Rattle.cal_value.specs.declared.value.Value.{Value}
use Rattle.cal_value.specs.Equal.{row_eq}
use Rattle.cal_value.specs.Order.{SameBag}
use Rattle.rule_hep.specs.Meaning.{Meaning}
use Rattle.rule_hep.specs.Run.{hep_run}
use Rattle.sql_algebra.specs.Algebra.{algebra}
use Rattle.session_lane.specs.declared.answer.Answer.{Answer}
use Rattle.select_planning.specs.declared.planning.TheConstants.{HEP_LIMIT}
use Rattle.select_planning.specs.declared.planning.Planning.{Planning}
use Rattle.plan_scans.specs.Scans.{info_over}
use Rattle.select_planning.specs.Planned.{IsPlanned}
use Rattle.session_lane.specs.declared.reply.Cause.TheVariants.{Text}
use Rattle.session_lane.specs.declared.reply.Reply.{Reply}
use Rattle.session_lane.specs.declared.reply.Reply.TheVariants.{Rows, Plan, Memo, Refused}
use Rattle.sql_parser.specs.Answers.{HasFault, IsStatement, IsWithinLimits, IsFaultOf}
use Rattle.sql_parser.specs.Grammar.{Spells}
use Rattle.sql_expressions.specs.declared.fault.ParseFault.{ParseFault}
use Rattle.sql_expressions.specs.declared.fault.ParseFault.TheVariants as parse
use Rattle.sql_text.specs.Tokens.{HasTokens, StopsAt}
use Rattle.sql_tree.specs.declared.select.Select.{Select}
use Rattle.sql_tree.specs.declared.statement.Statement.{Statement}
use Rattle.sql_tree.specs.declared.statement.Statement.TheVariants.{Select as SelectOf, ExplainPlan, ExplainMemo}
use Rattle.sql_text.specs.declared.token.Token.{Token}
use Rattle.sql_meaning.specs.Answer.{IsAnswer}
use Rattle.sql_meaning.specs.Direct.{direct}
use Rattle.sql_meaning.specs.Names.{output_names}
use Rattle.sql_meaning.specs.Scope.{scope_of}
use Rattle.session_lane.specs.Statements.{IsNoStatement}
use Rattle.session_lane.specs.Replies.{IsAnswered, IsExplained, AreSameSteps, Answers, AreSameReplies, TellsNoStatement, IsReplyTo}

-- what is known of texts and tokens
pub record ReadOneWay : Type 0 where
  pub one_list : (cs : List ℕ) (ts us : List Token) → HasTokens cs ts → HasTokens cs us → us ≡ ts
  pub never_both : (cs : List ℕ) (ts : List Token) (at : ℕ) → HasTokens cs ts → StopsAt cs at → ⊥
  pub one_place : (cs : List ℕ) (a b : ℕ) → StopsAt cs a → StopsAt cs b → a ≡ b
  pub one_statement : (ts : List Token) (x y : Statement) → Spells ts x → Spells ts y → x ≡ y

-- ---- statements

same_statement : ReadOneWay → (text : List ℕ) (x y : Statement) → IsStatement text x → IsStatement text y → x ≡ y
same_statement way text x y p q =
    let tokens = way.one_list text p.tokens q.tokens p.has_tokens q.has_tokens in
    way.one_statement p.tokens x y p.spelled (subst (λ (ts : List Token). Spells ts y) tokens q.spelled)

-- ---- why a text is none

-- the cause of a fault of tokens
abbrev cause_of : ParseFault → Refusal
cause_of (parse.TooDeep limit) = refused.TooDeep limit
cause_of (parse.TooManyOperators limit) = refused.TooManyOperators limit
cause_of parse.NotSql = refused.NotSql
cause_of parse.NoMemory = refused.NoMemory

record Stopped (text : List ℕ) (cause : Refusal) : Type 0 where
  place : ℕ
  is : cause ≡ refused.NotToken place
  stops : StopsAt text place

record Faulty (text : List ℕ) (cause : Refusal) : Type 0 where
  fault : ParseFault
  other : fault ≢ parse.NoMemory
  is : cause ≡ cause_of fault
  has : HasFault text fault

deep_other : (limit : ℕ) → parse.TooDeep limit ≢ parse.NoMemory
deep_other limit e = Prim.cc

many_other : (limit : ℕ) → parse.TooManyOperators limit ≢ parse.NoMemory
many_other limit e = Prim.cc

not_sql_other : parse.NotSql ≢ parse.NoMemory
not_sql_other e = Prim.cc

why : (text : List ℕ) (cause : Refusal) → IsNoStatement text cause → Stopped text cause ⊎ Faulty text cause
why text (refused.NotToken at) is = inl (record { place = at; is = refl; stops = is })
why text (refused.TooDeep limit) is = inr (record { fault = parse.TooDeep limit; other = deep_other limit; is = refl; has = is })
why text (refused.TooManyOperators limit) is = inr (record { fault = parse.TooManyOperators limit; other = many_other limit; is = refl; has = is })
why text refused.NotSql is = inr (record { fault = parse.NotSql; other = not_sql_other; is = refl; has = is })
why text refused.NotAQuery is = absurd is
why text refused.NotYet is = absurd is
why text (refused.UnknownTable name) is = absurd is
why text (refused.UnknownLattice name) is = absurd is
why text (refused.TooManyTables limit) is = absurd is
why text (refused.UnknownColumn name) is = absurd is
why text (refused.Ambiguous name) is = absurd is
why text (refused.TypeClash place) is = absurd is
why text (refused.AggregateMisplaced place) is = absurd is
why text (refused.NotGrouped place) is = absurd is
why text (refused.OrderKey place) is = absurd is
why text (refused.MayNotFit place lo hi) is = absurd is
why text (refused.BadRow row column) is = absurd is
why text refused.NotRefreshable is = absurd is
why text refused.NoMemory is = absurd is

same_cause : (ts : List Token) (f g : ParseFault) → f ≢ parse.NoMemory → g ≢ parse.NoMemory → IsFaultOf ts f → IsFaultOf ts g → cause_of f ≡ cause_of g
same_cause ts parse.NoMemory g u v p q = absurd (u refl)
same_cause ts (parse.TooDeep m) parse.NoMemory u v p q = absurd (v refl)
same_cause ts (parse.TooManyOperators m) parse.NoMemory u v p q = absurd (v refl)
same_cause ts parse.NotSql parse.NoMemory u v p q = absurd (v refl)
same_cause ts (parse.TooDeep m) (parse.TooDeep n) u v p q = ap (λ (l : ℕ). refused.TooDeep l) (p.0 ∙ sym q.0)
same_cause ts (parse.TooDeep m) (parse.TooManyOperators n) u v p q = absurd (omega (arith, p.1, q.1))
same_cause ts (parse.TooDeep m) parse.NotSql u v p q = absurd (omega (arith, p.1, q.0.brackets))
same_cause ts (parse.TooManyOperators m) (parse.TooDeep n) u v p q = absurd (omega (arith, p.1, q.1))
same_cause ts (parse.TooManyOperators m) (parse.TooManyOperators n) u v p q = ap (λ (l : ℕ). refused.TooManyOperators l) (p.0 ∙ sym q.0)
same_cause ts (parse.TooManyOperators m) parse.NotSql u v p q = absurd (omega (arith, p.3, q.0.few p.2))
same_cause ts parse.NotSql (parse.TooDeep n) u v p q = absurd (omega (arith, q.1, p.0.brackets))
same_cause ts parse.NotSql (parse.TooManyOperators n) u v p q = absurd (omega (arith, q.3, p.0.few q.2))
same_cause ts parse.NotSql parse.NotSql u v p q = refl

no_fault : (ts : List Token) (f : ParseFault) (x : Statement) → f ≢ parse.NoMemory → IsFaultOf ts f → IsWithinLimits ts → Spells ts x → ⊥
no_fault ts (parse.TooDeep m) x u p within spelled = omega (arith, p.1, within.brackets)
no_fault ts (parse.TooManyOperators m) x u p within spelled = omega (arith, p.3, within.few p.2)
no_fault ts parse.NotSql x u p within spelled = p.1 x spelled
no_fault ts parse.NoMemory x u p within spelled = u refl

same_refusal : ReadOneWay → (text : List ℕ) (a b : Refusal) → IsNoStatement text a → IsNoStatement text b → a ≡ b
same_refusal way text a b p q = both (why text a p) (why text b q)
  where
    both : Stopped text a ⊎ Faulty text a → Stopped text b ⊎ Faulty text b → a ≡ b
    both (inl s) (inl t) = s.is ∙ ap (λ (n : ℕ). refused.NotToken n) (way.one_place text s.place t.place s.stops t.stops) ∙ sym t.is
    both (inl s) (inr t) = absurd (way.never_both text t.has.tokens s.place t.has.has_tokens s.stops)
    both (inr s) (inl t) = absurd (way.never_both text s.has.tokens t.place s.has.has_tokens t.stops)
    both (inr s) (inr t) =
        let tokens = way.one_list text s.has.tokens t.has.tokens s.has.has_tokens t.has.has_tokens in
        s.is ∙ same_cause s.has.tokens s.fault t.fault s.other t.other s.has.is_fault (subst (λ (ts : List Token). IsFaultOf ts t.fault) tokens t.has.is_fault) ∙ sym t.is

never_both : ReadOneWay → (text : List ℕ) (x : Statement) (a : Refusal) → IsStatement text x → IsNoStatement text a → ⊥
never_both way text x a p q = by_why (why text a q)
  where
    by_why : Stopped text a ⊎ Faulty text a → ⊥
    by_why (inl s) = way.never_both text p.tokens s.place p.has_tokens s.stops
    by_why (inr s) =
        let tokens = way.one_list text s.has.tokens p.tokens s.has.has_tokens p.has_tokens in
        no_fault s.has.tokens s.fault x s.other s.has.is_fault (subst (λ (ts : List Token). IsWithinLimits ts) tokens p.within) (subst (λ (ts : List Token). Spells ts x) tokens p.spelled)

-- ---- replies

select_same : (a b : Select) → SelectOf a ≡ SelectOf b → a ≡ b
select_same a b e = Prim.cc

plan_same : (a b : Select) → ExplainPlan a ≡ ExplainPlan b → a ≡ b
plan_same a b e = Prim.cc

memo_same : (a b : Select) → ExplainMemo a ≡ ExplainMemo b → a ≡ b
memo_same a b e = Prim.cc

rows_no_plan : (a b : Select) → SelectOf a ≡ ExplainPlan b → ⊥
rows_no_plan a b e = Prim.cc

rows_no_memo : (a b : Select) → SelectOf a ≡ ExplainMemo b → ⊥
rows_no_memo a b e = Prim.cc

plan_no_memo : (a b : Select) → ExplainPlan a ≡ ExplainMemo b → ⊥
plan_no_memo a b e = Prim.cc

some_same : (a b : Refusal) → Some a ≡ Some b → a ≡ b
some_same a b e = Prim.cc

none_some : (a : Refusal) → None ≡ Some a → ⊥
none_some a e = Prim.cc

same_bag : (schema : Schema) (db : Db) (s t : Select) (rows rows' : List (List Value)) → s ≡ t → IsAnswer s schema db rows → IsAnswer t schema db rows' → SameBag rows rows'
same_bag schema db s t rows rows' e p q = λ r. p.bag r ∙ ap (λ (x : Select). count_by (row_eq r) (direct x schema db)) e ∙ sym (q.bag r)

same_refused : (at at' : Option ℕ) (a b : Refusal) → at ≡ None → at' ≡ None → a ≡ b → (at ≡ at') × (Text a ≡ Text b)
same_refused at at' a b p q e = (p ∙ sym q, ap (λ (c : Refusal). Text c) e)

module _ (rules : List Meaning) (budget : ℕ) (schema : Schema) (parts : Parts) where
  same_steps : (s t : Select) (a b : Planning) → s ≡ t → IsPlanned rules budget schema parts s a → IsPlanned rules budget schema parts t b → AreSameSteps a b
  same_steps s t a b e p q = p.hep.log ∙ ap (λ (x : Select). hep_run HEP_LIMIT rules (info_over schema parts) (algebra schema x)) e ∙ sym q.hep.log

  same_rows : (s : Statement) (at at' : ℕ) (names names' : List (List ℕ)) (a b : Answer) → IsAnswered rules budget schema parts s at names a → IsAnswered rules budget schema parts s at' names' b
      → (at ≡ at') × (names ≡ names') × SameBag a.rows b.rows × AreSameSteps a.planning b.planning
  same_rows s at at' names names' a b p q =
      let select = select_same p.select q.select (sym p.is_select ∙ q.is_select) in
      let names_same : names ≡ names' = p.names_are ∙ ap (λ (x : Select). output_names (scope_of schema x) x.items) select ∙ sym q.names_are in (
        p.place ∙ sym q.place,
        names_same,
        same_bag schema (tables_of parts) p.select q.select a.rows b.rows select p.rows_are q.rows_are,
        same_steps p.select q.select a.planning b.planning select p.planned q.planned,
      )

  same_explained : (explain : Select → Statement) (one : (x y : Select) → explain x ≡ explain y → x ≡ y) (s : Statement) (at at' : ℕ) (a b : Planning)
      → IsExplained rules budget schema parts explain s at a → IsExplained rules budget schema parts explain s at' b → (at ≡ at') × AreSameSteps a b
  same_explained explain one s at at' a b p q =
      (p.place ∙ sym q.place, same_steps p.select q.select a b (one p.select q.select (sym p.is_explained ∙ q.is_explained)) p.planned q.planned)

  same_answer : (s : Statement) (a b : Reply) → Answers rules budget schema parts s a → Answers rules budget schema parts s b → AreSameReplies a b
  same_answer s (Rows at names answer) (Rows at' names' answer') p q = same_rows s at at' names names' answer answer' p q
  same_answer s (Rows at names answer) (Plan at' planning) p q = absurd (rows_no_plan p.select q.select (sym p.is_select ∙ q.is_explained))
  same_answer s (Rows at names answer) (Memo at' planning) p q = absurd (rows_no_memo p.select q.select (sym p.is_select ∙ q.is_explained))
  same_answer s (Rows at names answer) (Refused at' (Text c)) p q = absurd (none_some c (sym p.accepted ∙ q.1))
  same_answer s (Plan at planning) (Rows at' names answer) p q = absurd (rows_no_plan q.select p.select (sym q.is_select ∙ p.is_explained))
  same_answer s (Plan at planning) (Plan at' planning') p q = same_explained ExplainPlan plan_same s at at' planning planning' p q
  same_answer s (Plan at planning) (Memo at' planning') p q = absurd (plan_no_memo p.select q.select (sym p.is_explained ∙ q.is_explained))
  same_answer s (Plan at planning) (Refused at' (Text c)) p q = absurd (none_some c (sym p.accepted ∙ q.1))
  same_answer s (Memo at planning) (Rows at' names answer) p q = absurd (rows_no_memo q.select p.select (sym q.is_select ∙ p.is_explained))
  same_answer s (Memo at planning) (Plan at' planning') p q = absurd (plan_no_memo q.select p.select (sym q.is_explained ∙ p.is_explained))
  same_answer s (Memo at planning) (Memo at' planning') p q = same_explained ExplainMemo memo_same s at at' planning planning' p q
  same_answer s (Memo at planning) (Refused at' (Text c)) p q = absurd (none_some c (sym p.accepted ∙ q.1))
  same_answer s (Refused at (Text c)) (Rows at' names' answer') p q = absurd (none_some c (sym q.accepted ∙ p.1))
  same_answer s (Refused at (Text c)) (Plan at' planning') p q = absurd (none_some c (sym q.accepted ∙ p.1))
  same_answer s (Refused at (Text c)) (Memo at' planning') p q = absurd (none_some c (sym q.accepted ∙ p.1))
  same_answer s (Refused at (Text c)) (Refused at' (Text c')) p q = same_refused at at' c c' p.0 q.0 (some_same c c' (sym p.1 ∙ q.1))

same_none : ReadOneWay → (text : List ℕ) (a b : Reply) → TellsNoStatement text a → TellsNoStatement text b → AreSameReplies a b
same_none way text (Rows at names answer) b p q = absurd p
same_none way text (Plan at planning) b p q = absurd p
same_none way text (Memo at planning) b p q = absurd p
same_none way text (Refused at (Text c)) (Rows at' names' answer') p q = absurd q
same_none way text (Refused at (Text c)) (Plan at' planning') p q = absurd q
same_none way text (Refused at (Text c)) (Memo at' planning') p q = absurd q
same_none way text (Refused at (Text c)) (Refused at' (Text c')) p q = same_refused at at' c c' p.0 q.0 (same_refusal way text c c' p.1 q.1)

not_both : ReadOneWay → (text : List ℕ) (x : Statement) (b : Reply) → IsStatement text x → TellsNoStatement text b → ⊥
not_both way text x (Rows at names answer) p q = q
not_both way text x (Plan at planning) p q = q
not_both way text x (Memo at planning) p q = q
not_both way text x (Refused at (Text c)) p q = never_both way text x c p q.1

pub one_reply : ReadOneWay → (rules : List Meaning) (budget : ℕ) (schema : Schema) (parts : Parts) (text : List ℕ) (a b : Reply) → IsReplyTo rules budget schema parts text a → IsReplyTo rules budget schema parts text b
    → AreSameReplies a b
one_reply way rules budget schema parts text a b (inl p) (inl q) =
    let s = same_statement way text q.statement p.statement q.is_statement p.is_statement in
    same_answer rules budget schema parts p.statement a b p.answers (subst (λ (x : Statement). Answers rules budget schema parts x b) s q.answers)
one_reply way rules budget schema parts text a b (inl p) (inr q) = absurd (not_both way text p.statement b p.is_statement q)
one_reply way rules budget schema parts text a b (inr p) (inl q) = absurd (not_both way text q.statement a q.is_statement p)
one_reply way rules budget schema parts text a b (inr p) (inr q) = same_none way text a b p q
