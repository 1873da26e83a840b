use Rattle.std.proofs.Common.{◌≡◌, map, List, Some, arith}
use Rattle.cal_rel.specs.Tree.{tree_of}
use Rattle.rule_hep.specs.Meaning.{Meaning}
use Rattle.memo_model.specs.Steps.{entered}
use Rattle.memo_sets.specs.Seen.{sets_of}
use Rattle.search_firings.specs.Seen.{firing_of, firings_of}
use Rattle.search_model.proofs.FallLemmas.{joined-new}
use Rattle.volcano_search.proofs.StepLemmas.{step-full, step-may, step-past, step-fired, full-past}
use Rattle.volcano_search.proofs.search.Search.fire.Goals as goal

pub returns-then-len-budget : goal.returns-then-len-budget
returns-then-len-budget g c =
    let all : List Meaning = map (λ b. (goal.Rule-dyn g (b.vtable, b.value)).meaning b.value) c.args.rules.now in
    let l = c.if-len-budget.true in
    let e = c.len.ensures in
    step-full c.args.info.now all c.args.budget (sets_of c.args.self.now.memo) (firings_of c.args.self.now.fired) (firing_of c.args.at.now) c.requires.search c.requires.triple (omega arith)

pub register-requires-clause-may : goal.register-requires-clause-may
register-requires-clause-may g c =
    let all : List Meaning = map (λ b. (goal.Rule-dyn g (b.vtable, b.value)).meaning b.value) c.args.rules.now in
    step-may c.args.info.now all c.args.budget (sets_of c.args.self.now.memo) (firings_of c.args.self.now.fired) (firing_of c.args.at.now) c.requires.search c.requires.triple
    (tree_of c.args.image.now) (c.requires.image c.requires.triple.law c.requires.triple.rule)

pub returns-in_ok-note-in-Ok : goal.returns-in_ok-note-in-Ok
returns-in_ok-note-in-Ok g c =
    let all : List Meaning = map (λ b. (goal.Rule-dyn g (b.vtable, b.value)).meaning b.value) c.args.rules.now in
    let image = c.requires.image c.requires.triple.law c.requires.triple.rule in
    let l = c.if-len-budget.false in
    let e = c.len.ensures in
    step-fired c.args.info.now all c.args.budget (sets_of c.args.self.now.memo) (firings_of c.args.self.now.fired) (firing_of c.args.at.now) c.requires.search c.requires.triple
    (tree_of c.args.image.now) image (sets_of c.register.new.self) (firings_of c.note.new.fired) c.requires.apart (omega arith) c.in-Ok.ensures.done c.in-Ok.answer c.in-Ok.ensures.entered
    (rw (c.in_ok-firing-in-Ok.ensures, joined-new (firings_of c.args.self.now.fired) (firing_of c.args.at.now) c.requires.apart) at c.in_ok-note-in-Ok.ensures)

pub returns-in-Err-MemoFull : goal.returns-in-Err-MemoFull
returns-in-Err-MemoFull g c =
    let all : List Meaning = map (λ b. (goal.Rule-dyn g (b.vtable, b.value)).meaning b.value) c.args.rules.now in
    let image = c.requires.image c.requires.triple.law c.requires.triple.rule in
    step-past c.args.info.now all c.args.budget (sets_of c.args.self.now.memo) (firings_of c.args.self.now.fired) (firing_of c.args.at.now) c.requires.search c.requires.triple
    (tree_of c.args.image.now) image (sets_of c.register.new.self) c.in-Err-MemoFull.ensures.unchanged (full-past (entered c.args.info.now (Some c.args.at.now.set) (tree_of c.args.image.now) (sets_of c.args.self.now.memo)).sets
    c.in-Err-MemoFull.field-0 c.in-Err-MemoFull.field-0-0 c.in-Err-MemoFull.field-0-is c.in-Err-MemoFull.ensures.fault)
