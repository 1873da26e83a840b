use Rattle.std.proofs.Common.{◌≡◌, length, get_or, sym, ◌∙◌, arith}
use Rattle.std.proofs.lemmas.Iterator.{YieldsList-from_chars}
use Rattle.std.proofs.lemmas.Iterator.Consumers.{YieldsList-turn, YieldsList-end}
use Rattle.std.proofs.lemmas.List.{length_push}
use Rattle.std.specs.Str.{chars}
use Rattle.cal_schema.proofs.NameLemmas.{spelled-past, spelled-differs, spelled-alike, spelled-end}
use Rattle.cal_schema.proofs.schema.is_spelled.Goals as goal

pub returns-then-at-text : goal.returns-then-at-text
returns-then-at-text c =
    let t = YieldsList-turn (YieldsList-from_chars c.args.name.now c.utf8.name cc) c.loop-c.yielded _ c.loop-c.yielded_by _ _ c.in-Some.c c.in-Some.is c.next.ensures.steps in
    let e = spelled-past c.as_slice-text.result.now (chars c.args.name.now) (length c.loop-c.yielded) c.in-Some.c (omega arith) t in
    cc

pub returns-then-text-at : goal.returns-then-text-at
returns-then-text-at c =
    let t = YieldsList-turn (YieldsList-from_chars c.args.name.now c.utf8.name cc) c.loop-c.yielded _ c.loop-c.yielded_by _ _ c.in-Some.c c.in-Some.is c.next.ensures.steps in
    let at : c.index-text-at.result ≡ get_or c.as_slice-text.result.now (length c.loop-c.yielded) c.index-text-at.result = cc in
    let e = spelled-differs c.as_slice-text.result.now (chars c.args.name.now) (length c.loop-c.yielded) c.in-Some.c c.index-text-at.result (omega arith) t (λ same. c.if-text-at.true (at ∙ same)) in
    cc

pub loop-c-preserved : goal.loop-c-preserved
loop-c-preserved c =
    let t = YieldsList-turn (YieldsList-from_chars c.args.name.now c.utf8.name cc) c.loop-c.yielded _ c.loop-c.yielded_by _ _ c.in-Some.c c.in-Some.is c.next.ensures.steps in
    let at : c.index-text-at.result ≡ get_or c.as_slice-text.result.now (length c.loop-c.yielded) c.index-text-at.result = cc in
    let e = spelled-alike c.as_slice-text.result.now (chars c.args.name.now) (length c.loop-c.yielded) c.in-Some.c c.index-text-at.result (omega arith) t (sym at ∙ c.if-text-at.false) in
    rw (length_push c.loop-c.yielded c.in-Some.c) (omega arith, omega arith, sym e ∙ c.loop-c.invariant.2)

pub returns : goal.returns
returns c =
    let t = YieldsList-end (YieldsList-from_chars c.args.name.now c.utf8.name cc) c.loop-c.yielded _ c.loop-c.yielded_by _ _ c.in-None.is c.next.ensures.steps in
    let e = spelled-end c.as_slice-text.result.now (chars c.args.name.now) (length c.loop-c.yielded) (omega arith) (omega (arith, t.1)) in
    cc
