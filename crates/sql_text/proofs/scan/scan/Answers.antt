use Rattle.std.proofs.Common.{◌≡◌, Some, None, sym, ap, ◌∙◌}
use Rattle.sql_text.specs.Scan.{seen, token_of}
use Rattle.sql_text.proofs.Reading.{on_start, on_le, on_more, on_shorter, on_end, on_stop, goes_on, has_ended}
use Rattle.sql_text.proofs.scan.scan.Goals as goal

pub loop-rest-init : goal.loop-rest-init
loop-rest-init c = rw c.new-found.ensures (on_start c.args.all.now c.skip_space-rest.result.now c.skip_space-rest.ensures)

pub loop-rest-smaller : goal.loop-rest-smaller
loop-rest-smaller c =
    let some = goes_on c.loop-rest.rest.now c.is_empty.result c.is_empty.ensures c.loop-rest-test.true in
    let found : token_of c.loop-rest.rest.now ≡ Some (c.in-Some.token, c.in-Some.more.now) = sym c.in_ok-token.ensures ∙ ap seen c.in-Some.is in
    on_shorter c.in-Some.token c.in-Some.more.now c.skip_space-rest-in-Some.result.now c.loop-rest.invariant some found c.skip_space-rest-in-Some.ensures

pub loop-rest-preserved : goal.loop-rest-preserved
loop-rest-preserved c =
    let some = goes_on c.loop-rest.rest.now c.is_empty.result c.is_empty.ensures c.loop-rest-test.true in
    let found : token_of c.loop-rest.rest.now ≡ Some (c.in-Some.token, c.in-Some.more.now) = sym c.in_ok-token.ensures ∙ ap seen c.in-Some.is in
    rw c.in_ok-push-in-Some.ensures.ok (on_more c.in-Some.token c.in-Some.more.now c.skip_space-rest-in-Some.result.now c.loop-rest.invariant some found c.skip_space-rest-in-Some.ensures)

pub overflow_sub-result : goal.overflow_sub-result
overflow_sub-result c = on_le c.loop-rest.invariant

pub returns-in-None-clause-fault : goal.returns-in-None-clause-fault
returns-in-None-clause-fault c =
    let some = goes_on c.loop-rest.rest.now c.is_empty.result c.is_empty.ensures c.loop-rest-test.true in
    let found : token_of c.loop-rest.rest.now ≡ None = sym c.in_ok-token.ensures ∙ ap seen c.in-None.is in
    on_stop c.loop-rest.invariant some found

pub returns-clause-tokens : goal.returns-clause-tokens
returns-clause-tokens c = on_end c.loop-rest.invariant (has_ended c.loop-rest.rest.now c.is_empty.result c.is_empty.ensures c.loop-rest-test.false)
