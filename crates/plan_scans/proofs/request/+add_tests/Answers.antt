use Rattle.std.proofs.Common.{arith, refl}
use Rattle.std.proofs.lemmas.Result.{on_ok_weaker}
use Rattle.plan_scans.proofs.Requests.{tests-at, compared-at, adds-at, size-at}
use Rattle.plan_scans.proofs.request.+add_tests.Goals as goal

pub add_tests-requires : goal.add_tests-requires
add_tests-requires t c =
    let less = size-at c.args.predicate.now c.in-Binary.left c.in-Binary.right c.get.result.now c.in-Binary.right c.in-Binary.op c.in-Binary.is c.get.ensures refl in
    (omega arith, (tests-at c.args.predicate.now c.in-Binary.left c.in-Binary.right c.get.result.now c.in-Binary.right c.in-Binary.op c.in-Binary.is c.in-And.is c.get.ensures refl c.requires).first)

pub add_tests-requires-in-And : goal.add_tests-requires-in-And
add_tests-requires-in-And t c =
    let less = size-at c.args.predicate.now c.in-Binary.left c.in-Binary.right c.get.result.now c.get-in-And.result.now c.in-Binary.op c.in-Binary.is c.get.ensures c.get-in-And.ensures in
    (omega arith, (tests-at c.args.predicate.now c.in-Binary.left c.in-Binary.right c.get.result.now c.get-in-And.result.now c.in-Binary.op c.in-Binary.is c.in-And.is c.get.ensures c.get-in-And.ensures c.requires).second)

pub add_comparison-requires : goal.add_comparison-requires
add_comparison-requires t c =
    let h = compared-at c.args.predicate.now c.in-Binary.left c.in-Binary.right c.get-in_default-op.result.now c.get-in_default-op-2.result.now c.in-Binary.op c.in-Binary.is c.in_default-op.not-And c.get-in_default-op.ensures c.get-in_default-op-2.ensures c.requires in
    record { op = h.op_is; column = h.column; literal = h.literal }

pub returns-in_ok-add_tests-in-And : goal.returns-in_ok-add_tests-in-And
returns-in_ok-add_tests-in-And t c =
    on_ok_weaker c.add_tests-in-And.result
    (adds-at c.args.predicate.now c.in-Binary.left c.in-Binary.right c.get.result.now c.get-in-And.result.now c.in-Binary.op c.args.tests.now c.add_tests.new.tests c.add_tests-in-And.new.tests c.in-Binary.is c.in-And.is c.get.ensures c.get-in-And.ensures c.in_ok-add_tests-in-And.ensures)
    c.add_tests-in-And.ensures
