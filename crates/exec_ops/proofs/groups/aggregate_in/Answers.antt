use Rattle.std.proofs.Common.{◌≡◌, ◌<◌, length, get_or, refl, sym, ap, ◌∙◌, arith}
use Rattle.cal_value.specs.Order.{column_of}
use Rattle.cal_aggregate.proofs.AggregateTyped.{can_combine}
use Rattle.exec_ops.specs.Group.{values_in}
use Rattle.exec_ops.specs.Places.{rows_at}
use Rattle.exec_ops.proofs.GroupLemmas.{aggregated-more, length-values, value-at}
use Rattle.exec_ops.proofs.groups.aggregate_in.Goals as goal

pub combine_row-requires : goal.combine_row-requires
combine_row-requires c =
    let rows = c.args.rows.now in
    let places = c.args.places.now in
    let k = c.loop-place.place-index in
    let row = c.index-as_slice-place.result in
    let vs = values_in c.args.column (rows_at rows places) in
    let within : k < length vs = omega (arith, length-values c.args.column rows places) in
    let is : row ≡ get_or rows (get_or places k 0) row = rw (← c.as_slice.ensures) c.index-as_slice-place.is in
    can_combine c.args.agg vs vs k c.loop-place.so_far (column_of row c.args.column) refl c.requires.typed within c.loop-place.invariant
    (value-at c.args.column rows places k row c.loop-place-test.true c.requires.within is)

pub loop-place-preserved : goal.loop-place-preserved
loop-place-preserved c =
    let rows = c.args.rows.now in
    let places = c.args.places.now in
    let k = c.loop-place.place-index in
    let row = c.index-as_slice-place.result in
    let vs = values_in c.args.column (rows_at rows places) in
    let within : k < length vs = omega (arith, length-values c.args.column rows places) in
    let is : row ≡ get_or rows (get_or places k 0) row = rw (← c.as_slice.ensures) c.index-as_slice-place.is in
    aggregated-more c.args.agg vs k c.loop-place.so_far (column_of row c.args.column) c.in_ok-so_far.so_far within c.loop-place.invariant
    (value-at c.args.column rows places k row c.loop-place-test.true c.requires.within is) c.in_ok-so_far.ensures
