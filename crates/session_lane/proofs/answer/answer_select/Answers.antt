use Rattle.session_lane.proofs.Answered.{apart-none, holds-none, can-run, is-answer}
use Rattle.session_lane.proofs.answer.answer_select.Goals as goal

pub plan_select-requires-clause-apart : goal.plan_select-requires-clause-apart
plan_select-requires-clause-apart g c = apart-none c.args.snapshot.now.tiles c.requires.tiles

pub rows_of-requires-clause-tiles : goal.rows_of-requires-clause-tiles
rows_of-requires-clause-tiles g c = holds-none c.args.schema.now c.args.snapshot.now c.requires.tiles

pub rows_of-requires-clause-plan : goal.rows_of-requires-clause-plan
rows_of-requires-clause-plan g c =
    can-run c.args.schema.now c.args.snapshot.now c.args.checked.now.select c.in_ok-planning.planning c.requires.fits c.requires.tiles c.in_ok-planning.ensures.answers

pub returns-clause-rows : goal.returns-clause-rows
returns-clause-rows g c =
    is-answer c.args.schema.now c.args.snapshot.now c.args.checked.now.select c.in_ok-planning.planning c.in_ok-rows.rows c.requires.fits c.in_ok-planning.ensures.answers c.in_ok-rows.ensures
