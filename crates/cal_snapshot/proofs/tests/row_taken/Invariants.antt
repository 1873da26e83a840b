use Rattle.cal_snapshot.proofs.tests.row_taken.Given as goal

abbrev pub ghosts-taken : goal.ghosts-taken
ghosts-taken a = record { name = a.blank.name; parts = a.blank.parts }
