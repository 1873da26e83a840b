use Rattle.plan_scans.proofs.tests.rows_of.Given as goal

abbrev pub ghosts-scanned : goal.ghosts-scanned
ghosts-scanned a = record { name = a.blank.name; parts = a.blank.parts }
