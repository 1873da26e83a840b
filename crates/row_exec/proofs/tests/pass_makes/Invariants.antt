use Rattle.row_exec.proofs.tests.pass_makes.Given as goal

abbrev pub ghosts-passed : goal.ghosts-passed
ghosts-passed a = record { name = a.blank.name; parts = a.blank.parts }
