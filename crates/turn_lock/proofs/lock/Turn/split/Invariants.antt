use Rattle.turn_lock.proofs.lock.Turn.split.Given as goal

abbrev pub ghosts-cut : goal.ghosts-cut
ghosts-cut g a = record { shares = a.shares }
