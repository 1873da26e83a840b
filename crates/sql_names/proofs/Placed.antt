-- Which columns of FROM the columns of an answer are.
use Rattle.sql_meaning.proofs.Places.{count-next}

pub ruleset star_rules = (count-next)
