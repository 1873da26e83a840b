use Rattle.cal_rel.proofs.typing.binary_type.Goals as goal

pub returns : goal.returns
returns c = rw (← c.len.ensures, ← c.in_ok-by.ensures) c.join_type.ensures
