use Rattle.model_fields.proofs.RowLemmas.{KeysRead}
use Rattle.model_fields.proofs.row.all_apart.Given as goal

abbrev pub invariant-loop-number : goal.invariant-loop-number
invariant-loop-number l = KeysRead l.key l.rows l.keys.keys l.number
