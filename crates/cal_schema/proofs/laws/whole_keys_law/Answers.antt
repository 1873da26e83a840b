use Rattle.cal_schema.proofs.KeyLemmas.{whole_keys}
use Rattle.cal_schema.proofs.laws.whole_keys_law.Goals as goal

pub returns : goal.returns
returns c = whole_keys c.args.table.now c.args.rows.now c.requires.valid c.requires.filled
