use Rattle.cal_rel.proofs.MoreLaws.{true-same, true-wider}
use Rattle.cal_rel.proofs.laws.true_of_others_law.Goals as goal

pub returns : goal.returns
returns c = record {
  same = λ others h. true-same c.args.t.now c.args.rows.now others h c.requires;
  wider = λ wide w. true-wider c.args.t.now wide c.args.rows.now w c.requires;
}
