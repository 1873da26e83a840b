use Rattle.std.proofs.Common.{rules, subst}
use Rattle.cal_schema.specs.RelType.{IsRelTypeMeet, met_rel_type}
use Rattle.cal_schema.proofs.MeetLemmas.{met-IsRelTypeMeet}
use Rattle.cal_schema.proofs.rel_type.RelType.meet.Goals as goal

pub returns-clause-greatest : goal.returns-clause-greatest
returns-clause-greatest c = λ same. subst (λ m. IsRelTypeMeet c.args.self.now c.args.other.now m) (search rules) (met-IsRelTypeMeet c.args.self.now c.args.other.now same)
