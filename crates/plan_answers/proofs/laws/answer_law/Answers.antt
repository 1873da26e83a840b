use Rattle.plan_answers.proofs.PlanLemmas.{answers}
use Rattle.plan_answers.proofs.laws.answer_law.Goals as goal

pub returns : goal.returns
returns c = λ schema parts sets set select best held apart cheapest. answers schema parts sets set select held apart best cheapest
