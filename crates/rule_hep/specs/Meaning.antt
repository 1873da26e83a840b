-- What a rule means, with the proof that it is lawful.
use Rattle.std.specs.Prelude.{ℕ, Bool, List}
use Rattle.cal_rel.specs.Info.{Info}
use Rattle.rule_hep.specs.declared.rule.Reach.{Reach}
use Rattle.rule_hep.specs.Law.{Image, IsLawful}

pub record Meaning : Type 0 where
  pub name : List ℕ
  pub in_hep : Bool
  pub reach : Reach
  pub width : Info → ℕ
  pub image : Image
  pub lawful : IsLawful width image
