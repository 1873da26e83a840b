-- What each rule of joins means.
use Rattle.std.specs.Prelude.{false, codes}
use Rattle.rule_hep.specs.declared.rule.Reach.TheVariants.{Node, FirstChild}
use Rattle.rule_hep.specs.Local.{local_image, one}
use Rattle.rule_hep.specs.Meaning.{Meaning}
use Rattle.rule_hep.proofs.LawfulLemmas.{lawful_local}
use Rattle.join_images.specs.JoinCommute.{commuted_join}
use Rattle.join_images.specs.JoinCommuteLawful.{local_commuted_join}
use Rattle.join_images.specs.JoinAssociate.{associated_joins}
use Rattle.join_images.specs.JoinAssociateLawful.{local_associated_joins}

abbrev pub join_commute : Meaning
join_commute = record {
  name = codes "JoinCommute";
  in_hep = false;
  reach = Node;
  width = one;
  image = local_image commuted_join;
  lawful = lawful_local commuted_join local_commuted_join;
}

abbrev pub join_associate : Meaning
join_associate = record {
  name = codes "JoinAssociate";
  in_hep = false;
  reach = FirstChild;
  width = one;
  image = local_image associated_joins;
  lawful = lawful_local associated_joins local_associated_joins;
}
