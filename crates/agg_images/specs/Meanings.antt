-- What each rule of aggregates means.
use Rattle.std.specs.Prelude.{true, codes}
use Rattle.rule_hep.specs.declared.rule.Reach.TheVariants.{FirstChild}
use Rattle.rule_hep.specs.Local.{local_image, one}
use Rattle.rule_hep.specs.Meaning.{Meaning}
use Rattle.rule_hep.proofs.LawfulLemmas.{lawful_local}
use Rattle.agg_images.specs.AggregateProjectMerge.{merged_below}
use Rattle.agg_images.specs.AggregateProjectMergeLawful.{local_merged_below}
use Rattle.agg_images.specs.AggregateRemove.{removed_aggregate}
use Rattle.agg_images.specs.AggregateRemoveLawful.{local_removed_aggregate}

abbrev pub aggregate_project_merge : Meaning
aggregate_project_merge = record {
  name = codes "AggregateProjectMerge";
  in_hep = true;
  reach = FirstChild;
  width = one;
  image = local_image (λ info rel. merged_below rel);
  lawful = lawful_local (λ info rel. merged_below rel) local_merged_below;
}

abbrev pub aggregate_remove : Meaning
aggregate_remove = record {
  name = codes "AggregateRemove";
  in_hep = true;
  reach = FirstChild;
  width = one;
  image = local_image removed_aggregate;
  lawful = lawful_local removed_aggregate local_removed_aggregate;
}
