-- What each rule of filters means.
use Rattle.std.specs.Prelude.{true, codes}
use Rattle.rule_hep.specs.declared.rule.Reach.TheVariants.{FirstChild}
use Rattle.rule_hep.specs.Local.{local_image, one}
use Rattle.rule_hep.specs.Meaning.{Meaning}
use Rattle.rule_hep.proofs.LawfulLemmas.{lawful_local}
use Rattle.filter_images.specs.FilterMerge.{merged_filters}
use Rattle.filter_images.specs.FilterMergeLawful.{local_merged_filters}
use Rattle.filter_images.specs.FilterProjectTranspose.{filter_below_project}
use Rattle.filter_images.specs.FilterProjectTransposeLawful.{local_filter_below_project}
use Rattle.filter_images.specs.FilterIntoJoin.{filter_below_join}
use Rattle.filter_images.specs.FilterIntoJoinLawful.{local_filter_below_join}
use Rattle.filter_images.specs.FilterAggregateTranspose.{filter_below_aggregate}
use Rattle.filter_images.specs.FilterAggregateTransposeLawful.{local_filter_below_aggregate}

abbrev pub filter_merge : Meaning
filter_merge = record {
  name = codes "FilterMerge";
  in_hep = true;
  reach = FirstChild;
  width = one;
  image = local_image (λ info rel. merged_filters rel);
  lawful = lawful_local (λ info rel. merged_filters rel) local_merged_filters;
}

abbrev pub filter_project_transpose : Meaning
filter_project_transpose = record {
  name = codes "FilterProjectTranspose";
  in_hep = true;
  reach = FirstChild;
  width = one;
  image = local_image (λ info rel. filter_below_project rel);
  lawful = lawful_local (λ info rel. filter_below_project rel) local_filter_below_project;
}

abbrev pub filter_into_join : Meaning
filter_into_join = record {
  name = codes "FilterIntoJoin";
  in_hep = true;
  reach = FirstChild;
  width = one;
  image = local_image filter_below_join;
  lawful = lawful_local filter_below_join local_filter_below_join;
}

abbrev pub filter_aggregate_transpose : Meaning
filter_aggregate_transpose = record {
  name = codes "FilterAggregateTranspose";
  in_hep = true;
  reach = FirstChild;
  width = one;
  image = local_image (λ info rel. filter_below_aggregate rel);
  lawful = lawful_local (λ info rel. filter_below_aggregate rel) local_filter_below_aggregate;
}
