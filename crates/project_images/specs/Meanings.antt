-- What each of the four rules means, with the proof that it is lawful.
use Rattle.std.specs.Prelude.{true, codes}
use Rattle.rule_hep.specs.declared.rule.Reach.TheVariants.{Node, FirstChild, BothChildren}
use Rattle.rule_hep.specs.Local.{local_image, one}
use Rattle.rule_hep.specs.Meaning.{Meaning}
use Rattle.rule_hep.proofs.LawfulLemmas.{lawful_local}
use Rattle.project_images.specs.ProjectMerge.{merged_projects}
use Rattle.project_images.specs.ProjectMergeLawful.{project_merge-local}
use Rattle.project_images.specs.ProjectRemove.{removed_project}
use Rattle.project_images.specs.ProjectRemoveLawful.{project_remove-local}
use Rattle.project_images.specs.PruneEmpty.{pruned}
use Rattle.project_images.specs.PruneEmptyLawful.{prune_empty-local}
use Rattle.project_images.specs.ReduceExpressions.{reduced_tree}
use Rattle.project_images.specs.ReduceExpressionsLawful.{reduce_expressions-local}

abbrev pub reduce_expressions : Meaning
reduce_expressions = record {
  name = codes "ReduceExpressions";
  in_hep = true;
  reach = Node;
  width = one;
  image = local_image reduced_tree;
  lawful = lawful_local reduced_tree reduce_expressions-local;
}

abbrev pub prune_empty : Meaning
prune_empty = record {
  name = codes "PruneEmpty";
  in_hep = true;
  reach = BothChildren;
  width = one;
  image = local_image pruned;
  lawful = lawful_local pruned prune_empty-local;
}

abbrev pub project_merge : Meaning
project_merge = record {
  name = codes "ProjectMerge";
  in_hep = true;
  reach = FirstChild;
  width = one;
  image = local_image (λ info rel. merged_projects rel);
  lawful = lawful_local (λ info rel. merged_projects rel) project_merge-local;
}

abbrev pub project_remove : Meaning
project_remove = record {
  name = codes "ProjectRemove";
  in_hep = true;
  reach = Node;
  width = one;
  image = local_image removed_project;
  lawful = lawful_local removed_project project_remove-local;
}
