pub mod KeyLemmas
pub mod PlanLemmas
