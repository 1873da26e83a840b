pub mod Digits
pub mod OrderSteps
pub mod OrderLemmas
pub mod PlanLemmas
