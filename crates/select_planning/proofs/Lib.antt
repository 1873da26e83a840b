pub mod Kept
pub mod PlanLemmas
pub mod SizeLemmas
pub mod StartLemmas
