pub mod Conventions
pub mod Weights
pub mod Orders
pub mod PlanTrees
pub mod Seen
