pub mod Aggregate
pub mod Combine
pub mod Parts
pub mod ResultType
