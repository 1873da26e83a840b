pub mod Law
pub mod LawfulLocal
pub mod Local
pub mod Meaning
pub mod Run
pub mod Seen
pub mod SwapFilters
