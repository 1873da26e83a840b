pub mod Estimates
pub mod Keys
pub mod Unique
