pub mod Columns
pub mod Conjuncts
