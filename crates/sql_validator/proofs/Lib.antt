pub mod Anywhere
pub mod Lowest
pub mod Resolving
pub mod RowFaults
