pub mod Bags
pub mod Memos
pub mod WellFormed
pub mod Examples
