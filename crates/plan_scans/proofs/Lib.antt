pub mod Requests
pub mod Chained
pub mod Kept
pub mod Held
