pub mod Rolls
pub mod Types
pub mod Values
