pub mod Bounded
pub mod Lowest
pub mod Nearest
pub mod Parts
