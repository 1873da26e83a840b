pub mod Spaces
pub mod Ways
pub mod Seen
pub mod Plans
pub mod Realised
pub mod Alternatives
pub mod Inputs
pub mod Grounded
