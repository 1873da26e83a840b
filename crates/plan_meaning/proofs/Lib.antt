pub mod Ways
pub mod Tiles
pub mod Nodes
pub mod Means
pub mod Plans
pub mod Pairs
pub mod Formed
