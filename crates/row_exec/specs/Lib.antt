pub mod Examples
pub mod Nodes
pub mod Passes
pub mod Ready
pub mod Run
pub mod Split
