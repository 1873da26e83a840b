pub mod Algebra
pub mod Formed
