pub mod FromTables
pub mod Mentioned
pub mod Named
pub mod Placed
