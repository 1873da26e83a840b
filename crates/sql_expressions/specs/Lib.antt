pub mod Grammar
pub mod Input
pub mod Limits
pub mod Nests
pub mod Operators
pub mod Reading
