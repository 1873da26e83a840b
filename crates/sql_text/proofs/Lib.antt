pub mod Digits
pub mod Front
pub mod Quotes
pub mod Reading
pub mod Runs
pub mod Space
