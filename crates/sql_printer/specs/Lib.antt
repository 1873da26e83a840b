pub mod Printing
pub mod Writer
pub mod Writing
