pub mod Digest
pub mod Equal
pub mod EqualLaws
pub mod Seen
pub mod Steps
