pub mod Checked
pub mod Refusal
pub mod Walks
