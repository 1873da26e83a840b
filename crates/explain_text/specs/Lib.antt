pub mod Expressions
pub mod Details
pub mod Plans
pub mod Memos
