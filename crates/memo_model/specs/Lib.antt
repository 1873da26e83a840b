pub mod Same
pub mod Sets
pub mod Sound
pub mod Relations
pub mod Steps
