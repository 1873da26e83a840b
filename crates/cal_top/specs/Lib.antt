pub mod Run
pub mod RunEnd
pub mod Texts
