pub mod Once
pub mod Translated
