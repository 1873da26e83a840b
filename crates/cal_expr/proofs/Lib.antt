pub mod Narrower
pub mod Ranges
pub mod Typed
pub mod TypingLemmas
