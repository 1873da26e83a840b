pub mod Nothing
pub mod OneEntry
pub mod Places
pub mod Pushed
pub mod Used
