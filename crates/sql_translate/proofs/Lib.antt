pub mod Accepted
pub mod Joins
pub mod Once
pub mod Places
pub mod Steps
