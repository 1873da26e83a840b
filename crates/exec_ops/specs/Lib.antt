pub mod Group
pub mod Join
pub mod Places
pub mod Ready
pub mod Sort
pub mod Steps
