pub mod Turns
pub mod Steps
pub mod Sound
pub mod Room
pub mod Follow
pub mod Complete
