pub mod Start
pub mod Planned
pub mod Found
