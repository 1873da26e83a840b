pub mod ModelOf
pub mod Schemas
pub mod Sources
pub mod Tables
