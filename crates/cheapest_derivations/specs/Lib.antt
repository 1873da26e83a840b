pub mod Derivations
pub mod Offers
pub mod Tables
