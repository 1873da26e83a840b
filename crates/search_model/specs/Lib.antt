pub mod Bindings
pub mod Firings
pub mod Grown
pub mod Search
pub mod Measure
pub mod Listed
