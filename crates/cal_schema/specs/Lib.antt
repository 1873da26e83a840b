pub mod Column
pub mod File
pub mod Fits
pub mod Lookup
pub mod RelType
pub mod Valid
