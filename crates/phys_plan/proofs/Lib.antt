pub mod SameSteps
pub mod Members
pub mod Bridge
pub mod RowLemmas
pub mod WidthLemmas
pub mod Exists
pub mod KeptSteps
pub mod WaySteps
