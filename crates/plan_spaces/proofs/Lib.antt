pub mod RangeSteps
pub mod PartLemmas
