pub mod ReducedSteps
