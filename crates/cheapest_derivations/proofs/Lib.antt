pub mod Sound
pub mod Least
pub mod RoundSteps
pub mod WithinSteps
