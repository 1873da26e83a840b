pub mod NumberSteps
pub mod FiredSteps
pub mod BySetSteps
pub mod FoldSteps
pub mod BindingSteps
pub mod TripleSteps
