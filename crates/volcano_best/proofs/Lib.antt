pub mod GraphLemmas
pub mod GraphSteps
pub mod PartialSteps
pub mod SolvedLemmas
pub mod AnswerLemmas
pub mod PlanSteps
