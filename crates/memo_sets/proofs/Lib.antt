pub mod FoundSteps
pub mod SeedSteps
pub mod EnterSteps
pub mod RoomSteps
pub mod RegisterSteps
pub mod AnswerSteps
