pub mod ColumnLaws
pub mod ConjunctLaws
pub mod ExprSteps
pub mod PartSteps
