pub mod Once
pub mod OnceNodes
pub mod Joins
pub mod UniqueKeys
pub mod KeySteps
pub mod CountSteps
