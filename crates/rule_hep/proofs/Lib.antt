pub mod LawfulLemmas
pub mod RunLemmas
pub mod StepLemmas
