pub mod WalkLemmas
pub mod DraftLemmas
pub mod ValidLemmas
