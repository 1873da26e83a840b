pub mod Passes
pub mod Runs
pub mod SameRows
pub mod Sizes
pub mod SmallPlans
pub mod SplitLemmas
pub mod Typed
pub mod Widths
