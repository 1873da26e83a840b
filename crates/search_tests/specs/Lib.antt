pub mod FilterBelow
