pub mod Comparisons
pub mod ScanLemmas
