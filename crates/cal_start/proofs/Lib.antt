pub mod EndLemmas
pub mod HeaderLemmas
pub mod ReadLemmas
pub mod SourceLemmas
pub mod ZipLemmas
