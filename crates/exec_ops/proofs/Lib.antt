pub mod GroupLemmas
pub mod HashLemmas
pub mod IndexLemmas
pub mod JoinLemmas
pub mod MergeLemmas
pub mod SortedGroupLemmas
pub mod SortedLemmas
