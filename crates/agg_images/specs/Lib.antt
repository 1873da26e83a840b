pub mod AggregateProjectMerge
pub mod AggregateProjectMergeLawful
pub mod AggregateRemove
pub mod AggregateRemoveLawful
pub mod Meanings
pub mod SingleRows
