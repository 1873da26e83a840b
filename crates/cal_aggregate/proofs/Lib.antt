pub mod AggregateFolds
pub mod AggregateLaws
pub mod AggregateLemmas
pub mod AggregateTyped
pub mod Extremes
pub mod SumLemmas
