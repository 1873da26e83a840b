pub mod ColumnLemmas
pub mod KeyLemmas
pub mod MeetLemmas
pub mod NameLemmas
