pub mod FieldLemmas
pub mod HeaderLemmas
pub mod LeftLemmas
pub mod NumberLemmas
pub mod RowsLemmas
pub mod FilledLemmas
