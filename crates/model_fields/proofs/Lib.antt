pub mod ItemLemmas
pub mod RowLemmas
pub mod AnswerLemmas
pub mod KeyLemmas
pub mod FilledLemmas
