pub mod Answers
pub mod Grammar
pub mod ReadingList
pub mod ReadingSelect
pub mod ReadingStatement
