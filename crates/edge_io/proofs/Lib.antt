pub mod ListLemmas
pub mod WritingLemmas
pub mod ReadingLemmas
pub mod OutLemmas
