pub mod EndingLemmas
pub mod ReadingLemmas
pub mod WritingLemmas
pub mod OneEndingLemmas
