pub mod ByteLaws
pub mod ContentsLaws
pub mod EntryLaws
pub mod IntegerLaws
pub mod KindLaws
pub mod LineLaws
pub mod SkipLaws
