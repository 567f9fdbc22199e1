pub mod MarkLaws
pub mod CopyLaws
