pub mod CharLaws
pub mod SkipLaws
pub mod EscapePlaces
