pub mod Cursor
pub mod Skip
pub mod inner
