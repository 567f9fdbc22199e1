pub mod Names
pub mod Apart
pub mod Fields
pub mod inner
