pub mod Texts
pub mod Reasons
pub mod Gaps
pub mod Fields
pub mod Lists
