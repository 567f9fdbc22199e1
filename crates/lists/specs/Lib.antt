pub mod Gathers
pub mod Listed
pub mod Lists
