pub mod Ruled
pub mod Shown
pub mod Calls
pub mod Texts
