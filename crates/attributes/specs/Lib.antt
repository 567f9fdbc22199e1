pub mod Steps
pub mod Words
pub mod Extensions
pub mod List
pub mod Close
pub mod Attributes
