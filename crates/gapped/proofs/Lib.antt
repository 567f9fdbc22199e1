pub mod Blanks
pub mod Items
pub mod Passing
pub mod Ends
pub mod Exactly
