pub mod BegunLaws
pub mod Exactly
pub mod Cutting
pub mod Examples
