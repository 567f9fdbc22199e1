pub mod Arrives
pub mod States
pub mod Any
pub mod Texts
pub mod inner
