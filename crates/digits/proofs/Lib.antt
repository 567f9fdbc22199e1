pub mod Laws
pub mod Neg
pub mod Exact
pub mod Refusals
