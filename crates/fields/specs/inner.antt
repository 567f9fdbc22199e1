pub mod Again
pub mod Order
