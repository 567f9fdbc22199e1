pub mod Joining
pub mod Whole
pub mod Demand3
pub mod Again
pub mod Worked
