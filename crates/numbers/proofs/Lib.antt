pub mod Laws
pub mod NumberStops
pub mod Bounded
pub mod Worked
